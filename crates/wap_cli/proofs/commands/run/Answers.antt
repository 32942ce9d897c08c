use Rattle.std.proofs.Common.{◌≡◌, ◌∙◌, Option, Some, sym, ap, subst}
use Rattle.wap_keys.specs.declared.words.words.Command.{Command}
use Rattle.wap_keys.specs.declared.words.words.Command.TheVariants.{Resume}
use Rattle.wap_keys.specs.words.Commands.{command}
use Rattle.wap_cli.specs.Devices.{Devices}
use Rattle.wap_cli.specs.Headline.{Runs}
use Rattle.wap_cli.proofs.Serving.{nothing_runs}
use Rattle.wap_cli.proofs.commands.run.Goals as goal

pub returns-in-Err : goal.returns-in-Err
returns-in-Err g c = nothing_runs (command c.args.words.now) (record {
  store = g.S.Store.seen c.args.store;
  source = g.I.Source.seen c.args.keys.now;
  sink = g.O.Sink.seen c.args.out.now;
})

-- the words are those of this command
pub returns-in-Ok-Some-Resume : goal.returns-in-Ok-Some-Resume
returns-in-Ok-Some-Resume g c =
    let old : Devices = record {
      store = g.S.Store.seen c.args.store;
      source = g.I.Source.seen c.args.keys.now;
      sink = g.O.Sink.seen c.args.out.now;
    } in
    let new : Devices = record {
      store = g.S.Store.seen c.resume.result.1;
      source = g.I.Source.seen c.resume.new.keys;
      sink = g.O.Sink.seen c.resume.new.out;
    } in
    let said : Some (Resume c.in-Ok-Some-Resume.one) ≡ command c.args.words.now =
    sym (c.in-Ok-Some-Resume.field-0-is ∙ ap Some c.in-Ok-Some-Resume.field-0-0-is)
    ∙ c.in-Ok-Some-Resume.ensures.said in
    subst (λ (one : Option Command). Runs one old new c.resume.result.0) said c.resume.ensures
