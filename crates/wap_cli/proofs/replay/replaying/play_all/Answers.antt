use Rattle.std.proofs.Common.{ℕ, Vec, refl, ap, ◌∙◌}
use Rattle.std.specs.List.{flat_map}
use Rattle.std.specs.declared.alloc.Global.{Global}
use Rattle.wap_cli.specs.Writing.{Writes}
use Rattle.wap_cli.proofs.Writing.{put_whole, put_part}
use Rattle.wap_cli.proofs.replay.replaying.play_all.Goals as goal

pub returns-in-Ok-write_texts : goal.returns-in-Ok-write_texts
returns-in-Ok-write_texts g c =
    put_whole _ _ (ap (flat_map (λ (text : Vec ℕ Global). text.items)) c.deref.ensures.value
    ∙ c.in-Ok.ensures) (g.O.Sink.seen c.args.out.now) (g.O.Sink.seen c.write_texts.new.out)
    c.in-Ok-write_texts.field-0 c.in-Ok-write_texts.ensures

pub returns : goal.returns
returns g c =
    put_part _ _ (ap (flat_map (λ (text : Vec ℕ Global). text.items)) c.deref.ensures.value
    ∙ c.in-Ok.ensures) (g.O.Sink.seen c.args.out.now) (g.O.Sink.seen c.write_texts.new.out)
    c.in-Err.field-0 c.in-Err.ensures

-- memory ran out
pub returns-in_default : goal.returns-in_default
returns-in_default g c = Writes.no_memory refl
