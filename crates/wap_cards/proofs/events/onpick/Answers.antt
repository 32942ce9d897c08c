use Rattle.std.proofs.Common.{refl, codes, List, ℕ, Option, ap, ◌∙◌}
use Rattle.std.specs.Option.{option_flatten}
use Rattle.wap_base.proofs.Plain.{chars-plain}
use Rattle.wap_tokens.specs.declared.markup.name.AttrName.TheVariants as attrs
use Rattle.wap_cardrules.specs.declared.task.Task.{Task}
use Rattle.wap_cardrules.specs.Events.{bound_in}
use Rattle.wap_cards.proofs.events.onpick.Goals as goal

pub returns : goal.returns
returns c =
    c.flatten.ensures
    ∙ ap (λ (bound : Option (Option Task)). option_flatten bound) c.in_ok-bound.ensures
    ∙ ap (λ (word : List ℕ). option_flatten (bound_in c.args.vars.now (record {
      type = word;
      attribute = attrs.Onpick;
    }) c.args.option.now)) (chars-plain (codes "onpick") refl)
