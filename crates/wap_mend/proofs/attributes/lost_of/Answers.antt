-- The attribute is all that goes.
use Rattle.std.proofs.Common.{refl, ◌∙◌}
use Rattle.wap_mend.specs.declared.change.Lost.{Lost}
use Rattle.wap_mend.proofs.Dressing.{one_lost}
use Rattle.wap_mend.proofs.attributes.lost_of.Goals as goal

pub returns : goal.returns
returns c =
    let old = c.new-lost.result in
    let new : Lost = record {
      texts = old.texts;
      elements = old.elements;
      attributes = c.add.new.self;
    } in
    one_lost old new c.args.tag c.args.attribute.now c.in_ok-value.value c.new-lost.ensures
    (c.in_ok-value.ensures ∙ c.as_slice.ensures) refl refl c.in_ok-add.ensures.ok
