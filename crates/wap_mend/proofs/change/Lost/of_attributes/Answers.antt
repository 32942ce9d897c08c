-- The attributes are all that goes.
use Rattle.std.proofs.Common.{refl}
use Rattle.wap_mend.specs.declared.change.Lost.{Lost}
use Rattle.wap_mend.proofs.Collecting.{rows_lost}
use Rattle.wap_mend.proofs.change.Lost.of_attributes.Goals as goal

pub returns : goal.returns
returns c =
    let old = c.new-lost.result in
    let new : Lost = record {
      texts = old.texts;
      elements = old.elements;
      attributes = c.add_attributes.new.attributes;
    } in
    rows_lost old new c.args.tag c.args.rows.now c.new-lost.ensures refl refl
    c.in_ok-add_attributes.ensures
