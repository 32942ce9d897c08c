use Rattle.std.proofs.Common.{◌≡◌, take}
use Rattle.wap_mend.specs.inside.Frames.{nothing, rows_load, Keeps}
use Rattle.wap_mend.proofs.attributes.mended_attributes.Given as goal

-- those so far are kept, or noted
abbrev pub invariant-loop-attribute : goal.invariant-loop-attribute
invariant-loop-attribute l = record {
  tag : l.attributes.tag ≡ l.fn.tag;
  keeps : Keeps l.initial.notes.changes l.notes.changes nothing
      (rows_load l.fn.tag l.attributes.rows)
      (rows_load l.fn.tag (take l.attribute-index l.node.attrs));
}
