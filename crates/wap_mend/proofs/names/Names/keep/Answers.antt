use Rattle.std.proofs.Common.{ℕ, List, map, ap, ◌∙◌}
use Rattle.indexmap.specs.IndexSet.{insert_key}
use Rattle.indexmap.proofs.SetLemmas.{keys_insert_entry}
use Rattle.wap_base.specs.Texts.{is_same_text}
use Rattle.wap_mend.proofs.names.Names.keep.Goals as goal
use Rattle.wap_mend.proofs.names.Names.keep.Goals.{in-Ok, in-Err}

pub returns : goal.returns
returns c = elim c.match-insert.branch [
  | in-Ok w ↦
      rw w.result-is
      (ap (map (λ (row : List ℕ × ℕ). row.0)) w.in-Ok.ensures.entries
      ∙ keys_insert_entry is_same_text c.self.inside.next.entries c.args.text c.args.number
      ∙ ap (λ texts. insert_key is_same_text texts c.args.text) c.self.view_is)
  | in-Err w ↦ rw w.result-is tt
]
