use Rattle.std.proofs.Common.{◌≡◌, List, ℕ, Bool, true, false, cond, [], ◌∷◌}
use Rattle.std.proofs.Common.{◌++◌, Option, Some, refl, sym, ap, ◌∙◌}
use Rattle.std.specs.Map.{lookup}
use Rattle.std.specs.Option.{is_some}
use Rattle.indexmap.specs.IndexMap.{insert_entry}
use Rattle.wap_base.specs.Texts.{is_same_text}
use Rattle.wap_scope.specs.inside.Globals.{ByName, with_count}
use Rattle.wap_scope.proofs.globals.Arities.add.Goals as goal
use Rattle.wap_scope.proofs.globals.Arities.add.Goals.{in-Ok, in-Err}

known : (counts : ByName) (name : List ℕ) (count : ℕ) (there : Bool) →
    is_some (lookup (is_same_text name) counts) ≡ there →
    cond there counts (counts ++ (name, count) ∷ []) ≡ with_count counts name count
known counts name count there is =
    ap (λ some. cond some counts (counts ++ (name, count) ∷ [])) (sym is)

after_entry : (same : Bool) (entry : List ℕ × ℕ) (rest all last : ByName) (count : ℕ)
    (found : Option ℕ) →
    is_some (cond same (Some entry.1) found) ≡ false →
    (is_some found ≡ false → all ≡ last) →
    cond same ((entry.0, count) ∷ rest) (entry ∷ all) ≡ entry ∷ last
after_entry true entry rest all last count found absent later = absurd (cc absent)
after_entry false entry rest all last count found absent later =
    ap (λ (entries : ByName). entry ∷ entries) (later absent)

-- a name that isn't there comes last
inserted : (counts : ByName) (name : List ℕ) (count : ℕ) →
    is_some (lookup (is_same_text name) counts) ≡ false →
    insert_entry is_same_text counts name count ≡ counts ++ (name, count) ∷ []
inserted [] name count absent = refl
inserted (entry ∷ counts) name count absent =
    after_entry (is_same_text name entry.0) entry counts
    (insert_entry is_same_text counts name count)
    (counts ++ (name, count) ∷ []) count (lookup (is_same_text name) counts) absent
    (inserted counts name count)

inserts : (inside counts next : ByName) (copy name : List ℕ) (count : ℕ) → inside ≡ counts →
    copy ≡ name → is_some (lookup (is_same_text name) counts) ≡ false →
    next ≡ insert_entry is_same_text inside copy count → next ≡ with_count counts name count
inserts inside counts next copy name count same is absent more =
    more
    ∙ ap (λ (some : ByName). insert_entry is_same_text some copy count) same
    ∙ ap (λ (name : List ℕ). insert_entry is_same_text counts name count) is
    ∙ inserted counts name count absent
    ∙ known counts name count false absent

pub returns-then-is_some : goal.returns-then-is_some
returns-then-is_some c =
    known c.args.self.now c.args.name.now c.args.count true
    (ap is_some (sym c.get.ensures) ∙ sym c.is_some.ensures ∙ c.if-is_some.true)

pub returns : goal.returns
returns c =
    elim c.match-insert.branch [
      | in-Ok w ↦ rw w.result-is
          (inserts c.self.inside.counts.entries c.args.self.now c.insert.new.self.entries
          c.in_ok-copy.field-0 c.args.name.now c.args.count c.self.view_is c.in_ok-copy.ensures
          (ap is_some (sym c.get.ensures) ∙ sym c.is_some.ensures ∙ c.if-is_some.false)
          w.in-Ok.ensures.entries)
      | in-Err w ↦ rw w.result-is tt
    ]
