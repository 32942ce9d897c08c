use Rattle.std.proofs.Common.{◌≡◌, ℕ, zero, suc, ◌<◌, Bool, ◌||◌, not, true, List, [], ◌∷◌}
use Rattle.std.proofs.Common.{length, map, get_or, refl, ap, subst, ◌∙◌, arith}
use Rattle.std.specs.List.{list_all, Contains}
use Rattle.std.proofs.lemmas.List.{length-map, get_or-map}
use Rattle.wap_base.specs.declared.name.Part.{Part}
use Rattle.wap_base.specs.declared.rows.Rows.{Rows}
use Rattle.wap_tokens.specs.declared.markup.deck.Node.{Node}
use Rattle.wap_tokens.specs.declared.markup.name.AttrName.{AttrName}
use Rattle.wap_tokens.specs.markup.Tables.{is_same_attr}
use Rattle.wap_tokens.specs.markup.Trees.{plain_text}
use Rattle.wap_tokens.specs.markup.Good.{Form, value_has, all_have}
use Rattle.wap_deckcheck.specs.declared.forms.LentForm.{LentForm}
use Rattle.wap_deckcheck.specs.Forms.{form_of, IsWrong}
use Rattle.wap_deckcheck.proofs.Passing.{passed, failed}
use Rattle.wap_deckcheck.proofs.forms.wrong_in.Goals as goal

-- what all of a node's attributes have or don't, the node has or doesn't
node_has : (name : AttrName) (form : Form) (node : Node) (attrs : List (AttrName × Rows Part))
    → {have : Bool} → attrs ≡ node.attrs
    → have ≡ list_all (λ a. not (is_same_attr a.0 name) || value_has form (plain_text a.1)) attrs
    → have ≡ all_have name form node
node_has name form node attrs same all =
    all ∙ ap (list_all (λ a. not (is_same_attr a.0 name) || value_has form (plain_text a.1))) same

single : {X : Type 0} (x y : X) → Contains (x ∷ []) y → x ≡ y
single x y (zero, within, is) = is
single x y (suc k, within, is) = absurd (omega (arith, within))

abbrev pair : AttrName × LentForm → AttrName × Form
pair row = (row.0, form_of row.1)

-- what is wrong by one of some rows is wrong by the rows
carried : (rows : List (AttrName × LentForm)) (i : ℕ) (other : AttrName × LentForm)
    (attrs all : List (AttrName × Rows Part)) (a : AttrName × Rows Part) → i < length rows
    → attrs ≡ all
    → IsWrong (pair (get_or rows i other) ∷ []) attrs a (form_of (get_or rows i other).1)
    → IsWrong (map pair rows) all a (form_of (get_or rows i other).1)
carried rows i other attrs all a within same is =
    let row = pair (get_or rows i other) in
    record {
      stands = subst (λ (l : List (AttrName × Rows Part)). Contains l a) same is.stands;
      has_form = subst (Contains (map pair rows)) (single row (a.0, row.1) is.has_form) (
        i,
        omega (arith, within, length-map rows pair),
        get_or-map pair rows i other row within,
      );
      lacks = is.lacks;
    }

pub returns-in-Some-clause-none : goal.returns-in-Some-clause-none
returns-in-Some-clause-none c =
    failed (λ (row : AttrName × LentForm). all_have row.0 (form_of row.1) c.args.node.now)
    c.args.rows.now c.loop-row.row-index _ c.loop-row-test.true c.loop-row.invariant
    (node_has _ _ c.args.node.now _ c.as_slice.ensures c.in-Some.ensures.none)

pub returns-in-Some-clause-wrong : goal.returns-in-Some-clause-wrong
returns-in-Some-clause-wrong c =
    carried c.args.rows.now c.loop-row.row-index _ _ c.args.node.now.attrs _
    c.loop-row-test.true c.as_slice.ensures c.in-Some.ensures.wrong

pub loop-row-preserved : goal.loop-row-preserved
loop-row-preserved c =
    passed (λ (row : AttrName × LentForm). all_have row.0 (form_of row.1) c.args.node.now)
    c.args.rows.now c.loop-row.row-index _ true c.loop-row-test.true c.loop-row.invariant
    (node_has _ _ c.args.node.now _ c.as_slice.ensures c.in_default.ensures.none) refl
