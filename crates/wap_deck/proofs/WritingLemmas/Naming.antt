-- The names that nodes have in place of codes.
use Rattle.std.proofs.Common.{◌≡◌, ℕ, zero, suc, ◌-◌, ◌<◌, List, [], ◌∷◌, map}
use Rattle.std.proofs.Common.{Option, Some, None, refl, sym, ap, ◌∙◌, arith}
use Rattle.std.specs.List.{fold, flat_map}
use Rattle.std.proofs.lemmas.List.Sums.{fold-append}
use Rattle.wap_base.specs.declared.name.Part.{Part}
use Rattle.wap_base.specs.declared.name.Part.TheVariants.{Lit, Var}
use Rattle.wap_tokens.specs.declared.markup.document.Kid.{Kid, out-Kid}
use Rattle.wap_tokens.specs.declared.markup.document.Kid.TheOpen.{Kid-F}
use Rattle.wap_tokens.specs.declared.markup.document.Kid.TheVariants as kid
use Rattle.wap_tokens.specs.declared.markup.document.Element.{Element}
use Rattle.wap_tokens.specs.declared.markup.deck.Node.{Node}
use Rattle.wap_tokens.specs.declared.markup.deck.Item.{Item, out-Item}
use Rattle.wap_tokens.specs.declared.markup.deck.Item.TheVariants as item
use Rattle.wap_tokens.specs.markup.Writing.{attr_of, runs_of, run_kid, part_kids, kids_from}
use Rattle.wap_tokens.specs.markup.Writing.{item_kids, items_kids, element_of, node_kids}
use Rattle.wap_wbxml.specs.spelling.Names.{KidLevel, Naming, with_attr, with_opened}
use Rattle.wap_wbxml.specs.spelling.Names.{with_kid, with_element}

abbrev pub Names : Type 0
Names = List (List ℕ)

-- lists that items give
pub fold_flat : {A B : Type 0} (step : Names → B → Names) (gives : A → List B)
    (xs : List A) (names : Names)
    → fold (λ names x. fold step names (gives x)) names xs ≡ fold step names (flat_map gives xs)
fold_flat step gives [] names = refl
fold_flat step gives (x ∷ xs) names =
    fold_flat step gives xs (fold step names (gives x))
    ∙ sym (fold-append step names (gives x) (flat_map gives xs))

module _ (inner : Naming) where
  opened : (names : Names) (one : Kid) (level : KidLevel) → out-Kid one ≡ level
      → with_opened inner names level ≡ with_kid inner names one
  opened names one level is = ap (with_opened inner names) (sym is)

  runs_add : (runs : List (Option (List ℕ))) (names : Names)
      → names ≡ fold (with_kid inner) names (map run_kid runs)
  runs_add [] names = refl
  runs_add (None ∷ runs) names =
      runs_add runs names
      ∙ ap (λ (names : Names). fold (with_kid inner) names (map run_kid runs))
      (opened names (kid.Entity 0) (Kid-F.Entity 0) (kid.outs-Entity 0))
  runs_add (Some text ∷ runs) names =
      runs_add runs names
      ∙ ap (λ (names : Names). fold (with_kid inner) names (map run_kid runs))
      (opened names (kid.Str text) (Kid-F.Str text) (kid.outs-Str text))

  part_adds : (part : Part) (names : Names) → names ≡ fold (with_kid inner) names (part_kids part)
  part_adds (Lit text) names = runs_add (runs_of text) names
  part_adds (Var name conv) names =
      opened names (kid.Var name conv) (Kid-F.Var name conv) (kid.outs-Var name conv)

  parts_add : (parts : List Part) (names : Names)
      → names ≡ fold (with_kid inner) names (flat_map part_kids parts)
  parts_add [] names = refl
  parts_add (part ∷ parts) names =
      part_adds part names
      ∙ parts_add parts (fold (with_kid inner) names (part_kids part))
      ∙ sym (fold-append (with_kid inner) names (part_kids part) (flat_map part_kids parts))

pub text_adds : (levels : ℕ) (one : Item) (parts : List Part) → one ≡ item.Text parts
    → (names : Names)
    → names ≡ fold (with_kid (with_element levels)) names (item_kids (node_kids levels) one)
text_adds levels one parts is names =
    parts_add (with_element levels) parts names
    ∙ ap (λ level. fold (with_kid (with_element levels)) names (kids_from (node_kids levels) level))
    (sym (ap out-Item is ∙ item.outs-Text parts))

abbrev element : ℕ → Node → Element
element levels node = element_of node (items_kids (node_kids levels) node.kids)

pub node_adds : (levels : ℕ) (one : Item) (node : Node) → one ≡ item.Node node → 0 < levels
    → (names after : Names)
    → after ≡ with_element (suc (levels - 1)) names (element (levels - 1) node)
    → after ≡ fold (with_kid (with_element levels)) names (item_kids (node_kids levels) one)
node_adds zero one node is few names after so = absurd (omega arith)
node_adds (suc levels) one node is few names after so =
    let less : suc levels - 1 ≡ levels = omega arith in
    let inner = with_element (suc levels) in
    let inside = element levels node in
    so ∙ ap (λ (n : ℕ). with_element (suc n) names (element n node)) less
    ∙ opened inner names (kid.Element inside) (Kid-F.Element inside) (kid.outs-Element inside)
    ∙ ap (λ level. fold (with_kid inner) names (kids_from (node_kids (suc levels)) level))
    (sym (ap out-Item is ∙ item.outs-Node node))

pub element_adds : (levels : ℕ) (node : Node) (names between after : Names)
    → between ≡ fold with_attr names (map attr_of node.attrs)
    → after
    ≡ fold (with_kid (with_element levels)) between (items_kids (node_kids levels) node.kids)
    → after ≡ with_element (suc levels) names (element levels node)
unfolding with_element
element_adds levels node names between after one two =
    two ∙ ap (λ (names : Names).
    fold (with_kid (with_element levels)) names (items_kids (node_kids levels) node.kids)) one
