-- What is written is of characters: where a loop goes over items one by one, over the items of a
-- node, and in values that have codes.
use Rattle.std.proofs.Common.{◌≡◌, ℕ, zero, suc, ◌+◌, ◌-◌, ◌<◌, ◌≤◌, length, drop, get_or, List}
use Rattle.std.proofs.Common.{[], ◌∷◌, Some, sym, ap, subst, ◌∙◌, arith}
use Rattle.std.specs.List.{AllByRecursion}
use Rattle.std.proofs.Math.Seq.{drop-cons}
use Rattle.wap_base.specs.declared.name.Part.{Part}
use Rattle.wap_base.specs.declared.name.Part.TheVariants.{Lit, Var}
use Rattle.wap_tokens.specs.declared.markup.deck.Node.{Node}
use Rattle.wap_tokens.specs.declared.markup.deck.Item.{Item, out-Item}
use Rattle.wap_tokens.specs.declared.markup.deck.Item.TheVariants as item
use Rattle.wap_tokens.specs.declared.markup.name.AttrName.{AttrName}
use Rattle.wap_tokens.specs.markup.Writing.{whole_code}
use Rattle.wap_tokens.proofs.AttributeTable as table
use Rattle.wap_wbxml.specs.spelling.Characters.{OfPart, OfItem, OfOpened, OfNode}
use Rattle.wap_deck.proofs.DocumentsLemmas.Characters.{coded_text}

-- ---- items one by one

none_left : {A : Type 0} (P : A → Type 0) (xs : List A) (i : ℕ) → length xs ≤ i
    → AllByRecursion P (drop i xs)
none_left P [] zero past = tt
none_left P [] (suc i) past = tt
none_left P (x ∷ xs) zero past = absurd (omega arith)
none_left P (x ∷ xs) (suc i) past = none_left P xs i (omega arith)

module _ {A : Type 0} (P : A → Type 0) (xs : List A) where
  -- it is left to tell it of the items from a place on
  abbrev pub Left : ℕ → Type 0
  Left i = AllByRecursion P (drop i xs) → AllByRecursion P xs

  pub told_more : (i : ℕ) (x : A) → i < length xs → x ≡ get_or xs i x → Left i → P x → Left (i + 1)
  told_more i x within is left holds rest =
      let next : i + 1 ≡ suc i = omega arith in
      left (subst (AllByRecursion P) (sym (drop-cons xs i x within))
      (subst P is holds, subst (λ (n : ℕ). AllByRecursion P (drop n xs)) next rest))

  pub told_all : (i : ℕ) → length xs ≤ i → Left i → AllByRecursion P xs
  told_all i past left = left (none_left P xs i past)

-- ---- an item

pub text_told : (inner : Node → Type 0) (one : Item) (parts : List Part) → one ≡ item.Text parts
    → AllByRecursion OfPart parts → OfOpened inner one
text_told inner one parts is of =
    subst (OfItem inner) (sym (ap out-Item is ∙ item.outs-Text parts)) of

pub node_told : (inner : Node → Type 0) (one : Item) (node : Node) → one ≡ item.Node node
    → inner node → OfOpened inner one
node_told inner one node is of =
    subst (OfItem inner) (sym (ap out-Item is ∙ item.outs-Node node)) of

pub none_of : (levels : ℕ) (node : Node) → levels ≡ 0 → OfNode levels node
unfolding OfNode
none_of zero node none = tt
none_of (suc levels) node none = absurd (omega arith)

pub level_of : (levels : ℕ) (node : Node) → 0 < levels → OfNode (suc (levels - 1)) node
    → OfNode levels node
level_of levels node few of =
    let same : suc (levels - 1) ≡ levels = omega arith in
    subst (λ (l : ℕ). OfNode l node) same of

-- ---- a value that has a code

pub whole_of : (attr : AttrName) (parts : List Part) (code : ℕ) → whole_code attr parts ≡ Some code
    → AllByRecursion OfPart parts
whole_of attr [] code found = tt
whole_of attr (Lit text ∷ []) code found =
    ((coded_text 0 code (attr, text) (table.code (attr, text) code found)).1, tt)
whole_of attr (Lit text ∷ second ∷ parts) code found = absurd (cc found)
whole_of attr (Var other conv ∷ parts) code found = absurd (cc found)
