-- What bytes spell can be written: elements and documents.
use Rattle.std.proofs.Common.{◌≡◌, ℕ, zero, suc, ◌%◌, ◌<◌, ◌≤◌, Bool, true, false, cond, eqb, leb}
use Rattle.std.proofs.Common.{List, [], ◌∷◌, Option, Some, None, refl, sym, subst, arith}
use Rattle.std.specs.Prelude.{not, ◌&&◌}
use Rattle.std.specs.List.{fold, list_all, AllByRecursion}
use Rattle.std.proofs.lemmas.Bool.{leb-true}
use Rattle.std.proofs.lemmas.Bool.Decides.{nat_tests}
use Rattle.wap_tokens.specs.declared.markup.codes.TheConstants.{END, LITERAL, PI}
use Rattle.wap_tokens.specs.declared.markup.document.Element.{Element}
use Rattle.wap_tokens.specs.declared.markup.document.Token.{Token}
use Rattle.wap_tokens.specs.declared.markup.document.Kid.{Kid, out-Kid}
use Rattle.wap_tokens.specs.declared.markup.document.Kid.TheOpen.{Kid-F}
use Rattle.wap_tokens.specs.declared.markup.document.Kid.TheVariants as kid
use Rattle.wap_tokens.specs.declared.markup.mark.Lead.{Lead}
use Rattle.wap_tokens.specs.declared.markup.mark.Leaf.{Leaf}
use Rattle.wap_tokens.specs.declared.markup.mark.Leaf.TheVariants as leaf
use Rattle.wap_tokens.specs.declared.markup.mark.LeafMark.{LeafMark}
use Rattle.wap_tokens.specs.declared.markup.mark.ContentMark.{ContentMark}
use Rattle.wap_tokens.specs.declared.markup.mark.ContentMark.TheVariants as content
use Rattle.wap_tokens.specs.markup.Codes.{leaf_mark, leaf_behind, content_leaf, content_mark}
use Rattle.wap_tokens.specs.markup.Codes.{is_named, has_attributes, has_content}
use Rattle.wap_tokens.specs.markup.Charsets.{IsText}
use Rattle.wap_tokens.specs.markup.Spellings.{When, Ended}
use Rattle.wap_tokens.specs.markup.Strings.{Strings, is_not_zero}
use Rattle.wap_tokens.specs.markup.Grammar.{State, on_tag_page, IsAttribute, IsTagBehind, kid_of}
use Rattle.wap_tokens.specs.markup.Grammar.{IsKidBehind, IsKid, IsElementOf, IsElement}
use Rattle.wap_wbxml.specs.spelling.Names.{KidLevel, with_token, with_attr, with_opened}
use Rattle.wap_wbxml.specs.spelling.Names.{with_kid, with_element_of, with_element}
use Rattle.wap_wbxml.specs.spelling.Spellable.{FitsTag, FitsAttr, FitsOpened, FitsKid}
use Rattle.wap_wbxml.specs.spelling.Spellable.{FitsElementOf, FitsElement}
use Rattle.wap_wbxml.proofs.SpellingLemmas.Taken.{Went, went_same, went_on, split_of, many_taken}
use Rattle.wap_wbxml.proofs.SpellingLemmas.Taken.{SmallLeaf, leaf_small, FitsLeaf, leaf_taken}
use Rattle.wap_wbxml.proofs.SpellingLemmas.Taken.{name_taken, attribute_taken}

-- ---- marks

abbrev Small : Option LeafMark → Type 0
Small (Some mark) = SmallLeaf mark
Small None = Unit {0}

abbrev SmallMark : ContentMark → Type 0
SmallMark (content.Leaf mark) = SmallLeaf mark
SmallMark _ = Unit {0}

small_leaf : (o : Option LeafMark) → Small o → SmallMark (content_leaf o)
small_leaf (Some mark) small = small
small_leaf None small = tt

small_chain : (a b c : Bool) (o : Option LeafMark) → Small o
    → SmallMark (cond a content.Element (cond b content.End (cond c content.Pi (content_leaf o))))
small_chain true b c o small = tt
small_chain false true c o small = tt
small_chain false false true o small = tt
small_chain false false false o small = small_leaf o small

mark_small : (lead : Lead) → SmallMark (content_mark lead)
unfolding content_mark
mark_small lead =
    small_chain (leb LITERAL (lead.byte % 64)) (eqb lead.byte END && not lead.switched)
    (eqb lead.byte PI && not lead.switched)
    (leaf_behind lead.switched (leaf_mark lead.byte)) (leaf_small lead.switched lead.byte)

element_chain : (a b c : Bool) (o : Option LeafMark)
    → cond a content.Element (cond b content.End (cond c content.Pi (content_leaf o)))
    ≡ content.Element
    → a ≡ true
element_chain true b c o e = refl
element_chain false true c o e = absurd cc
element_chain false false true o e = absurd cc
element_chain false false false (Some mark) e = absurd cc
element_chain false false false None e = absurd cc

element_code : (lead : Lead) → content_mark lead ≡ content.Element → LITERAL ≤ lead.byte % 64
unfolding content_mark
element_code lead e =
    leb-true LITERAL (lead.byte % 64)
    (element_chain (leb LITERAL (lead.byte % 64)) (eqb lead.byte END && not lead.switched)
    (eqb lead.byte PI && not lead.switched)
    (leaf_behind lead.switched (leaf_mark lead.byte)) e)

tag_code : (byte : ℕ) → LITERAL ≤ byte % 64 → is_named byte ≡ false
    → (LITERAL < byte % 64) × (byte % 64 < 64)
tag_code byte large named = (grind (arith, nat_tests), omega arith)

module _ (Byte : ℕ → Type 0) (Is : List ℕ → Type 0) (strings : Strings)
    (in_table : AllByRecursion Byte strings.table)
    (right : (string text : List ℕ) → AllByRecursion Byte string
    → list_all is_not_zero string ≡ true
    → IsText strings.charset string text → Is text) where
  -- what elements of so many levels that are spelled need
  unfoldable pub Taken : ℕ → Type 0
  Taken levels =
      (before : State) (lead : Lead) (bytes : List ℕ) (element : Element) (after : State)
      → AllByRecursion Byte bytes
      → content_mark lead ≡ content.Element
      → IsElement strings levels before lead bytes (element, after)
      → FitsElement Is levels element
      × Went (λ names. with_element levels names element) before after

  -- ---- content

  abbrev KidWent : ℕ → State → Kid → State → Type 0
  KidWent levels before k after =
      FitsKid Is (FitsElement Is levels) k
      × Went (λ names. with_kid (with_element levels) names k) before after

  kid_went : (levels : ℕ) (before after : State) (k : Kid) (level : KidLevel) → out-Kid k ≡ level
      → FitsOpened Is (FitsElement Is levels) level
      × Went (λ names. with_opened (with_element levels) names level) before after
      → KidWent levels before k after
  kid_went levels before after k level opened it =
      subst
      (λ (level : KidLevel). FitsOpened Is (FitsElement Is levels) level
      × Went (λ names. with_opened (with_element levels) names level) before after)
      (sym opened) it

  leaf_went : (levels : ℕ) (before after : State) (l : Leaf)
      → FitsLeaf Byte Is strings in_table right l
      → Went (λ names. names) before after → KidWent levels before (kid_of l) after
  leaf_went levels before after (leaf.Str text) fits went =
      kid_went levels before after (kid.Str text) (Kid-F.Str text) (kid.outs-Str text) (fits, went)
  leaf_went levels before after (leaf.Entity number) fits went =
      kid_went levels before after (kid.Entity number) (Kid-F.Entity number)
      (kid.outs-Entity number) (fits, went)
  leaf_went levels before after (leaf.Var name conv) fits went =
      kid_went levels before after (kid.Var name conv) (Kid-F.Var name conv)
      (kid.outs-Var name conv) (fits, went)
  leaf_went levels before after (leaf.Ext number) fits went =
      kid_went levels before after (kid.Ext number) (Kid-F.Ext number)
      (kid.outs-Ext number) (fits, went)
  leaf_went levels before after (leaf.Opaque bytes) fits went =
      kid_went levels before after (kid.Opaque bytes) (Kid-F.Opaque bytes)
      (kid.outs-Opaque bytes) (fits, went)

  on_page : (page : ℕ) (before : State) → Went (λ names. names) before (on_tag_page page before)
  on_page page before =
      let same = went_same before in
      record { in_root = refl; names = same.names; fits = λ fits. fits }

  kid_behind : (levels : ℕ) → Taken levels → (before : State) (lead : Lead) (m : ContentMark)
      → content_mark lead ≡ m
      → (bytes : List ℕ) (k : Kid) (after : State) → AllByRecursion Byte bytes
      → IsKidBehind strings (IsElement strings levels) before lead m bytes (k, after)
      → KidWent levels before k after
  unfolding Taken
  kid_behind levels taken before lead content.Element e bytes k after all is =
      subst (λ (x : Kid × State). KidWent levels before x.0 x.1) (sym is.made)
      (kid_went levels before is.a.1 (kid.Element is.a.0) (Kid-F.Element is.a.0)
      (kid.outs-Element is.a.0)
      (taken before lead bytes is.a.0 is.a.1 all e is.is))
  kid_behind levels taken before lead content.Pi e bytes k after all is =
      let parts = split_of Byte bytes is.is.0 (END ∷ []) is.is.1 all in
      subst (λ (x : Kid × State). KidWent levels before x.0 x.1) (sym is.made)
      (kid_went levels before is.a.1 (kid.Pi is.a.0) (Kid-F.Pi is.a.0) (kid.outs-Pi is.a.0)
      (attribute_taken Byte Is strings in_table right before is.is.0 is.a.0 is.a.1 parts.0 is.is.2))
  kid_behind levels taken before lead (content.Leaf m) e bytes k after all is =
      subst (λ (x : Kid × State). KidWent levels before x.0 x.1) (sym is.made)
      (leaf_went levels before (on_tag_page lead.page before) is.a
      (leaf_taken Byte Is strings in_table right m
      (subst SmallMark e (mark_small lead)) bytes is.a all is.is)
      (on_page lead.page before))
  kid_behind levels taken before lead content.End e bytes k after all is = absurd is
  kid_behind levels taken before lead content.Nothing e bytes k after all is = absurd is

  kid_taken : (levels : ℕ) → Taken levels
      → (before : State) (bytes : List ℕ) (k : Kid) (after : State)
      → AllByRecursion Byte bytes → IsKid strings (IsElement strings levels) before bytes (k, after)
      → KidWent levels before k after
  kid_taken levels taken before bytes k after all is =
      let parts = split_of Byte bytes is.front is.rest is.spelled all in
      kid_behind levels taken before is.a (content_mark is.a) refl is.rest k after parts.1 is.next

  -- ---- elements

  -- items and their end, or none
  when_taken : {A : Type 0} (Item : State → List ℕ → A × State → Type 0) (Right : A → Type 0)
      (step : List (List ℕ) → A → List (List ℕ))
      → ((before : State) (bytes : List ℕ) (x : A) (after : State) → AllByRecursion Byte bytes
      → Item before bytes (x, after)
      → Right x × Went (λ names. step names x) before after)
      → (b : Bool) (before : State) (bytes : List ℕ) (xs : List A) (after : State)
      → AllByRecursion Byte bytes
      → When b before (Ended END Item) bytes (xs, after)
      → AllByRecursion Right xs × Went (λ names. fold step names xs) before after
  when_taken Item Right step one true before bytes xs after all is =
      many_taken Byte Item Right step one before is.front xs after is.items
      (split_of Byte bytes is.front (END ∷ []) is.spelled all).0
  when_taken {A = A} Item Right step one false before bytes xs after all is =
      subst (λ (x : List A × State).
      AllByRecursion Right x.0 × Went (λ names. fold step names x.0) before x.1) (sym is.1)
      (tt, went_same before)

  tag_taken : (before : State) (lead : Lead) (b : Bool) → is_named lead.byte ≡ b
      → LITERAL ≤ lead.byte % 64
      → (bytes : List ℕ) (token : Token) (after : State)
      → IsTagBehind strings before lead.byte b bytes (token, after)
      → FitsTag Is token × Went (λ names. with_token names token) before after
  tag_taken before lead true e large bytes token after is =
      subst (λ (x : Token × State).
      FitsTag Is x.0 × Went (λ names. with_token names x.0) before x.1) (sym is.made)
      (name_taken Byte Is strings in_table right before bytes is.a.0 is.a.1 is.is)
  tag_taken before lead false e large bytes token after is =
      subst (λ (x : Token × State).
      FitsTag Is x.0 × Went (λ names. with_token names x.0) before x.1) (sym is.1)
      (tag_code lead.byte large e, went_same before)

  element_of_taken : (levels : ℕ) → Taken levels
      → (before : State) (lead : Lead) (bytes : List ℕ) (element : Element)
      (after : State) → AllByRecursion Byte bytes → content_mark lead ≡ content.Element
      → IsElementOf strings (IsElement strings levels) before lead bytes (element, after)
      → FitsElementOf Is (FitsElement Is levels) element
      × Went (λ names. with_element_of (with_element levels) names element) before after
  unfolding IsElementOf
  element_of_taken levels taken before lead bytes element after all mark is =
      let on = on_tag_page lead.page before in
      let parts = split_of Byte bytes is.front is.rest is.spelled all in
      let tag =
      tag_taken on lead (is_named lead.byte) refl
      (element_code lead mark) is.front is.a.0 is.a.1 is.first in
      let others = is.next in
      let inside = split_of Byte is.rest others.front others.rest others.spelled parts.1 in
      let attributes = when_taken (IsAttribute strings) (FitsAttr Is) with_attr
      (λ before bytes x after all is.
      attribute_taken Byte Is strings in_table right before bytes x after all is)
      (has_attributes lead.byte) is.a.1 others.front others.a.0 others.a.1 inside.0 others.first in
      let value = others.next.a in
      let inner = with_kid (with_element levels) in
      let kids =
      when_taken (IsKid strings (IsElement strings levels))
      (FitsKid Is (FitsElement Is levels)) inner
      (kid_taken levels taken)
      (has_content lead.byte) others.a.1 others.rest value.0 value.1 inside.1 others.next.is in
      subst
      (λ (x : Element × State). FitsElementOf Is (FitsElement Is levels) x.0
      × Went (λ names. with_element_of (with_element levels) names x.0) before x.1)
      (sym others.next.made) (
        record { tag = tag.0; attrs = attributes.0; kids = kids.0 },
        went_on (λ names. names)
            (λ names. fold inner (fold with_attr (with_token names is.a.0) others.a.0) value.0)
            before on value.1 (on_page lead.page before)
            (went_on (λ names. with_token names is.a.0)
            (λ names. fold inner (fold with_attr names others.a.0) value.0)
            on is.a.1 value.1 tag.1
            (went_on (λ names. fold with_attr names others.a.0) (λ names. fold inner names value.0)
            is.a.1 others.a.1 value.1 attributes.1 kids.1)),
      )

  pub element_taken : (levels : ℕ) → Taken levels
  unfolding Taken IsElement FitsElement with_element
  element_taken zero = λ before lead bytes element after all mark is. absurd is
  element_taken (suc levels) = λ before lead bytes element after all mark is.
      element_of_taken levels (element_taken levels) before lead bytes element after all mark is
