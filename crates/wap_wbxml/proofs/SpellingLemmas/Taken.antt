-- What bytes spell can be written: strings and parts of values.
use Rattle.std.proofs.Common.{◌≡◌, ℕ, zero, suc, ◌+◌, ◌%◌, ◌^◌, ◌<◌, ◌≤◌, Bool, true, false, cond}
use Rattle.std.proofs.Common.{eqb, ltb, List, [], ◌∷◌, ◌++◌, length, take, drop, Option, Some}
use Rattle.std.proofs.Common.{None, refl, sym, ap, subst, ◌∙◌, arith, ltb-true}
use Rattle.std.specs.Prelude.{not, ◌&&◌}
use Rattle.std.specs.List.{fold, AllByRecursion, list_all, prefix_len}
use Rattle.std.proofs.lemmas.Bool.{ltb-false}
use Rattle.wap_tokens.specs.declared.markup.codes.TheConstants.{END, ENTITY, STR_I, LITERAL}
use Rattle.wap_tokens.specs.declared.markup.codes.TheConstants.{EXT_I_0, EXT_I_1, EXT_I_2, EXT_T_0}
use Rattle.wap_tokens.specs.declared.markup.codes.TheConstants.{EXT_T_1, EXT_T_2, STR_T, EXT_0}
use Rattle.wap_tokens.specs.declared.markup.codes.TheConstants.{EXT_1, EXT_2, OPAQUE}
use Rattle.wap_base.specs.declared.name.Conv.TheVariants.{Escape, Unescape, Plain}
use Rattle.wap_tokens.specs.declared.markup.document.Attr.{Attr}
use Rattle.wap_tokens.specs.declared.markup.document.Token.{Token}
use Rattle.wap_tokens.specs.declared.markup.document.Token.TheVariants.{Literal}
use Rattle.wap_tokens.specs.declared.markup.document.Piece.{Piece}
use Rattle.wap_tokens.specs.declared.markup.mark.Lead.{Lead}
use Rattle.wap_tokens.specs.declared.markup.mark.Leaf.{Leaf}
use Rattle.wap_tokens.specs.declared.markup.mark.Leaf.TheVariants as leaf
use Rattle.wap_tokens.specs.declared.markup.mark.LeafMark.{LeafMark}
use Rattle.wap_tokens.specs.declared.markup.mark.LeafMark.TheVariants as mark
use Rattle.wap_tokens.specs.declared.markup.mark.Role.TheVariants.{Shown, Variable}
use Rattle.wap_tokens.specs.declared.markup.mark.AttributeMark.{AttributeMark}
use Rattle.wap_tokens.specs.declared.markup.mark.AttributeMark.TheVariants as attribute
use Rattle.wap_tokens.specs.markup.Charsets.{is_character, IsText}
use Rattle.wap_tokens.specs.markup.Codes.{leaf_mark, leaf_behind, is_extension}
use Rattle.wap_tokens.specs.markup.Codes.{attribute_leaf, attribute_mark}
use Rattle.wap_tokens.specs.markup.Spellings.{Many, none, more}
use Rattle.wap_tokens.specs.markup.Strings.{Strings, IsInline, IsIndexed, is_not_zero, string_from}
use Rattle.wap_tokens.specs.markup.Grammar.{State, on_attribute_page, counted, table_size, IsLeaf}
use Rattle.wap_tokens.specs.markup.Grammar.{IsName, IsStartBehind, IsPieceBehind, piece_of, IsPiece}
use Rattle.wap_tokens.specs.markup.Grammar.{IsAttribute}
use Rattle.wap_wbxml.specs.spelling.Names.{with_token, with_attr}
use Rattle.wap_wbxml.specs.spelling.Spellable.{FitsStart, FitsPiece, FitsAttr}
use Rattle.wap_wbxml.proofs.StringLaws.{front_not_zero}

-- ---- how names grow from state to state

pub record Went (step : List (List ℕ) → List (List ℕ)) (before after : State) : Type 0 where
  pub in_root : after.in_root ≡ before.in_root
  pub names : after.names ≡ cond before.in_root (step before.names) before.names
  pub fits : table_size before.names < 2 ^ 32 → table_size after.names < 2 ^ 32

same_either : (b : Bool) (names : List (List ℕ)) → names ≡ cond b names names
same_either true names = refl
same_either false names = refl

pub went_same : (state : State) → Went (λ names. names) state state
went_same state =
    record { in_root = refl; names = same_either state.in_root state.names; fits = λ fits. fits }

both_steps : (b : Bool) (first next : List (List ℕ) → List (List ℕ)) (names : List (List ℕ))
    → cond b (next (cond b (first names) names)) (cond b (first names) names)
    ≡ cond b (next (first names)) names
both_steps true first next names = refl
both_steps false first next names = refl

pub went_on : (first next : List (List ℕ) → List (List ℕ)) (a b c : State) → Went first a b
    → Went next b c
    → Went (λ names. next (first names)) a c
went_on first next a b c one two = record {
  in_root = two.in_root ∙ one.in_root;
  names =
      two.names
      ∙ ap (λ (inside : Bool). cond inside (next b.names) b.names) one.in_root
      ∙ ap (λ (names : List (List ℕ)). cond a.in_root (next names) names) one.names
      ∙ both_steps a.in_root first next a.names;
  fits = λ fits. two.fits (one.fits fits);
}

-- steps that give the same are the same
pub went_as : (step other : List (List ℕ) → List (List ℕ)) (before after : State)
    → ((names : List (List ℕ)) → step names ≡ other names) → Went step before after
    → Went other before after
went_as step other before after same went = record {
  in_root = went.in_root;
  names =
      went.names
      ∙ ap (λ (names : List (List ℕ)). cond before.in_root names before.names) (same before.names);
  fits = went.fits;
}

pub went_to : (step : List (List ℕ) → List (List ℕ)) (before after other : State) → after ≡ other
    → Went step before other
    → Went step before after
went_to step before after other same went = subst (Went step before) (sym same) went

-- ---- bytes that are split

module _ (Byte : ℕ → Type 0) where
  pub split_all : (front rest : List ℕ) → AllByRecursion Byte (front ++ rest)
      → AllByRecursion Byte front × AllByRecursion Byte rest
  split_all [] rest all = (tt, all)
  split_all (byte ∷ front) rest all =
      let others = split_all front rest all.1 in
      ((all.0, others.0), others.1)

  pub split_of : (bytes front rest : List ℕ) → bytes ≡ front ++ rest → AllByRecursion Byte bytes
      → AllByRecursion Byte front × AllByRecursion Byte rest
  split_of bytes front rest same all = split_all front rest (subst (AllByRecursion Byte) same all)

  drop_all : (place : ℕ) (bytes : List ℕ) → AllByRecursion Byte bytes
      → AllByRecursion Byte (drop place bytes)
  drop_all zero bytes all = all
  drop_all (suc place) [] all = tt
  drop_all (suc place) (byte ∷ bytes) all = drop_all place bytes all.1

  take_all_of : (count : ℕ) (bytes : List ℕ) → AllByRecursion Byte bytes
      → AllByRecursion Byte (take count bytes)
  take_all_of zero bytes all = tt
  take_all_of (suc count) [] all = tt
  take_all_of (suc count) (byte ∷ bytes) all = (all.0, take_all_of count bytes all.1)

  pub many_taken : {A : Type 0} (Is : State → List ℕ → A × State → Type 0) (Right : A → Type 0)
      (step : List (List ℕ) → A → List (List ℕ))
      → ((before : State) (bytes : List ℕ) (x : A) (after : State) → AllByRecursion Byte bytes
      → Is before bytes (x, after)
      → Right x × Went (λ names. step names x) before after)
      → (before : State) (bytes : List ℕ) (xs : List A) (after : State)
      → Many Is before bytes xs after
      → AllByRecursion Byte bytes
      → AllByRecursion Right xs × Went (λ names. fold step names xs) before after
  many_taken Is Right step one before bytes xs after (none state) all = (tt, went_same state)
  many_taken Is Right step one before bytes xs after
      (more first front item between rest items last is others) all =
      let parts = split_all front rest all in
      let here = one first front item between parts.0 is in
      let later = many_taken Is Right step one between rest items last others parts.1 in (
        (here.0, later.0),
        went_on (λ names. step names item)
            (λ names. fold step names items) first between last here.1 later.1,
      )

-- ---- marks

-- an extension is one of three
abbrev pub SmallLeaf : LeafMark → Type 0
SmallLeaf (mark.Extension number) = number < 3
SmallLeaf _ = Unit {0}

abbrev Small : Option LeafMark → Type 0
Small (Some mark) = SmallLeaf mark
Small None = Unit {0}

either : {A : Type 0} (P : A → Type 0) (b : Bool) (x y : A) → P x → P y → P (cond b x y)
either P true x y one two = one
either P false x y one two = two

-- a mark with which a chain of tests goes on
record Tested (byte : ℕ) : Type 0 where
  mark : Option LeafMark
  small : Small mark

tested : (byte code : ℕ) (m : LeafMark) → SmallLeaf m → Tested byte → Tested byte
tested byte code m small rest = record {
  mark = cond (eqb byte code) (Some m) rest.mark;
  small = either Small (eqb byte code) (Some m) rest.mark small rest.small;
}

small_mark : (byte : ℕ) → Small (leaf_mark byte)
unfolding leaf_mark tested
small_mark byte =
    let last : Tested byte = record { mark = None; small = tt } in
    let all =
    tested byte ENTITY mark.Entity tt (
    tested byte STR_I (mark.Inline Shown) tt (
    tested byte EXT_I_0 (mark.Inline (Variable Escape)) tt (
    tested byte EXT_I_1 (mark.Inline (Variable Unescape)) tt (
    tested byte EXT_I_2 (mark.Inline (Variable Plain)) tt (
    tested byte EXT_T_0 (mark.Indexed (Variable Escape)) tt (
    tested byte EXT_T_1 (mark.Indexed (Variable Unescape)) tt (
    tested byte EXT_T_2 (mark.Indexed (Variable Plain)) tt (
    tested byte STR_T (mark.Indexed Shown) tt (
    tested byte EXT_0 (mark.Extension 0) (omega arith) (
    tested byte EXT_1 (mark.Extension 1) (omega arith) (
    tested byte EXT_2 (mark.Extension 2) (omega arith) (
    tested byte OPAQUE mark.Opaque tt (
    last))))))))))))) in
    all.small

small_behind : (switched : Bool) (o : Option LeafMark) → Small o → Small (leaf_behind switched o)
small_behind true (Some mark) small = either Small (is_extension mark) (Some mark) None small tt
small_behind true None small = tt
small_behind false o small = small

pub leaf_small : (switched : Bool) (byte : ℕ) → Small (leaf_behind switched (leaf_mark byte))
leaf_small switched byte = small_behind switched (leaf_mark byte) (small_mark byte)

abbrev SmallMark : AttributeMark → Type 0
SmallMark (attribute.Leaf mark) = SmallLeaf mark
SmallMark _ = Unit {0}

small_leaf : (o : Option LeafMark) → Small o → SmallMark (attribute_leaf o)
small_leaf (Some mark) small = small
small_leaf None small = tt

mark_small : (lead : Lead) → SmallMark (attribute_mark lead)
unfolding attribute_mark
mark_small lead =
    let leaf = leaf_behind lead.switched (leaf_mark lead.byte) in
    let ends = eqb lead.byte END && not lead.switched in
    let small = small_leaf leaf (leaf_small lead.switched lead.byte) in
    let others = cond ends attribute.End (attribute_leaf leaf) in
    either SmallMark (ltb LITERAL (lead.byte % 64))
    (cond (ltb lead.byte 128) attribute.Coded attribute.Value)
    (cond (eqb lead.byte LITERAL) attribute.Named others)
    (either SmallMark (ltb lead.byte 128) attribute.Coded attribute.Value tt tt)
    (either SmallMark (eqb lead.byte LITERAL) attribute.Named others tt
    (either SmallMark ends attribute.End (attribute_leaf leaf) tt small))

value_chain : (a b c d : Bool) (o : Option LeafMark)
    → cond a (cond b attribute.Coded attribute.Value)
    (cond c attribute.Named (cond d attribute.End (attribute_leaf o)))
    ≡ attribute.Value
    → (a ≡ true) × (b ≡ false)
value_chain true true c d o e = absurd cc
value_chain true false c d o e = (refl, refl)
value_chain false b true d o e = absurd cc
value_chain false b false true o e = absurd cc
value_chain false b false false (Some mark) e = absurd cc
value_chain false b false false None e = absurd cc

coded_chain : (a b c d : Bool) (o : Option LeafMark)
    → cond a (cond b attribute.Coded attribute.Value)
    (cond c attribute.Named (cond d attribute.End (attribute_leaf o)))
    ≡ attribute.Coded
    → (a ≡ true) × (b ≡ true)
coded_chain true true c d o e = (refl, refl)
coded_chain true false c d o e = absurd cc
coded_chain false b true d o e = absurd cc
coded_chain false b false true o e = absurd cc
coded_chain false b false false (Some mark) e = absurd cc
coded_chain false b false false None e = absurd cc

value_code : (lead : Lead) → attribute_mark lead ≡ attribute.Value
    → (LITERAL < lead.byte % 64) × (128 ≤ lead.byte)
unfolding attribute_mark
value_code lead e =
    let way = value_chain (ltb LITERAL (lead.byte % 64)) (ltb lead.byte 128) (eqb lead.byte LITERAL)
    (eqb lead.byte END && not lead.switched) (leaf_behind lead.switched (leaf_mark lead.byte)) e in
    (ltb-true LITERAL (lead.byte % 64) way.0, ltb-false lead.byte 128 way.1)

coded_code : (lead : Lead) → attribute_mark lead ≡ attribute.Coded
    → (LITERAL < lead.byte % 64) × (lead.byte < 128)
unfolding attribute_mark
coded_code lead e =
    let way = coded_chain (ltb LITERAL (lead.byte % 64)) (ltb lead.byte 128) (eqb lead.byte LITERAL)
    (eqb lead.byte END && not lead.switched) (leaf_behind lead.switched (leaf_mark lead.byte)) e in
    (ltb-true LITERAL (lead.byte % 64) way.0, ltb-true lead.byte 128 way.1)

-- ---- strings

module _ (Byte : ℕ → Type 0) (Is : List ℕ → Type 0) (strings : Strings)
    (in_table : AllByRecursion Byte strings.table)
    (right : (string text : List ℕ) → AllByRecursion Byte string
    → list_all is_not_zero string ≡ true
    → IsText strings.charset string text → Is text) where
  inline_taken : (bytes text : List ℕ) → AllByRecursion Byte bytes
      → IsInline strings bytes text → Is text
  inline_taken bytes text all is =
      right is.string text
      (split_of Byte bytes is.string (0 ∷ []) is.spelled all).0 is.no_zero is.text_is

  pub indexed_taken : (bytes text : List ℕ) → IsIndexed strings bytes text → Is text
  indexed_taken bytes text is =
      let there = drop is.index strings.table in
      right (string_from strings.table is.index) text
      (take_all_of Byte (prefix_len is_not_zero there) there
      (drop_all Byte is.index strings.table in_table))
      (front_not_zero there) is.text_is

  -- what a leaf that is written needs
  abbrev pub FitsLeaf : Leaf → Type 0
  FitsLeaf (leaf.Str text) = Is text
  FitsLeaf (leaf.Entity number) = is_character number ≡ true
  FitsLeaf (leaf.Var name conv) = Is name
  FitsLeaf (leaf.Ext number) = number < 3
  FitsLeaf (leaf.Opaque bytes) = length bytes < 2 ^ 32

  pub leaf_taken : (m : LeafMark) → SmallLeaf m → (bytes : List ℕ) (l : Leaf)
      → AllByRecursion Byte bytes
      → IsLeaf strings m bytes l → FitsLeaf l
  leaf_taken (mark.Inline Shown) small bytes l all is =
      subst FitsLeaf (sym is.made) (inline_taken bytes is.a all is.is)
  leaf_taken (mark.Inline (Variable conv)) small bytes l all is =
      subst FitsLeaf (sym is.made) (inline_taken bytes is.a all is.is)
  leaf_taken (mark.Indexed Shown) small bytes l all is =
      subst FitsLeaf (sym is.made) (indexed_taken bytes is.a is.is)
  leaf_taken (mark.Indexed (Variable conv)) small bytes l all is =
      subst FitsLeaf (sym is.made) (indexed_taken bytes is.a is.is)
  leaf_taken mark.Entity small bytes l all is = subst FitsLeaf (sym is.made) is.is.1
  leaf_taken mark.Opaque small bytes l all is =
      let number = is.is.first.fits in
      let len = is.is.next.0 in
      let same = ap length is.is.next.1 in
      subst FitsLeaf (sym is.made)
      (fits_opaque is.is.a (length is.is.rest) (length is.a) number len same)
    where
      fits_opaque : (a b c : ℕ) → a < 2 ^ 32 → b ≡ a → c ≡ b → c < 2 ^ 32
      fits_opaque a b c few len same = omega arith
  leaf_taken (mark.Extension number) small bytes l all is = subst FitsLeaf (sym is.1) small

  -- ---- attributes

  piece_of_leaf : (l : Leaf) → FitsLeaf l → FitsPiece Is (piece_of l)
  piece_of_leaf (leaf.Str text) fits = fits
  piece_of_leaf (leaf.Entity number) fits = fits
  piece_of_leaf (leaf.Var name conv) fits = fits
  piece_of_leaf (leaf.Ext number) fits = fits
  piece_of_leaf (leaf.Opaque bytes) fits = fits

  piece_behind : (lead : Lead) (m : AttributeMark) → attribute_mark lead ≡ m
      → (bytes : List ℕ) (p : Piece)
      → AllByRecursion Byte bytes → IsPieceBehind strings lead m bytes p → FitsPiece Is p
  piece_behind lead attribute.Value e bytes p all is =
      subst (FitsPiece Is) (sym is.1) (value_code lead e)
  piece_behind lead (attribute.Leaf m) e bytes p all is =
      subst (FitsPiece Is) (sym is.made)
      (piece_of_leaf is.a (leaf_taken m (subst SmallMark e (mark_small lead)) bytes is.a all is.is))
  piece_behind lead _ e bytes p all is = absurd is

  on_page : (page : ℕ) (before : State)
      → Went (λ names. names) before (on_attribute_page page before)
  on_page page before = record {
    in_root = refl;
    names = same_either before.in_root before.names;
    fits = λ fits. fits;
  }

  piece_taken : (before : State) (bytes : List ℕ) (p : Piece) (after : State)
      → AllByRecursion Byte bytes
      → IsPiece strings before bytes (p, after)
      → FitsPiece Is p × Went (λ names. names) before after
  piece_taken before bytes p after all is =
      let parts = split_of Byte bytes is.front is.rest is.spelled all in
      let fits =
      piece_behind is.a (attribute_mark is.a) refl is.rest is.next.a parts.1 is.next.is in (
        subst (FitsPiece Is) (sym (ap (λ (x : Piece × State). x.0) is.next.made)) fits,
        went_to (λ names. names) before after (on_attribute_page is.a.page before)
            (ap (λ (x : Piece × State). x.1) is.next.made) (on_page is.a.page before),
      )

  -- a name that counts
  pub name_taken : (before : State) (bytes name : List ℕ) (after : State)
      → IsName strings before bytes (name, after)
      → Is name × Went (λ names. with_token names (Literal name)) before after
  name_taken before bytes name after is = (
    indexed_taken bytes name is.0,
    went_to (λ names. with_token names (Literal name)) before after
        (counted name before) is.1.counts
        (record {
          in_root = refl;
          names = refl;
          fits = λ fits. subst (λ (s : State). table_size s.names < 2 ^ 32) is.1.counts is.1.fits;
        }),
  )

  start_behind : (before : State) (lead : Lead) (m : AttributeMark) → attribute_mark lead ≡ m
      → (bytes : List ℕ) (token : Token)
      (after : State) → IsStartBehind strings before lead m bytes (token, after)
      → FitsStart Is token × Went (λ names. with_token names token) before after
  start_behind before lead attribute.Coded e bytes token after is =
      subst (λ (x : Token × State).
      FitsStart Is x.0 × Went (λ names. with_token names x.0) before x.1) (sym is.1)
      (coded_code lead e, went_same before)
  start_behind before lead attribute.Named e bytes token after is =
      subst (λ (x : Token × State).
      FitsStart Is x.0 × Went (λ names. with_token names x.0) before x.1) (sym is.made)
      (name_taken before bytes is.a.0 is.a.1 is.is)
  start_behind before lead _ e bytes token after is = absurd is

  keep_names : (names : List (List ℕ)) (pieces : List Piece)
      → fold (λ (n : List (List ℕ)) (p : Piece). n) names pieces ≡ names
  keep_names names [] = refl
  keep_names names (p ∷ pieces) = keep_names names pieces

  pub attribute_taken : (before : State) (bytes : List ℕ) (attr : Attr) (after : State)
      → AllByRecursion Byte bytes
      → IsAttribute strings before bytes (attr, after)
      → FitsAttr Is attr × Went (λ names. with_attr names attr) before after
  unfolding IsAttribute
  attribute_taken before bytes attr after all is =
      let parts = split_of Byte bytes is.front is.rest is.spelled all in
      let lead = is.a in
      let on = on_attribute_page lead.page before in
      let behind = is.next in
      let inside = split_of Byte is.rest behind.front behind.rest behind.spelled parts.1 in
      let start =
      start_behind on lead
      (attribute_mark lead) refl behind.front behind.a.0 behind.a.1 behind.first in
      let value = behind.next.a in
      let pieces =
      many_taken Byte (λ s b x. IsPiece strings s b x) (FitsPiece Is)
      (λ (n : List (List ℕ)) (p : Piece). n) piece_taken
      behind.a.1 behind.rest value.0 value.1 behind.next.is inside.1 in
      let still =
      went_as (λ names. fold (λ (n : List (List ℕ)) (p : Piece). n) names value.0)
      (λ names. names) behind.a.1 value.1
      (λ names. keep_names names value.0) pieces.1 in
      subst (λ (x : Attr × State). FitsAttr Is x.0 × Went (λ names. with_attr names x.0) before x.1)
      (sym behind.next.made) (
        record { start = start.0; value = pieces.0 },
        went_on (λ names. names) (λ names. with_token names behind.a.0) before on value.1
            (on_page lead.page before)
            (went_on (λ names. with_token names behind.a.0)
            (λ names. names) on behind.a.1 value.1 start.1 still),
      )
