-- What is written for attributes is read as these attributes.
use Rattle.std.proofs.Common.{◌≡◌, ◌≢◌, ℕ, zero, suc, ◌+◌, ◌%◌, ◌^◌, ◌<◌, ◌≤◌, Bool}
use Rattle.std.proofs.Common.{true, false, cond, eqb, List, [], ◌∷◌, ◌++◌, length}
use Rattle.std.proofs.Common.{refl, sym, ap, subst, append_assoc, arith}
use Rattle.std.specs.List.{AllByRecursion}
use Rattle.std.proofs.lemmas.Bool.{eqb-true}
use Rattle.std.proofs.lemmas.Bool.Decides.{nat_tests}
use Rattle.std.proofs.lemmas.List.{append-nil}
use Rattle.wap_base.specs.Numbers.{mb_spelling}
use Rattle.wap_base.specs.declared.name.Conv.{Conv}
use Rattle.wap_base.specs.declared.name.Conv.TheVariants.{Escape, Unescape, Plain}
use Rattle.wap_tokens.specs.declared.markup.codes.TheConstants.{SWITCH_PAGE, ENTITY, STR_I}
use Rattle.wap_tokens.specs.declared.markup.codes.TheConstants.{LITERAL, EXT_0, OPAQUE}
use Rattle.wap_tokens.specs.declared.markup.document.Attr.{Attr}
use Rattle.wap_tokens.specs.declared.markup.document.Token.{Token}
use Rattle.wap_tokens.specs.declared.markup.document.Token.TheVariants.{Code, Literal}
use Rattle.wap_tokens.specs.declared.markup.document.Piece.{Piece}
use Rattle.wap_tokens.specs.declared.markup.document.Piece.TheVariants as piece
use Rattle.wap_tokens.specs.declared.markup.mark.Lead.{Lead}
use Rattle.wap_tokens.specs.declared.markup.mark.Leaf.{Leaf}
use Rattle.wap_tokens.specs.declared.markup.mark.Leaf.TheVariants as leaf
use Rattle.wap_tokens.specs.declared.markup.mark.LeafMark.{LeafMark}
use Rattle.wap_tokens.specs.declared.markup.mark.LeafMark.TheVariants as mark
use Rattle.wap_tokens.specs.declared.markup.mark.Role.TheVariants.{Shown, Variable}
use Rattle.wap_tokens.specs.declared.markup.mark.AttributeMark.{AttributeMark}
use Rattle.wap_tokens.specs.declared.markup.mark.AttributeMark.TheVariants as attribute
use Rattle.wap_tokens.specs.markup.Charsets.{is_character}
use Rattle.wap_tokens.specs.markup.Codes.{leaf_mark, attribute_mark}
use Rattle.wap_tokens.specs.markup.Spellings.{Many}
use Rattle.wap_tokens.specs.markup.Strings.{Strings}
use Rattle.wap_tokens.specs.markup.Grammar.{with_name, table_size, IsLead, IsLeaf, IsName}
use Rattle.wap_tokens.specs.markup.Grammar.{IsStartBehind}
use Rattle.wap_tokens.specs.markup.Grammar.{IsPieceBehind, piece_of, IsPiece, IsAttribute}
use Rattle.wap_wbxml.specs.declared.spelling.output.Pages.{Pages}
use Rattle.wap_wbxml.specs.spelling.Writings.{◌⨾◌, each, switch}
use Rattle.wap_wbxml.specs.spelling.Names.{string, table_of, place_of, with_attr}
use Rattle.wap_wbxml.specs.spelling.Spelling.{sized, variable, piece_spelling, attr_spelling}
use Rattle.wap_wbxml.specs.spelling.Spellable.{IsString, FitsStart, FitsPiece, FitsAttr}
use Rattle.wap_wbxml.proofs.SpellingLemmas.Strings.{in_utf8, inline_read, indexed_read, number_read}
use Rattle.wap_wbxml.proofs.SpellingLemmas.Growing.{Grows, grows-has, grows-size, with_name-has}
use Rattle.wap_wbxml.proofs.SpellingLemmas.States.{state_at, many_read}

-- ---- what an item begins with

lead_by : (page next byte : ℕ) → byte ≢ 0 → (b : Bool) → eqb next page ≡ b
    → (switched : Bool) × IsLead page (cond b [] (SWITCH_PAGE ∷ next ∷ []) ++ byte ∷ [])
    (record { switched = switched; page = next; byte = byte })
lead_by page next byte some true same = (
  false,
  (
    some,
    ap (λ (p : ℕ). let lead : Lead = record { switched = false; page = p; byte = byte } in lead)
        (eqb-true next page same),
  ),
)
lead_by page next byte some false other = (true, (refl, refl))

pub lead_read : (page next byte : ℕ) → byte ≢ 0
    → (switched : Bool) × IsLead page (switch page next ++ byte ∷ [])
    (record { switched = switched; page = next; byte = byte })
lead_read page next byte some = lead_by page next byte some (eqb next page) refl

-- ---- strings, characters, references to variables, extensions and opaque data

character_small : (number : ℕ) → is_character number ≡ true → number < 2 ^ 32
character_small number is = grind (arith, nat_tests)

module _ (table : List ℕ) where
  abbrev strings : Strings
  strings = in_utf8 table

  pub text_leaf : (text : List ℕ) → IsString text
      → IsLeaf strings (mark.Inline Shown) (string text) (leaf.Str text)
  text_leaf text is = record { a = text; is = inline_read table text is; made = refl }

  pub variable_leaf : (name : List ℕ) (conv : Conv) → IsString name
      → IsLeaf strings (mark.Inline (Variable conv)) (string name) (leaf.Var name conv)
  variable_leaf name conv is = record { a = name; is = inline_read table name is; made = refl }

  pub entity_leaf : (number : ℕ) → is_character number ≡ true
      → IsLeaf strings mark.Entity (mb_spelling number) (leaf.Entity number)
  entity_leaf number is =
      record { a = number; is = (number_read number (character_small number is), is); made = refl }

  pub opaque_leaf : (bytes : List ℕ) → length bytes < 2 ^ 32
      → IsLeaf strings mark.Opaque (sized bytes) (leaf.Opaque bytes)
  opaque_leaf bytes fits = record {
    a = bytes;
    is = record {
      front = mb_spelling (length bytes);
      rest = bytes;
      spelled = refl;
      a = length bytes;
      first = number_read (length bytes) fits;
      next = (refl, refl);
    };
    made = refl;
  }

-- one of the three extensions
pub extension_by : (P : ℕ → Type 0) → P 0 → P 1 → P 2 → (number : ℕ) → number < 3 → P number
extension_by P none one two zero few = none
extension_by P none one two (suc zero) few = one
extension_by P none one two (suc (suc zero)) few = two
extension_by P none one two (suc (suc (suc number))) few = absurd (omega arith)

-- ---- parts of values

value_mark : (lead : Lead) → LITERAL < lead.byte % 64 → 128 ≤ lead.byte
    → attribute_mark lead ≡ attribute.Value
unfolding attribute_mark
value_mark lead code large = grind (arith, nat_tests)

coded_mark : (lead : Lead) → LITERAL < lead.byte % 64 → lead.byte < 128
    → attribute_mark lead ≡ attribute.Coded
unfolding attribute_mark
coded_mark lead code small = grind (arith, nat_tests)

named_mark : (switched : Bool) (page : ℕ)
    → attribute_mark (record { switched = switched; page = page; byte = LITERAL }) ≡ attribute.Named
unfolding attribute_mark
named_mark switched page = refl

variable_mark : (page : ℕ) (conv : Conv)
    → attribute_mark (record { switched = false; page = page; byte = variable conv })
    ≡ attribute.Leaf (mark.Inline (Variable conv))
unfolding attribute_mark leaf_mark
variable_mark page Escape = refl
variable_mark page Unescape = refl
variable_mark page Plain = refl

pub variable_some : (conv : Conv) → variable conv ≢ 0
variable_some Escape = λ e. absurd (omega arith)
variable_some Unescape = λ e. absurd (omega arith)
variable_some Plain = λ e. absurd (omega arith)

module _ (all : List (List ℕ)) where
  abbrev in_table : Strings
  in_table = in_utf8 (table_of all)

  leaf_piece : (pages : Pages) (names : List (List ℕ)) (byte : ℕ) (rest : List ℕ)
      (m : LeafMark) (l : Leaf)
      → byte ≢ 0
      → attribute_mark (record { switched = false; page = pages.attribute; byte = byte })
      ≡ attribute.Leaf m
      → IsLeaf in_table m rest l
      → IsPiece in_table (state_at pages names) (byte ∷ rest) (piece_of l, state_at pages names)
  leaf_piece pages names byte rest m l some is reads =
      let lead : Lead = record { switched = false; page = pages.attribute; byte = byte } in
      record {
        front = byte ∷ [];
        rest = rest;
        spelled = refl;
        a = lead;
        first = (some, refl);
        next = record {
          a = piece_of l;
          is =
              subst (λ (k : AttributeMark). IsPieceBehind in_table lead k rest (piece_of l))
              (sym is)
              (record { a = l; is = reads; made = refl });
          made = refl;
        };
      }

  piece_read : (pages : Pages) (names : List (List ℕ)) (one : Piece) → FitsPiece IsString one
      → IsPiece in_table (state_at pages names) (piece_spelling one pages).0
      (one, state_at (piece_spelling one pages).1 names)
  unfolding ◌⨾◌ attribute_mark leaf_mark
  piece_read pages names (piece.Code page code) fits =
      let some : code ≢ 0 = λ e. absurd (omega (arith, fits.0, e)) in
      let found = lead_read pages.attribute page code some in
      let lead : Lead = record { switched = found.0; page = page; byte = code } in
      record {
        front = switch pages.attribute page ++ code ∷ [];
        rest = [];
        spelled = sym (append-nil (switch pages.attribute page ++ code ∷ []));
        a = lead;
        first = found.1;
        next = record {
          a = piece.Code page code;
          is =
              subst (λ (k : AttributeMark). IsPieceBehind in_table lead k [] (piece.Code page code))
              (sym (value_mark lead fits.0 fits.1)) (refl, refl);
          made = refl;
        };
      }
  piece_read pages names (piece.Str text) fits =
      leaf_piece pages names STR_I (string text) (mark.Inline Shown) (leaf.Str text)
      (λ e. absurd (omega (arith, e))) refl
      (text_leaf (table_of all) text fits)
  piece_read pages names (piece.Entity number) fits =
      leaf_piece pages names ENTITY (mb_spelling number) mark.Entity (leaf.Entity number)
      (λ e. absurd (omega (arith, e))) refl
      (entity_leaf (table_of all) number fits)
  piece_read pages names (piece.Var name conv) fits =
      leaf_piece pages names (variable conv) (string name) (mark.Inline (Variable conv))
      (leaf.Var name conv)
      (variable_some conv) (variable_mark pages.attribute conv)
      (variable_leaf (table_of all) name conv fits)
  piece_read pages names (piece.Ext number) fits =
      extension_by (λ (n : ℕ).
      IsPiece in_table (state_at pages names) ((EXT_0 + n) ∷ [])
      (piece.Ext n, state_at pages names))
      (leaf_piece pages names EXT_0 [] (mark.Extension 0) (leaf.Ext 0)
      (λ e. absurd (omega (arith, e))) refl (refl, refl))
      (leaf_piece pages names (EXT_0 + 1) [] (mark.Extension 1) (leaf.Ext 1)
      (λ e. absurd (omega (arith, e))) refl (refl, refl))
      (leaf_piece pages names (EXT_0 + 2) [] (mark.Extension 2) (leaf.Ext 2)
      (λ e. absurd (omega (arith, e))) refl (refl, refl))
      number fits
  piece_read pages names (piece.Opaque bytes) fits =
      leaf_piece pages names OPAQUE (sized bytes) mark.Opaque (leaf.Opaque bytes)
      (λ e. absurd (omega (arith, e))) refl
      (opaque_leaf (table_of all) bytes fits)

  pieces_read : (pages : Pages) (names : List (List ℕ)) (pieces : List Piece)
      → AllByRecursion (FitsPiece IsString) pieces
      → Many (IsPiece in_table) (state_at pages names) (each piece_spelling pieces pages).0 pieces
      (state_at (each piece_spelling pieces pages).1 names)
  pieces_read pages names pieces fits =
      many_read {N = Unit {0}} piece_spelling (λ n x. tt) (λ pages n. state_at pages names)
      (IsPiece in_table)
      (FitsPiece IsString) (λ n. Unit {0}) (λ n x u. tt)
      (λ pages n x fits u. piece_read pages names x fits)
      pages tt pieces fits tt

  -- ---- attributes

  module _ (size : table_size all < 2 ^ 32) where
    pub name_read : (pages : Pages) (names : List (List ℕ)) (name : List ℕ) → IsString name
        → Grows (with_name names name) all
        → IsName in_table (state_at pages names) (mb_spelling (place_of all name))
        (name, state_at pages (with_name names name))
    name_read pages names name is grown =
        let within = grows-size (with_name names name) all grown in (
          indexed_read all name size
              (grows-has (with_name names name) all name grown (with_name-has names name)) is,
          record { counts = refl; fits = omega arith },
        )

    attr_by : (pages : Pages) (names : List (List ℕ)) (page : ℕ) (start : Token)
        (value : List Piece)
        → FitsStart IsString start → AllByRecursion (FitsPiece IsString) value
        → let attr : Attr = record { page = page; start = start; value = value } in
        Grows (with_attr names attr) all
        → IsAttribute in_table (state_at pages names) (attr_spelling all attr pages).0
        (attr, state_at (attr_spelling all attr pages).1 (with_attr names attr))
    unfolding ◌⨾◌ IsAttribute
    attr_by pages names page (Code code) value start pieces grown =
        let some : code ≢ 0 = λ e. absurd (omega (arith, start.0, e)) in
        let found = lead_read pages.attribute page code some in
        let lead : Lead = record { switched = found.0; page = page; byte = code } in
        let on : Pages = record pages { attribute = page } in
        let parts = each piece_spelling value on in
        let change = switch pages.attribute page in
        record {
          front = change ++ code ∷ [];
          rest = parts.0;
          spelled = sym (append_assoc change (code ∷ []) parts.0);
          a = lead;
          first = found.1;
          next = record {
            front = [];
            rest = parts.0;
            spelled = refl;
            a = (Code code, state_at on names);
            first =
                subst (λ (k : AttributeMark).
                IsStartBehind in_table (state_at on names) lead k [] (Code code, state_at on names))
                (sym (coded_mark lead start.0 start.1)) (refl, refl);
            next = record {
              a = (value, state_at parts.1 names);
              is = pieces_read on names value pieces;
              made = refl;
            };
          };
        }
    attr_by pages names page (Literal name) value start pieces grown =
        let found = lead_read pages.attribute page LITERAL (λ e. absurd (omega (arith, e))) in
        let lead : Lead = record { switched = found.0; page = page; byte = LITERAL } in
        let on : Pages = record pages { attribute = page } in
        let more = with_name names name in
        let parts = each piece_spelling value on in
        let change = switch pages.attribute page in
        let place = mb_spelling (place_of all name) in
        record {
          front = change ++ LITERAL ∷ [];
          rest = place ++ parts.0;
          spelled = sym (append_assoc change (LITERAL ∷ []) (place ++ parts.0));
          a = lead;
          first = found.1;
          next = record {
            front = place;
            rest = parts.0;
            spelled = refl;
            a = (Literal name, state_at on more);
            first =
                subst (λ (k : AttributeMark).
                IsStartBehind in_table (state_at on names) lead k place
                (Literal name, state_at on more))
                (sym (named_mark found.0 page))
                (record {
                  a = (name, state_at on more);
                  is = name_read on names name start grown;
                  made = refl;
                });
            next = record {
              a = (value, state_at parts.1 more);
              is = pieces_read on more value pieces;
              made = refl;
            };
          };
        }

    pub attr_read : (pages : Pages) (names : List (List ℕ)) (attr : Attr) → FitsAttr IsString attr
        → Grows (with_attr names attr) all
        → IsAttribute in_table (state_at pages names) (attr_spelling all attr pages).0
        (attr, state_at (attr_spelling all attr pages).1 (with_attr names attr))
    attr_read pages names attr fits grown =
        attr_by pages names attr.page attr.start attr.value fits.start fits.value grown
