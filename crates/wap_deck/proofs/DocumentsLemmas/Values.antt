-- A value that is written as pieces is read again.
use Rattle.std.proofs.Common.{◌≡◌, ℕ, ◌<◌, length, arith, cond, List, [], ◌∷◌, ◌++◌}
use Rattle.std.proofs.Common.{map, Option, Some, None, refl, ap, ◌∙◌}
use Rattle.std.specs.List.{filter_map, flat_map, cons_option, AllByRecursion}
use Rattle.std.specs.Option.{option_map}
use Rattle.std.proofs.lemmas.List.Elements.{filter_map-append}
use Rattle.wap_base.specs.declared.name.Part.{Part}
use Rattle.wap_base.specs.declared.name.Part.TheVariants.{Lit, Var}
use Rattle.wap_tokens.specs.declared.markup.document.Piece.{Piece}
use Rattle.wap_tokens.specs.declared.markup.document.Attr.{Attr}
use Rattle.wap_tokens.specs.declared.markup.name.AttrName.{AttrName}
use Rattle.wap_tokens.specs.markup.Tables.{Start, code_of_start}
use Rattle.wap_tokens.specs.markup.Decks.{literal, before, joined, piece_part}
use Rattle.wap_tokens.specs.markup.Decks.{value_after, attribute_from, attribute}
use Rattle.wap_tokens.specs.markup.Normal.{IsPart, IsValue, IsAttribute}
use Rattle.wap_tokens.specs.markup.Writing.{runs_of, run_piece, part_pieces, coded_attr}
use Rattle.wap_tokens.specs.markup.Writing.{attr_without, whole_code, attr_with, attr_of}
use Rattle.wap_tokens.proofs.AttributeTable as table
use Rattle.wap_deck.proofs.DocumentsLemmas.Strings.{run_part, put_by, put_runs, before-joins}

joined-append : (parts more : List Part)
    → joined (parts ++ more) ≡ put_by before parts (joined more)
joined-append [] more = refl
joined-append (first ∷ parts) more = ap (before first) (joined-append parts more)

run_pieces_read : (runs : List (Option (List ℕ)))
    → filter_map piece_part (map run_piece runs) ≡ filter_map run_part runs
run_pieces_read [] = refl
run_pieces_read (None ∷ runs) = ap (cons_option (run_part None)) (run_pieces_read runs)
run_pieces_read (Some text ∷ runs) = ap (cons_option (literal text)) (run_pieces_read runs)

-- one part
part_read : (one : Part) → IsPart one → (rest : List Part)
    → put_by before (filter_map piece_part (part_pieces one)) rest ≡ before one rest
part_read (Lit []) some rest = absurd (some refl)
part_read (Lit (c ∷ cs)) some rest =
    ap (λ parts. put_by before parts rest) (run_pieces_read (runs_of (c ∷ cs)))
    ∙ put_runs before before-joins c cs rest
part_read (Var name conv) named rest =
    ap (λ b. put_by before (cons_option (cond b (Some (Var name conv)) None) []) rest) named

parts_read : (parts : List Part) → AllByRecursion IsPart parts
    → joined (filter_map piece_part (flat_map part_pieces parts)) ≡ joined parts
parts_read [] each = refl
parts_read (one ∷ parts) each =
    let rest = flat_map part_pieces parts in
    ap joined (filter_map-append piece_part (part_pieces one) rest)
    ∙ joined-append (filter_map piece_part (part_pieces one)) (filter_map piece_part rest) ∙
    part_read one each.0 (joined (filter_map piece_part rest))
    ∙ ap (before one) (parts_read parts each.1)

pub value_read : (parts : List Part) → IsValue parts
    → joined (filter_map piece_part (flat_map part_pieces parts)) ≡ parts
value_read parts is = parts_read parts is.each ∙ is.together

-- ---- attributes

abbrev Reads : Attr → AttrName → List Part → Type 0
Reads attr name parts = attribute attr ≡ Some (name, parts)

coded_read : (code : ℕ) (start : Start) (value : List Piece) (parts : List Part)
    → code_of_start start ≡ Some code → value_after start.1 value ≡ parts
    → Reads (coded_attr code value) start.0 parts
coded_read code start value parts found so =
    ap (λ begun. attribute_from begun value) (table.code start code found)
    ∙ ap (λ parts. Some (start.0, parts)) so

named_read : (name : AttrName) (value : List Piece) (parts : List Part)
    → value_after [] value ≡ parts → Reads (attr_without None name value) name parts
named_read name value parts so =
    ap (λ known. attribute_from (option_map (λ attr. (attr, [])) known) value) (table.named name)
    ∙ ap (λ parts. Some (name, parts)) so

-- a value that has a code is one literal
whole_read : (code : ℕ) (name : AttrName) (parts : List Part) → IsValue parts
    → code_of_start (name, []) ≡ None → whole_code name parts ≡ Some code
    → Reads (coded_attr code []) name parts
whole_read code attr [] is none found = absurd (cc (none, found))
whole_read code attr (Lit [] ∷ []) is none found = absurd (is.each.0 refl)
whole_read code attr (Lit (c ∷ cs) ∷ []) is none found =
    coded_read code (attr, c ∷ cs) [] (Lit (c ∷ cs) ∷ []) found refl
whole_read code attr (Lit text ∷ second ∷ parts) is none found = absurd (cc found)
whole_read code attr (Var other conv ∷ parts) is none found = absurd (cc found)

-- an empty value has the code of the attribute alone
pub whole_code-none : (name : AttrName) (parts : List Part) → length parts < 1
    → code_of_start (name, []) ≡ whole_code name parts
whole_code-none attr [] none = refl
whole_code-none attr (one ∷ parts) none = absurd (omega arith)

without_read : (found : Option ℕ) (name : AttrName) (parts : List Part) → IsValue parts
    → code_of_start (name, []) ≡ None → whole_code name parts ≡ found
    → Reads (attr_without found name (flat_map part_pieces parts)) name parts
without_read (Some code) name parts is none found = whole_read code name parts is none found
without_read None name parts is none found =
    named_read name (flat_map part_pieces parts) parts (value_read parts is)

with_read : (found : Option ℕ) (name : AttrName) (parts : List Part) → IsValue parts
    → code_of_start (name, []) ≡ found → Reads (attr_with found name parts) name parts
with_read (Some code) name parts is found =
    coded_read code (name, []) (flat_map part_pieces parts) parts found (value_read parts is)
with_read None name parts is none = without_read (whole_code name parts) name parts is none refl

pub attribute_read : (one : AttrName × List Part) → IsAttribute one
    → attribute (attr_of one) ≡ Some one
attribute_read one is = with_read (code_of_start (one.0, [])) one.0 one.1 is refl

pub attributes_read : (attributes : List (AttrName × List Part))
    → AllByRecursion IsAttribute attributes
    → filter_map attribute (map attr_of attributes) ≡ attributes
attributes_read [] each = refl
attributes_read (one ∷ attributes) each =
    ap (λ first. cons_option first (filter_map attribute (map attr_of attributes)))
    (attribute_read one each.0)
    ∙ ap (λ rest. one ∷ rest) (attributes_read attributes each.1)
