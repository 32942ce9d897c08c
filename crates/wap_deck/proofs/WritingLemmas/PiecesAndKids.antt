-- Parts are written as the pieces of a value and as the kids of an element.
use Rattle.std.proofs.Common.{◌≡◌, ℕ, List, [], ◌∷◌, map, Option, Some}
use Rattle.std.proofs.Common.{None, refl, sym, ap, ap₂, ◌∙◌}
use Rattle.std.specs.List.{flat_map}
use Rattle.wap_base.specs.declared.name.Part.{Part}
use Rattle.wap_base.specs.declared.name.Part.TheVariants.{Lit, Var}
use Rattle.wap_tokens.specs.declared.markup.document.Element.{Element}
use Rattle.wap_tokens.specs.declared.markup.document.Piece.TheVariants as piece
use Rattle.wap_tokens.specs.declared.markup.document.Kid.{Kid, out-Kid}
use Rattle.wap_tokens.specs.declared.markup.document.Kid.TheOpen.{Kid-F}
use Rattle.wap_tokens.specs.declared.markup.document.Kid.TheVariants as kid
use Rattle.wap_tokens.specs.markup.Writing.{runs_of, run_piece, run_kid, part_pieces, part_kids}
use Rattle.wap_wbxml.specs.declared.spelling.output.Output.{Output}
use Rattle.wap_wbxml.specs.spelling.Writings.{Writing, ◌⨾◌, each}
use Rattle.wap_wbxml.specs.spelling.Names.{KidLevel}
use Rattle.wap_wbxml.specs.spelling.Spelling.{piece_spelling, opened_spelling, kid_spelling}
use Rattle.wap_wbxml.specs.spelling.Written.{written}
use Rattle.wap_deck.specs.writing.inside.WrittenTexts.{run_spelling, part_spelling}
use Rattle.wap_deck.proofs.WritingLemmas.Lists.{each_one, each_flat}

-- ---- pieces

run_pieces : (runs : List (Option (List ℕ)))
    → each run_spelling runs ≡ each piece_spelling (map run_piece runs)
unfolding each
run_pieces [] = refl
run_pieces (None ∷ runs) = ap (λ (w : Writing). run_spelling None ⨾ w) (run_pieces runs)
run_pieces (Some text ∷ runs) = ap (λ (w : Writing). run_spelling (Some text) ⨾ w) (run_pieces runs)

one_pieces : (part : Part) (output : Output)
    → written (part_spelling part) output ≡ written (each piece_spelling (part_pieces part)) output
one_pieces (Lit text) output = ap (λ (w : Writing). written w output) (run_pieces (runs_of text))
one_pieces (Var name conv) output = each_one piece_spelling (piece.Var name conv) output

pub parts_pieces : (parts : List Part) (output : Output)
    → written (each part_spelling parts) output
    ≡ written (each piece_spelling (flat_map part_pieces parts)) output
parts_pieces parts output =
    each_flat piece_spelling part_pieces part_spelling one_pieces parts output

-- ---- kids

module _ (names : List (List ℕ)) (inner : Element → Writing) where
  pub opened : (one : Kid) (level : KidLevel) → out-Kid one ≡ level
      → opened_spelling names inner level ≡ kid_spelling names inner one
  opened one level is = ap (opened_spelling names inner) (sym is)

  run_kids : (runs : List (Option (List ℕ)))
      → each run_spelling runs ≡ each (kid_spelling names inner) (map run_kid runs)
  unfolding each
  run_kids [] = refl
  run_kids (None ∷ runs) =
      ap₂ (λ (a b : Writing). a ⨾ b)
      (opened (kid.Entity 0) (Kid-F.Entity 0) (kid.outs-Entity 0)) (run_kids runs)
  run_kids (Some text ∷ runs) =
      ap₂ (λ (a b : Writing). a ⨾ b)
      (opened (kid.Str text) (Kid-F.Str text) (kid.outs-Str text)) (run_kids runs)

  one_kids : (part : Part) (output : Output)
      → written (part_spelling part) output
      ≡ written (each (kid_spelling names inner) (part_kids part)) output
  one_kids (Lit text) output = ap (λ (w : Writing). written w output) (run_kids (runs_of text))
  one_kids (Var name conv) output =
      ap (λ (w : Writing). written w output)
      (opened (kid.Var name conv) (Kid-F.Var name conv) (kid.outs-Var name conv))
      ∙ each_one (kid_spelling names inner) (kid.Var name conv) output

  pub parts_kids : (parts : List Part) (output : Output)
      → written (each part_spelling parts) output
      ≡ written (each (kid_spelling names inner) (flat_map part_kids parts)) output
  parts_kids parts output =
      each_flat (kid_spelling names inner) part_kids part_spelling one_kids parts output
