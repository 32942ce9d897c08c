use Rattle.std.proofs.Common.{◌<◌, List, ◌++◌, length, sym, ap, ◌∙◌, rules}
use Rattle.std.specs.Prelude.{option_map}
use Rattle.wap_libs.specs.declared.piece.Piece.{Piece}
use Rattle.wap_libs.specs.FormatReading.{pieces_of}
use Rattle.wap_libs.proofs.TextsLemmas.FormatPieces.{next-less, next-push, next-None}
use Rattle.wap_libs.proofs.texts.pieces.pieces_of.Goals as goal

pub loop-rest-smaller : goal.loop-rest-smaller
loop-rest-smaller c =
    let some : 0 < length c.loop-rest.rest.now = search rules in
    next-less c.loop-rest.rest.now c.in-Some.behind.now c.in-Some.piece some c.in-Some.ensures

pub loop-rest-preserved : goal.loop-rest-preserved
loop-rest-preserved c =
    let some : 0 < length c.loop-rest.rest.now = search rules in
    ap
    (λ (pieces : List Piece). option_map (λ more. pieces ++ more) (pieces_of c.in-Some.behind.now))
    c.in_ok-add-in-Some.ensures.ok
    ∙ next-push c.loop-rest.pieces c.loop-rest.rest.now c.in-Some.behind.now c.in-Some.piece some
    c.in-Some.ensures
    ∙ c.loop-rest.invariant

pub returns-in-None : goal.returns-in-None
returns-in-None c =
    let some : 0 < length c.loop-rest.rest.now = search rules in
    sym (next-None c.loop-rest.pieces c.loop-rest.rest.now some c.in-None.ensures)
    ∙ c.loop-rest.invariant
