-- However the texts of a flow are cut, its pieces are the same.
use Rattle.std.proofs.Common.{◌≡◌, ℕ, List, [], ◌∷◌, ◌++◌, false, true}
use Rattle.std.proofs.Common.{refl, sym, ap, ◌∙◌, append_assoc}
use Rattle.std.specs.List.{flat_map}
use Rattle.std.proofs.lemmas.List.{append-nil}
use Rattle.wap_layout.specs.declared.flow.Flow.{Flow}
use Rattle.wap_layout.specs.declared.flow.Flow.TheVariants.{Words, Hard, Soft, Wrap, NoWrap, Pre}
use Rattle.wap_layout.specs.declared.flow.Mode.{Mode}
use Rattle.wap_layout.specs.declared.flow.Mode.TheVariants.{Wrapped, Unwrapped, Preformatted}
use Rattle.wap_layout.specs.Pieces.{ended, pieces, pieces_of, text_before, merged}
use Rattle.wap_layout.specs.Calculation.{piece_lines, lines_of}

pieces-text_before : (mode : Mode) (begun text : List ℕ) (flow : List Flow)
    → pieces mode begun (text_before text flow) ≡ pieces mode (begun ++ text) flow
pieces-text_before mode begun [] flow = ap (λ t. pieces mode t flow) (sym (append-nil begun))
pieces-text_before mode begun (c ∷ text) [] = refl
pieces-text_before mode begun (c ∷ text) (Words more ∷ flow) =
    ap (λ t. pieces mode t flow) (sym (append_assoc begun (c ∷ text) more))
pieces-text_before mode begun (c ∷ text) (_ ∷ flow) = refl

pieces-merged : (mode : Mode) (begun : List ℕ) (flow : List Flow)
    → pieces mode begun (merged flow) ≡ pieces mode begun flow
pieces-merged mode begun [] = refl
pieces-merged mode begun (Words text ∷ flow) =
    pieces-text_before mode begun text (merged flow) ∙ pieces-merged mode (begun ++ text) flow
pieces-merged mode begun (Hard ∷ flow) =
    ap (λ ps. ended mode begun true ++ ps) (pieces-merged mode [] flow)
pieces-merged mode begun (Soft ∷ flow) =
    ap (λ ps. ended mode begun false ++ ps) (pieces-merged mode [] flow)
pieces-merged mode begun (Wrap ∷ flow) =
    ap (λ ps. ended mode begun false ++ ps) (pieces-merged Wrapped [] flow)
pieces-merged mode begun (NoWrap ∷ flow) =
    ap (λ ps. ended mode begun false ++ ps) (pieces-merged Unwrapped [] flow)
pieces-merged mode begun (Pre ∷ flow) =
    ap (λ ps. ended mode begun false ++ ps) (pieces-merged Preformatted [] flow)

pub pieces_law : (flow : List Flow) → pieces_of (merged flow) ≡ pieces_of flow
pieces_law flow = pieces-merged Wrapped [] flow

pub lines_law : (width : ℕ) (flow : List Flow) → lines_of width (merged flow) ≡ lines_of width flow
lines_law width flow = ap (flat_map (piece_lines width)) (pieces_law flow)
