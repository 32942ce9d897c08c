-- The pieces of a flow, by its breaks and modes (WAP-191, section 11.8).
use Rattle.std.specs.Prelude.{ℕ, Bool, true, false, List, [], ◌∷◌, ◌++◌}
use Rattle.std.specs.List.{slice_split}
use Rattle.wap_layout.specs.declared.flow.Flow.{Flow}
use Rattle.wap_layout.specs.declared.flow.Flow.TheVariants.{Words, Hard, Soft, Wrap, NoWrap, Pre}
use Rattle.wap_layout.specs.declared.flow.Mode.{Mode}
use Rattle.wap_layout.specs.declared.flow.Mode.TheVariants.{Wrapped, Unwrapped, Preformatted}
use Rattle.wap_layout.specs.Blanks.{is_line_feed}

-- a text between two breaks, its mode, and whether a hard break ends it
pub record Piece : Type 0 where
  pub mode : Mode
  pub text : List ℕ
  pub is_hard : Bool

-- the lines of a preformatted text, of which each but the last ends in a hard break
abbrev pub kept : List (List ℕ) → Bool → List Piece
kept [] hard = []
kept (text ∷ []) hard = record { mode = Preformatted; text = text; is_hard = hard } ∷ []
kept (text ∷ next ∷ rest) hard =
    record { mode = Preformatted; text = text; is_hard = true } ∷ kept (next ∷ rest) hard

-- a text that ends: in a preformatted one a line feed is a hard break
abbrev pub ended : Mode → List ℕ → Bool → List Piece
ended Preformatted text hard = kept (slice_split is_line_feed text) hard
ended mode text hard = record { mode = mode; text = text; is_hard = hard } ∷ []

-- the pieces of a flow after a text that has not ended yet
abbrev pub pieces : Mode → List ℕ → List Flow → List Piece
pieces mode text [] = ended mode text false
pieces mode text (Words more ∷ flow) = pieces mode (text ++ more) flow
pieces mode text (Hard ∷ flow) = ended mode text true ++ pieces mode [] flow
pieces mode text (Soft ∷ flow) = ended mode text false ++ pieces mode [] flow
pieces mode text (Wrap ∷ flow) = ended mode text false ++ pieces Wrapped [] flow
pieces mode text (NoWrap ∷ flow) = ended mode text false ++ pieces Unwrapped [] flow
pieces mode text (Pre ∷ flow) = ended mode text false ++ pieces Preformatted [] flow

-- the pieces of a flow, which is wrapped at first
abbrev pub pieces_of : List Flow → List Piece
pieces_of flow = pieces Wrapped [] flow

-- all the text of a flow
abbrev pub text_of : List Flow → List ℕ
text_of [] = []
text_of (Words text ∷ flow) = text ++ text_of flow
text_of (_ ∷ flow) = text_of flow

-- a text before a flow, joined to the text that the flow begins with
abbrev pub text_before : List ℕ → List Flow → List Flow
text_before [] flow = flow
text_before (c ∷ text) [] = Words (c ∷ text) ∷ []
text_before (c ∷ text) (Words more ∷ flow) = Words ((c ∷ text) ++ more) ∷ flow
text_before (c ∷ text) (other ∷ flow) = Words (c ∷ text) ∷ other ∷ flow

-- The same flow with neighbouring texts as one, and no empty text: what a flow says whichever way
-- its texts are cut.
abbrev pub merged : List Flow → List Flow
merged [] = []
merged (Words text ∷ flow) = text_before text (merged flow)
merged (other ∷ flow) = other ∷ merged flow
