use Rattle.std.proofs.Common.{◌≡◌, ℕ, ◌<◌, length, slice_index_or, IsOk}
use Rattle.std.specs.List.{flat_map}
use Rattle.wap_folder.specs.Pieces.{piece_items}
use Rattle.wap_folder.proofs.pieces.join.Given as goal

abbrev pub invariant-loop-piece : goal.invariant-loop-piece
invariant-loop-piece g l = record {
  items : l.all.items ≡ flat_map piece_items l.yielded;
  each : (k : ℕ) (d : _) → k < length l.yielded → IsOk (slice_index_or l.yielded k d);
}
