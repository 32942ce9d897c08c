-- Bytes that stand for one item of an image after another, as those of all formats do. This
-- project's own.
pub use Rattle.wap_base.specs.formats.Sequences.{IsByte, AreBytes, Passing, Made, MadeIf}
