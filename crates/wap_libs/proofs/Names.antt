-- What bytes spell.
use Rattle.std.proofs.Common.{◌≡◌, List, ℕ, Some, None, Result, Ok, Err, refl, inl, inr}
use Rattle.std.specs.Prelude.{is_some, is_ok}
use Rattle.std.specs.Result.{result_ok}
use Rattle.std.specs.Str.{chars, is_utf8, IsUtf8}
use Rattle.std.proofs.lemmas.Bool.{cond-true, cond-false, cases_Bool}
use Rattle.std.proofs.lemmas.Str.{is_utf8-from_IsUtf8, IsUtf8-from_is_utf8}
use Rattle.wap_libs.specs.Url.{text_of_bytes}

pub is_some_of_ok : {A E : Type 0} (r : Result A E) → is_some (result_ok r) ≡ is_ok r
is_some_of_ok (Ok x) = refl
is_some_of_ok (Err e) = refl

pub text_of_utf8 : (bytes : List ℕ) → IsUtf8 bytes → text_of_bytes bytes ≡ Some (chars bytes)
text_of_utf8 bytes spelled =
    cond-true (is_utf8 bytes) (Some (chars bytes)) None (is_utf8-from_IsUtf8 bytes spelled)

pub text_of_no_utf8 : (bytes : List ℕ) → (IsUtf8 bytes → ⊥) → text_of_bytes bytes ≡ None
text_of_no_utf8 bytes never = elim (cases_Bool (is_utf8 bytes)) [
  | inl is ↦ absurd (never (IsUtf8-from_is_utf8 bytes is))
  | inr is_none ↦ cond-false (is_utf8 bytes) (Some (chars bytes)) None is_none
]
