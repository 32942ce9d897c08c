-- Which results are kept.
use Rattle.std.proofs.Common.{◌≡◌, ℕ, ◌+◌, ◌<◌, ◌≤◌, ℤ, List, ◌++◌, length, Option, Some, None}
use Rattle.std.proofs.Common.{Ok, Err, refl, ap, ◌∙◌, arith}
use Rattle.std.specs.Prelude.{encode_utf8_all, nat_lt}
use Rattle.std.proofs.lemmas.Bool.{cond-true, cond-false, lt-ltb, le-ltb}
use Rattle.wap_value.specs.declared.value.Value.TheVariants.{Str}
use Rattle.wap_value.specs.declared.fault.ValueFault.TheVariants.{TooLong}
use Rattle.wap_value.specs.declared.operator.BinOp.{BinOp}
use Rattle.wap_value.specs.Conversion.{integer_value}
use Rattle.wap_value.specs.Arithmetic.{integer_result_of}
use Rattle.wap_value.specs.Binary.{on_integers}
use Rattle.wap_value.specs.TooLong.{kept_within}
use Rattle.wap_base.specs.Utf8.{utf8_len}
use Rattle.wap_base.proofs.Utf8Lengths.{length-encode_utf8_all, utf8_len-append}

-- the bytes of two texts together
pub joined_len : (cs ds bytes others : List ℕ) → bytes ≡ encode_utf8_all cs
    → others ≡ encode_utf8_all ds → utf8_len (cs ++ ds) ≡ length bytes + length others
joined_len cs ds bytes others left right =
    let first : length bytes ≡ utf8_len cs = ap length left ∙ length-encode_utf8_all cs in
    let second : length others ≡ utf8_len ds = ap length right ∙ length-encode_utf8_all ds in
    omega (arith, utf8_len-append cs ds)

pub long_is_refused : (limit bytes : ℕ) (text : List ℕ) → utf8_len text ≡ bytes → limit < bytes
    → kept_within limit (Str text) ≡ Err (TooLong bytes)
long_is_refused limit bytes text is past =
    rw is
    (cond-true (nat_lt limit bytes) (Err (TooLong bytes)) (Ok (Str text)) (lt-ltb limit bytes past))

pub short_is_kept : (limit bytes : ℕ) (text : List ℕ) → utf8_len text ≡ bytes → bytes ≤ limit
    → kept_within limit (Str text) ≡ Ok (Str text)
short_is_kept limit bytes text is within =
    rw is (cond-false (nat_lt limit bytes) (Err (TooLong bytes)) (Ok (Str text))
    (le-ltb limit bytes within))

-- what is no String is kept
pub integer_is_kept : (limit : ℕ) (n : Option ℤ)
    → kept_within limit (integer_value n) ≡ Ok (integer_value n)
integer_is_kept limit (Some z) = refl
integer_is_kept limit None = refl

pub on_integers_is_kept : (limit : ℕ) (op : BinOp) (x y : Option ℤ)
    → kept_within limit (on_integers op x y) ≡ Ok (on_integers op x y)
on_integers_is_kept limit op (Some x) (Some y) = integer_is_kept limit (integer_result_of op x y)
on_integers_is_kept limit op (Some x) None = refl
on_integers_is_kept limit op None y = refl
