-- Reading a multi-byte integer byte by byte, as a loop does.
use Rattle.std.proofs.Common.{◌≡◌, ℕ, suc, ◌+◌, ◌*◌, ◌-◌, ◌%◌, ◌^◌, ◌<◌, ◌≤◌, cond}
use Rattle.std.proofs.Common.{ltb, List, length, drop, get_or, Result, Ok, Err}
use Rattle.std.proofs.Common.{refl, sym, ap, ◌∙◌, add-one, arith}
use Rattle.std.proofs.Math.Seq.{drop-cons, drop-length}
use Rattle.std.proofs.lemmas.Bool.{lt-ltb, le-ltb}
use Rattle.wap_base.specs.declared.number.ReadFault.{ReadFault}
use Rattle.wap_base.specs.declared.number.ReadFault.TheVariants.{Short, TooLong}
use Rattle.wap_base.specs.Numbers.{mb_after}

abbrev Reading : Type 0
Reading = Result (ℕ × ℕ) ReadFault

-- one byte further
step : (input : List ℕ) (start allowed before place : ℕ) → place < length input
    → let value = 128 * before + get_or input place 0 % 128 in
    mb_after start (length input) (suc allowed) before place (drop place input)
    ≡ cond (ltb value (2 ^ 32)) (cond (ltb (get_or input place 0) 128) (Ok (value, place + 1))
    (mb_after start (length input) allowed value (place + 1) (drop (place + 1) input)))
    (Err (TooLong start))
step input start allowed before place within = rw (drop-cons input place 0 within, add-one) refl

pub ends_short : (input : List ℕ) (start counter before place : ℕ) (whole : Reading) → counter < 5
    → place ≡ length input
    → mb_after start (length input) (5 - counter) before place (drop place input) ≡ whole
    → whole ≡ Err (Short (length input))
ends_short input start counter before place whole turns at_end so_far =
    let left : 5 - counter ≡ suc (4 - counter) = omega arith in
    sym so_far ∙ rw (left, at_end, drop-length input) refl

pub goes_on : (input : List ℕ) (start counter before place byte : ℕ) (whole : Reading) → counter < 5
    → place < length input → before ≤ 33554431 → byte ≡ get_or input place 0 → 128 ≤ byte
    → mb_after start (length input) (5 - counter) before place (drop place input) ≡ whole
    → mb_after start (length input) (5 - (counter + 1)) (before * 128 + byte % 128) (place + 1)
    (drop (place + 1) input)
    ≡ whole
goes_on input start counter before place byte whole turns within fits byte_is carries so_far =
    let left : 5 - counter ≡ suc (5 - (counter + 1)) = omega arith in
    let small : 128 * before + get_or input place 0 % 128 < 2 ^ 32 = omega arith in
    let more : 128 ≤ get_or input place 0 = omega arith in
    let value_is : 128 * before + get_or input place 0 % 128 ≡ before * 128 + byte % 128 =
    omega (arith, ap (λ (b : ℕ). b % 128) byte_is) in
    let one : mb_after start (length input) (5 - counter) before place (drop place input)
    ≡ mb_after start (length input) (5 - (counter + 1)) (before * 128 + byte % 128) (place + 1)
    (drop (place + 1) input) =
    rw left (step input start (5 - (counter + 1)) before place within
    ∙ rw (lt-ltb _ _ small, le-ltb _ _ more, value_is) refl) in
    sym one ∙ so_far
