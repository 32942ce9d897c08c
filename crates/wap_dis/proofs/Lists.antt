-- Lines for the things of a list, and for a function's code.
use Rattle.std.proofs.Common.{◌≡◌, ℕ, zero, suc, ◌+◌, ◌-◌, ◌<◌, ◌≤◌, Bool, cond}
use Rattle.std.proofs.Common.{List, [], ◌∷◌, ◌++◌, length, get_or, take, drop}
use Rattle.std.proofs.Common.{Option, refl, sym, ap, subst, ◌∙◌, arith}
use Rattle.std.specs.List.{flat_map, enumerate_from}
use Rattle.std.proofs.lemmas.Bool.{lt-ltb, le-ltb}
use Rattle.std.proofs.lemmas.List.{take_more, length-take-le, length-drop, get_or-drop}
use Rattle.wap_unit.specs.declared.row.Row.{Row}
use Rattle.wap_unit.specs.declared.instr.Instr.{Instr}
use Rattle.wap_dis.specs.Listing.{byte_line, whole_at, then_more, code_from}
use Rattle.wap_dis.specs.inside.Gathering.{State, Gathers}
use Rattle.wap_devices.specs.Sinks.{SinkSeen}
use Rattle.wap_devices.proofs.Putting.{flat_map-push}
use Rattle.wap_dis.proofs.Putting.{gathers_then}

enumerate-push : {A : Type 0} (k : ℕ) (xs : List A) (x : A)
    → enumerate_from k (xs ++ x ∷ []) ≡ enumerate_from k xs ++ (k + length xs, x) ∷ []
enumerate-push {A} k [] x = let same : k ≡ k + 0 = omega arith in ap (λ (n : ℕ). (n, x) ∷ []) same
enumerate-push {A} k (y ∷ xs) x =
    let same : k + 1 + length xs ≡ k + length (y ∷ xs) = omega arith in
    ap (λ (l : List (ℕ × A)). (k, y) ∷ l)
    (enumerate-push (k + 1) xs x ∙ ap (λ (n : ℕ). enumerate_from (k + 1) xs ++ (n, x) ∷ []) same)

module _ (a b c : SinkSeen) (p q r : State) where
  -- one thing more of a list, with its place
  pub puts_placed : {A : Type 0} (f : ℕ × A → List ℕ) (start : ℕ) (xs : List A) (i place : ℕ)
      (x : A) → i < length xs → take (i + 1) xs ≡ take i xs ++ x ∷ [] → start + i ≡ place
      → Gathers a b p q (flat_map f (enumerate_from start (take i xs)))
      → Gathers b c q r (f (place, x))
      → Gathers a c p r (flat_map f (enumerate_from start (take (i + 1) xs)))
  puts_placed {A} f start xs i place x within longer here before now =
      let count : length (take i xs) ≡ i = length-take-le i xs (omega arith) in
      let at : start + length (take i xs) ≡ place = omega arith in
      let all : enumerate_from start (take (i + 1) xs)
      ≡ enumerate_from start (take i xs) ++ (place, x) ∷ [] =
      ap (enumerate_from start) longer ∙ enumerate-push start (take i xs) x
      ∙ ap (λ (k : ℕ). enumerate_from start (take i xs) ++ (k, x) ∷ []) at in
      subst (Gathers a c p r)
      (sym (ap (flat_map f) all ∙ flat_map-push f (enumerate_from start (take i xs)) (place, x)))
      (gathers_then a b c p q r (flat_map f (enumerate_from start (take i xs)))
      (f (place, x)) before now)

  pub puts_indexed : {A : Type 0} (d : A) (f : ℕ × A → List ℕ) (xs : List A) (i : ℕ) (x : A)
      → i < length xs → x ≡ get_or xs i d
      → Gathers a b p q (flat_map f (enumerate_from 0 (take i xs))) → Gathers b c q r (f (i, x))
      → Gathers a c p r (flat_map f (enumerate_from 0 (take (i + 1) xs)))
  puts_indexed {A} d f xs i x within is before now =
      puts_placed f 0 xs i i x within (take_more xs i d within
      ∙ ap (λ (y : A). take i xs ++ y ∷ []) (sym is)) (omega arith) before now

  -- one byte more from a place on
  pub puts_byte : (code : List ℕ) (at place : ℕ) → at ≤ place → place < length code
      → Gathers a b p q (flat_map byte_line (enumerate_from at (take (place - at) (drop at code))))
      → Gathers b c q r (byte_line (place, get_or code place 0))
      → Gathers a c p r
      (flat_map byte_line (enumerate_from at (take (place + 1 - at) (drop at code))))
  puts_byte code at place behind within before now =
      let i : ℕ = place - at in
      let inside : i < length (drop at code) = omega (arith, length-drop at code) in
      let one_more : place + 1 - at ≡ i + 1 = omega arith in
      let there : at + i ≡ place = omega arith in
      let byte : get_or (drop at code) i 0 ≡ get_or code place 0 =
      get_or-drop at code i 0 ∙ ap (λ (k : ℕ). get_or code k 0) there in
      subst
      (λ (k : ℕ). Gathers a c p r (flat_map byte_line (enumerate_from at (take k (drop at code)))))
      (sym one_more)
      (puts_placed byte_line at (drop at code) i place (get_or code place 0) inside
      (take_more (drop at code) i 0 inside ∙ ap (λ (y : ℕ). take i (drop at code) ++ y ∷ []) byte)
      there before now)

-- ---- code

pub code_step : (left : ℕ) (code : List ℕ) (at : ℕ) (found : Option (Row × Instr))
    → at < length code → whole_at code at ≡ found
    → code_from (suc left) code at ≡ then_more code at (code_from left code) found
unfolding code_from
code_step left code at found within is =
    ap (λ (b : Bool). cond b (then_more code at (code_from left code) (whole_at code at)) [])
    (lt-ltb at (length code) within)
    ∙ ap (then_more code at (code_from left code)) is

pub code_end : (left : ℕ) (code : List ℕ) (at : ℕ) → length code ≤ at → code_from left code at ≡ []
unfolding code_from
code_end zero code at past = refl
code_end (suc left) code at past =
    ap (λ (b : Bool). cond b (then_more code at (code_from left code) (whole_at code at)) [])
    (le-ltb at (length code) past)

pub code_none : (code : List ℕ) (at : ℕ) → code_from 0 code at ≡ []
unfolding code_from
code_none code at = refl
