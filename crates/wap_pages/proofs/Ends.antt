-- A text ends in characters of US-ASCII where its UTF-8 does.
use Rattle.std.proofs.Common.{◌≡◌, ℕ, ◌-◌, ◌<◌, ◌⊎◌, Bool, true, false, eqb, List, [], ◌∷◌}
use Rattle.std.proofs.Common.{◌++◌, length, take, drop, refl, sym, ap, subst, ◌∙◌, inl, inr}
use Rattle.std.proofs.Common.{encode_utf8, encode_utf8_all, append_assoc, arith}
use Rattle.std.specs.List.{ends_with}
use Rattle.std.specs.Cmp.Lexicographic.{bytes_decides}
use Rattle.std.proofs.lemmas.Bool.{cases_lt}
use Rattle.std.proofs.lemmas.List.{length-append, take-append-drop}
use Rattle.std.proofs.lemmas.Str.{encode_ascii}
use Rattle.std.proofs.Math.Seq.{drop-append_seam}
use Rattle.wap_base.proofs.Utf8Cuts.{AllHigh, high_bytes, encode_some}
use Rattle.wap_pages.specs.Judged.{has_end}

-- ---- lists that end in others

pub ends_so : (front end : List ℕ) → ends_with eqb (front ++ end) end ≡ true
ends_so front end =
    let long : length (front ++ end) - length end ≡ length front =
    omega (arith, length-append front end) in
    let same : drop (length (front ++ end) - length end) (front ++ end) ≡ end =
    ap (λ (n : ℕ). drop n (front ++ end)) long ∙ drop-append_seam front end in
    (bytes_decides end (drop (length (front ++ end) - length end) (front ++ end))).1 (sym same)

pub front_of : (list end : List ℕ) → ends_with eqb list end ≡ true
    → (front : List ℕ) × (list ≡ front ++ end)
front_of list end ends =
    let at = length list - length end in
    let same : end ≡ drop at list = (bytes_decides end (drop at list)).0 ends in (
      take at list,
      sym (take-append-drop at list) ∙ ap (λ (l : List ℕ). take at list ++ l) (sym same),
    )

-- where two lists in a row are two others, one of the first ones is a prefix of the other
abbrev Cut : List ℕ → List ℕ → List ℕ → List ℕ → Type 0
Cut a b c d =
    ((rest : List ℕ) × (c ≡ a ++ rest) × (b ≡ rest ++ d))
    ⊎ ((rest : List ℕ) × (a ≡ c ++ rest) × (d ≡ rest ++ b))

cut : (a b c d : List ℕ) → a ++ b ≡ c ++ d → Cut a b c d
cut [] b c d is = inl (c, refl, is)
cut (x ∷ a) b [] d is = inr (x ∷ a, refl, sym is)
cut (x ∷ a) b (y ∷ c) d is = onward (cut a b c d rest)
  where
    head : x ≡ y
    head = cc

    rest : a ++ b ≡ c ++ d
    rest = cc

    onward : Cut a b c d → Cut (x ∷ a) b (y ∷ c) d
    onward (inl one) = inl (
      one.0,
      ap (λ (l : List ℕ). y ∷ l) one.1 ∙ ap (λ (h : ℕ). h ∷ (a ++ one.0)) (sym head),
      one.2,
    )
    onward (inr one) =
        inr (one.0, ap (λ (l : List ℕ). x ∷ l) one.1 ∙ ap (λ (h : ℕ). h ∷ (c ++ one.0)) head, one.2)

-- ---- texts

abbrev AllLow : List ℕ → Type 0
AllLow [] = Unit {0}
AllLow (b ∷ bs) = (b < 128) × AllLow bs

encodes-append : (a b : List ℕ) → encode_utf8_all (a ++ b) ≡ encode_utf8_all a ++ encode_utf8_all b
encodes-append [] b = refl
encodes-append (c ∷ a) b =
    ap (λ (l : List ℕ). encode_utf8 c ++ l) (encodes-append a b)
    ∙ sym (append_assoc (encode_utf8 c) (encode_utf8_all a) (encode_utf8_all b))

encodes-low : (end : List ℕ) → AllLow end → encode_utf8_all end ≡ end
encodes-low [] low = refl
encodes-low (c ∷ cs) low =
    ap (λ (l : List ℕ). l ++ encode_utf8_all cs) (encode_ascii c low.0)
    ∙ ap (λ (l : List ℕ). c ∷ l) (encodes-low cs low.1)

not_high : (front : List ℕ) (b : ℕ) (rest : List ℕ) → b < 128 → AllHigh (front ++ b ∷ rest) → ⊥
not_high [] b rest low high = let at = high.0 in omega arith
not_high (c ∷ front) b rest low high = not_high front b rest low high.1

-- a text whose UTF-8 is one character and more, and ends in these
abbrev Ends : List ℕ → List ℕ → Type 0
Ends name end = (front : List ℕ) × (name ≡ front ++ end)

-- the characters of these bytes of US-ASCII
same_low : (name end : List ℕ) → AllLow end → encode_utf8_all name ≡ end → name ≡ end
same_low [] [] low is = refl
same_low [] (b ∷ end) low is = absurd cc
same_low (c ∷ name) end low is = elim (cases_lt c 128) [
  | inl ascii ↦
      of_low (λ rest below same. same_low name rest below same) end low
      (sym (ap (λ (l : List ℕ). l ++ encode_utf8_all name) (encode_ascii c ascii)) ∙ is)
  | inr high ↦ absurd (of_high (encode_utf8 c) (high_bytes c high) (encode_some c) end low is)
] where
  of_low : ((rest : List ℕ) → AllLow rest → encode_utf8_all name ≡ rest → name ≡ rest)
      → (bytes : List ℕ) → AllLow bytes → c ∷ encode_utf8_all name ≡ bytes → c ∷ name ≡ bytes
  of_low next [] below same = absurd cc
  of_low next (b ∷ bytes) below same =
      ap (λ (l : List ℕ). c ∷ l) (next bytes below.1 tail) ∙ ap (λ (h : ℕ). h ∷ bytes) head
    where
      head : c ≡ b
      head = cc

      tail : encode_utf8_all name ≡ bytes
      tail = cc

  of_high : (first : List ℕ) → AllHigh first → 0 < length first → (bytes : List ℕ) → AllLow bytes
      → first ++ encode_utf8_all name ≡ bytes → ⊥
  of_high [] high some bytes below same = omega arith
  of_high (b ∷ first) high some [] below same = cc
  of_high (b ∷ first) high some (d ∷ bytes) below same =
      let one = high.0 in
      let other = below.0 in
      let head : b ≡ d = cc in
      omega arith

abbrev Onward : List ℕ → List ℕ → Type 0
Onward name end = (before : List ℕ) → encode_utf8_all name ≡ before ++ end → Ends name end

front_text : (name front end : List ℕ) → AllLow end → encode_utf8_all name ≡ front ++ end
    → Ends name end
front_text [] [] end low is = ([], is)
front_text [] (b ∷ front) end low is = absurd cc
front_text (c ∷ name) front end low is =
    by_cut (λ before same. front_text name before end low same)
    (cut (encode_utf8 c) (encode_utf8_all name) front end is)
  where
    longer : Ends name end → Ends (c ∷ name) end
    longer one = (c ∷ one.0, ap (λ (l : List ℕ). c ∷ l) one.1)

    inside : Onward name end → (rest : List ℕ) → encode_utf8 c ≡ front ++ rest
        → end ≡ rest ++ encode_utf8_all name → Ends (c ∷ name) end
    inside next [] first is_end = longer (next [] (sym is_end))
    inside next (b ∷ rest) first is_end = elim (cases_lt c 128) [
      | inl ascii ↦
          ([], same_low (c ∷ name) end low (whole front first (sym (encode_ascii c ascii) ∙ first)))
      | inr high ↦
          absurd (not_high front b rest (subst AllLow is_end low).0
          (subst AllHigh first (high_bytes c high)))
    ] where
      whole : (before : List ℕ) → encode_utf8 c ≡ before ++ b ∷ rest → c ∷ [] ≡ before ++ b ∷ rest
          → encode_utf8_all (c ∷ name) ≡ end
      whole [] same one = ap (λ (l : List ℕ). l ++ encode_utf8_all name) same ∙ sym is_end
      whole (d ∷ before) same one = absurd (too_long before none)
        where
          none : [] ≡ before ++ b ∷ rest
          none = cc

          too_long : (l : List ℕ) → [] ≡ l ++ b ∷ rest → ⊥
          too_long [] e = cc
          too_long (x ∷ l) e = cc

    by_cut : Onward name end → Cut (encode_utf8 c) (encode_utf8_all name) front end
        → Ends (c ∷ name) end
    by_cut next (inl one) = longer (next one.0 one.2)
    by_cut next (inr one) = inside next one.0 one.1 one.2

-- a text and its UTF-8 end alike
same_end : (name end : List ℕ) → AllLow end → (b d : Bool)
    → ends_with eqb (encode_utf8_all name) end ≡ b → ends_with eqb name end ≡ d → b ≡ d
same_end name end low true true left right = refl
same_end name end low false false left right = refl
same_end name end low true false left right =
    let bytes = front_of (encode_utf8_all name) end left in
    let text = front_text name bytes.0 end low bytes.1 in
    absurd
    (differ (sym (ap (λ (l : List ℕ). ends_with eqb l end) text.1 ∙ ends_so text.0 end) ∙ right))
  where
    differ : true ≡ false → ⊥
    differ e = cc
same_end name end low false true left right =
    let text = front_of name end right in
    let bytes : encode_utf8_all name ≡ encode_utf8_all text.0 ++ end =
    ap encode_utf8_all text.1 ∙ encodes-append text.0 end
    ∙ ap (λ (l : List ℕ). encode_utf8_all text.0 ++ l) (encodes-low end low) in
    absurd (differ (sym left ∙ ap (λ (l : List ℕ). ends_with eqb l end) bytes
    ∙ ends_so (encode_utf8_all text.0) end))
  where
    differ : false ≡ true → ⊥
    differ e = cc

pub ends_named : (name end text : List ℕ) (r : Bool) → AllLow end → text ≡ encode_utf8_all name
    → r ≡ ends_with eqb text end → r ≡ has_end end name
ends_named name end text r low is ends =
    ends ∙ ap (λ (l : List ℕ). ends_with eqb l end) is
    ∙ same_end name end low (ends_with eqb (encode_utf8_all name) end)
    (ends_with eqb name end) refl refl
