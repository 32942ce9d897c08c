-- A text as it stands around one of its elements.
use Rattle.std.proofs.Common.{◌≡◌, ◌≢◌, ℕ, suc, ◌+◌, ◌-◌, ◌<◌, ◌≤◌, Bool, true, false, eqb, min}
use Rattle.std.proofs.Common.{List, [], ◌∷◌, ◌++◌, length, take, drop, None, refl, ap, ap₂}
use Rattle.std.proofs.Common.{sym, ◌∙◌, inl, inr, subst, append_assoc, append-nil, arith}
use Rattle.std.proofs.Common.{encode_utf8_all, slice_index_or, slice_set, insert, remove}
use Rattle.std.proofs.Common.{IsTrue, ◌↔◌}
use Rattle.std.specs.Char.{encode_utf8}
use lib.Utf8.{scalar}
use Rattle.std.specs.List.{onto_first}
use Rattle.std.specs.Str.{IsUtf8, NonePass, NoCharPasses, chars, all_scalars}
use Rattle.std.specs.Str.Pattern.{FindsChar, FindsCharSuffix, HasCharAt, SplitsAroundMatch}
use Rattle.std.specs.Str.Pattern.{StripsSuffix}
use Rattle.std.proofs.lemmas.Bool.{cases_Bool, and_parts, eq-eqb, ne_eqb, cond-false}
use Rattle.std.proofs.lemmas.List.{append_cancel_right, take-append-drop, take_at, take_all}
use Rattle.std.proofs.lemmas.List.{drop_at, drop_all, drop-drop, length-take-le, length-append}
use Rattle.std.proofs.lemmas.List.{length-drop, get_or_at, set_at}
use Rattle.std.proofs.lemmas.List.Splits.{join_with_byte-slice_split, length-slice_split}
use Rattle.std.proofs.lemmas.List.Sums.{count_by-le-length}
use Rattle.std.proofs.lemmas.Str.{chars-encodes, chars_from_encodes, scalars-chars, encodes-append}
use Rattle.std.proofs.lemmas.Str.{encodes-chars, IsUtf8-take, IsUtf8-drop}
use Rattle.wap_libs.specs.Elements.{elements, joined, within, element_at, without_element}
use Rattle.wap_libs.specs.Elements.{with_element, with_element_before}
use Rattle.wap_libs.proofs.TextsLemmas.Ends.{IsEnd, ends_whole, ends_more, before_last}

-- where no character is the separator, the text is the one element
one_element : (c : ℕ) (s : List ℕ) → NonePass (λ d. eqb d c) s → elements c s ≡ s ∷ []
one_element c [] none = refl
one_element c (d ∷ s) none = rw none.0 (ap (onto_first d) (one_element c s none.1))

-- the first element ends at the first separator
first_element : (c : ℕ) (s rest : List ℕ) → NonePass (λ d. eqb d c) s
    → elements c (s ++ c ∷ rest) ≡ s ∷ elements c rest
first_element c [] rest none = rw (eq-eqb c c refl) refl
first_element c (d ∷ s) rest none = rw none.0 (ap (onto_first d) (first_element c s rest none.1))

scalars_front : (s rest : List ℕ) → all_scalars (s ++ rest) ≡ true → all_scalars s ≡ true
scalars_front [] rest all = refl
scalars_front (d ∷ s) rest all =
    let both : (scalar d ≡ true) × (all_scalars (s ++ rest) ≡ true) =
    and_parts (scalar d) (all_scalars (s ++ rest)) all in
    rw both.0 (scalars_front s rest both.1)

-- a text without a separator, by its bytes
pub whole_is_element : (c : ℕ) (s : List ℕ) → IsUtf8 s → FindsChar c s None
    → elements c (chars s) ≡ chars s ∷ []
whole_is_element c s us none =
    one_element c (chars s)
    (subst (NonePass (λ d. eqb d c)) (chars_from_encodes none.0 s us none.1) none.2)

-- a text that is cut around its first separator, by its bytes
pub record IsParted (c : ℕ) (s before behind : List ℕ) : Type 0 where
  pub is_end : IsEnd s behind
  pub parts : elements c (chars s) ≡ chars before ∷ elements c (chars behind)

pub IsParted-split : (c : ℕ) (s before behind : List ℕ) → IsUtf8 s
    → SplitsAroundMatch (FindsChar c) s before behind → IsParted c s before behind
IsParted-split c s before behind us found =
    let i = found.0 in
    let j = found.1 in
    let none : NoCharPasses (λ d. eqb d c) (take i s) = found.2.0 in
    let at : HasCharAt c s i j = found.2.1 in
    let front = none.0 in
    let back : IsUtf8 (drop j s) =
    IsUtf8-drop s j us (rw at.ends at.after) in
    let whole : chars s ≡ front ++ (c ∷ chars (drop j s)) =
    sym (chars_from_encodes (front ++ (c ∷ chars (drop j s))) s us
    (encodes-append front (c ∷ chars (drop j s))
    ∙ ap₂ (λ a b. a ++ (encode_utf8 c ++ b)) none.1
    (encodes-chars (drop j s) back)
    ∙ ap (λ b. take i s ++ b) (sym at.split) ∙ take-append-drop i s)) in
    let same : chars before ≡ front =
    ap chars (found.3 ∙ sym none.1)
    ∙ chars-encodes front (scalars_front front (c ∷ chars (drop j s))
    (ap all_scalars (sym whole) ∙ scalars-chars s us)) in
    let rest : chars (drop j s) ≡ chars behind = ap chars (sym found.4) in
    record {
      is_end = record {
        utf8 = subst IsUtf8 (sym found.4) back;
        shorter = omega (arith, found.7);
        end =
            let size : j ≡ length s - length behind = omega (arith, found.7) in
            found.4 ∙ ap (λ n. drop n s) size;
      };
      parts =
          ap (elements c) whole ∙ first_element c front (chars (drop j s)) none.2
          ∙ ap₂ (λ a b. a ∷ elements c b) (sym same) rest;
    }

-- one element more
join-push : (c : ℕ) (es : List (List ℕ)) (e : List ℕ) → 0 < length es
    → joined c (es ++ e ∷ []) ≡ joined c es ++ (c ∷ e)
join-push c [] e some = absurd (omega arith)
join-push c (x ∷ []) e some = refl
join-push c (x ∷ y ∷ es) e some =
    ap (λ s. x ++ (c ∷ s)) (join-push c (y ∷ es) e (omega arith))
    ∙ sym (append_assoc x (c ∷ joined c (y ∷ es)) (c ∷ e))

-- elements with the separator behind each
abbrev pub ended : ℕ → List (List ℕ) → List ℕ
ended c [] = []
ended c (e ∷ es) = e ++ (c ∷ ended c es)

joined-ended : (c : ℕ) (front : List (List ℕ)) (e : List ℕ) (es : List (List ℕ))
    → joined c (front ++ e ∷ es) ≡ ended c front ++ joined c (e ∷ es)
joined-ended c [] e es = refl
joined-ended c (x ∷ []) e es = sym (append_assoc x (c ∷ []) (joined c (e ∷ es)))
joined-ended c (x ∷ y ∷ front) e es =
    ap (λ s. x ++ (c ∷ s)) (joined-ended c (y ∷ front) e es)
    ∙ sym (append_assoc x (c ∷ ended c (y ∷ front)) (joined c (e ∷ es)))

-- elements but the last, and the last
ended-joined : (c : ℕ) (e : List ℕ) (es : List (List ℕ))
    → ended c (e ∷ es) ≡ joined c (e ∷ es) ++ (c ∷ [])
ended-joined c e [] = refl
ended-joined c e (x ∷ es) =
    ap (λ s. e ++ (c ∷ s)) (ended-joined c x es)
    ∙ sym (append_assoc e (c ∷ joined c (x ∷ es)) (c ∷ []))

some_elements : (c : ℕ) (s : List ℕ) → (e : List ℕ) × (es : List (List ℕ)) × (elements c s ≡ e ∷ es)
some_elements c [] = ([], [], refl)
some_elements c (d ∷ s) = elim (cases_Bool (eqb d c)) [
  | inl holds ↦ ([], elements c s, rw holds refl)
  | inr fails ↦
      let some = some_elements c s in
      (d ∷ some.0, some.1, rw fails (ap (onto_first d) some.2))
]

-- what stands before the element at a place, and what begins with it
pub record Stands (c : ℕ) (s : List ℕ) (k : ℕ) (before rest : List ℕ) : Type 0 where
  pub front : List (List ℕ)
  pub element : List ℕ
  pub back : List (List ℕ)
  pub parts : elements c s ≡ front ++ element ∷ back
  pub place : length front ≡ k
  pub ends : before ≡ ended c front
  pub begins : elements c rest ≡ element ∷ back

pub stands : (c : ℕ) (s : List ℕ) (k : ℕ) (before rest : List ℕ) → s ≡ before ++ rest
    → elements c rest ≡ drop k (elements c s) → k < length (elements c s)
    → Stands c s k before rest
stands c s k before rest whole is below =
    let some = some_elements c rest in
    let front = take k (elements c s) in
    let parts : elements c s ≡ front ++ some.0 ∷ some.1 =
    sym (take-append-drop k (elements c s)) ∙ ap (λ es. front ++ es) (sym is ∙ some.2) in
    record {
      front = front;
      element = some.0;
      back = some.1;
      parts = parts;
      place = length-take-le k (elements c s) (omega arith);
      ends =
          append_cancel_right before (ended c front) rest
          (sym whole ∙ sym (join_with_byte-slice_split c s) ∙ ap (joined c) parts
          ∙ joined-ended c front some.0 some.1
          ∙ ap (λ t. ended c front ++ t)
          (ap (joined c) (sym some.2) ∙ join_with_byte-slice_split c rest));
      begins = some.2;
    }

-- a place among the elements
pub within_below : (c : ℕ) (s : List ℕ) (k place : ℕ) → k ≡ within (elements c s) place
    → k < length (elements c s)
within_below c s k place is = omega (arith, ap length (some_elements c s).2)

module _ (c : ℕ) (s : List ℕ) (k place : ℕ) (before rest : List ℕ) (is : Stands c s k before rest)
    (put : k ≡ within (elements c s) place) where
  pub with_is : (new : List ℕ)
      → with_element c place new s ≡ before ++ joined c (new ∷ is.back)
  with_is new =
      ap (λ n. joined c (slice_set (elements c s) n new)) (sym put)
      ∙ ap (λ es. joined c (slice_set es k new)) is.parts
      ∙ ap (joined c) (set_at is.front is.element is.back new k is.place)
      ∙ joined-ended c is.front new is.back
      ∙ ap (λ t. t ++ joined c (new ∷ is.back)) (sym is.ends)

  removed : remove (elements c s) k ≡ is.front ++ is.back
  removed =
      let next : suc k ≡ k + 1 = omega arith in
      ap (λ es. remove es k) is.parts
      ∙ ap₂ (λ a b. a ++ b) (take_at is.front (is.element ∷ is.back) k is.place)
      (ap (λ n. drop n (is.front ++ is.element ∷ is.back)) next
      ∙ sym (drop-drop 1 k (is.front ++ is.element ∷ is.back))
      ∙ ap (drop 1) (drop_at is.front (is.element ∷ is.back) k is.place))

  pub without_is : without_element c place s ≡ joined c (is.front ++ is.back)
  without_is = ap (λ n. joined c (remove (elements c s) n)) (sym put) ∙ ap (joined c) removed

  inserted : (new : List ℕ)
      → joined c (insert (elements c s) k new) ≡ before ++ (new ++ (c ∷ rest))
  inserted new =
      ap (λ es. joined c (insert es k new)) is.parts
      ∙ ap₂ (λ a b. joined c (a ++ new ∷ b))
      (take_at is.front (is.element ∷ is.back) k is.place)
      (drop_at is.front (is.element ∷ is.back) k is.place)
      ∙ joined-ended c is.front new (is.element ∷ is.back)
      ∙ ap₂ (λ a b. a ++ (new ++ (c ∷ b))) (sym is.ends)
      (ap (joined c) (sym is.begins) ∙ join_with_byte-slice_split c rest)

-- a place past the text is that of the last element
pub past_last : (c : ℕ) (s : List ℕ) (n : ℕ) → length s ≤ n
    → within (elements c s) n ≡ length (elements c s) - 1
past_last c s n past =
    omega (
      arith,
      length-slice_split (λ d. eqb d c) s,
      count_by-le-length (λ d. eqb d c) s,
    )

pub past_count : (c : ℕ) (s : List ℕ) (n k : ℕ) → length s ≤ n → k ≡ within (elements c s) n
    → k + 1 ≡ length (elements c s)
past_count c s n k past put =
    omega (arith, put, past_last c s n past, length-slice_split (λ d. eqb d c) s)

-- the walk over elements stands at one of them, and the bytes from it on are left
pub record Reaches (c : ℕ) (s : List ℕ) (place k : ℕ) (rest : List ℕ) : Type 0 where
  pub early : k ≤ place
  pub below : k < length (elements c (chars s))
  pub parts : elements c (chars rest) ≡ drop k (elements c (chars s))
  pub is_end : IsEnd s rest

pub reaches_start : (c : ℕ) (s : List ℕ) (place : ℕ) → IsUtf8 s → Reaches c s place 0 s
reaches_start c s place us = record {
  early = omega arith;
  below = omega (arith, ap length (some_elements c (chars s)).2);
  parts = refl;
  is_end = ends_whole s us;
}

pub reaches_more : (c : ℕ) (s : List ℕ) (place k : ℕ) (rest before behind : List ℕ)
    → Reaches c s place k rest → k < place → IsParted c rest before behind
    → Reaches c s place (k + 1) behind
reaches_more c s place k rest before behind is early step =
    let es = elements c (chars s) in
    record {
      early = omega arith;
      below =
          omega (
            arith,
            length-drop k es,
            ap length (sym is.parts ∙ step.parts),
            ap length (some_elements c (chars behind)).2,
          );
      parts = ap (drop 1) (sym step.parts ∙ is.parts) ∙ drop-drop 1 k es;
      is_end = ends_more s rest behind is.is_end step.is_end;
    }

-- at the last element
pub reaches_last : (c : ℕ) (s : List ℕ) (place k : ℕ) (rest : List ℕ) → Reaches c s place k rest
    → elements c (chars rest) ≡ chars rest ∷ [] → k ≡ within (elements c (chars s)) place
reaches_last c s place k rest is last =
    let es = elements c (chars s) in
    omega (arith, is.early, length-drop k es, ap length (sym is.parts ∙ last))

pub reaches_place : (c : ℕ) (s : List ℕ) (place k : ℕ) (rest : List ℕ) → Reaches c s place k rest
    → place ≤ k → k ≡ within (elements c (chars s)) place
reaches_place c s place k rest is late = omega (arith, is.early, is.below)

tail_is : (e f : List ℕ) (es fs : List (List ℕ)) → e ∷ es ≡ f ∷ fs → es ≡ fs
tail_is e f es fs same = cc

-- the new element stands before what follows the old one
pub joined_on : (c : ℕ) (new s : List ℕ)
    → joined c (new ∷ elements c s) ≡ new ++ (c ∷ s)
joined_on c new s =
    let some = some_elements c s in
    ap (λ es. joined c (new ∷ es)) some.2
    ∙ ap (λ t. new ++ (c ∷ t))
    (ap (joined c) (sym some.2) ∙ join_with_byte-slice_split c s)

-- the elements before the last one
pub ended_none : (c : ℕ) (front : List (List ℕ))
    → ((s : List ℕ) → ended c front ≢ s ++ (c ∷ [])) → joined c front ≡ []
ended_none c [] none = refl
ended_none c (e ∷ es) none = absurd (none (joined c (e ∷ es)) (ended-joined c e es))

pub ended_some : (c : ℕ) (front : List (List ℕ)) (s : List ℕ) → ended c front ≡ s ++ (c ∷ [])
    → joined c front ≡ s
ended_some c [] s same = absurd (omega (arith, ap length same, length-append s (c ∷ [])))
ended_some c (e ∷ es) s same =
    append_cancel_right (joined c (e ∷ es)) s (c ∷ []) (sym (ended-joined c e es) ∙ same)

pub element_is : (c : ℕ) (s : List ℕ) (k place : ℕ) (rest e : List ℕ) (es : List (List ℕ))
    → k ≡ within (elements c s) place → elements c rest ≡ drop k (elements c s)
    → elements c rest ≡ e ∷ es → element_at c place s ≡ e
element_is c s k place rest e es put is parts =
    let all = elements c s in
    let below = within_below c s k place put in
    ap (λ n. slice_index_or all n []) (sym put)
    ∙ ap (λ xs. slice_index_or xs k [])
    (sym (take-append-drop k all) ∙ ap (λ xs. take k all ++ xs) (sym is ∙ parts))
    ∙ get_or_at (take k all) e es [] k (length-take-le k all (omega arith))

module _ (c : ℕ) (s : List ℕ) (k place : ℕ) (before rest : List ℕ) (whole : s ≡ before ++ rest)
    (is : elements c rest ≡ drop k (elements c s)) (put : k ≡ within (elements c s) place) where
  around : Stands c s k before rest
  around = stands c s k before rest whole is (within_below c s k place put)

  pub with_behind : (new e behind : List ℕ) → elements c rest ≡ e ∷ elements c behind
      → with_element c place new s ≡ before ++ (new ++ (c ∷ behind))
  with_behind new e behind parts =
      with_is c s k place before rest around put new
      ∙ ap (λ es. before ++ joined c (new ∷ es)) (tail_is _ _ _ _ (sym around.begins ∙ parts))
      ∙ ap (λ t. before ++ t) (joined_on c new behind)

  pub with_last : (new : List ℕ) → elements c rest ≡ rest ∷ []
      → with_element c place new s ≡ before ++ new
  with_last new parts =
      with_is c s k place before rest around put new
      ∙ ap (λ es. before ++ joined c (new ∷ es)) (tail_is _ _ _ _ (sym around.begins ∙ parts))

  pub without_behind : (e behind : List ℕ) → elements c rest ≡ e ∷ elements c behind
      → without_element c place s ≡ before ++ behind
  without_behind e behind parts =
      let some = some_elements c behind in
      without_is c s k place before rest around put
      ∙ ap (λ es. joined c (around.front ++ es))
      (tail_is _ _ _ _ (sym around.begins ∙ parts) ∙ some.2)
      ∙ joined-ended c around.front some.0 some.1
      ∙ ap₂ (λ a b. a ++ b) (sym around.ends)
      (ap (joined c) (sym some.2) ∙ join_with_byte-slice_split c behind)

  without_back : elements c rest ≡ rest ∷ [] → without_element c place s ≡ joined c around.front
  without_back parts =
      without_is c s k place before rest around put
      ∙ ap (λ es. joined c (around.front ++ es)) (tail_is _ _ _ _ (sym around.begins ∙ parts))
      ∙ ap (joined c) (append-nil around.front)

  pub without_last : (others : List ℕ) → elements c rest ≡ rest ∷ [] → before ≡ others ++ c ∷ []
      → without_element c place s ≡ others
  without_last others parts cut =
      without_back parts ∙ ended_some c around.front others (sym around.ends ∙ cut)

  pub without_only : elements c rest ≡ rest ∷ []
      → ((others : List ℕ) → before ≢ others ++ c ∷ []) → without_element c place s ≡ []
  without_only parts none =
      without_back parts
      ∙ ended_none c around.front (λ others same. none others (around.ends ∙ same))

  pub with_before : (new : List ℕ) → 0 < length s → place ≤ k
      → with_element_before c place new s ≡ before ++ (new ++ (c ∷ rest))
  with_before new some late =
      let all = elements c s in
      let below = within_below c s k place put in
      let at : min place (length all) ≡ k = omega (arith, put) in
      cond-false (eqb (length s) 0) new (joined c (insert all (min place (length all)) new))
      (ne_eqb (length s) 0 (λ none. absurd (omega arith)))
      ∙ ap (λ n. joined c (insert all n new)) at
      ∙ inserted c s k place before rest around put new

pub with_after : (c : ℕ) (s : List ℕ) (k place : ℕ) (new : List ℕ) → 0 < length s
    → k ≡ within (elements c s) place → k < place
    → with_element_before c place new s ≡ s ++ (c ∷ new)
with_after c s k place new some put late =
    let all = elements c s in
    let count = ap length (some_elements c s).2 in
    let at : min place (length all) ≡ length all = omega (arith, put, count) in
    cond-false (eqb (length s) 0) new (joined c (insert all (min place (length all)) new))
    (ne_eqb (length s) 0 (λ none. absurd (omega arith)))
    ∙ ap (λ n. joined c (insert all n new)) at
    ∙ ap₂ (λ a b. joined c (a ++ new ∷ b)) (take_all (length all) all (omega arith))
    (drop_all (length all) all (omega arith))
    ∙ join-push c all new (omega (arith, count))
    ∙ ap (λ t. t ++ (c ∷ new)) (join_with_byte-slice_split c s)

-- the text before a separator at the end, by bytes
pub stripped : (c : ℕ) (s others : List ℕ) → IsUtf8 s → StripsSuffix (FindsCharSuffix c) s others
    → chars s ≡ chars others ++ c ∷ []
stripped c s others us found =
    let n = found.0 in
    let at = found.1.1 in
    let cut : IsUtf8 (take (length s - n) s) =
    IsUtf8-take s (length s - n) us (rw found.1.0 found.1.2) in
    let rest : drop (length s - n) s ≡ encode_utf8 c =
    at.split ∙ ap (λ t. encode_utf8 c ++ t) (drop_all (length s) s (omega arith))
    ∙ append-nil (encode_utf8 c) in
    before_last c s others us (subst IsUtf8 (sym found.2) cut)
    (sym (take-append-drop (length s - n) s) ∙ ap₂ (λ a b. a ++ b) (sym found.2) rest)

pub not_stripped : (c : ℕ) (s : List ℕ) → IsUtf8 s → FindsCharSuffix c s None
    → (others : List ℕ) → chars s ≢ others ++ c ∷ []
not_stripped c s us none others same =
    none (encode_utf8_all others)
    (sym (encodes-chars s us) ∙ ap encode_utf8_all same ∙ encodes-append others (c ∷ [])
    ∙ ap (λ t. encode_utf8_all others ++ t) (append-nil (encode_utf8 c)))

-- a text that isn't empty has a character
pub some_text : (b : Bool) (s : List ℕ) → (IsTrue b ↔ (s ≡ [])) → b ≡ false → 0 < length s
some_text b [] same fails =
    absurd (let yes : b ≡ true = same.1 refl in cc)
some_text b (c ∷ s) same fails = omega arith

-- parts of a text, one after the other
pub four : (a b : List ℕ) (c : ℕ) (d : List ℕ) → ((a ++ b) ++ c ∷ []) ++ d ≡ a ++ (b ++ (c ∷ d))
four a b c d = simp append_assoc refl
