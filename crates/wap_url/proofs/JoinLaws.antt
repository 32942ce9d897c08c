-- Segments that are cut off one by one, kept and joined, in texts and in their UTF-8.
use Rattle.std.proofs.Common.{◌≡◌, ◌≢◌, inl, inr, ℕ, ◌+◌, ◌-◌, ◌<◌, ◌≤◌, Bool, true, false, cond}
use Rattle.std.proofs.Common.{◌||◌, ◌==◌, List, [], ◌∷◌, ◌++◌, length, take, drop, map, get_or}
use Rattle.std.proofs.Common.{refl, ap, ap₂, sym, ◌∙◌, subst, arith, append_assoc, length-append}
use Rattle.std.proofs.Common.{encode_utf8, encode_utf8_all, IsUtf8, Some, None, Option, MatchOption}
use Rattle.std.proofs.Common.{Bor, fold, lit<, append-nil, bytes_eq}
use Rattle.std.specs.List.{list_any}
use Rattle.std.specs.Str.{chars, NoCharPasses, NonePass}
use Rattle.std.specs.Str.Pattern.{RFindsChar}
use Rattle.std.proofs.lemmas.Bool.{cases_lt, or_from, eq-eqb, ne_eqb}
use Rattle.std.proofs.lemmas.Bool.{cond-true, cond-false, cond_both}
use Rattle.std.proofs.lemmas.Bool.Decides.{same_from_decides, Decides-like}
use Rattle.std.proofs.lemmas.List.{map-append, take_at, drop_at, get_or_at, get_or_default}
use Rattle.std.proofs.lemmas.List.{length-map, take-map, map_more, length-take-le}
use Rattle.std.proofs.lemmas.List.Splits.{slice_split_none, slice_split_first}
use Rattle.std.proofs.lemmas.List.Splits.{join_with_byte-slice_split}
use Rattle.std.proofs.lemmas.Slice.Eq.{bytes_eq-Decides}
use Rattle.std.proofs.lemmas.Str.{chars-nil, chars_from_encodes, chars-append, chars_past_char}
use Rattle.std.proofs.lemmas.Str.{IsUtf8-append, IsUtf8-from_ascii, encode_ascii, IsUtf8-take}
use Rattle.std.proofs.lemmas.Str.{IsUtf8-drop, IsCharBoundary-before_ascii}
use Rattle.std.proofs.lemmas.Str.{IsCharBoundary-after_ascii, encodes-chars, scalars-chars}
use Rattle.std.proofs.lemmas.Str.{encodes_same, encodes-IsAscii}
use Rattle.std.proofs.lemmas.Str.Ascii.{IsAscii-cons, IsAscii-nil}
use Rattle.std.proofs.lemmas.Str.Pattern.{IsSplitOnceResult, split_once_first, split_parts}
use Rattle.std.proofs.lemmas.Str.Pattern.{NoCharPasses-char, drop_at_char}
use Rattle.wap_url.specs.Characters.{is_slash}
use Rattle.wap_base.specs.Cuts.{begins_with}
use Rattle.wap_url.specs.Segments.{segments, path_of, last_segment, all_but_last}
use Rattle.wap_url.specs.inside.Segments.{folder_of}
use Rattle.wap_url.specs.Joining.{kept_with, end_of, without_dots, resolved}
use Rattle.wap_url.specs.Joining.{resolved_path, is_here, is_above, is_dot_segment}
use Rattle.wap_base.proofs.Splits.{HasFirst, HasFirst-split, split-none, join-append}
use Rattle.wap_url.proofs.SplitLaws.{split-cut, all_but_last-push}
use Rattle.wap_base.proofs.Utf8Cuts.{AllText, AllText-split, AllText-take, chars-map}
use Rattle.wap_base.proofs.Utf8Cuts.{split-encodes, AllHigh, high_bytes, encode_some}

-- a text that is cut at a character of US-ASCII
pub record CutText (bytes front back : List ℕ) (c : ℕ) : Type 0 where
  pub front_text : IsUtf8 front
  pub back_text : IsUtf8 back
  pub chars_are : chars bytes ≡ chars front ++ c ∷ chars back

pub cut_text : (bytes front back : List ℕ) (c : ℕ) → IsUtf8 bytes → bytes ≡ front ++ c ∷ back
    → c < 128 → CutText bytes front back c
cut_text bytes front back c text is ascii =
    let within : length front < length bytes =
    omega (arith, ap length is, length-append front (c ∷ back)) in
    let at : get_or bytes (length front) 0 ≡ c =
    ap (λ bs. get_or bs (length front) 0) is ∙ get_or_at front c back 0 (length front) refl in
    let front_text : IsUtf8 front =
    subst IsUtf8 (ap (take (length front)) is ∙ take_at front (c ∷ back) (length front) refl)
    (IsUtf8-take bytes (length front) text
    (IsCharBoundary-before_ascii bytes (length front) within (omega arith))) in
    let back_text : IsUtf8 back =
    subst IsUtf8 (ap (drop (length front + 1)) (is ∙ sym (append_assoc front (c ∷ []) back))
    ∙ drop_at (front ++ c ∷ []) back (length front + 1) (length-append front (c ∷ [])))
    (IsUtf8-drop bytes (length front + 1) text
    (IsCharBoundary-after_ascii bytes (length front) text within (omega arith))) in
    record {
      front_text = front_text;
      back_text = back_text;
      chars_are =
          ap chars is ∙ chars-append front (c ∷ back) front_text ∙ ap (λ cs. chars front ++ cs)
          (chars_past_char (c ∷ back) back c (IsUtf8-append (c ∷ []) back
          (IsUtf8-from_ascii (c ∷ []) (IsAscii-cons c [] ascii IsAscii-nil)) back_text)
          (sym (ap (λ bs. bs ++ back) (encode_ascii c ascii))));
    }

-- `split_once` takes off a segment, or leaves the last one
pub one_more : (bytes : List ℕ) (x : Bor (List ℕ) × Bor (List ℕ))
    → IsSplitOnceResult 47 bytes (Some x) → segments bytes ≡ x.0.now ∷ segments x.1.now
one_more bytes x found =
    let first = split_once_first 47 bytes (Some x) found (lit< tt) in
    slice_split_first is_slash bytes 0 first.0
    ∙ ap₂ (λ s rest. s ∷ segments rest) (sym first.1) (sym first.2)

pub one_more_cut : (bytes : List ℕ) (x : Bor (List ℕ) × Bor (List ℕ))
    → IsSplitOnceResult 47 bytes (Some x) → bytes ≡ x.0.now ++ 47 ∷ x.1.now
one_more_cut bytes x found = (split_parts 47 bytes (Some x) found (lit< tt)).0

pub no_more : (bytes : List ℕ) → IsSplitOnceResult 47 bytes None → segments bytes ≡ bytes ∷ []
no_more bytes none =
    slice_split_none is_slash bytes (λ k d within.
    ap (λ b. b == 47) (get_or_default bytes k d 0 within)
    ∙ ne_eqb (get_or bytes k 0) 47 (NoCharPasses-char 47 bytes k none (lit< tt) within))

pub last-cons : (s : List ℕ) (ss : List (List ℕ)) → HasFirst ss
    → last_segment (s ∷ ss) ≡ last_segment ss
last-cons s [] h = absurd (let e = h.is in cc)
last-cons s (t ∷ ss) h = refl

-- one more segment after those that are joined
pub path-push : (xs : List (List ℕ)) (y : List ℕ)
    → path_of (xs ++ y ∷ []) ≡ cond (length xs == 0) y (path_of xs ++ 47 ∷ y)
path-push [] y = refl
path-push (x ∷ xs) y =
    join-append 47 (x ∷ xs) (y ∷ []) (record { first = x; rest = xs; is = refl })
    (record { first = y; rest = []; is = refl })
    ∙ sym (cond-false (length (x ∷ xs) == 0) y (path_of (x ∷ xs) ++ 47 ∷ y)
    (ne_eqb (length (x ∷ xs)) 0 (λ e. absurd (omega arith))))

-- tests of segments, in a text and in its UTF-8
same_test : (s word : List ℕ) → encode_utf8_all word ≡ word
    → bytes_eq (encode_utf8_all s) word ≡ bytes_eq s word
same_test s word ascii = same_from_decides (bytes_eq (encode_utf8_all s) word) (bytes_eq s word)
    (Decides-like (bytes_eq (encode_utf8_all s) word) (λ e. encodes_same s word (e ∙ sym ascii))
    (λ e. ap encode_utf8_all e ∙ ascii) (bytes_eq-Decides (encode_utf8_all s) word))
    (bytes_eq-Decides s word)

here-encodes : (s : List ℕ) → is_here (encode_utf8_all s) ≡ is_here s
here-encodes s =
    same_test s (46 ∷ []) (encodes-IsAscii (46 ∷ []) (IsAscii-cons 46 [] (lit< tt) IsAscii-nil))

above-encodes : (s : List ℕ) → is_above (encode_utf8_all s) ≡ is_above s
above-encodes s =
    same_test s (46 ∷ 46 ∷ []) (encodes-IsAscii (46 ∷ 46 ∷ [])
    (IsAscii-cons 46 (46 ∷ []) (lit< tt) (IsAscii-cons 46 [] (lit< tt) IsAscii-nil)))

kept-encodes : (kept : List (List ℕ)) (s : List ℕ)
    → kept_with (map encode_utf8_all kept) (encode_utf8_all s)
    ≡ map encode_utf8_all (kept_with kept s)
kept-encodes kept s =
    ap₂ (λ h a. cond h (map encode_utf8_all kept) (cond a (all_but_last (map encode_utf8_all kept))
    (map encode_utf8_all kept ++ encode_utf8_all s ∷ []))) (here-encodes s) (above-encodes s)
    ∙ ap₂ (λ front more. cond (is_here s) (map encode_utf8_all kept) (cond (is_above s) front more))
    (ap (λ n. take (n - 1) (map encode_utf8_all kept)) (length-map kept encode_utf8_all) ∙ take-map
    encode_utf8_all (length kept - 1) kept) (sym (map-append encode_utf8_all kept (s ∷ [])))
    ∙ outer (is_here s) (is_above s) where
      outer : (h a : Bool)
          → cond h (map encode_utf8_all kept)
          (cond a (map encode_utf8_all (all_but_last kept)) (map encode_utf8_all (kept ++ s ∷ [])))
          ≡ map encode_utf8_all (cond h kept (cond a (all_but_last kept) (kept ++ s ∷ [])))
      outer true a = refl
      outer false true = refl
      outer false false = refl

fold-encodes : (kept ss : List (List ℕ))
    → fold kept_with (map encode_utf8_all kept) (map encode_utf8_all ss)
    ≡ map encode_utf8_all (fold kept_with kept ss)
fold-encodes kept [] = refl
fold-encodes kept (s ∷ ss) =
    ap (λ k. fold kept_with k (map encode_utf8_all ss)) (kept-encodes kept s)
    ∙ fold-encodes (kept_with kept s) ss

last-encodes : (ss : List (List ℕ))
    → last_segment (map encode_utf8_all ss) ≡ encode_utf8_all (last_segment ss)
last-encodes [] = refl
last-encodes (s ∷ []) = refl
last-encodes (s ∷ t ∷ ss) = last-encodes (t ∷ ss)

end-encodes : (ss : List (List ℕ))
    → end_of (map encode_utf8_all ss) ≡ map encode_utf8_all (end_of ss)
end-encodes ss =
    ap (λ s. cond (is_dot_segment s) ([] ∷ []) []) (last-encodes ss)
    ∙ ap₂ (λ h a. cond (h || a) ([] ∷ []) []) (here-encodes (last_segment ss))
    (above-encodes (last_segment ss))
    ∙ outer (is_dot_segment (last_segment ss)) where
      outer : (t : Bool) → cond t ([] ∷ []) [] ≡ map encode_utf8_all (cond t ([] ∷ []) [])
      outer true = refl
      outer false = refl

without-encodes : (ss : List (List ℕ))
    → without_dots (map encode_utf8_all ss) ≡ map encode_utf8_all (without_dots ss)
without-encodes ss =
    ap₂ (λ x y. x ++ y) (fold-encodes [] ss) (end-encodes ss)
    ∙ sym (map-append encode_utf8_all (fold kept_with [] ss) (end_of ss))

AllText-append : (xs ys : List (List ℕ)) → AllText xs → AllText ys → AllText (xs ++ ys)
AllText-append [] ys each more = more
AllText-append (x ∷ xs) ys each more = (each.0, AllText-append xs ys each.1 more)

AllText-fold : (kept ss : List (List ℕ)) → AllText kept → AllText ss
    → AllText (fold kept_with kept ss)
AllText-fold kept [] each more = each
AllText-fold kept (s ∷ ss) each more =
    AllText-fold (kept_with kept s) ss
    (cond_both (is_here s) kept
    (cond (is_above s) (all_but_last kept) (kept ++ s ∷ [])) AllText (λ _. each)
    (λ _.
    cond_both (is_above s) (all_but_last kept) (kept ++ s ∷ []) AllText (λ _. AllText-take
    (length kept - 1) kept each) (λ _. AllText-append kept (s ∷ []) each (more.0, tt))))
    more.1

AllText-without : (ss : List (List ℕ)) → AllText ss → AllText (without_dots ss)
AllText-without ss each =
    AllText-append (fold kept_with [] ss) (end_of ss) (AllText-fold [] ss tt each)
    (cond_both (is_dot_segment (last_segment ss)) ([] ∷ []) [] AllText (λ _. (refl, tt)) (λ _. tt))

-- the segments that are left of the bytes, as texts
pub chars-without : (bytes : List ℕ) → IsUtf8 bytes
    → map chars (without_dots (segments bytes)) ≡ without_dots (segments (chars bytes))
chars-without bytes text =
    ap (λ bs. map chars (without_dots (segments bs))) (sym (encodes-chars bytes text))
    ∙ ap (λ ss. map chars (without_dots ss)) (split-encodes 47 (lit< tt) (chars bytes))
    ∙ ap (map chars) (without-encodes (segments (chars bytes)))
    ∙ chars-map (without_dots (segments (chars bytes))) (AllText-without (segments (chars bytes))
    (AllText-split is_slash (chars bytes) (scalars-chars bytes text)))

-- one more of the segments that are joined
joined_more : (f : Bor (List ℕ) → List ℕ) (segs : List (Bor (List ℕ))) (i : ℕ) (d : Bor (List ℕ))
    → i < length segs → path_of (map f (take (i + 1) segs)) ≡ cond (i == 0) (f (get_or segs i d))
    (path_of (map f (take i segs)) ++ 47 ∷ f (get_or segs i d))
joined_more f segs i d within =
    ap path_of (map_more f segs i d within) ∙ path-push (map f (take i segs)) (f (get_or segs i d))
    ∙ ap (λ n.
    cond (n == 0) (f (get_or segs i d)) (path_of (map f (take i segs)) ++ 47 ∷ f (get_or segs i d)))
    (length-map (take i segs) f ∙ length-take-le i segs (omega arith))

pub joined_first : (f : Bor (List ℕ) → List ℕ) (segs : List (Bor (List ℕ))) (i : ℕ)
    (d : Bor (List ℕ)) (start out : List ℕ) → i < length segs → i ≡ 0
    → out ≡ start ++ path_of (map f (take i segs))
    → out ++ f (get_or segs i d) ≡ start ++ path_of (map f (take (i + 1) segs))
joined_first f segs i d start out within none is =
    ap (λ xs. xs ++ f (get_or segs i d))
    (is ∙ ap (λ n. start ++ path_of (map f (take n segs))) none ∙ append-nil start)
    ∙ ap (λ xs. start ++ xs)
    (sym (joined_more f segs i d within ∙ cond-true (i == 0) (f (get_or segs i d))
    (path_of (map f (take i segs)) ++ 47 ∷ f (get_or segs i d)) (eq-eqb i 0 none)))

pub joined_next : (f : Bor (List ℕ) → List ℕ) (segs : List (Bor (List ℕ))) (i : ℕ)
    (d : Bor (List ℕ)) (start out : List ℕ) → i < length segs → 0 < i
    → out ≡ start ++ path_of (map f (take i segs))
    → (out ++ 47 ∷ []) ++ f (get_or segs i d) ≡ start ++ path_of (map f (take (i + 1) segs))
joined_next f segs i d start out within some is =
    append_assoc out (47 ∷ []) (f (get_or segs i d))
    ∙ ap (λ xs. xs ++ 47 ∷ f (get_or segs i d)) is
    ∙ append_assoc start (path_of (map f (take i segs))) (47 ∷ f (get_or segs i d))
    ∙ ap (λ xs. start ++ xs) (sym (joined_more f segs i d within
    ∙ cond-false (i == 0) (f (get_or segs i d)) (path_of (map f (take i segs))
    ++ 47 ∷ f (get_or segs i d)) (ne_eqb i 0 (λ e. absurd (omega arith)))))

-- the step of the loop over a path's segments
pub record TakesOne (kept kept' : List (List ℕ)) (rest after path : List ℕ) : Type 0 where
  pub text : IsUtf8 after
  pub folds : fold kept_with kept' (segments after) ≡ fold kept_with [] (segments path)
  pub last : last_segment (segments after) ≡ last_segment (segments path)

pub takes_one : (kept kept' : List (List ℕ)) (rest path : List ℕ) (x : Bor (List ℕ) × Bor (List ℕ))
    → IsSplitOnceResult 47 rest (Some x) → IsUtf8 rest
    → fold kept_with kept (segments rest) ≡ fold kept_with [] (segments path)
    → last_segment (segments rest) ≡ last_segment (segments path) → kept' ≡ kept_with kept x.0.now
    → TakesOne kept kept' rest x.1.now path
takes_one kept kept' rest path x found text folds last is =
    let cut = one_more rest x found in
    record {
      text =
          (cut_text rest x.0.now x.1.now 47 text (one_more_cut rest x found) (lit< tt)).back_text;
      folds =
          ap (λ k. fold kept_with k (segments x.1.now)) is
          ∙ ap (fold kept_with kept) (sym cut) ∙ folds;
      last =
          sym (last-cons x.0.now (segments x.1.now) (HasFirst-split is_slash x.1.now))
          ∙ ap last_segment (sym cut) ∙ last;
    }

-- and its end, with the last segment in the rest
pub takes_last : (kept kept' : List (List ℕ)) (rest path : List ℕ) → IsSplitOnceResult 47 rest None
    → fold kept_with kept (segments rest) ≡ fold kept_with [] (segments path)
    → last_segment (segments rest) ≡ last_segment (segments path) → kept' ≡ kept_with kept rest
    → kept' ++ cond (is_dot_segment rest) ([] ∷ []) [] ≡ without_dots (segments path)
takes_last kept kept' rest path none folds last is =
    let one = no_more rest none in
    ap₂ (λ k s. k ++ cond (is_dot_segment s) ([] ∷ []) [])
    (is ∙ ap (fold kept_with kept) (sym one) ∙ folds)
    (ap last_segment (sym one) ∙ last)

pub map-now : (items : List (Bor (List ℕ)))
    → map (λ (s : Bor (List ℕ)). chars s.now) items
    ≡ map chars (map (λ (s : Bor (List ℕ)). s.now) items)
map-now [] = refl
map-now (s ∷ items) = ap (λ ss. chars s.now ∷ ss) (map-now items)

-- something is always left of a path
pub HasFirst-append : {X : Type 0} (xs ys : List X) → HasFirst ys → HasFirst (xs ++ ys)
HasFirst-append [] ys h = h
HasFirst-append (x ∷ xs) ys h = record { first = x; rest = xs ++ ys; is = refl }

first_left : (kept ss : List (List ℕ)) → HasFirst ss
    → HasFirst (fold kept_with kept ss ++ end_of ss)
first_left kept [] h = absurd (let e = h.is in cc)
first_left kept (s ∷ []) h = one (is_here s) (is_above s) where
  one : (here above : Bool)
      → HasFirst (cond here kept (cond above (all_but_last kept) (kept ++ s ∷ []))
      ++ cond (here || above) ([] ∷ []) [])
  one true above = HasFirst-append kept ([] ∷ []) (record { first = []; rest = []; is = refl })
  one false true =
      HasFirst-append (all_but_last kept) ([] ∷ []) (record { first = []; rest = []; is = refl })
  one false false =
      subst HasFirst (sym (append-nil (kept ++ s ∷ [])))
      (HasFirst-append kept (s ∷ []) (record { first = s; rest = []; is = refl }))
first_left kept (s ∷ t ∷ ss) h =
    first_left (kept_with kept s) (t ∷ ss) (record { first = t; rest = ss; is = refl })

pub HasFirst-without : (ss : List (List ℕ)) → HasFirst ss → HasFirst (without_dots ss)
HasFirst-without ss h = first_left [] ss h

path-root : (ss : List (List ℕ)) → HasFirst ss → path_of ([] ∷ ss) ≡ 47 ∷ path_of ss
path-root [] h = absurd (let e = h.is in cc)
path-root (s ∷ ss) h = refl

resolved-root : (ss : List (List ℕ)) → HasFirst ss → resolved ([] ∷ ss) ≡ [] ∷ without_dots ss
resolved-root [] h = absurd (let e = h.is in cc)
resolved-root (s ∷ ss) h = refl

-- a path from the root keeps its slash
pub resolved_at_root : (rest : List ℕ)
    → resolved_path (47 ∷ rest) ≡ 47 ∷ path_of (without_dots (segments rest))
resolved_at_root rest =
    ap path_of (resolved-root (segments rest) (HasFirst-split is_slash rest))
    ∙ path-root (without_dots (segments rest))
    (HasFirst-without (segments rest) (HasFirst-split is_slash rest))

resolved_other : (s : List ℕ) (ss : List (List ℕ)) → 0 < length s
    → resolved (s ∷ ss) ≡ without_dots (s ∷ ss)
resolved_other s [] some = refl
resolved_other s (t ∷ ss) some =
    cond-false (length s == 0) ([] ∷ without_dots (t ∷ ss)) (without_dots (s ∷ t ∷ ss))
    (ne_eqb (length s) 0 (λ e. absurd (omega arith)))

-- and another path has no root
pub resolved_elsewhere : (path : List ℕ) → begins_with is_slash path ≡ false
    → resolved_path path ≡ path_of (without_dots (segments path))
resolved_elsewhere [] none = refl
resolved_elsewhere (c ∷ cs) none =
    let first = HasFirst-split is_slash cs in
    let is : segments (c ∷ cs) ≡ (c ∷ first.first) ∷ first.rest =
    Rattle.std.proofs.lemmas.List.Splits.slice_split-cons_no is_slash c cs none
    ∙ ap (Rattle.std.specs.List.onto_first c) first.is in
    ap path_of (ap resolved is ∙ resolved_other (c ∷ first.first) first.rest (omega arith)
    ∙ ap without_dots (sym is))

pub begins-from : (path : List ℕ) → ((rest : List ℕ) → path ≢ 47 ∷ rest)
    → begins_with is_slash path ≡ false
begins-from [] none = refl
begins-from (c ∷ cs) none = ne_eqb c 47 (λ e. none cs (ap (λ d. d ∷ cs) e))

-- the same of bytes
pub root_of_bytes : (bytes rest : List ℕ) → IsUtf8 bytes → bytes ≡ 47 ∷ rest
    → chars bytes ≡ 47 ∷ chars rest
root_of_bytes bytes rest text is =
    (cut_text bytes [] rest 47 text is (lit< tt)).chars_are
    ∙ ap (λ cs. cs ++ 47 ∷ chars rest) chars-nil

pub no_root_of_bytes : (bytes path : List ℕ) → bytes ≡ encode_utf8_all path
    → ((rest : List ℕ) → bytes ≢ 47 ∷ rest) → begins_with is_slash path ≡ false
no_root_of_bytes bytes path is none =
    begins-from path (λ rest e.
    none (encode_utf8_all rest)
    (is ∙ ap encode_utf8_all e ∙ ap (λ bs. bs ++ encode_utf8_all rest) (encode_ascii 47 (lit< tt))))

-- a first slash, in a text and in its UTF-8
pub begins-encodes : (cs : List ℕ)
    → begins_with is_slash (encode_utf8_all cs) ≡ begins_with is_slash cs
begins-encodes [] = refl
begins-encodes (c ∷ cs) = elim (cases_lt c 128) [
  | inl ascii ↦ ap (λ bs. begins_with is_slash (bs ++ encode_utf8_all cs)) (encode_ascii c ascii)
  | inr high ↦
      first (encode_utf8 c) (high_bytes c high) (encode_some c)
      ∙ sym (ne_eqb c 47 (λ e. differ e high))
] where
  differ : {b : ℕ} → b ≡ 47 → 128 ≤ b → ⊥
  differ e above = omega arith

  first : (bs : List ℕ) → AllHigh bs → 0 < length bs
      → begins_with is_slash (bs ++ encode_utf8_all cs) ≡ false
  first [] high some = absurd (omega arith)
  first (b ∷ bs) high some = ne_eqb b 47 (λ e. differ e high.0)

-- the clause of `rsplit_once` at a character
abbrev pub IsRSplitOnceResult : ℕ → List ℕ → Option (Bor (List ℕ) × Bor (List ℕ)) → Type 0
IsRSplitOnceResult c bs r =
    MatchOption r (RFindsChar c bs None) (λ x.
    (i : ℕ) × (j : ℕ) × RFindsChar c bs (Some (i, j)) × (x.0.now ≡ take i bs)
    × (x.1.now ≡ drop j bs)
    × (i ≤ j) × (length x.0.now ≡ i) × (length x.1.now + j ≡ length bs))

none_pass : (p : ℕ → Bool) (cs : List ℕ) → NonePass p cs → list_any p cs ≡ false
none_pass p [] none = refl
none_pass p (c ∷ cs) none = or_from (p c) (list_any p cs) none.0 (none_pass p cs none.1)

pub no_char : (bs : List ℕ) → IsUtf8 bs → NoCharPasses is_slash bs
    → list_any is_slash (chars bs) ≡ false
no_char bs text none =
    ap (list_any is_slash) (sym (chars_from_encodes none.0 bs text none.1))
    ∙ none_pass is_slash none.0 none.2

folder-path : (ss : List (List ℕ)) → HasFirst ss → folder_of ss ≡ path_of ss ++ 47 ∷ []
folder-path [] h = absurd (let e = h.is in cc)
folder-path (s ∷ []) h = refl
folder-path (s ∷ t ∷ ss) h =
    ap (λ rest. s ++ 47 ∷ rest) (folder-path (t ∷ ss) (record { first = t; rest = ss; is = refl }))
    ∙ sym (append_assoc s (47 ∷ path_of (t ∷ ss)) (47 ∷ []))

-- a path up to its last slash
pub folder-cut : (front last : List ℕ) → list_any is_slash last ≡ false
    → folder_of (all_but_last (segments (front ++ 47 ∷ last))) ≡ front ++ 47 ∷ []
folder-cut front last none =
    ap folder_of (ap all_but_last (split-cut is_slash front 47 last refl none)
    ∙ all_but_last-push (segments front) last)
    ∙ folder-path (segments front) (HasFirst-split is_slash front)
    ∙ ap (λ f. f ++ 47 ∷ []) (join_with_byte-slice_split 47 front)

pub folder_of_bytes : (bytes : List ℕ) (x : Bor (List ℕ) × Bor (List ℕ)) → IsUtf8 bytes
    → IsRSplitOnceResult 47 bytes (Some x)
    → folder_of (all_but_last (segments (chars bytes))) ≡ chars x.0.now ++ 47 ∷ []
folder_of_bytes bytes x text (i, j, finds, front_is, last_is, _, _, _) =
    let is : bytes ≡ x.0.now ++ 47 ∷ x.1.now =
    sym (Rattle.std.proofs.Common.take-append-drop i bytes) ∙ ap₂ (λ a b. a ++ b) (sym front_is)
    (drop_at_char 47 bytes i j finds.1 (lit< tt) ∙ ap (λ b. 47 ∷ b) (sym last_is)) in
    let cut = cut_text bytes x.0.now x.1.now 47 text is (lit< tt) in
    ap (λ cs. folder_of (all_but_last (segments cs))) cut.chars_are
    ∙ folder-cut (chars x.0.now) (chars x.1.now)
    (no_char x.1.now cut.back_text (subst (NoCharPasses is_slash) (sym last_is) finds.0))

pub no_folder_of_bytes : (bytes : List ℕ) → IsUtf8 bytes → IsRSplitOnceResult 47 bytes None
    → folder_of (all_but_last (segments (chars bytes))) ≡ []
no_folder_of_bytes bytes text none =
    ap (λ ss. folder_of (all_but_last ss))
    (split-none is_slash (chars bytes) (no_char bytes text none))

-- the reference's path after the base's segments
pub path-lead : (ss : List (List ℕ)) (r : List ℕ) → path_of (ss ++ segments r) ≡ folder_of ss ++ r
path-lead [] r = join_with_byte-slice_split 47 r
path-lead (s ∷ ss) r =
    step (ss ++ segments r) (HasFirst-append ss (segments r) (HasFirst-split is_slash r))
    ∙ ap (λ rest. s ++ 47 ∷ rest) (path-lead ss r)
    ∙ sym (append_assoc s (47 ∷ folder_of ss) r) where
      step : (more : List (List ℕ)) → HasFirst more → path_of (s ∷ more) ≡ s ++ 47 ∷ path_of more
      step [] h = absurd (let e = h.is in cc)
      step (t ∷ more) h = refl
