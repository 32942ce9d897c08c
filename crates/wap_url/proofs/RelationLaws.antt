-- Folders and last segments, in texts and in their UTF-8.
use Rattle.std.proofs.Common.{◌≡◌, ◌≢◌, ◌⊎◌, inl, inr, ℕ, suc, ◌-◌, ◌<◌, Bool, true, false, not}
use Rattle.std.proofs.Common.{◌&&◌, ◌||◌, ◌==◌, List, [], ◌∷◌, ◌++◌, length, take, map, get_or}
use Rattle.std.proofs.Common.{refl, ap, ap₂, sym, ◌∙◌, subst, arith, encode_utf8, encode_utf8_all}
use Rattle.std.proofs.Common.{IsUtf8, Some, None, Option, MatchOption, Bor, lit<, bytes_eq, Decides}
use Rattle.std.proofs.Common.{take-append-drop, option_copied}
use Rattle.std.specs.List.{list_any, join_with_byte}
use Rattle.std.specs.Str.{chars, NoCharPasses}
use Rattle.std.proofs.lemmas.Bool.{cases_Bool, or_from, and_parts, and_from}
use Rattle.std.proofs.lemmas.Bool.{ne_eqb, eqb-true, and_left}
use Rattle.std.proofs.lemmas.Bool.Decides.{same_from_decides, Decides-like}
use Rattle.std.proofs.lemmas.List.{length-map, take-map}
use Rattle.std.proofs.lemmas.List.Splits.{join_with_byte-slice_split}
use Rattle.std.proofs.lemmas.Slice.Eq.{bytes_eq-Decides}
use Rattle.std.proofs.lemmas.Str.{encode_ascii, encodes_same, encodes-chars}
use Rattle.std.proofs.lemmas.Str.Pattern.{NoCharPasses-char, drop_at_char}
use Rattle.wap_url.specs.Characters.{is_slash, is_colon}
use Rattle.wap_url.specs.Calculation.{begins_with_slashes}
use Rattle.wap_url.specs.Segments.{segments, last_segment, all_but_last}
use Rattle.wap_url.specs.Relative.{same_text, same_segments, same_folder, stands_alone}
use Rattle.wap_base.proofs.Splits.{HasFirst, HasFirst-split, split-none}
use Rattle.wap_url.proofs.SplitLaws.{split-cut, all_but_last-push, last_segment-push}
use Rattle.wap_base.proofs.Utf8Cuts.{encode_some, split-encodes, no_bytes, none_inside}
use Rattle.wap_url.proofs.JoinLaws.{IsRSplitOnceResult, cut_text, no_char}

none_at : (bs : List ℕ) → ((i : ℕ) → i < length bs → get_or bs i 0 ≢ 47)
    → list_any is_slash bs ≡ false
none_at [] none = refl
none_at (b ∷ bs) none =
    or_from (is_slash b) (list_any is_slash bs) (ne_eqb b 47 (none 0 (omega arith)))
    (none_at bs (λ i within. none (suc i) (omega arith)))

none_bytes : (bs : List ℕ) → NoCharPasses is_slash bs → list_any is_slash bs ≡ false
none_bytes bs none = none_at bs (λ i within. NoCharPasses-char 47 bs i none (lit< tt) within)

-- a path's bytes before the last slash and after it
pub record CutPath (bytes front last : List ℕ) : Type 0 where
  pub is : bytes ≡ front ++ 47 ∷ last
  pub none : NoCharPasses is_slash last

pub cut_path : (bytes : List ℕ) (x : Bor (List ℕ) × Bor (List ℕ))
    → IsRSplitOnceResult 47 bytes (Some x) → CutPath bytes x.0.now x.1.now
cut_path bytes x (i, j, finds, front_is, last_is, _, _, _) = record {
  is =
      sym (take-append-drop i bytes) ∙ ap₂ (λ a b. a ++ b) (sym front_is)
      (drop_at_char 47 bytes i j finds.1 (lit< tt) ∙ ap (λ b. 47 ∷ b) (sym last_is));
  none = subst (NoCharPasses is_slash) (sym last_is) finds.0;
}

pub folder_segments : (bytes : List ℕ) (x : Bor (List ℕ) × Bor (List ℕ))
    → IsRSplitOnceResult 47 bytes (Some x) → all_but_last (segments bytes) ≡ segments x.0.now
folder_segments bytes x found =
    let cut = cut_path bytes x found in
    ap all_but_last
    (ap segments cut.is ∙ split-cut is_slash x.0.now 47 x.1.now refl (none_bytes x.1.now cut.none))
    ∙ all_but_last-push (segments x.0.now) x.1.now

pub no_folder : (bytes : List ℕ) → IsRSplitOnceResult 47 bytes None
    → all_but_last (segments bytes) ≡ []
no_folder bytes none = ap all_but_last (split-none is_slash bytes (none_bytes bytes none))

pub last_of_bytes : (bytes : List ℕ) (x : Bor (List ℕ) × Bor (List ℕ)) → IsUtf8 bytes
    → IsRSplitOnceResult 47 bytes (Some x) → chars x.1.now ≡ last_segment (segments (chars bytes))
last_of_bytes bytes x text found =
    let cut = cut_path bytes x found in
    let both = cut_text bytes x.0.now x.1.now 47 text cut.is (lit< tt) in
    sym (ap (λ cs. last_segment (segments cs)) both.chars_are
    ∙ ap last_segment (split-cut is_slash (chars x.0.now) 47 (chars x.1.now) refl
    (no_char x.1.now both.back_text cut.none))
    ∙ last_segment-push (segments (chars x.0.now)) (chars x.1.now))

pub last_of_whole : (bytes : List ℕ) → IsUtf8 bytes → IsRSplitOnceResult 47 bytes None
    → chars bytes ≡ last_segment (segments (chars bytes))
last_of_whole bytes text none =
    sym (ap last_segment (split-none is_slash (chars bytes) (no_char bytes text none)))

-- the tests are equality
pub same_segments-Decides : (ss ts : List (List ℕ)) → Decides (same_segments ss ts) (ss ≡ ts)
same_segments-Decides [] [] = (λ _. refl, λ _. refl)
same_segments-Decides [] (t ∷ ts) = (λ e. absurd (let f = e in cc), λ e. absurd (let f = e in cc))
same_segments-Decides (s ∷ ss) [] = (λ e. absurd (let f = e in cc), λ e. absurd (let f = e in cc))
same_segments-Decides (s ∷ ss) (t ∷ ts) = (
  λ e. let both = and_parts (bytes_eq s t) (same_segments ss ts) e in ap₂ (λ x xs. x ∷ xs)
      ((bytes_eq-Decides s t).0 both.0) ((same_segments-Decides ss ts).0 both.1),
  λ e. and_from (bytes_eq s t) (same_segments ss ts) ((bytes_eq-Decides s t).1 (let f = e in cc))
      ((same_segments-Decides ss ts).1 (let f = e in cc)),
)

same_split : (f g : List ℕ) → bytes_eq f g ≡ same_segments (segments f) (segments g)
same_split f g =
    same_from_decides (bytes_eq f g) (same_segments (segments f) (segments g))
    (bytes_eq-Decides f g)
    (Decides-like (same_segments (segments f) (segments g))
    (λ e. sym (join_with_byte-slice_split 47 f)
    ∙ ap (join_with_byte 47) e ∙ join_with_byte-slice_split 47 g) (ap segments)
    (same_segments-Decides (segments f) (segments g)))

none_of_some : (ss : List (List ℕ)) → HasFirst ss → same_segments [] ss ≡ false
none_of_some [] h = absurd (let e = h.is in cc)
none_of_some (s ∷ ss) h = refl

some_of_none : (ss : List (List ℕ)) → HasFirst ss → same_segments ss [] ≡ false
some_of_none [] h = absurd (let e = h.is in cc)
some_of_none (s ∷ ss) h = refl

abbrev pub IsFolder : List ℕ → Option (Bor (List ℕ)) → Type 0
IsFolder path r =
    MatchOption r (all_but_last (segments path) ≡ [])
    (λ folder. all_but_last (segments path) ≡ segments folder.now)

pub same_folders : (base path : List ℕ) (f g : Option (Bor (List ℕ))) → IsFolder base f
    → IsFolder path g → same_text (option_copied f) (option_copied g) ≡ same_folder base path
same_folders base path None None e d = sym (ap₂ same_segments e d)
same_folders base path None (Some g) e d =
    sym (ap₂ same_segments e d ∙ none_of_some (segments g.now) (HasFirst-split is_slash g.now))
same_folders base path (Some f) None e d =
    sym (ap₂ same_segments e d ∙ some_of_none (segments f.now) (HasFirst-split is_slash f.now))
same_folders base path (Some f) (Some g) e d = same_split f.now g.now ∙ sym (ap₂ same_segments e d)

-- the same of texts
same_segments-encodes : (ss ts : List (List ℕ))
    → same_segments (map encode_utf8_all ss) (map encode_utf8_all ts) ≡ same_segments ss ts
same_segments-encodes [] [] = refl
same_segments-encodes [] (t ∷ ts) = refl
same_segments-encodes (s ∷ ss) [] = refl
same_segments-encodes (s ∷ ss) (t ∷ ts) = ap₂ (λ a b. a && b)
    (same_from_decides (bytes_eq (encode_utf8_all s) (encode_utf8_all t)) (bytes_eq s t)
    (Decides-like (bytes_eq (encode_utf8_all s) (encode_utf8_all t)) (encodes_same s t)
    (ap encode_utf8_all) (bytes_eq-Decides (encode_utf8_all s) (encode_utf8_all t)))
    (bytes_eq-Decides s t))
    (same_segments-encodes ss ts)

but_last-encodes : (cs : List ℕ)
    → all_but_last (segments (encode_utf8_all cs))
    ≡ map encode_utf8_all (all_but_last (segments cs))
but_last-encodes cs =
    ap all_but_last (split-encodes 47 (lit< tt) cs) ∙ ap (λ n.
    take (n - 1) (map encode_utf8_all (segments cs))) (length-map (segments cs) encode_utf8_all)
    ∙ take-map encode_utf8_all (length (segments cs) - 1) (segments cs)

pub same_folder-encodes : (base path : List ℕ)
    → same_folder (encode_utf8_all base) (encode_utf8_all path) ≡ same_folder base path
same_folder-encodes base path =
    ap₂ same_segments (but_last-encodes base) (but_last-encodes path)
    ∙ same_segments-encodes (all_but_last (segments base)) (all_but_last (segments path))

any-append : (p : ℕ → Bool) (xs ys : List ℕ)
    → list_any p (xs ++ ys) ≡ (list_any p xs || list_any p ys)
any-append p [] ys = refl
any-append p (x ∷ xs) ys =
    ap (λ t. p x || t) (any-append p xs ys) ∙ or_assoc (p x) (list_any p xs) (list_any p ys) where
      or_assoc : (a b c : Bool) → (a || (b || c)) ≡ ((a || b) || c)
      or_assoc true b c = refl
      or_assoc false b c = refl

any-encodes : (sep : ℕ) → sep < 128 → (cs : List ℕ)
    → list_any (λ b. b == sep) (encode_utf8_all cs) ≡ list_any (λ b. b == sep) cs
any-encodes sep low [] = refl
any-encodes sep low (c ∷ cs) =
    any-append (λ b. b == sep) (encode_utf8 c) (encode_utf8_all cs)
    ∙ ap₂ (λ a b. a || b) (one (cases_Bool (c == sep))) (any-encodes sep low cs) where
      small : c ≡ sep → c < 128
      small e = omega arith

      one : ((c == sep) ≡ true) ⊎ ((c == sep) ≡ false)
          → list_any (λ b. b == sep) (encode_utf8 c) ≡ (c == sep)
      one (inl here) =
          ap (list_any (λ b. b == sep)) (encode_ascii c (small (eqb-true c sep here)))
          ∙ ap (λ t. t || false) here ∙ sym here
      one (inr other) = none_inside sep c low other ∙ sym other

-- a segment that stands alone, by its bytes
pub alone_of_bytes : (bytes : List ℕ) → IsUtf8 bytes
    → (not (length bytes == 0) && not (list_any is_colon bytes)) ≡ stands_alone (chars bytes)
alone_of_bytes bytes text =
    ap (λ bs. not (length bs == 0) && not (list_any is_colon bs)) (sym (encodes-chars bytes text))
    ∙ ap₂ (λ a b. not a && not b) (no_bytes (chars bytes)) (any-encodes 58 (lit< tt) (chars bytes))

-- two slashes at the beginning, by bytes
pub authority-encodes : (cs : List ℕ)
    → begins_with_slashes (encode_utf8_all cs) ≡ begins_with_slashes cs
authority-encodes [] = refl
authority-encodes (c ∷ cs) = elim (cases_Bool (is_slash c)) [
  | inl slash ↦
      ap (λ bs. begins_with_slashes (bs ++ encode_utf8_all cs))
      (encode_ascii c (small (eqb-true c 47 slash)))
      ∙ second cs
  | inr other ↦
      not_slash (encode_utf8 c) (encode_utf8_all cs) (encode_some c)
      (none_inside 47 c (lit< tt) other)
      ∙ sym (not_first c cs other)
] where
  small : {b : ℕ} → b ≡ 47 → b < 128
  small e = omega arith

  not_first : (b : ℕ) (bs : List ℕ) → is_slash b ≡ false → begins_with_slashes (b ∷ bs) ≡ false
  not_first b [] none = refl
  not_first b (d ∷ bs) none = and_left (is_slash b) (is_slash d) none

  not_slash : (bs more : List ℕ) → 0 < length bs → list_any is_slash bs ≡ false
      → begins_with_slashes (bs ++ more) ≡ false
  not_slash [] more some none = absurd (omega arith)
  not_slash (b ∷ bs) more some none =
      not_first b (bs ++ more)
      (Rattle.std.proofs.lemmas.Bool.or_parts (is_slash b) (list_any is_slash bs) none).0

  second : (cs : List ℕ)
      → begins_with_slashes (c ∷ encode_utf8_all cs) ≡ begins_with_slashes (c ∷ cs)
  second [] = refl
  second (d ∷ cs) = elim (cases_Bool (is_slash d)) [
    | inl slash ↦
        ap (λ bs. begins_with_slashes (c ∷ (bs ++ encode_utf8_all cs)))
        (encode_ascii d (small (eqb-true d 47 slash)))
    | inr other ↦
        after (encode_utf8 d) (encode_some d) (none_inside 47 d (lit< tt) other)
        ∙ sym (Rattle.std.proofs.lemmas.Bool.and_right (is_slash c) (is_slash d) other)
  ] where
    after : (bs : List ℕ) → 0 < length bs → list_any is_slash bs ≡ false
        → begins_with_slashes (c ∷ (bs ++ encode_utf8_all cs)) ≡ false
    after [] some none = absurd (omega arith)
    after (b ∷ bs) some none =
        Rattle.std.proofs.lemmas.Bool.and_right (is_slash c) (is_slash b)
        (Rattle.std.proofs.lemmas.Bool.or_parts (is_slash b) (list_any is_slash bs) none).0
