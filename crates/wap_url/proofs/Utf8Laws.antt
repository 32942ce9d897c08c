-- The labels of a host and the segments of a path, by a text's bytes and by its characters.
use Rattle.std.proofs.Common.{◌≡◌, ℕ, ◌-◌, ◌<◌, ◌↔◌, subst₂, take, lit<, true, false, cond}
use Rattle.std.proofs.Common.{◌==◌, List, [], ◌∷◌, ◌++◌, length, map, refl, ap, ap₂, sym, ◌∙◌}
use Rattle.std.proofs.Common.{inl, inr, arith, encode_utf8, encode_utf8_all}
use Rattle.std.specs.List.{list_any}
use Rattle.std.specs.Char.{to_ascii_lowercase}
use Rattle.std.specs.Str.{all_scalars, chars}
use Rattle.std.proofs.lemmas.Bool.{cases_Bool, cond-true, cond-false, eqb-true}
use Rattle.std.proofs.lemmas.Bool.{cond_both, or_parts, and_parts}
use Rattle.std.proofs.lemmas.List.{map-append, length-map, take-map}
use Rattle.std.proofs.Math.Utf8.{scalar}
use Rattle.wap_url.specs.Segments.{IsPrefix, IsSuffix, labels, segments, last_segment, all_but_last}
use Rattle.wap_url.specs.Access.{below_root, access_segments, without_empty_last}
use Rattle.wap_url.specs.Characters.{is_slash, is_dot}
use Rattle.std.proofs.lemmas.Str.{encode_ascii}
use Rattle.wap_base.proofs.Utf8Cuts.{AllText, AllText-split, AllText-take, chars-map}
use Rattle.wap_base.proofs.Utf8Cuts.{encode_some, none_inside, no_bytes, lower-encodes}
use Rattle.wap_base.proofs.Utf8Cuts.{scalars-lower, split-encodes}

-- a list of texts ends or begins another just where their bytes do
pub suffix_of_bytes : (part whole : List (List ℕ)) → AllText part → AllText whole
    → IsSuffix (map encode_utf8_all part) (map encode_utf8_all whole) → IsSuffix part whole
suffix_of_bytes part whole each all (lead, is) = (
  map chars lead,
  sym (chars-map whole all) ∙ ap (map chars) is ∙ map-append chars lead (map encode_utf8_all part)
      ∙ ap (λ xs. map chars lead ++ xs) (chars-map part each),
)

pub suffix_to_bytes : (part whole : List (List ℕ)) → IsSuffix part whole
    → IsSuffix (map encode_utf8_all part) (map encode_utf8_all whole)
suffix_to_bytes part whole (lead, is) =
    (map encode_utf8_all lead, ap (map encode_utf8_all) is ∙ map-append encode_utf8_all lead part)

pub prefix_of_bytes : (part whole : List (List ℕ)) → AllText part → AllText whole
    → IsPrefix (map encode_utf8_all part) (map encode_utf8_all whole) → IsPrefix part whole
prefix_of_bytes part whole each all (rest, is) = (
  map chars rest,
  sym (chars-map whole all) ∙ ap (map chars) is ∙ map-append chars (map encode_utf8_all part) rest
      ∙ ap (λ xs. xs ++ map chars rest) (chars-map part each),
)

pub prefix_to_bytes : (part whole : List (List ℕ)) → IsPrefix part whole
    → IsPrefix (map encode_utf8_all part) (map encode_utf8_all whole)
prefix_to_bytes part whole (rest, is) =
    (map encode_utf8_all rest, ap (map encode_utf8_all) is ∙ map-append encode_utf8_all part rest)

-- the labels of a host and of a domain in lower case
pub labels_of_bytes : (domain host : List ℕ) → all_scalars domain ≡ true → all_scalars host ≡ true
    → IsSuffix (labels (map to_ascii_lowercase (encode_utf8_all domain)))
    (labels (encode_utf8_all host))
    ↔ IsSuffix (labels (map to_ascii_lowercase domain)) (labels host)
labels_of_bytes domain host text text' =
    let e : labels (map to_ascii_lowercase (encode_utf8_all domain))
    ≡ map encode_utf8_all (labels (map to_ascii_lowercase domain)) =
    ap labels (lower-encodes domain) ∙ split-encodes 46 (lit< tt) (map to_ascii_lowercase domain) in
    let f : labels (encode_utf8_all host) ≡ map encode_utf8_all (labels host) =
    split-encodes 46 (lit< tt) host in (
      λ suffix. suffix_of_bytes (labels (map to_ascii_lowercase domain)) (labels host)
          (AllText-split is_dot (map to_ascii_lowercase domain) (scalars-lower domain text))
          (AllText-split is_dot host text') (subst₂ IsSuffix e f suffix),
      λ suffix. subst₂ IsSuffix (sym e) (sym f)
          (suffix_to_bytes (labels (map to_ascii_lowercase domain)) (labels host) suffix),
    )

below_root-encodes : (path : List ℕ)
    → below_root (encode_utf8_all path) ≡ encode_utf8_all (below_root path)
below_root-encodes [] = refl
below_root-encodes (c ∷ cs) = elim (cases_Bool (is_slash c)) [
  | inl slash ↦
      ap (λ bs. below_root (bs ++ encode_utf8_all cs))
      (encode_ascii c (small (eqb-true c 47 slash)))
      ∙ cond-true (is_slash c) (encode_utf8_all cs) (c ∷ encode_utf8_all cs) slash
      ∙ ap encode_utf8_all (sym (cond-true (is_slash c) cs (c ∷ cs) slash))
  | inr other ↦
      first (encode_utf8 c) (encode_some c) (none_inside 47 c (lit< tt) other)
      ∙ ap encode_utf8_all (sym (cond-false (is_slash c) cs (c ∷ cs) other))
] where
  small : c ≡ 47 → c < 128
  small e = omega arith

  first : (bs : List ℕ) → 0 < length bs → list_any is_slash bs ≡ false
      → below_root (bs ++ encode_utf8_all cs) ≡ bs ++ encode_utf8_all cs
  first [] some none = absurd (omega arith)
  first (b ∷ bs) some none =
      cond-false (is_slash b) (bs ++ encode_utf8_all cs) (b ∷ (bs ++ encode_utf8_all cs))
      (or_parts (is_slash b) (list_any is_slash bs) none).0

last-map : (parts : List (List ℕ))
    → last_segment (map encode_utf8_all parts) ≡ encode_utf8_all (last_segment parts)
last-map [] = refl
last-map (s ∷ []) = refl
last-map (s ∷ t ∷ parts) = last-map (t ∷ parts)

without-map : (parts : List (List ℕ))
    → without_empty_last (map encode_utf8_all parts)
    ≡ map encode_utf8_all (without_empty_last parts)
without-map parts =
    ap₂ (λ t n. cond t (take n (map encode_utf8_all parts)) (map encode_utf8_all parts))
    (ap (λ s. length s == 0) (last-map parts) ∙ no_bytes (last_segment parts))
    (ap (λ n. n - 1) (length-map parts encode_utf8_all))
    ∙ elim (cases_Bool (length (last_segment parts) == 0)) [
      | inl none ↦
          cond-true (length (last_segment parts) == 0)
          (take (length parts - 1) (map encode_utf8_all parts)) (map encode_utf8_all parts) none
          ∙ take-map encode_utf8_all (length parts - 1) parts ∙ ap (map encode_utf8_all)
          (sym (cond-true (length (last_segment parts) == 0) (all_but_last parts) parts none))
      | inr some ↦
          cond-false (length (last_segment parts) == 0)
          (take (length parts - 1) (map encode_utf8_all parts)) (map encode_utf8_all parts) some
          ∙ ap (map encode_utf8_all)
          (sym (cond-false (length (last_segment parts) == 0) (all_but_last parts) parts some))
    ]

AllText-without : (parts : List (List ℕ)) → AllText parts → AllText (without_empty_last parts)
AllText-without parts each =
    cond_both (length (last_segment parts) == 0) (all_but_last parts) parts AllText
    (λ _. AllText-take (length parts - 1) parts each) (λ _. each)

scalars-below_root : (path : List ℕ) → all_scalars path ≡ true
    → all_scalars (below_root path) ≡ true
scalars-below_root [] text = refl
scalars-below_root (c ∷ cs) text =
    cond_both (is_slash c) cs (c ∷ cs) (λ xs. all_scalars xs ≡ true)
    (λ _. (and_parts (scalar c) (all_scalars cs) text).1) (λ _. text)

pub segments_of_bytes : (access path : List ℕ) → all_scalars access ≡ true
    → all_scalars path ≡ true →
    IsPrefix (without_empty_last (segments (below_root (encode_utf8_all access))))
    (segments (below_root (encode_utf8_all path)))
    ↔ IsPrefix (access_segments access) (segments (below_root path))
segments_of_bytes access path text text' =
    let bytes : (p : List ℕ)
    → segments (below_root (encode_utf8_all p)) ≡ map encode_utf8_all (segments (below_root p)) =
    λ p. ap segments (below_root-encodes p) ∙ split-encodes 47 (lit< tt) (below_root p) in
    let e : without_empty_last (segments (below_root (encode_utf8_all access)))
    ≡ map encode_utf8_all (access_segments access) =
    ap without_empty_last (bytes access) ∙ without-map (segments (below_root access)) in (
      λ prefix. prefix_of_bytes (access_segments access) (segments (below_root path))
          (AllText-without (segments (below_root access))
          (AllText-split is_slash (below_root access) (scalars-below_root access text)))
          (AllText-split is_slash (below_root path) (scalars-below_root path text'))
          (subst₂ IsPrefix e (bytes path) prefix),
      λ prefix. subst₂ IsPrefix (sym e) (sym (bytes path))
          (prefix_to_bytes (access_segments access) (segments (below_root path)) prefix),
    )
