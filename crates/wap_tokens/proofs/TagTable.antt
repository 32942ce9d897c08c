-- The table of tags, computed.
use Rattle.std.proofs.Common.{◌≡◌, ◌≢◌, ℕ, ◌<◌, Bool, true, ◌==◌, nat_eq, map, List, []}
use Rattle.std.proofs.Common.{Option, Some, None, refl, sym, ap, ◌∙◌, inl, inr}
use Rattle.std.specs.Prelude.{slice_get, encode_utf8_all}
use Rattle.std.specs.List.{list_all}
use Rattle.std.specs.Option.{option_and_then}
use Rattle.std.specs.Map.{lookup}
use Rattle.std.specs.Str.{chars, bytes_eq}
use Rattle.std.specs.Cmp.Lexicographic.{bytes_decides}
use Rattle.std.proofs.lemmas.Bool.{agree_below, agree_below_at, eqb-true, cases_Bool, cond-false}
use Rattle.wap_base.specs.Texts.{is_same_text}
use Rattle.wap_tokens.specs.declared.markup.name.Tag.{Tag}
use Rattle.wap_tokens.specs.declared.markup.name.Tag.TheVariants as tags
use Rattle.wap_tokens.specs.contracts.markup.name.Tag as type
use Rattle.wap_tokens.specs.markup.Tables.{TagRow, is_same_tag, tag_rows, tag_by_code, tag_by_name}
use Rattle.wap_tokens.specs.markup.Tables.{tag_of, code_of, tag_named, name_of_tag}
use Rattle.wap_tokens.specs.inside.Places.{tag_place}
use Rattle.wap_tokens.proofs.Found.{found_passes, lookup_alike, is_same_option, same_option}
use Rattle.wap_base.proofs.Plain.{is_plain, same-plain}
use denote.Enum.Bare.{same_true}

-- ---- computed

abbrev code_fits : ℕ × Tag → Bool
code_fits row = nat_eq (code_of row.1) row.0

codes_fit : list_all code_fits (map tag_by_code tag_rows) ≡ true
unfolding code_of tag_rows
codes_fit = refl

abbrev name_fits : List ℕ × Tag → Bool
name_fits row = is_same_text (name_of_tag row.1) row.0

names_fit : list_all name_fits (map tag_by_name tag_rows) ≡ true
unfolding name_of_tag tag_rows
names_fit = refl

names_plain : list_all (λ row. is_plain row.0) (map tag_by_name tag_rows) ≡ true
unfolding tag_rows
names_plain = refl

pub coded : (tag : Tag) → tag ≢ tags.Other → tag_of 0 (code_of tag) ≡ Some tag
unfolding tag_of tag_rows code_of
coded tags.Other known = absurd (known refl)
coded tag known = refl

pub named : (tag : Tag) → tag ≢ tags.Other → tag_named (name_of_tag tag) ≡ Some tag
unfolding tag_named tag_rows name_of_tag
named tags.Other known = absurd (known refl)
named tag known = refl

-- the tag of the row at a place
abbrev pub tag_in : TagRow → Tag
tag_in row = row.1

unfoldable pub placed_tag : ℕ → Option Tag
placed_tag code = option_and_then (slice_get (map tag_in tag_rows)) (tag_place code)

places_fit : agree_below (λ code. is_same_option is_same_tag (tag_of 0 code) (placed_tag code))
    (λ code. true) 256
    ≡ true
unfolding tag_of tag_rows placed_tag
places_fit = refl

-- ---- what follows

pub tag_of-placed : (code : ℕ) → code < 256 → tag_of 0 code ≡ placed_tag code
tag_of-placed code byte =
    same_option is_same_tag (same_true type.the_type tt) (tag_of 0 code) (placed_tag code)
    (agree_below_at (λ code. is_same_option is_same_tag (tag_of 0 code) (placed_tag code))
    (λ code. true) 256 code places_fit byte)

pub tag_of-at : (page code place : ℕ) → page ≡ 0 → code < 256 → tag_place code ≡ Some place
    → tag_of page code ≡ slice_get (map tag_in tag_rows) place
unfolding placed_tag
tag_of-at page code place zero byte there =
    ap (λ page. tag_of page code) zero ∙ tag_of-placed code byte
    ∙ ap (option_and_then (slice_get (map tag_in tag_rows))) there

pub tag_of-free : (page code : ℕ) → page ≡ 0 → code < 256 → tag_place code ≡ None
    → tag_of page code ≡ None
unfolding placed_tag
tag_of-free page code zero byte free =
    ap (λ page. tag_of page code) zero ∙ tag_of-placed code byte
    ∙ ap (option_and_then (slice_get (map tag_in tag_rows))) free

pub tag_of-other_page : (page code : ℕ) → page ≢ 0 → tag_of page code ≡ None
unfolding tag_of
tag_of-other_page page code other = elim (cases_Bool (page == 0)) [
  | inl is ↦ absurd (other (eqb-true page 0 is))
  | inr isnt ↦ cond-false (page == 0) _ _ isnt
]

on_page_0 : (page code : ℕ) (tag : Tag) → tag_of page code ≡ Some tag → page ≡ 0
on_page_0 page code tag found = elim (cases_Bool (page == 0)) [
  | inl is ↦ eqb-true page 0 is
  | inr isnt ↦ absurd (cc (
    found,
    tag_of-other_page page code (λ zero. absurd (cc (isnt, ap (λ (n : ℕ). n == 0) zero))),
  ))
]

pub code : (page code : ℕ) (tag : Tag) → tag_of page code ≡ Some tag
    → (page ≡ 0) × (code_of tag ≡ code)
unfolding tag_of
code page number tag found =
    let zero = on_page_0 page number tag found in
    let here : lookup (nat_eq number) (map tag_by_code tag_rows) ≡ Some tag =
    ap (λ page. tag_of page number) (sym zero) ∙ found in
    let row =
    found_passes (nat_eq number) code_fits (map tag_by_code tag_rows) tag codes_fit here in
    (zero, eqb-true (code_of tag) row.0 row.2 ∙ sym (eqb-true number row.0 row.1))

pub name : (name : List ℕ) (tag : Tag) → tag_named name ≡ Some tag → name_of_tag tag ≡ name
unfolding tag_named
name spelled tag found =
    let row =
    found_passes (is_same_text spelled) name_fits (map tag_by_name tag_rows) tag names_fit found in
    (bytes_decides (name_of_tag tag) row.0).0 row.2 ∙ sym ((bytes_decides spelled row.0).0 row.1)

pub tag_named-bytes : (bytes text : List ℕ) → bytes ≡ encode_utf8_all text → text ≡ chars bytes
    → lookup (bytes_eq bytes) (map tag_by_name tag_rows) ≡ tag_named text
unfolding tag_named
tag_named-bytes bytes text encoded read =
    lookup_alike is_plain (bytes_eq bytes) (is_same_text text) (map tag_by_name tag_rows)
    (λ known plain. same-plain bytes text known encoded read plain) names_plain

-- no code and no name is that of an unknown root
no_code : tag_of 0 0 ≡ None
unfolding tag_of tag_rows
no_code = refl

no_name : tag_named [] ≡ None
unfolding tag_named tag_rows
no_name = refl

code_of-Other : code_of tags.Other ≡ 0
unfolding code_of tag_rows
code_of-Other = refl

name_of-Other : name_of_tag tags.Other ≡ []
unfolding name_of_tag tag_rows
name_of-Other = refl

pub tag_of-known : (page number : ℕ) (tag : Tag) → tag_of page number ≡ Some tag → tag ≢ tags.Other
tag_of-known page number tag found other =
    let own = code page number tag found in
    let zero : number ≡ 0 = sym own.1 ∙ ap code_of other ∙ code_of-Other in
    let there : tag_of 0 0 ≡ Some tag =
    sym (ap (λ (n : ℕ). tag_of n number) own.0 ∙ ap (λ (n : ℕ). tag_of 0 n) zero) ∙ found in
    absurd (cc (there, no_code))

pub tag_named-known : (spelled : List ℕ) (tag : Tag) → tag_named spelled ≡ Some tag
    → tag ≢ tags.Other
tag_named-known spelled tag found other =
    let nothing : spelled ≡ [] =
    sym (name spelled tag found) ∙ ap name_of_tag other ∙ name_of-Other in
    let there : tag_named [] ≡ Some tag = sym (ap tag_named nothing) ∙ found in
    absurd (cc (there, no_name))
