-- The relative form of a URL joins its base to it again.
use Rattle.std.proofs.Common.{◌≡◌, ◌≢◌, inl, inr, ℕ, Bool, true, false, cond, not, ◌&&◌, ◌||◌}
use Rattle.std.proofs.Common.{◌==◌, List, [], ◌∷◌, ◌++◌, length, fold, refl, ap, ap₂, sym}
use Rattle.std.proofs.Common.{◌∙◌, subst, arith, Some, None, Option, IfSome, IsSome, is_some}
use Rattle.std.proofs.Common.{is_none, append_assoc, append-nil}
use Rattle.std.specs.List.{list_all, list_any}
use Rattle.std.proofs.lemmas.Bool.{cases_Bool, and_parts, or_parts, or_from, cond-true}
use Rattle.std.proofs.lemmas.Bool.{cond-false, not-true, not-false, eqb-true, ne_eqb}
use Rattle.std.proofs.lemmas.List.Splits.{join_with_byte-slice_split}
use Rattle.std.proofs.lemmas.Slice.Eq.{bytes_eq-Decides}
use Rattle.wap_url.specs.declared.url.Url.{Url}
use Rattle.wap_url.specs.Characters.{is_slash, is_colon, is_allowed}
use Rattle.wap_base.specs.Cuts.{onward, begins_with}
use Rattle.wap_url.specs.UrlParts.{Parts, led_by, IsUrl, may_be_path, ends_word}
use Rattle.wap_url.specs.Calculation.{begins_with_slashes}
use Rattle.wap_url.specs.Printing.{text_without_fragment, without_fragment, IsNormal}
use Rattle.wap_url.specs.Segments.{segments, path_of, all_but_last, last_segment}
use Rattle.wap_url.specs.Joining.{kept_with, without_dots, resolved_path, rooted, merged_path}
use Rattle.wap_url.specs.Joining.{lead_segments, joined, is_here, is_above, is_dot_segment}
use Rattle.wap_url.specs.Relative.{same_text, same_port, same_site, same_folder, stands_alone}
use Rattle.wap_url.specs.Relative.{local_path, relative_form, IsPage, LeadsBack}
use Rattle.wap_base.proofs.Splits.{HasFirst, HasFirst-split, split-none}
use Rattle.wap_url.proofs.SplitLaws.{cut_last, split-cut, all_but_last-push, last_segment-push}
use Rattle.wap_url.proofs.JoinLaws.{resolved_at_root}
use Rattle.wap_url.proofs.RelationLaws.{same_segments-Decides}
use Rattle.wap_url.proofs.UntilLaws.{all-back}
use Rattle.wap_url.proofs.AgainLaws.{one_url}
use Rattle.wap_url.proofs.NormalLaws.{normal_again}

-- ---- a path without dot segments is left as it is
kept_all : (kept ss : List (List ℕ)) → list_any is_dot_segment ss ≡ false
    → fold kept_with kept ss ≡ kept ++ ss
kept_all kept [] none = sym (append-nil kept)
kept_all kept (s ∷ ss) none =
    let both = or_parts (is_dot_segment s) (list_any is_dot_segment ss) none in
    let tests = or_parts (is_here s) (is_above s) both.0 in
    ap (λ k. fold kept_with k ss)
    (cond-false (is_here s) kept (cond (is_above s) (all_but_last kept) (kept ++ s ∷ [])) tests.0
    ∙ cond-false (is_above s) (all_but_last kept) (kept ++ s ∷ []) tests.1)
    ∙ kept_all (kept ++ s ∷ []) ss both.1 ∙ append_assoc kept (s ∷ []) ss

last_plain : (ss : List (List ℕ)) → HasFirst ss → list_any is_dot_segment ss ≡ false
    → is_dot_segment (last_segment ss) ≡ false
last_plain [] h none = absurd (let e = h.is in cc)
last_plain (s ∷ []) h none = (or_parts (is_dot_segment s) false none).0
last_plain (s ∷ t ∷ ss) h none =
    last_plain (t ∷ ss) (record { first = t; rest = ss; is = refl })
    (or_parts (is_dot_segment s) (list_any is_dot_segment (t ∷ ss)) none).1

plain_segments : (ss : List (List ℕ)) → HasFirst ss → list_any is_dot_segment ss ≡ false
    → without_dots ss ≡ ss
plain_segments ss h none =
    ap₂ (λ a b. a ++ b) (kept_all [] ss none)
    (cond-false (is_dot_segment (last_segment ss)) ([] ∷ []) [] (last_plain ss h none))
    ∙ append-nil ss

-- a path from the root begins with a slash
pub slash_first : (path : List ℕ) → begins_with is_slash path ≡ true
    → (rest : List ℕ) × (path ≡ 47 ∷ rest)
slash_first [] slash = absurd (let e = slash in cc)
slash_first (c ∷ cs) slash = (cs, ap (λ d. d ∷ cs) (eqb-true c 47 slash))

pub plain_path : (path : List ℕ) → begins_with is_slash path ≡ true
    → list_any is_dot_segment (segments path) ≡ false → resolved_path path ≡ path
plain_path path slash none =
    let root = slash_first path slash in
    let plain : list_any is_dot_segment (segments root.0) ≡ false =
    (or_parts (is_dot_segment []) (list_any is_dot_segment (segments root.0))
    (sym (ap (λ p. list_any is_dot_segment (segments p)) root.1) ∙ none)).1 in
    ap resolved_path root.1 ∙ resolved_at_root root.0
    ∙ ap (λ ss. 47 ∷ path_of ss)
    (plain_segments (segments root.0) (HasFirst-split is_slash root.0) plain)
    ∙ ap (λ r. 47 ∷ r) (join_with_byte-slice_split 47 root.0) ∙ sym root.1

not_empty : (path : List ℕ) → begins_with is_slash path ≡ true → (length path == 0) ≡ false
not_empty [] slash = absurd (let e = slash in cc)
not_empty (c ∷ cs) slash = ne_eqb (length (c ∷ cs)) 0 (λ e. absurd (omega arith))

rooted_plain : (under : Bool) (path : List ℕ) → begins_with is_slash path ≡ true
    → rooted under path ≡ path
rooted_plain under path slash =
    cond-false (under && length path == 0) (47 ∷ []) path
    (Rattle.std.proofs.lemmas.Bool.and_right under (length path == 0) (not_empty path slash))

-- ---- the segments but for the last, and the last
front_and_last : (path : List ℕ)
    → all_but_last (segments path) ++ last_segment (segments path) ∷ [] ≡ segments path
front_and_last path = elim (cut_last is_slash path) [
  | inl whole ↦
      let one = split-none is_slash path whole in
      ap₂ (λ a b. all_but_last a ++ last_segment b ∷ []) one one ∙ sym one
  | inr cut ↦
      let is =
      ap segments cut.is ∙ split-cut is_slash cut.lead cut.at cut.last cut.passes cut.none in
      ap₂ (λ a b. a ++ b ∷ []) (ap all_but_last is ∙ all_but_last-push (segments cut.lead) cut.last)
      (ap last_segment is ∙ last_segment-push (segments cut.lead) cut.last)
      ∙ sym is
]

last_whole : (path : List ℕ) → list_any is_slash (last_segment (segments path)) ≡ false
last_whole path = elim (cut_last is_slash path) [
  | inl whole ↦
      ap (λ ss. list_any is_slash (last_segment ss)) (split-none is_slash path whole) ∙ whole
  | inr cut ↦
      ap (λ ss. list_any is_slash (last_segment ss))
      (ap segments cut.is ∙ split-cut is_slash cut.lead cut.at cut.last cut.passes cut.none)
      ∙ ap (list_any is_slash) (last_segment-push (segments cut.lead) cut.last) ∙ cut.none
]

last_part : (path : List ℕ) → (lead : List ℕ) × (path ≡ lead ++ last_segment (segments path))
last_part path = elim (cut_last is_slash path) [
  | inl whole ↦ ([], sym (ap last_segment (split-none is_slash path whole)))
  | inr cut ↦ (
    cut.lead ++ cut.at ∷ [],
    cut.is ∙ sym (append_assoc cut.lead (cut.at ∷ []) cut.last)
        ∙ ap (λ l. (cut.lead ++ cut.at ∷ []) ++ l)
        (sym (ap last_segment (ap segments cut.is ∙ split-cut is_slash cut.lead cut.at cut.last
        cut.passes cut.none) ∙ last_segment-push (segments cut.lead) cut.last)),
  )
]

-- ---- a whole URL leads back to itself
without_normal : (u : Url) → IsNormal u → IsNormal (without_fragment u)
without_normal u n = record {
  split = record {
    spells = refl;
    scheme = n.split.scheme;
    host = n.split.host;
    port = n.split.port;
    port_has_host = n.split.port_has_host;
    path = n.split.path;
    query = n.split.query;
    no_scheme = n.split.no_scheme;
    rooted = n.split.rooted;
    no_host = n.split.no_host;
  };
  fits = record { scheme = n.fits.scheme; host = n.fits.host; port = n.fits.port };
  port = n.port;
  scheme = n.scheme;
  host = n.host;
}

abbrev with_root : Url → Url
with_root t = record t { path = rooted (is_some t.host) (resolved_path t.path) }

path_stays : (under : Bool) (u : Url) → IsPage u → rooted under (resolved_path u.path) ≡ u.path
path_stays under u page =
    ap (rooted under) (plain_path u.path page.from_root page.no_dots)
    ∙ rooted_plain under u.path page.from_root

whole_joins : (base u : Url) → IsPage u → joined base (without_fragment u) ≡ without_fragment u
whole_joins base u page =
    ap with_root (cond-true (is_some u.scheme) (without_fragment u) (cond (is_some u.host)
    (record (without_fragment u) { scheme = base.scheme }) (cond (length u.path == 0
    && is_none u.query) (record base { fragment = None }) (record (without_fragment u) {
      scheme = base.scheme;
      host = base.host;
      port = base.port;
      path = merged_path base (without_fragment u);
    }))) page.scheme)
    ∙ ap (λ p. record (without_fragment u) { path = p }) (path_stays (is_some u.host) u page)

pub whole_back : (base u : Url) → IsPage u → LeadsBack base (text_without_fragment u) u
whole_back base u page =
    let is = normal_again (without_fragment u) (without_normal u page.normal) in
    record {
      is_read = (without_fragment u, is);
      joins =
          λ r has.
          ap (joined base) (one_url (text_without_fragment u) r (without_fragment u) has is)
          ∙ whole_joins base u page;
    }

-- ---- a local path leads back to its site
abbrev local_url : List ℕ → Option (List ℕ) → Url
local_url path query =
    record { scheme = None; host = None; port = None; path = path; query = query; fragment = None }

abbrev local_parts : List ℕ → Option (List ℕ) → Parts
local_parts path query =
    record { scheme = None; host = None; port = None; path = path; query = query; fragment = None }

no_host_there : (b : Bool) → IsSome {T = List ℕ} None → ⊥
no_host_there b some = let e = some in cc

local_read : (path : List ℕ) (query : Option (List ℕ)) → list_all may_be_path path ≡ true
    → IfSome query (λ q. list_all is_allowed q ≡ true)
    → begins_with is_colon (onward ends_word path) ≡ false
    → ((rest : List ℕ) → path ≢ 47 ∷ 47 ∷ rest)
    → IsUrl (path ++ led_by (63 ∷ []) query) (local_url path query)
local_read path query fine more plain single = (
  local_parts path query,
  record {
    spells = ap (λ q. path ++ q) (sym (append-nil (led_by (63 ∷ []) query)));
    scheme = tt;
    host = tt;
    port = tt;
    port_has_host = λ _. refl;
    path = fine;
    query = more;
    no_scheme = λ _ _. plain;
    rooted = λ some. absurd (no_host_there true some);
    no_host = λ _. single;
  },
  record { scheme = tt; host = tt; port = tt },
  refl,
)

same_text_is : (a b : Option (List ℕ)) → same_text a b ≡ true → a ≡ b
same_text_is None None same = refl
same_text_is None (Some b) same = absurd (let e = same in cc)
same_text_is (Some a) None same = absurd (let e = same in cc)
same_text_is (Some a) (Some b) same = ap Some ((bytes_eq-Decides a b).0 same)

same_port_is : (a b : Option ℕ) → same_port a b ≡ true → a ≡ b
same_port_is None None same = refl
same_port_is None (Some b) same = absurd (let e = same in cc)
same_port_is (Some a) None same = absurd (let e = same in cc)
same_port_is (Some a) (Some b) same = ap Some (eqb-true a b same)

-- the target of a local path
local_joins : (base u : Url) (path : List ℕ) → IsPage u → same_site base u ≡ true
    → (length path == 0) ≡ false → merged_path base (local_url path u.query) ≡ u.path
    → joined base (local_url path u.query) ≡ without_fragment u
local_joins base u path page same some merged =
    let site =
    and_parts (same_text base.scheme u.scheme)
    (same_text base.host u.host && same_port base.port u.port) same in
    let place = and_parts (same_text base.host u.host) (same_port base.port u.port) site.1 in
    ap with_root (cond-false (length path == 0 && is_none u.query) (record base { fragment = None })
    (record (local_url path u.query) {
      scheme = base.scheme;
      host = base.host;
      port = base.port;
      path = merged_path base (local_url path u.query);
    }) (Rattle.std.proofs.lemmas.Bool.and_left (length path == 0) (is_none u.query) some))
    ∙ same_url base.scheme u.scheme base.host u.host base.port u.port (rooted (is_some base.host)
    (resolved_path (merged_path base (local_url path u.query)))) u.path u.query
    (same_text_is base.scheme u.scheme site.0) (same_text_is base.host u.host place.0)
    (same_port_is base.port u.port place.1)
    (ap (λ p. rooted (is_some base.host) (resolved_path p)) merged
    ∙ path_stays (is_some base.host) u page) where
      same_url : (s s' h h' : Option (List ℕ)) (n n' : Option ℕ) (p p' : List ℕ)
          (q : Option (List ℕ)) → s ≡ s' → h ≡ h' → n ≡ n' → p ≡ p'
          → ◌≡◌ {A = Url} (record {
            scheme = s;
            host = h;
            port = n;
            path = p;
            query = q;
            fragment = None;
          }) (record { scheme = s'; host = h'; port = n'; path = p'; query = q; fragment = None })
      same_url s s' h h' n n' p p' q a b c d =
          λ i.
          record { scheme = a i; host = b i; port = c i; path = d i; query = q; fragment = None }

local_back : (base u : Url) (path : List ℕ) → IsPage u → same_site base u ≡ true
    → (length path == 0) ≡ false → merged_path base (local_url path u.query) ≡ u.path
    → list_all may_be_path path ≡ true → begins_with is_colon (onward ends_word path) ≡ false
    → ((rest : List ℕ) → path ≢ 47 ∷ 47 ∷ rest)
    → LeadsBack base (path ++ led_by (63 ∷ []) u.query) u
local_back base u path page same some merged fine plain single =
    let is = local_read path u.query fine page.normal.split.query plain single in
    record {
      is_read = (local_url path u.query, is);
      joins =
          λ r has. ap (joined base) (one_url (path ++ led_by (63 ∷ []) u.query) r
          (local_url path u.query) has is) ∙ local_joins base u path page same some merged;
    }

-- the path itself
path_back : (base u : Url) → IsPage u → same_site base u ≡ true → begins_with_slashes u.path ≡ false
    → LeadsBack base (u.path ++ led_by (63 ∷ []) u.query) u
path_back base u page same single =
    let root = slash_first u.path page.from_root in
    local_back base u u.path page same (not_empty u.path page.from_root)
    (cond-true (begins_with is_slash u.path) u.path
    (path_of (lead_segments base ++ segments u.path)) page.from_root)
    page.normal.split.path
    (ap (λ p. begins_with is_colon (onward ends_word p)) root.1)
    (λ rest e. two rest e) where
      two : (rest : List ℕ) → u.path ≡ 47 ∷ 47 ∷ rest → ⊥
      two rest e = let wrong : true ≡ false = sym (ap begins_with_slashes e) ∙ single in cc

-- its last segment, in the same folder
no_colon_first : (xs : List ℕ) → list_any is_colon xs ≡ false → list_any is_slash xs ≡ false
    → begins_with is_colon (onward ends_word xs) ≡ false
no_colon_first [] colon slash = refl
no_colon_first (x ∷ xs) colon slash =
    let a =
    or_parts (is_colon x) (list_any is_colon xs) colon in
    let b = or_parts (is_slash x) (list_any is_slash xs) slash in
    ap (begins_with is_colon) (cond-false (ends_word x) (x ∷ xs) (onward ends_word xs)
    (or_from (is_colon x) (is_slash x) a.0 b.0)) ∙ no_colon_first xs a.1 b.1

no_slash_first : (xs : List ℕ) → list_any is_slash xs ≡ false → begins_with is_slash xs ≡ false
no_slash_first [] none = refl
no_slash_first (x ∷ xs) none = (or_parts (is_slash x) (list_any is_slash xs) none).0

folder_there : (path rest : List ℕ) → path ≡ 47 ∷ rest → all_but_last (segments path) ≡ [] → ⊥
folder_there path rest is none =
    let h = HasFirst-split is_slash rest in
    let e : last_segment (segments path) ∷ [] ≡ [] ∷ h.first ∷ h.rest =
    ap (λ xs. xs ++ last_segment (segments path) ∷ []) (sym none) ∙ front_and_last path
    ∙ ap segments is ∙ ap (λ ss. [] ∷ ss) h.is in
    cc

lead_is : (base u : Url) → IsPage u → same_folder base.path u.path ≡ true
    → lead_segments base ≡ all_but_last (segments u.path)
lead_is base u page same =
    let folders =
    (same_segments-Decides (all_but_last (segments base.path)) (all_but_last (segments u.path))).0
    same in
    let root = slash_first u.path page.from_root in
    cond-false (is_some base.host && length base.path == 0) ([] ∷ [])
    (all_but_last (segments base.path))
    (Rattle.std.proofs.lemmas.Bool.and_right (is_some base.host) (length base.path == 0)
    (ne_eqb (length base.path) 0 (λ e.
    folder_there u.path root.0 root.1 (sym folders ∙ ap (λ p. all_but_last (segments p))
    (Rattle.std.proofs.lemmas.List.nil_from_length base.path e)))))
    ∙ folders

segment_back : (base u : Url) → IsPage u → same_site base u ≡ true
    → same_folder base.path u.path ≡ true → stands_alone (last_segment (segments u.path)) ≡ true
    → LeadsBack base (last_segment (segments u.path) ++ led_by (63 ∷ []) u.query) u
segment_back base u page same folder alone =
    let segment = last_segment (segments u.path) in
    let tests =
    and_parts (not (length (last_segment (segments u.path)) == 0))
    (not (list_any is_colon (last_segment (segments u.path)))) alone in
    let slash = last_whole u.path in
    let lead = last_part u.path in
    local_back base u (last_segment (segments u.path)) page same
    (not-true (length (last_segment (segments u.path)) == 0) tests.0)
    (cond-false (begins_with is_slash (last_segment (segments u.path))) (last_segment
    (segments u.path)) (path_of (lead_segments base ++ segments (last_segment (segments u.path))))
    (no_slash_first (last_segment (segments u.path)) (last_whole u.path))
    ∙ ap₂ (λ a b. path_of (a ++ b)) (lead_is base u page folder)
    (split-none is_slash (last_segment (segments u.path)) (last_whole u.path))
    ∙ ap path_of (front_and_last u.path) ∙ join_with_byte-slice_split 47 u.path)
    (all-back may_be_path lead.0 (last_segment (segments u.path))
    (ap (list_all may_be_path) (sym lead.1) ∙ page.normal.split.path))
    (no_colon_first (last_segment (segments u.path))
    (not-true (list_any is_colon (last_segment (segments u.path))) tests.1) (last_whole u.path))
    (λ rest e. two rest e) where
      two : (rest : List ℕ) → last_segment (segments u.path) ≡ 47 ∷ 47 ∷ rest → ⊥
      two rest e =
          let wrong : true ≡ false = sym (ap (list_any is_slash) e) ∙ last_whole u.path in
          cc

-- ---- the relative form leads back
local_case : (base u : Url) → IsPage u → same_site base u ≡ true
    → begins_with_slashes u.path ≡ false
    → LeadsBack base (local_path base.path u.path ++ led_by (63 ∷ []) u.query) u
local_case base u page same single =
    elim (cases_Bool
    (same_folder base.path u.path && stands_alone (last_segment (segments u.path)))) [
      | inl short ↦
          let tests = and_parts (same_folder base.path u.path)
          (stands_alone (last_segment (segments u.path))) short in
          subst (λ p. LeadsBack base (p ++ led_by (63 ∷ []) u.query) u) (sym
          (cond-true (same_folder base.path u.path && stands_alone (last_segment (segments u.path)))
          (last_segment (segments u.path)) u.path short))
          (segment_back base u page same tests.0 tests.1)
      | inr long ↦
          subst (λ p. LeadsBack base (p ++ led_by (63 ∷ []) u.query) u) (sym (cond-false
          (same_folder base.path u.path && stands_alone (last_segment (segments u.path)))
          (last_segment (segments u.path)) u.path long)) (path_back base u page same single)
    ]

pub leads_back : (base u : Url) → IsPage u → LeadsBack base (relative_form base u) u
leads_back base u page =
    let whole =
    text_without_fragment u in
    let local = local_path base.path u.path ++ led_by (63 ∷ []) u.query in
    elim (cases_Bool (not (same_site base u) || begins_with_slashes u.path)) [
      | inl far ↦
          subst (λ text. LeadsBack base text u)
          (sym (cond-true (not (same_site base u) || begins_with_slashes u.path)
          (text_without_fragment u) (local_path base.path u.path ++ led_by (63 ∷ []) u.query) far))
          (whole_back base u page)
      | inr near ↦
          let tests = or_parts (not (same_site base u)) (begins_with_slashes u.path) near in
          subst (λ text. LeadsBack base text u)
          (sym (cond-false (not (same_site base u) || begins_with_slashes u.path)
          (text_without_fragment u) (local_path base.path u.path ++ led_by (63 ∷ []) u.query) near))
          (local_case base u page (not-false (same_site base u) tests.0) tests.1)
    ]
