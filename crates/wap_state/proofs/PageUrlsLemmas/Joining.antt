-- A reference that is joined to the URL of a page comes to that of a page.
use Rattle.std.proofs.Common.{◌≡◌, ◌⊎◌, inl, inr, ℕ, zero, suc, ◌-◌, ◌≤◌, Bool, true, false, ◌&&◌}
use Rattle.std.proofs.Common.{◌==◌, cond}
use Rattle.std.proofs.Common.{List, [], ◌∷◌, ◌++◌, length, map, take, fold, refl, ap, sym, ◌∙◌}
use Rattle.std.proofs.Common.{subst}
use Rattle.std.proofs.Common.{Some, None, Option, IfSome, IsSome, option_map, decimal, arith}
use Rattle.std.specs.Prelude.{is_some, is_none, codes}
use Rattle.std.specs.Option.{option_map_or}
use Rattle.std.specs.List.{list_all, onto_first}
use Rattle.std.specs.Char.{to_ascii_lowercase}
use Rattle.std.proofs.lemmas.Bool.{and_parts, and_from, cases_Bool, cond-true, cond-false}
use Rattle.std.proofs.lemmas.List.Folds.{list_all-append}
use Rattle.wap_base.specs.Cuts.{begins_with}
use Rattle.wap_base.proofs.Splits.{HasFirst, HasFirst-split}
use Rattle.wap_url.specs.declared.url.Url.{Url}
use Rattle.wap_url.specs.Characters.{is_slash, is_allowed, is_scheme, is_host}
use Rattle.wap_url.specs.Segments.{segments, path_of, all_but_last}
use Rattle.wap_url.specs.inside.Segments.{folder_of}
use Rattle.wap_url.specs.UrlParts.{may_be_scheme, may_be_host, may_be_port, may_be_path, is_port}
use Rattle.wap_url.specs.Printing.{IsNormal}
use Rattle.wap_url.specs.Joining.{is_here, is_above, is_dot_segment, kept_with, end_of}
use Rattle.wap_url.specs.Joining.{without_dots}
use Rattle.wap_url.specs.Joining.{resolved, resolved_path, lead_segments, merged_path, target}
use Rattle.wap_url.specs.Joining.{rooted}
use Rattle.wap_url.specs.Joining.{joined}
use Rattle.wap_url.proofs.BackLaws.{slash_first}
use Rattle.wap_url.proofs.JoinLaws.{path-lead, resolved_at_root}
use Rattle.wap_state.specs.page_urls.PageUrls.{is_http, IsPageUrl}

-- whichever way a choice goes
either : {X : Type 0} (P : X → Type 0) (b : Bool) (x y : X) → P x → P y → P (cond b x y)
either P true x y one other = one
either P false x y one other = other

-- ---- characters of paths

abbrev Fine : List ℕ → Type 0
Fine path = list_all may_be_path path ≡ true

abbrev each_fine : List (List ℕ) → Bool
each_fine parts = list_all (λ part. list_all may_be_path part) parts

abbrev AllFine : List (List ℕ) → Type 0
AllFine parts = each_fine parts ≡ true

pub all-append : {X : Type 0} (p : X → Bool) (xs ys : List X) → list_all p xs ≡ true
    → list_all p ys ≡ true → list_all p (xs ++ ys) ≡ true
all-append p xs ys one other =
    list_all-append p xs ys ∙ and_from (list_all p xs) (list_all p ys) one other

all-take : {X : Type 0} (p : X → Bool) (n : ℕ) (xs : List X) → list_all p xs ≡ true
    → list_all p (take n xs) ≡ true
all-take p zero xs all = refl
all-take p (suc n) [] all = refl
all-take p (suc n) (x ∷ xs) all =
    let both = and_parts (p x) (list_all p xs) all in
    and_from (p x) (list_all p (take n xs)) both.0 (all-take p n xs both.1)

fine-onto : (c : ℕ) (parts : List (List ℕ)) → may_be_path c ≡ true → AllFine parts
    → AllFine (onto_first c parts)
fine-onto c [] one all =
    and_from (list_all may_be_path (c ∷ [])) true (and_from (may_be_path c) true one refl) refl
fine-onto c (part ∷ parts) one all =
    let both = and_parts (list_all may_be_path part) (each_fine parts) all in
    and_from (list_all may_be_path (c ∷ part)) (each_fine parts)
    (and_from (may_be_path c) (list_all may_be_path part) one both.0) both.1

fine-segments : (path : List ℕ) → Fine path → AllFine (segments path)
fine-segments [] all = refl
fine-segments (c ∷ cs) all =
    let both = and_parts (may_be_path c) (list_all may_be_path cs) all in
    either AllFine (is_slash c) ([] ∷ segments cs) (onto_first c (segments cs))
    (fine-segments cs both.1) (fine-onto c (segments cs) both.0 (fine-segments cs both.1))

fine-path : (parts : List (List ℕ)) → AllFine parts → Fine (path_of parts)
fine-path [] all = refl
fine-path (part ∷ []) all = (and_parts (list_all may_be_path part) true all).0
fine-path (part ∷ next ∷ parts) all =
    let both = and_parts (list_all may_be_path part) (each_fine (next ∷ parts)) all in
    all-append may_be_path part (47 ∷ path_of (next ∷ parts)) both.0
    (fine-path (next ∷ parts) both.1)

fine-folder : (parts : List (List ℕ)) → AllFine parts → Fine (folder_of parts)
fine-folder [] all = refl
fine-folder (part ∷ parts) all =
    let both = and_parts (list_all may_be_path part) (each_fine parts) all in
    all-append may_be_path part (47 ∷ folder_of parts) both.0 (fine-folder parts both.1)

fine-kept : (kept : List (List ℕ)) (part : List ℕ) → AllFine kept → Fine part
    → AllFine (kept_with kept part)
fine-kept kept part all one =
    either AllFine (is_here part) kept
    (cond (is_above part) (all_but_last kept) (kept ++ part ∷ [])) all
    (either AllFine (is_above part) (all_but_last kept) (kept ++ part ∷ [])
    (all-take (λ s. list_all may_be_path s) (length kept - 1) kept all)
    (all-append (λ s. list_all may_be_path s) kept (part ∷ []) all
    (and_from (list_all may_be_path part) true one refl)))

fine-fold : (kept parts : List (List ℕ)) → AllFine kept → AllFine parts
    → AllFine (fold kept_with kept parts)
fine-fold kept [] all others = all
fine-fold kept (part ∷ parts) all others =
    let both = and_parts (list_all may_be_path part) (each_fine parts) others in
    fine-fold (kept_with kept part) parts (fine-kept kept part all both.0) both.1

fine-without : (parts : List (List ℕ)) → AllFine parts → AllFine (without_dots parts)
fine-without parts all =
    all-append (λ s. list_all may_be_path s) (fold kept_with [] parts) (end_of parts)
    (fine-fold [] parts refl all)
    (either AllFine (is_dot_segment (Rattle.wap_url.specs.Segments.last_segment parts))
    ([] ∷ []) [] refl refl)

fine-resolved : (parts : List (List ℕ)) → AllFine parts → AllFine (resolved parts)
fine-resolved [] all = refl
fine-resolved (part ∷ []) all = fine-without (part ∷ []) all
fine-resolved (part ∷ next ∷ parts) all =
    either AllFine (length part == 0) ([] ∷ without_dots (next ∷ parts))
    (without_dots (part ∷ next ∷ parts))
    (fine-without (next ∷ parts)
    (and_parts (list_all may_be_path part) (each_fine (next ∷ parts)) all).1)
    (fine-without (part ∷ next ∷ parts) all)

fine-rooted : (path : List ℕ) → Fine path → Fine (rooted true (resolved_path path))
fine-rooted path all =
    either Fine (true && length (resolved_path path) == 0) (47 ∷ []) (resolved_path path) refl
    (fine-path (resolved (segments path)) (fine-resolved (segments path) (fine-segments path all)))

-- ---- paths from the root

-- it is empty, or begins with a slash
abbrev FromRoot : List ℕ → Type 0
FromRoot path = (path ≡ []) ⊎ (begins_with is_slash path ≡ true)

rooted_slash : (path : List ℕ) → begins_with is_slash (rooted true (47 ∷ path)) ≡ true
rooted_slash path =
    either (λ p. begins_with is_slash p ≡ true) (true && length (47 ∷ path) == 0) (47 ∷ [])
    (47 ∷ path) refl refl

rooted_is : (path : List ℕ) → FromRoot path
    → begins_with is_slash (rooted true (resolved_path path)) ≡ true
rooted_is path (inl empty) =
    ap (λ p. begins_with is_slash (rooted true (resolved_path p))) empty
rooted_is path (inr slash) =
    let root = slash_first path slash in
    ap (λ p. begins_with is_slash (rooted true p)) (ap resolved_path root.1
    ∙ resolved_at_root root.0)
    ∙ rooted_slash (path_of (without_dots (segments root.0)))

-- ---- what a reference takes from the URL of a page

-- all that is asked of a URL but that its path has no dot segments
record IsRough (url : Url) : Type 0 where
  scheme : IfSome url.scheme (λ scheme. list_all may_be_scheme scheme ≡ true)
  scheme_fits : IfSome url.scheme (λ scheme. is_scheme scheme ≡ true)
  scheme_low : option_map (map to_ascii_lowercase) url.scheme ≡ url.scheme
  host : IfSome url.host (λ host. list_all may_be_host host ≡ true)
  host_fits : IfSome url.host (λ host. is_host host ≡ true)
  host_low : option_map (map to_ascii_lowercase) url.host ≡ url.host
  port : IfSome (option_map decimal url.port) (λ port. list_all may_be_port port ≡ true)
  port_fits : IfSome (option_map decimal url.port) (λ port. is_port port ≡ true)
  port_small : IfSome url.port (λ port. port ≤ 65535)
  path : Fine url.path
  root : FromRoot url.path
  query : IfSome url.query (λ query. list_all is_allowed query ≡ true)

abbrev with_root : Url → Url
with_root url = record url { path = rooted (is_some url.host) (resolved_path url.path) }

no_host : {X : Type 0} (host : Option (List ℕ)) → IsSome host → host ≡ None → X
no_host None some none = absurd (let e = some in cc)
no_host (Some host) some none = absurd (let e = none in cc)

no_scheme : {X : Type 0} (scheme : Option (List ℕ))
    → option_map_or (λ one. Rattle.wap_base.specs.Texts.is_same_text one (codes "http")) scheme
    false ≡ true → scheme ≡ None → X
no_scheme None http none = absurd (let e = http in cc)
no_scheme (Some scheme) http none = absurd (let e = none in cc)

some_is : (host : Option (List ℕ)) → IsSome host → is_some host ≡ true
some_is None some = absurd (let e = some in cc)
some_is (Some host) some = refl

rough_page : (url : Url) → IsRough url → is_http url ≡ true → IsSome url.host
    → IsPageUrl (with_root url)
rough_page url rough http some =
    let path_is : rooted (is_some url.host) (resolved_path url.path)
    ≡ rooted true (resolved_path url.path) =
    ap (λ b. rooted b (resolved_path url.path)) (some_is url.host some) in
    record {
      normal = record {
        split = record {
          spells = refl;
          scheme = rough.scheme;
          host = rough.host;
          port = rough.port;
          port_has_host = λ none. no_host url.host some none;
          path = ap (list_all may_be_path) path_is ∙ fine-rooted url.path rough.path;
          query = rough.query;
          no_scheme = λ none other. no_scheme url.scheme http none;
          rooted = λ has. inr (ap (begins_with is_slash) path_is ∙ rooted_is url.path rough.root);
          no_host = λ none. no_host url.host some none;
        };
        fits = record {
          scheme = rough.scheme_fits;
          host = rough.host_fits;
          port = rough.port_fits;
        };
        port = rough.port_small;
        scheme = rough.scheme_low;
        host = rough.host_low;
      };
      http = http;
      host = some;
    }

-- a whole URL with a host
rough_whole : (url : Url) → IsNormal url → IsSome url.host → IsRough url
rough_whole url normal some = record {
  scheme = normal.split.scheme;
  scheme_fits = normal.fits.scheme;
  scheme_low = normal.scheme;
  host = normal.split.host;
  host_fits = normal.fits.host;
  host_low = normal.host;
  port = normal.split.port;
  port_fits = normal.fits.port;
  port_small = normal.port;
  path = normal.split.path;
  root = normal.split.rooted some;
  query = normal.split.query;
}

-- a reference with a host, and the scheme of another URL
rough_host : (base r : Url) → IsNormal base → IsNormal r → IsSome r.host
    → IsRough (record r { scheme = base.scheme })
rough_host base r one other some = record {
  scheme = one.split.scheme;
  scheme_fits = one.fits.scheme;
  scheme_low = one.scheme;
  host = other.split.host;
  host_fits = other.fits.host;
  host_low = other.host;
  port = other.split.port;
  port_fits = other.fits.port;
  port_small = other.port;
  path = other.split.path;
  root = other.split.rooted some;
  query = other.split.query;
}

-- the page itself, with another fragment
rough_same : (base : Url) (fragment : Option (List ℕ)) → IsNormal base → IsSome base.host
    → IsRough (record base { fragment = fragment })
rough_same base fragment normal some = record {
  scheme = normal.split.scheme;
  scheme_fits = normal.fits.scheme;
  scheme_low = normal.scheme;
  host = normal.split.host;
  host_fits = normal.fits.host;
  host_low = normal.host;
  port = normal.split.port;
  port_fits = normal.fits.port;
  port_small = normal.port;
  path = normal.split.path;
  root = normal.split.rooted some;
  query = normal.split.query;
}

-- ---- paths that are merged

fine-lead : (base : Url) → Fine base.path → AllFine (lead_segments base)
fine-lead base all =
    either AllFine (is_some base.host && length base.path == 0) ([] ∷ [])
    (all_but_last (segments base.path)) refl
    (all-take (λ s. list_all may_be_path s) (length (segments base.path) - 1)
    (segments base.path) (fine-segments base.path all))

fine-merged : (base r : Url) → Fine base.path → Fine r.path → Fine (merged_path base r)
fine-merged base r one other =
    either Fine (begins_with is_slash r.path) r.path
    (path_of (lead_segments base ++ segments r.path))
    other (ap (list_all may_be_path) (path-lead (lead_segments base) r.path)
    ∙ all-append may_be_path (folder_of (lead_segments base)) r.path
    (fine-folder (lead_segments base) (fine-lead base one)) other)

-- the folder of a path from the root begins there
lead_root : (rest : List ℕ) (parts : List (List ℕ)) → HasFirst parts
    → begins_with is_slash (folder_of (all_but_last ([] ∷ parts)) ++ rest) ≡ true
lead_root rest [] first = absurd (let e = first.is in cc)
lead_root rest (part ∷ parts) first =
    let some : length ([] ∷ part ∷ parts) - 1 ≡ suc (length parts) = omega arith in
    ap (λ n. begins_with is_slash (folder_of (take n ([] ∷ part ∷ parts)) ++ rest)) some

root_lead : (path rest : List ℕ) → begins_with is_slash path ≡ true
    → begins_with is_slash (folder_of (all_but_last (segments path)) ++ rest) ≡ true
root_lead path rest slash =
    let root = slash_first path slash in
    ap (λ p. begins_with is_slash (folder_of (all_but_last (segments p)) ++ rest)) root.1
    ∙ lead_root rest (segments root.0) (HasFirst-split is_slash root.0)

lead_is : (base : Url) (rest : List ℕ) → IsSome base.host → FromRoot base.path
    → begins_with is_slash (folder_of (lead_segments base) ++ rest) ≡ true
lead_is base rest some (inl empty) =
    ap (λ parts. begins_with is_slash (folder_of parts ++ rest))
    (cond-true (is_some base.host && length base.path == 0) ([] ∷ [])
    (all_but_last (segments base.path))
    (and_from (is_some base.host) (length base.path == 0) (some_is base.host some)
    (ap (λ (p : List ℕ). length p == 0) empty)))
lead_is base rest some (inr slash) =
    either (λ parts. begins_with is_slash (folder_of parts ++ rest) ≡ true)
    (is_some base.host && length base.path == 0) ([] ∷ []) (all_but_last (segments base.path)) refl
    (root_lead base.path rest slash)

merged_root : (base r : Url) → IsSome base.host → FromRoot base.path
    → begins_with is_slash (merged_path base r) ≡ true
merged_root base r some root = elim (cases_Bool (begins_with is_slash r.path)) [
  | inl slash ↦
      ap (begins_with is_slash) (cond-true (begins_with is_slash r.path) r.path
      (path_of (lead_segments base ++ segments r.path)) slash) ∙ slash
  | inr other ↦
      ap (begins_with is_slash) (cond-false (begins_with is_slash r.path) r.path
      (path_of (lead_segments base ++ segments r.path)) other
      ∙ path-lead (lead_segments base) r.path) ∙ lead_is base r.path some root
]

-- a reference without a host, in the folder of the page
rough_merged : (base r : Url) → IsNormal base → IsSome base.host → IsNormal r
    → IsRough (record r {
      scheme = base.scheme;
      host = base.host;
      port = base.port;
      path = merged_path base r;
    })
rough_merged base r one some other = record {
  scheme = one.split.scheme;
  scheme_fits = one.fits.scheme;
  scheme_low = one.scheme;
  host = one.split.host;
  host_fits = one.fits.host;
  host_low = one.host;
  port = one.split.port;
  port_fits = one.fits.port;
  port_small = one.port;
  path = fine-merged base r one.split.path other.split.path;
  root = inr (merged_root base r some (one.split.rooted some));
  query = other.split.query;
}

-- ---- a reference that is joined

abbrev IsPageIf : Url → Type 0
IsPageIf url = is_http url ≡ true → IsSome url.host → IsPageUrl (with_root url)

-- of a normal reference, whatever it is joined to
joined_whole : (r : Url) → IsNormal r → IsPageIf r
joined_whole r normal http some = rough_page r (rough_whole r normal some) http some

-- to the URL of a page
pub joined_page : (base r : Url) → IsPageUrl base → IsNormal r → is_http (joined base r) ≡ true
    → IsSome (joined base r).host → IsPageUrl (joined base r)
joined_page base r page normal =
    either IsPageIf (is_some r.scheme) r
    (cond (is_some r.host) (record r { scheme = base.scheme })
    (cond (length r.path == 0 && is_none r.query) (record base { fragment = r.fragment })
    (record r {
      scheme = base.scheme;
      host = base.host;
      port = base.port;
      path = merged_path base r;
    })))
    (joined_whole r normal)
    (either IsPageIf (is_some r.host) (record r { scheme = base.scheme })
    (cond (length r.path == 0 && is_none r.query) (record base { fragment = r.fragment })
    (record r {
      scheme = base.scheme;
      host = base.host;
      port = base.port;
      path = merged_path base r;
    }))
    (λ http some. rough_page (record r { scheme = base.scheme })
    (rough_host base r page.normal normal some) http some)
    (either IsPageIf (length r.path == 0 && is_none r.query) (record base { fragment = r.fragment })
    (record r {
      scheme = base.scheme;
      host = base.host;
      port = base.port;
      path = merged_path base r;
    })
    (λ http some. rough_page (record base { fragment = r.fragment })
    (rough_same base r.fragment page.normal some) http some)
    (λ http some. rough_page (record r {
      scheme = base.scheme;
      host = base.host;
      port = base.port;
      path = merged_path base r;
    }) (rough_merged base r page.normal page.host normal) http some)))

-- to itself
pub joined_alone : (r : Url) → IsNormal r → is_http (joined r r) ≡ true
    → IsSome (joined r r).host → IsPageUrl (joined r r)
joined_alone r normal = alone r.scheme refl where
  no_page : (url : Url) → url.scheme ≡ None → IsPageIf url
  no_page url none http some = no_scheme url.scheme http none

  alone : (scheme : Option (List ℕ)) → r.scheme ≡ scheme → IsPageIf (target r r)
  alone (Some scheme) is =
      subst IsPageIf (sym (cond-true (is_some r.scheme) r
      (cond (is_some r.host) (record r { scheme = r.scheme })
      (cond (length r.path == 0 && is_none r.query) (record r { fragment = r.fragment })
      (record r {
        scheme = r.scheme;
        host = r.host;
        port = r.port;
        path = merged_path r r;
      }))) (ap is_some is))) (joined_whole r normal)
  alone None is =
      either IsPageIf (is_some r.scheme) r
      (cond (is_some r.host) (record r { scheme = r.scheme })
      (cond (length r.path == 0 && is_none r.query) (record r { fragment = r.fragment })
      (record r {
        scheme = r.scheme;
        host = r.host;
        port = r.port;
        path = merged_path r r;
      }))) (no_page r is)
      (either IsPageIf (is_some r.host) (record r { scheme = r.scheme })
      (cond (length r.path == 0 && is_none r.query) (record r { fragment = r.fragment })
      (record r {
        scheme = r.scheme;
        host = r.host;
        port = r.port;
        path = merged_path r r;
      })) (no_page (record r { scheme = r.scheme }) is)
      (either IsPageIf (length r.path == 0 && is_none r.query) (record r { fragment = r.fragment })
      (record r {
        scheme = r.scheme;
        host = r.host;
        port = r.port;
        path = merged_path r r;
      }) (no_page (record r { fragment = r.fragment }) is)
      (no_page (record r {
        scheme = r.scheme;
        host = r.host;
        port = r.port;
        path = merged_path r r;
      }) is)))
