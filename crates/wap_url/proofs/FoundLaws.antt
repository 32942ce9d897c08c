-- A text that is read without a fault is spelled by well-formed parts.
use Rattle.std.proofs.Common.{◌≡◌, ◌≢◌, ◌⊎◌, inl, inr, ℕ, Bool, true, false, cond, not, ◌&&◌}
use Rattle.std.proofs.Common.{◌||◌, List, [], ◌∷◌, ◌++◌, drop, length, refl, ap, ap₂, sym, ◌∙◌}
use Rattle.std.proofs.Common.{subst, Some, None, Option, IfSome, IsSome, append_assoc, Ok, Err}
use Rattle.std.proofs.Common.{Result, option_map, option_and_then}
use Rattle.std.specs.List.{list_all}
use Rattle.std.proofs.lemmas.Bool.{cases_Bool, and_parts, cond-true, cond-false, not-true}
use Rattle.std.proofs.lemmas.Bool.{not-false, eqb-true, or_from, or_left, or_right}
use Rattle.wap_url.specs.declared.url.Url.{Url}
use Rattle.wap_url.specs.declared.fault.UrlFault.{UrlFault}
use Rattle.wap_url.specs.declared.fault.UrlFault.TheVariants.{BadChar, BadScheme, BadHost}
use Rattle.wap_url.specs.declared.fault.UrlFault.TheVariants.{BadPort, NoMemory}
use Rattle.wap_url.specs.Refusal.{HasBadChar, IsRefused}
use Rattle.wap_url.specs.Characters.{is_hash, is_slash, is_colon, is_question, is_allowed}
use Rattle.wap_url.specs.Characters.{ends_scheme, ends_authority, is_scheme, is_host}
use Rattle.wap_base.specs.Cuts.{until, onward, after_one, begins_with}
use Rattle.wap_url.specs.UrlParts.{Parts, spelled, followed_by, led_by, authority, is_port}
use Rattle.wap_url.specs.UrlParts.{url_of, IsSplit, Fits, IsUrl, ends_word, may_be_scheme}
use Rattle.wap_url.specs.UrlParts.{may_be_host, may_be_port, may_be_path}
use Rattle.wap_url.specs.Calculation.{is_stop, front, fragment_of, has_bad_char, has_scheme}
use Rattle.wap_url.specs.Calculation.{scheme_of}
use Rattle.wap_url.specs.Calculation.{after_scheme, begins_with_slashes, authority_of}
use Rattle.wap_url.specs.Calculation.{after_authority}
use Rattle.wap_url.specs.Calculation.{host_in, port_in, tail_of, path_part, query_part, parts_with}
use Rattle.wap_url.specs.Calculation.{parts_of, passes_if_there, fault_of, unless, url_at}
use Rattle.wap_url.proofs.FrontLaws.{until-onward}
use Rattle.wap_url.proofs.UntilLaws.{StopsAtOnce, all-weaker, all-front, all-back}
use Rattle.wap_url.proofs.UntilLaws.{all-both, until-none, onward-stops, led-onward}

-- ---- the parts in a row are the text
colon_first : (xs : List ℕ) → begins_with is_colon xs ≡ true → 58 ∷ drop 1 xs ≡ xs
colon_first [] holds = absurd (let e = holds in cc)
colon_first (x ∷ xs) holds = ap (λ c. c ∷ xs) (sym (eqb-true x 58 holds))

front_spelled : (f : List ℕ) → followed_by 58 (scheme_of f) ++ after_scheme f ≡ f
front_spelled f = elim (cases_Bool (has_scheme f)) [
  | inl holds ↦
      ap₂ (λ s rest. followed_by 58 s ++ rest)
      (cond-true (has_scheme f) (Some (until ends_scheme f)) None holds)
      (cond-true (has_scheme f) (drop 1 (onward ends_scheme f)) f holds)
      ∙ append_assoc (until ends_scheme f) (58 ∷ []) (drop 1 (onward ends_scheme f))
      ∙ ap (λ o. until ends_scheme f ++ o) (colon_first (onward ends_scheme f) holds)
      ∙ until-onward ends_scheme f
  | inr fails ↦
      ap₂ (λ s rest. followed_by 58 s ++ rest)
      (cond-false (has_scheme f) (Some (until ends_scheme f)) None fails)
      (cond-false (has_scheme f) (drop 1 (onward ends_scheme f)) f fails)
]

two_slashes : (r : List ℕ) → begins_with_slashes r ≡ true → 47 ∷ 47 ∷ drop 2 r ≡ r
two_slashes [] holds = absurd (let e = holds in cc)
two_slashes (c ∷ []) holds = absurd (let e = holds in cc)
two_slashes (c ∷ d ∷ r) holds =
    let both = and_parts (is_slash c) (is_slash d) holds in
    ap₂ (λ a b. a ∷ b ∷ r) (sym (eqb-true c 47 both.0)) (sym (eqb-true d 47 both.1))

host_port : (a : List ℕ) → host_in a ++ led_by (58 ∷ []) (port_in a) ≡ a
host_port a =
    ap (λ rest. host_in a ++ rest) (led-onward 58 (onward is_colon a) (onward-stops is_colon a))
    ∙ until-onward is_colon a

abbrev authority_part : Option (List ℕ) → List ℕ
authority_part a = authority (option_map host_in a) (option_and_then port_in a)

authority_spelled : (r : List ℕ) → authority_part (authority_of r) ++ after_authority r ≡ r
authority_spelled r = elim (cases_Bool (begins_with_slashes r)) [
  | inl holds ↦
      ap₂ (λ a rest. authority_part a ++ rest)
      (cond-true (begins_with_slashes r) (Some (until ends_authority (drop 2 r))) None holds)
      (cond-true (begins_with_slashes r) (onward ends_authority (drop 2 r)) r holds)
      ∙ ap (λ a. (47 ∷ 47 ∷ a) ++ onward ends_authority (drop 2 r))
      (host_port (until ends_authority (drop 2 r)))
      ∙ ap (λ rest. 47 ∷ 47 ∷ rest) (until-onward ends_authority (drop 2 r))
      ∙ two_slashes r holds
  | inr fails ↦
      ap₂ (λ a rest. authority_part a ++ rest)
      (cond-false (begins_with_slashes r) (Some (until ends_authority (drop 2 r))) None fails)
      (cond-false (begins_with_slashes r) (onward ends_authority (drop 2 r)) r fails)
]

tail_spelled : (f : List ℕ) → path_part f ++ led_by (63 ∷ []) (query_part f) ≡ tail_of f
tail_spelled f =
    ap (λ rest. path_part f ++ rest)
    (led-onward 63 (onward is_question (tail_of f)) (onward-stops is_question (tail_of f)))
    ∙ until-onward is_question (tail_of f)

parts_spelled : (f : List ℕ) (fragment : Option (List ℕ))
    → spelled (parts_with f fragment) ≡ f ++ led_by (35 ∷ []) fragment
parts_spelled f fragment =
    let last = led_by (35 ∷ []) fragment in
    ap (λ t. followed_by 58 (scheme_of f) ++ (authority_part (authority_of (after_scheme f)) ++ t))
    (sym (append_assoc (path_part f) (led_by (63 ∷ []) (query_part f)) (led_by (35 ∷ []) fragment))
    ∙ ap (λ t. t ++ led_by (35 ∷ []) fragment) (tail_spelled f))
    ∙ ap (λ t. followed_by 58 (scheme_of f) ++ t) (sym (append_assoc
    (authority_part (authority_of (after_scheme f))) (tail_of f) (led_by (35 ∷ []) fragment))
    ∙ ap (λ t. t ++ led_by (35 ∷ []) fragment) (authority_spelled (after_scheme f)))
    ∙ sym (append_assoc (followed_by 58 (scheme_of f)) (after_scheme f) (led_by (35 ∷ []) fragment))
    ∙ ap (λ t. t ++ led_by (35 ∷ []) fragment) (front_spelled f)

good_stops : (xs : List ℕ) → begins_with (λ c. not (is_hash c)) xs ≡ false → StopsAtOnce is_hash xs
good_stops [] good = tt
good_stops (x ∷ xs) good = not-false (is_hash x) good

pub text_spelled : (t : List ℕ) → has_bad_char t ≡ false → spelled (parts_of t) ≡ t
text_spelled t good =
    parts_spelled (front t) (fragment_of t)
    ∙ ap (λ rest. front t ++ rest)
    (led-onward 35 (onward is_stop t) (good_stops (onward is_stop t) good))
    ∙ until-onward is_stop t

-- ---- the parts are well formed
three : (a b c : Bool)
    → cond (not a) (Some BadScheme) (cond (not b) (Some BadHost) (cond (not c) (Some BadPort) None))
    ≡ None
    → (a ≡ true) × (b ≡ true) × (c ≡ true)
three true true true e = (refl, refl, refl)
three true true false e = absurd (let f = e in cc)
three true false c e = absurd (let f = e in cc)
three false b c e = absurd (let f = e in cc)

fits_some : (q : List ℕ → Bool) (part : Option (List ℕ)) → passes_if_there q part ≡ true
    → IfSome part (λ x. q x ≡ true)
fits_some q None holds = tt
fits_some q (Some x) holds = holds

pub no_fault : (p : Parts) → fault_of p ≡ None → Fits p
no_fault p none =
    let all =
    three (passes_if_there is_scheme p.scheme) (passes_if_there is_host p.host)
    (passes_if_there is_port p.port) none in
    record {
      scheme = fits_some is_scheme p.scheme all.0;
      host = fits_some is_host p.host all.1;
      port = fits_some is_port p.port all.2;
    }

pub front_allowed : (t : List ℕ) → list_all is_allowed (front t) ≡ true
front_allowed t =
    all-weaker (λ c. not (is_stop c)) is_allowed (λ c holds.
    not-false (is_allowed c) (not-true (not (is_allowed c)) holds)) (front t) (until-none is_stop t)

after_allowed : (f : List ℕ) → list_all is_allowed f ≡ true
    → list_all is_allowed (after_scheme f) ≡ true
after_allowed f all =
    all-back is_allowed (followed_by 58 (scheme_of f)) (after_scheme f)
    (ap (list_all is_allowed) (front_spelled f) ∙ all)

tail_allowed : (f : List ℕ) → list_all is_allowed f ≡ true → list_all is_allowed (tail_of f) ≡ true
tail_allowed f all =
    all-back is_allowed (authority_part (authority_of (after_scheme f))) (tail_of f)
    (ap (list_all is_allowed) (authority_spelled (after_scheme f)) ∙ after_allowed f all)

path_allowed : (f : List ℕ) → list_all is_allowed f ≡ true
    → list_all may_be_path (path_part f) ≡ true
path_allowed f all = all-both is_allowed (λ c. not (is_question c)) (path_part f)
    (all-front is_allowed (path_part f) (led_by (63 ∷ []) (query_part f))
    (ap (list_all is_allowed) (tail_spelled f) ∙ tail_allowed f all))
    (until-none is_question (tail_of f))

led_allowed : (part : Option (List ℕ)) → list_all is_allowed (led_by (63 ∷ []) part) ≡ true
    → IfSome part (λ x. list_all is_allowed x ≡ true)
led_allowed None all = tt
led_allowed (Some x) all = all-back is_allowed (63 ∷ []) x all

query_allowed : (f : List ℕ) → list_all is_allowed f ≡ true
    → IfSome (query_part f) (λ query. list_all is_allowed query ≡ true)
query_allowed f all =
    led_allowed (query_part f) (all-back is_allowed (path_part f) (led_by (63 ∷ []) (query_part f))
    (ap (list_all is_allowed) (tail_spelled f) ∙ tail_allowed f all))

-- without a scheme or a host, the path is what stands before the query
no_scheme_is : (f : List ℕ) → scheme_of f ≡ None → has_scheme f ≡ false
no_scheme_is f none = elim (cases_Bool (has_scheme f)) [
  | inl holds ↦
      absurd
      (let e = sym (cond-true (has_scheme f) (Some (until ends_scheme f)) None holds) ∙ none in cc)
  | inr fails ↦ fails
]

no_host_is : (r : List ℕ) → option_map host_in (authority_of r) ≡ None
    → begins_with_slashes r ≡ false
no_host_is r none = elim (cases_Bool (begins_with_slashes r)) [
  | inl holds ↦
      absurd (let e : Some (host_in (until ends_authority (drop 2 r))) ≡ None =
      sym (ap (option_map host_in) (cond-true (begins_with_slashes r)
      (Some (until ends_authority (drop 2 r))) None holds)) ∙ none in cc)
  | inr fails ↦ fails
]

no_colon : (f : List ℕ) → begins_with is_colon (onward ends_scheme f) ≡ false
    → begins_with is_colon (onward ends_word (until is_question f)) ≡ false
no_colon [] none = refl
no_colon (c ∷ cs) none = elim (cases_Bool (is_question c)) [
  | inl question ↦
      ap (λ xs. begins_with is_colon (onward ends_word xs))
      (cond-true (is_question c) [] (c ∷ until is_question cs) question)
  | inr other ↦
      ap (λ xs. begins_with is_colon (onward ends_word xs))
      (cond-false (is_question c) [] (c ∷ until is_question cs) other)
      ∙ elim (cases_Bool (is_colon c)) [
        | inl colon ↦
            absurd (let e : true ≡ false = sym colon
            ∙ sym
            (ap (begins_with is_colon) (cond-true (ends_scheme c) (c ∷ cs) (onward ends_scheme cs)
            (or_left (is_colon c) (is_slash c || is_question c) colon))) ∙ none in cc)
        | inr plain ↦ elim (cases_Bool (is_slash c)) [
          | inl slash ↦
              ap (begins_with is_colon) (cond-true (ends_word c) (c ∷ until is_question cs)
              (onward ends_word (until is_question cs)) (or_right (is_colon c) (is_slash c) slash))
              ∙ plain
          | inr letter ↦
              ap (begins_with is_colon) (cond-false (ends_word c) (c ∷ until is_question cs) (onward
              ends_word (until is_question cs)) (or_from (is_colon c) (is_slash c) plain letter))
              ∙ no_colon cs (sym (ap (begins_with is_colon) (cond-false (ends_scheme c) (c ∷ cs)
              (onward ends_scheme cs) (or_from (is_colon c) (is_slash c || is_question c) plain
              (or_from (is_slash c) (is_question c) letter other)))) ∙ none)
        ]
      ]
]

rooted_tail : (t : List ℕ) → StopsAtOnce ends_authority t
    → (until is_question t ≡ []) ⊎ (begins_with is_slash (until is_question t) ≡ true)
rooted_tail [] stops = inl refl
rooted_tail (c ∷ cs) stops = elim (cases_Bool (is_question c)) [
  | inl question ↦ inl (cond-true (is_question c) [] (c ∷ until is_question cs) question)
  | inr other ↦
      inr
      (ap (begins_with is_slash) (cond-false (is_question c) [] (c ∷ until is_question cs) other)
      ∙ slash_or other)
] where
  slash_or : is_question c ≡ false → is_slash c ≡ true
  slash_or other =
      elim (Rattle.std.proofs.lemmas.Bool.or_cases (is_slash c) (is_question c) stops) [
        | inl slash ↦ slash
        | inr question ↦ absurd (let e : true ≡ false = sym question ∙ other in cc)
      ]

no_two : (r : List ℕ) → begins_with_slashes r ≡ false → (rest : List ℕ)
    → until is_question r ≢ 47 ∷ 47 ∷ rest
no_two r none rest e =
    let both : true ≡ false =
    ap begins_with_slashes
    (ap (λ xs. xs ++ onward is_question r) (sym e) ∙ until-onward is_question r)
    ∙ none in
    absurd cc

-- the characters of scheme, host and port
scheme_characters : (f : List ℕ) → list_all is_allowed f ≡ true
    → IfSome (scheme_of f) (λ s. list_all may_be_scheme s ≡ true)
scheme_characters f all = elim (cases_Bool (has_scheme f)) [
  | inl holds ↦
      subst (λ part. IfSome part (λ s. list_all may_be_scheme s ≡ true))
      (sym (cond-true (has_scheme f) (Some (until ends_scheme f)) None holds))
      (all-both is_allowed (λ c. not (ends_scheme c)) (until ends_scheme f)
      (all-front is_allowed (until ends_scheme f) (onward ends_scheme f)
      (ap (list_all is_allowed) (until-onward ends_scheme f) ∙ all)) (until-none ends_scheme f))
  | inr fails ↦
      subst (λ part. IfSome part (λ s. list_all may_be_scheme s ≡ true))
      (sym (cond-false (has_scheme f) (Some (until ends_scheme f)) None fails)) tt
]

-- what is said of an authority
abbrev OfAuthority : Option (List ℕ) → Type 0
OfAuthority a = IfSome a (λ x. list_all may_be_port x ≡ true)

authority_characters : (r : List ℕ) → list_all is_allowed r ≡ true → OfAuthority (authority_of r)
authority_characters r all = elim (cases_Bool (begins_with_slashes r)) [
  | inl holds ↦
      let x = drop 2 r in
      let fine =
      all-back is_allowed (47 ∷ 47 ∷ []) (drop 2 r)
      (ap (list_all is_allowed) (two_slashes r holds) ∙ all) in
      subst OfAuthority
      (sym (cond-true (begins_with_slashes r) (Some (until ends_authority (drop 2 r))) None holds))
      (all-both is_allowed (λ c. not (ends_authority c)) (until ends_authority (drop 2 r))
      (all-front is_allowed (until ends_authority (drop 2 r)) (onward ends_authority (drop 2 r))
      (ap (list_all is_allowed) (until-onward ends_authority (drop 2 r)) ∙ fine))
      (until-none ends_authority (drop 2 r)))
  | inr fails ↦
      subst OfAuthority (sym
      (cond-false (begins_with_slashes r) (Some (until ends_authority (drop 2 r))) None fails)) tt
]

host_characters : (a : Option (List ℕ)) → OfAuthority a
    → IfSome (option_map host_in a) (λ h. list_all may_be_host h ≡ true)
host_characters None fine = tt
host_characters (Some a) fine =
    all-weaker (λ c. may_be_port c && not (is_colon c)) may_be_host
    (λ c both. regroup (is_allowed c) (not (ends_authority c)) (not (is_colon c)) both) (host_in a)
    (all-both may_be_port (λ c. not (is_colon c)) (host_in a) (all-front may_be_port (host_in a)
    (onward is_colon a) (ap (list_all may_be_port) (until-onward is_colon a) ∙ fine))
    (until-none is_colon a)) where
      regroup : (x y z : Bool) → ((x && y) && z) ≡ true → (x && (y && z)) ≡ true
      regroup true y z both = both
      regroup false y z both = both

after_characters : (xs : List ℕ) → list_all may_be_port xs ≡ true
    → IfSome (after_one xs) (λ ds. list_all may_be_port ds ≡ true)
after_characters [] fine = tt
after_characters (x ∷ xs) fine = (and_parts (may_be_port x) (list_all may_be_port xs) fine).1

port_characters : (a : Option (List ℕ)) → OfAuthority a
    → IfSome (option_and_then port_in a) (λ ds. list_all may_be_port ds ≡ true)
port_characters None fine = tt
port_characters (Some a) fine =
    after_characters (onward is_colon a) (all-back may_be_port (until is_colon a)
    (onward is_colon a) (ap (list_all may_be_port) (until-onward is_colon a) ∙ fine))

pub is_split : (t : List ℕ) → has_bad_char t ≡ false → IsSplit t (parts_of t)
is_split t good =
    let f = front t in
    let all = front_allowed t in
    let authority_fine =
    authority_characters (after_scheme (front t)) (after_allowed (front t) (front_allowed t)) in
    record {
      spells = sym (text_spelled t good);
      scheme = scheme_characters (front t) (front_allowed t);
      host = host_characters (authority_of (after_scheme (front t))) authority_fine;
      port = port_characters (authority_of (after_scheme (front t))) authority_fine;
      port_has_host =
          λ e.
          ap (option_and_then port_in) (cond-false (begins_with_slashes (after_scheme (front t)))
          (Some (until ends_authority (drop 2 (after_scheme (front t))))) None
          (no_host_is (after_scheme (front t)) e));
      path = path_allowed (front t) (front_allowed t);
      query = query_allowed (front t) (front_allowed t);
      no_scheme =
          λ s h. let r : after_scheme (front t) ≡ front t = cond-false (has_scheme (front t))
          (drop 1 (onward ends_scheme (front t))) (front t) (no_scheme_is (front t) s) in
          ap (λ x. begins_with is_colon (onward ends_word (until is_question x)))
          (cond-false (begins_with_slashes (after_scheme (front t)))
          (onward ends_authority (drop 2 (after_scheme (front t)))) (after_scheme (front t))
          (no_host_is (after_scheme (front t)) h)
          ∙ r)
          ∙ no_colon (front t) (no_scheme_is (front t) s);
      rooted = λ some. elim (cases_Bool (begins_with_slashes (after_scheme (front t)))) [
        | inl holds ↦
            rooted_tail (tail_of (front t)) (subst (StopsAtOnce ends_authority)
            (sym (cond-true (begins_with_slashes (after_scheme (front t))) (onward ends_authority
            (drop 2 (after_scheme (front t)))) (after_scheme (front t)) holds))
            (onward-stops ends_authority (drop 2 (after_scheme (front t)))))
        | inr fails ↦
            absurd (nothing (subst IsSome
            (ap (option_map host_in) (cond-false (begins_with_slashes (after_scheme (front t)))
            (Some (until ends_authority (drop 2 (after_scheme (front t))))) None fails)) some))
      ];
      no_host =
          λ h. subst (λ x. (rest : List ℕ) → until is_question x ≢ 47 ∷ 47 ∷ rest)
          (sym (cond-false (begins_with_slashes (after_scheme (front t)))
          (onward ends_authority (drop 2 (after_scheme (front t)))) (after_scheme (front t))
          (no_host_is (after_scheme (front t)) h)))
          (no_two (after_scheme (front t)) (no_host_is (after_scheme (front t)) h));
    } where
      nothing : IsSome {T = List ℕ} None → ⊥
      nothing some = let e = some in cc

ok_parts : (fault : Option UrlFault) (url u : Url) → unless fault url ≡ Ok u
    → (fault ≡ None) × (url ≡ u)
ok_parts None url u e = (refl, let f = e in cc)
ok_parts (Some x) url u e = absurd (let f = e in cc)

-- what a text is read as is the URL of parts that spell it
pub url_takes : (t : List ℕ) (u : Url) → url_at t ≡ Ok u → IsUrl t u
url_takes t u found = elim (cases_Bool (has_bad_char t)) [
  | inl bad ↦
      absurd (let e = sym (cond-true (has_bad_char t) (Err (BadChar (length (front t))))
      (unless (fault_of (parts_of t)) (url_of (parts_of t))) bad) ∙ found in cc)
  | inr good ↦
      let both =
      ok_parts (fault_of (parts_of t)) (url_of (parts_of t)) u
      (sym (cond-false (has_bad_char t) (Err (BadChar (length (front t))))
      (unless (fault_of (parts_of t)) (url_of (parts_of t))) good) ∙ found) in
      (parts_of t, is_split t good, no_fault (parts_of t) both.0, both.1)
]

-- ---- refusals
first_bad : (xs : List ℕ) → begins_with (λ c. not (is_hash c)) xs ≡ true → StopsAtOnce is_stop xs
    → (c : ℕ) × (rest : List ℕ) × (xs ≡ c ∷ rest) × (is_allowed c ≡ false) × (is_hash c ≡ false)
first_bad [] bad stops = absurd (let e = bad in cc)
first_bad (x ∷ xs) bad stops =
    (x, xs, refl, not-true (is_allowed x) stops, not-true (is_hash x) bad)

bad_char : (t : List ℕ) → has_bad_char t ≡ true → HasBadChar t (length (front t))
bad_char t bad =
    let first = first_bad (onward is_stop t) bad (onward-stops is_stop t) in
    record {
      before = front t;
      bad = first.0;
      after = first.1;
      text_is = sym (until-onward is_stop t) ∙ ap (λ rest. front t ++ rest) first.2;
      allowed = front_allowed t;
      not_allowed = first.3;
      no_fragment = first.4;
      at_is = refl;
    }

refused_by : (t : List ℕ) (p : Parts) (fault : UrlFault) → IsSplit t p → fault_of p ≡ Some fault
    → IsRefused t fault
refused_by t p (BadChar at) split is =
    absurd (never (passes_if_there is_scheme p.scheme) (passes_if_there is_host p.host)
    (passes_if_there is_port p.port) is) where
      never : (a b c : Bool)
          → cond (not a) (Some BadScheme)
          (cond (not b) (Some BadHost) (cond (not c) (Some BadPort) None))
          ≡ Some (BadChar at)
          → ⊥
      never true true true e = let f = e in cc
      never true true false e = let f = e in cc
      never true false c e = let f = e in cc
      never false b c e = let f = e in cc
refused_by t p BadScheme split is = (p, split, is)
refused_by t p BadHost split is = (p, split, is)
refused_by t p BadPort split is = (p, split, is)
refused_by t p NoMemory split is =
    absurd (never (passes_if_there is_scheme p.scheme) (passes_if_there is_host p.host)
    (passes_if_there is_port p.port) is) where
      never : (a b c : Bool)
          → cond (not a) (Some BadScheme)
          (cond (not b) (Some BadHost) (cond (not c) (Some BadPort) None))
          ≡ Some NoMemory
          → ⊥
      never true true true e = let f = e in cc
      never true true false e = let f = e in cc
      never true false c e = let f = e in cc
      never false b c e = let f = e in cc

err_parts : (fault : Option UrlFault) (url : Url) (f : UrlFault) → unless fault url ≡ Err f
    → fault ≡ Some f
err_parts None url f e = absurd (let g = e in cc)
err_parts (Some x) url f e = ap Some (let g = e in cc)

-- a fault that is reported is there
pub url_stops : (t : List ℕ) (f : UrlFault) → url_at t ≡ Err f → IsRefused t f
url_stops t f told = elim (cases_Bool (has_bad_char t)) [
  | inl bad ↦
      subst (IsRefused t) (same (sym (cond-true (has_bad_char t) (Err (BadChar (length (front t))))
      (unless (fault_of (parts_of t)) (url_of (parts_of t))) bad) ∙ told)) (bad_char t bad)
  | inr good ↦ refused_by t (parts_of t) f (is_split t good)
      (err_parts (fault_of (parts_of t)) (url_of (parts_of t)) f
      (sym (cond-false (has_bad_char t) (Err (BadChar (length (front t))))
      (unless (fault_of (parts_of t)) (url_of (parts_of t))) good) ∙ told))
] where
  same : {x y : UrlFault} → ◌≡◌ {A = Result Url UrlFault} (Err x) (Err y) → x ≡ y
  same e = cc
