-- A text that is spelled by well-formed parts is read as their URL.
use Rattle.std.proofs.Common.{◌≡◌, ◌≢◌, ◌⊎◌, inl, inr, ℕ, Bool, true, false, cond, not, ◌&&◌, ◌||◌}
use Rattle.std.proofs.Common.{List, [], ◌∷◌, ◌++◌, drop, length, refl, ap, ap₂, sym, ◌∙◌, subst}
use Rattle.std.proofs.Common.{Some, None, Option, IfSome, IsSome, append_assoc, append-nil, Ok}
use Rattle.std.proofs.Common.{Err, Result, option_map, option_and_then}
use Rattle.std.specs.List.{list_all}
use Rattle.std.proofs.lemmas.Bool.{cases_Bool, and_parts, and_right, cond-true, cond-false}
use Rattle.std.proofs.lemmas.Bool.{not-true, not_from_true, not_from_false, eqb-true}
use Rattle.std.proofs.lemmas.Bool.{or_from, or_left, or_right}
use Rattle.wap_url.specs.declared.url.Url.{Url}
use Rattle.wap_url.specs.declared.fault.UrlFault.{UrlFault}
use Rattle.wap_url.specs.declared.fault.UrlFault.TheVariants.{BadChar, BadScheme, BadHost}
use Rattle.wap_url.specs.declared.fault.UrlFault.TheVariants.{BadPort, NoMemory}
use Rattle.wap_url.specs.Refusal.{IsRefused}
use Rattle.wap_url.specs.Characters.{is_hash, is_slash, is_colon, is_question, is_allowed}
use Rattle.wap_url.specs.Characters.{ends_scheme, ends_authority, is_scheme, is_host}
use Rattle.wap_base.specs.Cuts.{until, onward, after_one, begins_with}
use Rattle.wap_url.specs.UrlParts.{Parts, spelled, followed_by, led_by, authority, is_port}
use Rattle.wap_url.specs.UrlParts.{url_of, IsSplit, Fits, IsUrl, ends_word, may_be_scheme}
use Rattle.wap_url.specs.UrlParts.{may_be_host, may_be_port, may_be_path}
use Rattle.wap_url.specs.Calculation.{is_stop, front, has_bad_char, has_scheme, scheme_of}
use Rattle.wap_url.specs.Calculation.{after_scheme}
use Rattle.wap_url.specs.Calculation.{begins_with_slashes, authority_of, after_authority, host_in}
use Rattle.wap_url.specs.Calculation.{port_in, host_of, port_of, tail_of, parts_of, passes_if_there}
use Rattle.wap_url.specs.Calculation.{fault_of, unless, url_at}
use Rattle.wap_url.proofs.UntilLaws.{NonePasses, StopsAtOnce, all-weaker, all-append, until-past}
use Rattle.wap_url.proofs.UntilLaws.{onward-past, until-stop, onward-stop, led-stops, after-led}

left : (p q : ℕ → Bool) (xs : List ℕ) → list_all (λ c. p c && q c) xs ≡ true → list_all p xs ≡ true
left p q = all-weaker (λ c. p c && q c) p (λ c both. (and_parts (p c) (q c) both).0)

right : (p q : ℕ → Bool) (xs : List ℕ) → list_all (λ c. p c && q c) xs ≡ true → list_all q xs ≡ true
right p q = all-weaker (λ c. p c && q c) q (λ c both. (and_parts (p c) (q c) both).1)

-- ---- the text as a prefix and a fragment
abbrev tail : Parts → List ℕ
tail p = p.path ++ led_by (63 ∷ []) p.query

abbrev rest : Parts → List ℕ
rest p = authority p.host p.port ++ tail p

abbrev before : Parts → List ℕ
before p = followed_by 58 p.scheme ++ rest p

spelled_is : (p : Parts) → spelled p ≡ before p ++ led_by (35 ∷ []) p.fragment
spelled_is p =
    ap (λ t. followed_by 58 p.scheme ++ (authority p.host p.port ++ t))
    (sym (append_assoc p.path (led_by (63 ∷ []) p.query) (led_by (35 ∷ []) p.fragment)))
    ∙ ap (λ t. followed_by 58 p.scheme ++ t)
    (sym (append_assoc (authority p.host p.port) (tail p) (led_by (35 ∷ []) p.fragment)))
    ∙ sym (append_assoc (followed_by 58 p.scheme) (rest p) (led_by (35 ∷ []) p.fragment))

-- ---- each part's characters are allowed
scheme_allowed : (scheme : Option (List ℕ)) → IfSome scheme (λ s. list_all may_be_scheme s ≡ true)
    → list_all is_allowed (followed_by 58 scheme) ≡ true
scheme_allowed None fine = refl
scheme_allowed (Some s) fine =
    all-append is_allowed s (58 ∷ []) (left is_allowed (λ c. not (ends_scheme c)) s fine) refl

port_allowed : (port : Option (List ℕ)) → IfSome port (λ ds. list_all may_be_port ds ≡ true)
    → list_all may_be_port (led_by (58 ∷ []) port) ≡ true
port_allowed None fine = refl
port_allowed (Some ds) fine = fine

authority_allowed : (host port : Option (List ℕ)) → IfSome host (λ h. list_all may_be_host h ≡ true)
    → IfSome port (λ ds. list_all may_be_port ds ≡ true)
    → list_all is_allowed (authority host port) ≡ true
authority_allowed None port fine more = refl
authority_allowed (Some h) port fine more =
    all-append is_allowed h (led_by (58 ∷ []) port)
    (left is_allowed (λ c. not (ends_authority c) && not (is_colon c)) h fine)
    (left is_allowed (λ c. not (ends_authority c)) (led_by (58 ∷ []) port) (port_allowed port more))

query_allowed : (query : Option (List ℕ)) → IfSome query (λ q. list_all is_allowed q ≡ true)
    → list_all is_allowed (led_by (63 ∷ []) query) ≡ true
query_allowed None fine = refl
query_allowed (Some q) fine = fine

before_allowed : (t : List ℕ) (p : Parts) → IsSplit t p → list_all is_allowed (before p) ≡ true
before_allowed t p fine =
    all-append is_allowed (followed_by 58 p.scheme) (rest p) (scheme_allowed p.scheme fine.scheme)
    (all-append is_allowed (authority p.host p.port) (tail p)
    (authority_allowed p.host p.port fine.host fine.port)
    (all-append is_allowed p.path (led_by (63 ∷ []) p.query) (left is_allowed
    (λ c. not (is_question c)) p.path fine.path) (query_allowed p.query fine.query)))

-- ---- the prefix and the fragment
stops_not : (xs : List ℕ) → list_all is_allowed xs ≡ true → NonePasses is_stop xs
stops_not =
    all-weaker is_allowed (λ c. not (is_stop c))
    (λ c fine. not_from_false (is_stop c) (not_from_true (is_allowed c) fine))

front_is : (t : List ℕ) (p : Parts) → IsSplit t p → front (spelled p) ≡ before p
front_is t p fine =
    ap front (spelled_is p) ∙ until-past is_stop (before p) (led_by (35 ∷ []) p.fragment)
    (stops_not (before p) (before_allowed t p fine))
    ∙ ap (λ x. before p ++ x)
    (until-stop is_stop (led_by (35 ∷ []) p.fragment) (led-stops is_stop 35 p.fragment refl))
    ∙ append-nil (before p)

onward_is : (t : List ℕ) (p : Parts) → IsSplit t p
    → onward is_stop (spelled p) ≡ led_by (35 ∷ []) p.fragment
onward_is t p fine =
    ap (onward is_stop) (spelled_is p) ∙ onward-past is_stop (before p)
    (led_by (35 ∷ []) p.fragment) (stops_not (before p) (before_allowed t p fine))
    ∙ onward-stop is_stop (led_by (35 ∷ []) p.fragment) (led-stops is_stop 35 p.fragment refl)

good_fragment : (fragment : Option (List ℕ))
    → begins_with (λ c. not (is_hash c)) (led_by (35 ∷ []) fragment) ≡ false
good_fragment None = refl
good_fragment (Some f) = refl

-- ---- the scheme
record SchemeIs (scheme : Option (List ℕ)) (f rest : List ℕ) : Type 0 where
  scheme_is : scheme_of f ≡ scheme
  after_is : after_scheme f ≡ rest

with_scheme : (s r : List ℕ) → list_all may_be_scheme s ≡ true
    → SchemeIs (Some s) ((s ++ 58 ∷ []) ++ r) r
with_scheme s r fine =
    let none : NonePasses ends_scheme s = right is_allowed (λ c. not (ends_scheme c)) s fine in
    let on : onward ends_scheme ((s ++ 58 ∷ []) ++ r) ≡ 58 ∷ r =
    ap (onward ends_scheme) (append_assoc s (58 ∷ []) r)
    ∙ onward-past ends_scheme s (58 ∷ r) none in
    let up : until ends_scheme ((s ++ 58 ∷ []) ++ r) ≡ s =
    ap (until ends_scheme) (append_assoc s (58 ∷ []) r) ∙ until-past ends_scheme s (58 ∷ r) none
    ∙ append-nil s in
    let has : has_scheme ((s ++ 58 ∷ []) ++ r) ≡ true = ap (begins_with is_colon) on in
    record {
      scheme_is =
          cond-true (has_scheme ((s ++ 58 ∷ []) ++ r))
          (Some (until ends_scheme ((s ++ 58 ∷ []) ++ r))) None has
          ∙ ap Some up;
      after_is =
          cond-true (has_scheme ((s ++ 58 ∷ []) ++ r))
          (drop 1 (onward ends_scheme ((s ++ 58 ∷ []) ++ r))) ((s ++ 58 ∷ []) ++ r) has
          ∙ ap (drop 1) on;
    }

without_scheme : (r : List ℕ) → has_scheme r ≡ false → SchemeIs None r r
without_scheme r none = record {
  scheme_is = cond-false (has_scheme r) (Some (until ends_scheme r)) None none;
  after_is = cond-false (has_scheme r) (drop 1 (onward ends_scheme r)) r none;
}

no_colon : (path : List ℕ) (query : Option (List ℕ)) → list_all may_be_path path ≡ true
    → begins_with is_colon (onward ends_word path) ≡ false
    → has_scheme (path ++ led_by (63 ∷ []) query) ≡ false
no_colon [] None fine none = refl
no_colon [] (Some q) fine none = refl
no_colon (c ∷ cs) query fine none = elim (cases_Bool (is_colon c)) [
  | inl colon ↦
      absurd
      (let e : true ≡ false = sym colon ∙ sym (ap (begins_with is_colon) (cond-true (ends_word c)
      (c ∷ cs) (onward ends_word cs) (or_left (is_colon c) (is_slash c) colon))) ∙ none in cc)
  | inr plain ↦ elim (cases_Bool (is_slash c)) [
    | inl slash ↦
        ap (begins_with is_colon) (cond-true (ends_scheme c) (c ∷ (cs ++ led_by (63 ∷ []) query))
        (onward ends_scheme (cs ++ led_by (63 ∷ []) query)) (or_right (is_colon c)
        (is_slash c || is_question c) (or_left (is_slash c) (is_question c) slash))) ∙ plain
    | inr letter ↦
        ap (begins_with is_colon) (cond-false (ends_scheme c) (c ∷ (cs ++ led_by (63 ∷ []) query))
        (onward ends_scheme (cs ++ led_by (63 ∷ []) query)) (or_from (is_colon c)
        (is_slash c || is_question c) plain (or_from (is_slash c) (is_question c) letter
        (not-true (is_question c) (and_parts (is_allowed c) (not (is_question c)) both.0).1))))
        ∙ no_colon cs query both.1 (sym (ap (begins_with is_colon) (cond-false (ends_word c)
        (c ∷ cs) (onward ends_word cs) (or_from (is_colon c) (is_slash c) plain letter))) ∙ none)
  ]
] where
  both : (may_be_path c ≡ true) × (list_all may_be_path cs ≡ true)
  both = and_parts (may_be_path c) (list_all may_be_path cs) fine

scheme_is_part : (scheme host port : Option (List ℕ)) (path : List ℕ) (query : Option (List ℕ))
    → IfSome scheme (λ s. list_all may_be_scheme s ≡ true) → list_all may_be_path path ≡ true
    → (scheme ≡ None → host ≡ None → begins_with is_colon (onward ends_word path) ≡ false)
    → SchemeIs scheme
    (followed_by 58 scheme ++ (authority host port ++ (path ++ led_by (63 ∷ []) query)))
    (authority host port ++ (path ++ led_by (63 ∷ []) query))
scheme_is_part (Some s) host port path query fine good none =
    with_scheme s (authority host port ++ (path ++ led_by (63 ∷ []) query)) fine
scheme_is_part None (Some h) port path query fine good none =
    without_scheme (authority (Some h) port ++ (path ++ led_by (63 ∷ []) query)) refl
scheme_is_part None None port path query fine good none =
    without_scheme (path ++ led_by (63 ∷ []) query) (no_colon path query good (none refl refl))

-- ---- host and port
record AuthorityIs (host port : Option (List ℕ)) (r tail : List ℕ) : Type 0 where
  host_is : option_map host_in (authority_of r) ≡ host
  port_is : option_and_then port_in (authority_of r) ≡ port
  tail_is : after_authority r ≡ tail

with_host : (h : List ℕ) (port : Option (List ℕ)) (t : List ℕ) → list_all may_be_host h ≡ true
    → IfSome port (λ ds. list_all may_be_port ds ≡ true) → StopsAtOnce ends_authority t
    → AuthorityIs (Some h) port (authority (Some h) port ++ t) t
with_host h port t fine more stops =
    let characters = right is_allowed (λ c. not (ends_authority c) && not (is_colon c)) h fine in
    let a : List ℕ = h ++ led_by (58 ∷ []) port in
    let none : NonePasses ends_authority (h ++ led_by (58 ∷ []) port) =
    all-append (λ c. not (ends_authority c)) h (led_by (58 ∷ []) port)
    (left (λ c. not (ends_authority c)) (λ c. not (is_colon c)) h characters) (right is_allowed
    (λ c. not (ends_authority c)) (led_by (58 ∷ []) port) (port_allowed port more)) in
    let up : until ends_authority ((h ++ led_by (58 ∷ []) port) ++ t) ≡ h ++ led_by (58 ∷ []) port =
    until-past ends_authority (h ++ led_by (58 ∷ []) port) t none
    ∙ ap (λ x. (h ++ led_by (58 ∷ []) port) ++ x) (until-stop ends_authority t stops)
    ∙ append-nil (h ++ led_by (58 ∷ []) port) in
    let colons : NonePasses is_colon h =
    right (λ c. not (ends_authority c)) (λ c. not (is_colon c)) h characters in
    record {
      host_is =
          ap (λ x. Some (host_in x)) up
          ∙ ap Some (until-past is_colon h (led_by (58 ∷ []) port) colons
          ∙ ap (λ x. h ++ x) (until-stop is_colon (led_by (58 ∷ []) port)
          (led-stops is_colon 58 port refl)) ∙ append-nil h);
      port_is =
          ap port_in up ∙ ap after_one (onward-past is_colon h (led_by (58 ∷ []) port) colons
          ∙ onward-stop is_colon (led_by (58 ∷ []) port) (led-stops is_colon 58 port refl))
          ∙ after-led 58 port;
      tail_is =
          onward-past ends_authority (h ++ led_by (58 ∷ []) port) t none
          ∙ onward-stop ends_authority t stops;
    }

without_host : (t : List ℕ) → begins_with_slashes t ≡ false → AuthorityIs None None t t
without_host t none = record {
  host_is =
      ap (option_map host_in)
      (cond-false (begins_with_slashes t) (Some (until ends_authority (drop 2 t))) None none);
  port_is =
      ap (option_and_then port_in)
      (cond-false (begins_with_slashes t) (Some (until ends_authority (drop 2 t))) None none);
  tail_is = cond-false (begins_with_slashes t) (onward ends_authority (drop 2 t)) t none;
}

no_authority : (path : List ℕ) (query : Option (List ℕ)) → ((rest : List ℕ) → path ≢ 47 ∷ 47 ∷ rest)
    → begins_with_slashes (path ++ led_by (63 ∷ []) query) ≡ false
no_authority [] None none = refl
no_authority [] (Some []) none = refl
no_authority [] (Some (c ∷ cs)) none = refl
no_authority (c ∷ []) None none = refl
no_authority (c ∷ []) (Some q) none = and_right (is_slash c) (is_slash 63) refl
no_authority (c ∷ d ∷ cs) query none = elim (cases_Bool (is_slash c && is_slash d)) [
  | inl two ↦
      let both = and_parts (is_slash c) (is_slash d) two in
      absurd (none cs (ap₂ (λ a b. a ∷ b ∷ cs) (eqb-true c 47 both.0) (eqb-true d 47 both.1)))
  | inr fails ↦ fails
]

tail_stops : (path : List ℕ) (query : Option (List ℕ))
    → (path ≡ []) ⊎ (begins_with is_slash path ≡ true)
    → StopsAtOnce ends_authority (path ++ led_by (63 ∷ []) query)
tail_stops [] query rooted = led-stops ends_authority 63 query refl
tail_stops (c ∷ cs) query (inl none) = absurd (let e = none in cc)
tail_stops (c ∷ cs) query (inr slash) = or_left (is_slash c) (is_question c) slash

authority_is_part : (host port : Option (List ℕ)) (path : List ℕ) (query : Option (List ℕ))
    → IfSome host (λ h. list_all may_be_host h ≡ true)
    → IfSome port (λ ds. list_all may_be_port ds ≡ true) → (host ≡ None → port ≡ None)
    → (IsSome host → (path ≡ []) ⊎ (begins_with is_slash path ≡ true))
    → (host ≡ None → (rest : List ℕ) → path ≢ 47 ∷ 47 ∷ rest)
    → AuthorityIs host port (authority host port ++ (path ++ led_by (63 ∷ []) query))
    (path ++ led_by (63 ∷ []) query)
authority_is_part (Some h) port path query fine more both rooted none =
    with_host h port (path ++ led_by (63 ∷ []) query) fine more
    (tail_stops path query (rooted refl))
authority_is_part None port path query fine more both rooted none =
    subst
    (λ x. AuthorityIs None x (path ++ led_by (63 ∷ []) query) (path ++ led_by (63 ∷ []) query))
    (sym (both refl))
    (without_host (path ++ led_by (63 ∷ []) query) (no_authority path query (none refl)))

-- ---- path and query
path_is : (path : List ℕ) (query : Option (List ℕ)) → list_all may_be_path path ≡ true
    → until is_question (path ++ led_by (63 ∷ []) query) ≡ path
path_is path query fine =
    until-past is_question path (led_by (63 ∷ []) query)
    (right is_allowed (λ c. not (is_question c)) path fine)
    ∙ ap (λ x. path ++ x)
    (until-stop is_question (led_by (63 ∷ []) query) (led-stops is_question 63 query refl))
    ∙ append-nil path

query_is : (path : List ℕ) (query : Option (List ℕ)) → list_all may_be_path path ≡ true
    → after_one (onward is_question (path ++ led_by (63 ∷ []) query)) ≡ query
query_is path query fine =
    ap after_one (onward-past is_question path (led_by (63 ∷ []) query)
    (right is_allowed (λ c. not (is_question c)) path fine)
    ∙ onward-stop is_question (led_by (63 ∷ []) query) (led-stops is_question 63 query refl))
    ∙ after-led 63 query

-- ---- all parts
same_parts : (p q : Parts) → p.scheme ≡ q.scheme → p.host ≡ q.host → p.port ≡ q.port
    → p.path ≡ q.path → p.query ≡ q.query → p.fragment ≡ q.fragment → p ≡ q
same_parts p q a b c d e f =
    λ i. record { scheme = a i; host = b i; port = c i; path = d i; query = e i; fragment = f i }

pub parts_again : (t : List ℕ) (p : Parts) → IsSplit t p → parts_of (spelled p) ≡ p
parts_again t p fine =
    let s =
    scheme_is_part p.scheme p.host p.port p.path p.query fine.scheme fine.path fine.no_scheme in
    let a =
    authority_is_part p.host p.port p.path p.query fine.host fine.port fine.port_has_host
    fine.rooted fine.no_host in
    let f : front (spelled p) ≡ before p = front_is t p fine in
    let tail_is : tail_of (front (spelled p)) ≡ tail p =
    ap tail_of f ∙ ap after_authority s.after_is ∙ a.tail_is in
    same_parts (parts_of (spelled p)) p
    (ap scheme_of f ∙ s.scheme_is)
    (ap host_of f ∙ ap (λ r. option_map host_in (authority_of r)) s.after_is ∙ a.host_is)
    (ap port_of f ∙ ap (λ r. option_and_then port_in (authority_of r)) s.after_is ∙ a.port_is)
    (ap (until is_question) tail_is ∙ path_is p.path p.query fine.path)
    (ap (λ t. after_one (onward is_question t)) tail_is ∙ query_is p.path p.query fine.path)
    (ap after_one (onward_is t p fine) ∙ after-led 35 p.fragment)

fits_from : (q : List ℕ → Bool) (part : Option (List ℕ)) → IfSome part (λ x. q x ≡ true)
    → passes_if_there q part ≡ true
fits_from q None fine = refl
fits_from q (Some x) fine = fine

no_fault_from : (p : Parts) → Fits p → fault_of p ≡ None
no_fault_from p fine =
    three (passes_if_there is_scheme p.scheme) (passes_if_there is_host p.host)
    (passes_if_there is_port p.port) (fits_from is_scheme p.scheme fine.scheme)
    (fits_from is_host p.host fine.host) (fits_from is_port p.port fine.port) where
      three : (a b c : Bool) → a ≡ true → b ≡ true → c ≡ true
          → cond (not a) (Some BadScheme)
          (cond (not b) (Some BadHost) (cond (not c) (Some BadPort) None))
          ≡ None
      three true true true x y z = refl
      three true true false x y z = absurd (let e = z in cc)
      three true false c x y z = absurd (let e = y in cc)
      three false b c x y z = absurd (let e = x in cc)

-- what a split text is read as
split_again : (t : List ℕ) (p : Parts) → IsSplit t p → url_at t ≡ unless (fault_of p) (url_of p)
split_again t p split =
    ap url_at split.spells
    ∙ cond-false (has_bad_char (spelled p)) (Err (BadChar (length (front (spelled p)))))
    (unless (fault_of (parts_of (spelled p))) (url_of (parts_of (spelled p))))
    (ap (begins_with (λ c. not (is_hash c))) (onward_is t p split) ∙ good_fragment p.fragment)
    ∙ ap (λ q. unless (fault_of q) (url_of q)) (parts_again t p split)

-- a text that is spelled by parts that fit is read as the URL that they stand for
pub url_again : (t : List ℕ) (u : Url) → IsUrl t u → url_at t ≡ Ok u
url_again t u (p, split, fine, url_is) =
    split_again t p split ∙ ap (λ f. unless f (url_of p)) (no_fault_from p fine) ∙ ap Ok url_is

-- so a text has one URL
pub one_url : (t : List ℕ) (u v : Url) → IsUrl t u → IsUrl t v → u ≡ v
one_url t u v first second = same (sym (url_again t u first) ∙ url_again t v second) where
  same : {x y : Url} → ◌≡◌ {A = Result Url UrlFault} (Ok x) (Ok y) → x ≡ y
  same e = cc

-- and a fault that is there is reported
pub url_fails : (t : List ℕ) (f : UrlFault) → IsRefused t f → url_at t ≡ Err f
url_fails t (BadChar at) bad =
    let allowed = stops_not bad.before bad.allowed in
    let on : onward is_stop t ≡ bad.bad ∷ bad.after =
    ap (onward is_stop) bad.text_is ∙ onward-past is_stop bad.before (bad.bad ∷ bad.after) allowed
    ∙ onward-stop is_stop (bad.bad ∷ bad.after)
    (not_from_false (is_allowed bad.bad) bad.not_allowed) in
    let up : front t ≡ bad.before =
    ap front bad.text_is ∙ until-past is_stop bad.before (bad.bad ∷ bad.after) allowed
    ∙ ap (λ x. bad.before ++ x)
    (until-stop is_stop (bad.bad ∷ bad.after) (not_from_false (is_allowed bad.bad) bad.not_allowed))
    ∙ append-nil bad.before in
    cond-true (has_bad_char t) (Err (BadChar (length (front t))))
    (unless (fault_of (parts_of t)) (url_of (parts_of t)))
    (ap (begins_with (λ c. not (is_hash c))) on ∙ not_from_false (is_hash bad.bad) bad.no_fragment)
    ∙ ap (λ n. Err (BadChar n)) (ap length up ∙ sym bad.at_is)
url_fails t BadScheme (p, split, is) = split_again t p split ∙ ap (λ f. unless f (url_of p)) is
url_fails t BadHost (p, split, is) = split_again t p split ∙ ap (λ f. unless f (url_of p)) is
url_fails t BadPort (p, split, is) = split_again t p split ∙ ap (λ f. unless f (url_of p)) is
url_fails t NoMemory none = absurd none
