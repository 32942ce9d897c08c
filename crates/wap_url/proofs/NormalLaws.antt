-- A URL that is read can be read back from its text.
use Rattle.std.proofs.Common.{◌≡◌, ℕ, ◌≤◌, ◌<◌, ◌^◌, Bool, true, false, not, ◌&&◌, ◌==◌}
use Rattle.std.proofs.Common.{List, [], ◌∷◌, length, map, refl, ap, ap₂, ◌∙◌, subst, arith}
use Rattle.std.proofs.Common.{Some, None, Option, IfSome, IsSome, option_map}
use Rattle.std.proofs.Common.{option_and_then, decimal, nat_le, lit<, lit≤}
use Rattle.std.specs.List.{list_all}
use Rattle.std.specs.Char.{is_ascii_digit, is_ascii_alphabetic, to_ascii_lowercase}
use Rattle.std.specs.Str.Parse.{digits_value, AllDigits}
use Rattle.std.proofs.lemmas.Bool.{and_parts, and_from, leb-true, le-leb}
use Rattle.std.proofs.lemmas.Bool.Decides.{nat_tests}
use Rattle.std.proofs.lemmas.List.{length-map}
use Rattle.std.proofs.lemmas.Fmt.{decimal_is_IsNumeral, length-decimal-le}
use Rattle.std.proofs.lemmas.Str.Ascii.{lowercase-lowercase}
use Rattle.std.proofs.lemmas.Str.Parse.{digit_from_value}
use Rattle.wap_url.specs.declared.url.Url.{Url}
use Rattle.wap_url.specs.Characters.{is_scheme, is_scheme_character, is_host}
use Rattle.wap_url.specs.Characters.{is_host_character, is_allowed, is_colon}
use Rattle.wap_base.specs.Cuts.{begins_with}
use Rattle.wap_url.specs.UrlParts.{Parts, is_port, port_number, url_of, IsSplit, Fits}
use Rattle.wap_url.specs.UrlParts.{IsUrl, may_be_scheme, may_be_host, may_be_port}
use Rattle.wap_url.specs.Printing.{parts_for, printed, IsNormal}
use Rattle.wap_base.proofs.DigitLaws.{digit_high}
use Rattle.wap_url.proofs.CharacterLaws.{scheme_high, host_high}
use Rattle.wap_url.proofs.CharacterLaws.{alphabetic_high, allowed_high}
use Rattle.wap_url.proofs.UntilLaws.{implies, all-weaker}
use Rattle.std.proofs.lemmas.Bool.{and_left}

abbrev lower : List ℕ → List ℕ
lower cs = map to_ascii_lowercase cs

-- ---- lower case keeps what the characters are
scheme_lower : (c : ℕ) → is_scheme_character c ≡ true
    → is_scheme_character (to_ascii_lowercase c) ≡ true
scheme_lower =
    implies is_scheme_character (λ c. is_scheme_character (to_ascii_lowercase c)) refl scheme_high

host_lower : (c : ℕ) → is_host_character c ≡ true → is_host_character (to_ascii_lowercase c) ≡ true
host_lower =
    implies is_host_character (λ c. is_host_character (to_ascii_lowercase c)) refl host_high

letter_lower : (c : ℕ) → is_ascii_alphabetic c ≡ true
    → is_ascii_alphabetic (to_ascii_lowercase c) ≡ true
letter_lower =
    implies is_ascii_alphabetic
    (λ c. is_ascii_alphabetic (to_ascii_lowercase c)) refl alphabetic_high

may_be_scheme_high : (c : ℕ) → 128 ≤ c → may_be_scheme c ≡ false
may_be_scheme_high c high =
    and_left (is_allowed c) (not (Rattle.wap_url.specs.Characters.ends_scheme c))
    (allowed_high c high)

may_be_host_high : (c : ℕ) → 128 ≤ c → may_be_host c ≡ false
may_be_host_high c high =
    and_left (is_allowed c) (not (Rattle.wap_url.specs.Characters.ends_authority c)
    && not (is_colon c)) (allowed_high c high)

place_lower : (c : ℕ) → may_be_scheme c ≡ true → may_be_scheme (to_ascii_lowercase c) ≡ true
place_lower =
    implies may_be_scheme (λ c. may_be_scheme (to_ascii_lowercase c)) refl may_be_scheme_high

host_place_lower : (c : ℕ) → may_be_host c ≡ true → may_be_host (to_ascii_lowercase c) ≡ true
host_place_lower =
    implies may_be_host (λ c. may_be_host (to_ascii_lowercase c)) refl may_be_host_high

all-map : (p : ℕ → Bool) (f : ℕ → ℕ) → ((c : ℕ) → p c ≡ true → p (f c) ≡ true)
    → (xs : List ℕ) → list_all p xs ≡ true → list_all p (map f xs) ≡ true
all-map p f each [] all = refl
all-map p f each (x ∷ xs) all =
    let both = and_parts (p x) (list_all p xs) all in
    and_from (p (f x)) (list_all p (map f xs)) (each x both.0) (all-map p f each xs both.1)

is_scheme_lower : (s : List ℕ) → is_scheme s ≡ true → is_scheme (lower s) ≡ true
is_scheme_lower s fine =
    let both =
    and_parts (begins_with is_ascii_alphabetic s) (list_all is_scheme_character s) fine in
    and_from (begins_with is_ascii_alphabetic (lower s)) (list_all is_scheme_character (lower s))
    (first s both.0) (all-map is_scheme_character to_ascii_lowercase scheme_lower s both.1) where
      first : (s : List ℕ) → begins_with is_ascii_alphabetic s ≡ true
          → begins_with is_ascii_alphabetic (lower s) ≡ true
      first [] holds = holds
      first (c ∷ cs) holds = letter_lower c holds

is_host_lower : (h : List ℕ) → is_host h ≡ true → is_host (lower h) ≡ true
is_host_lower h fine =
    let both = and_parts (not (length h == 0)) (list_all is_host_character h) fine in
    and_from (not (length (lower h) == 0)) (list_all is_host_character (lower h))
    (ap (λ n. not (n == 0)) (length-map h to_ascii_lowercase) ∙ both.0)
    (all-map is_host_character to_ascii_lowercase host_lower h both.1)

lower-lower : (cs : List ℕ) → lower (lower cs) ≡ lower cs
lower-lower [] = refl
lower-lower (c ∷ cs) = ap₂ (λ x xs. x ∷ xs) (lowercase-lowercase c) (lower-lower cs)

-- ---- ports
digits_all : (ds : List ℕ) → AllDigits 10 ds → list_all is_ascii_digit ds ≡ true
digits_all [] digits = refl
digits_all (d ∷ ds) digits =
    and_from (is_ascii_digit d) (list_all is_ascii_digit ds) (one d (digit_from_value d digits.0))
    (digits_all ds digits.1) where
      one : (d : ℕ) → (48 ≤ d) × (d ≤ 57) → is_ascii_digit d ≡ true
      one d range = let low = range.0 in let high = range.1 in grind (arith, nat_tests)

decimal_digits : (n : ℕ) → n ≤ 65535 → list_all is_ascii_digit (decimal n) ≡ true
decimal_digits n small = digits_all (decimal n) (decimal_is_IsNumeral n (omega arith)).0.1

digit_place : (c : ℕ) → is_ascii_digit c ≡ true → may_be_port c ≡ true
digit_place = implies is_ascii_digit may_be_port refl digit_high

decimal_value : (n : ℕ) → n ≤ 65535 → digits_value 10 (decimal n) ≡ n
decimal_value n small = (decimal_is_IsNumeral n (omega arith)).1

decimal_port : (n : ℕ) → n ≤ 65535 → is_port (decimal n) ≡ true
decimal_port n small =
    and_from (list_all is_ascii_digit (decimal n)) (nat_le (length (decimal n)) 5
    && nat_le (digits_value 10 (decimal n)) 65535) (decimal_digits n small)
    (and_from (nat_le (length (decimal n)) 5) (nat_le (digits_value 10 (decimal n)) 65535)
    (le-leb (length (decimal n)) 5 (length-decimal-le 5 n (lit< tt)
    (let k : 100000 ≤ 10 ^ 5 = lit≤ tt in omega arith) (omega arith)))
    (le-leb (digits_value 10 (decimal n)) 65535 (omega (arith, decimal_value n small))))

number_some : (ds : List ℕ) → 0 < length ds → port_number ds ≡ Some (digits_value 10 ds)
number_some [] some = absurd (omega arith)
number_some (d ∷ ds) some = refl

pub port_back : (port : Option ℕ) → IfSome port (λ n. n ≤ 65535)
    → option_and_then port_number (option_map decimal port) ≡ port
port_back None small = refl
port_back (Some n) small =
    number_some (decimal n) (decimal_is_IsNumeral n (omega arith)).0.0
    ∙ ap Some (decimal_value n small)

number_small : (ds : List ℕ) → is_port ds ≡ true → IfSome (port_number ds) (λ n. n ≤ 65535)
number_small [] fine = tt
number_small (d ∷ ds) fine =
    let tests =
    and_parts (list_all is_ascii_digit (d ∷ ds))
    (nat_le (length (d ∷ ds)) 5 && nat_le (digits_value 10 (d ∷ ds)) 65535) fine in
    leb-true (digits_value 10 (d ∷ ds)) 65535
    (and_parts (nat_le (length (d ∷ ds)) 5) (nat_le (digits_value 10 (d ∷ ds)) 65535) tests.1).1

port_small : (port : Option (List ℕ)) → IfSome port (λ ds. is_port ds ≡ true)
    → IfSome (option_and_then port_number port) (λ n. n ≤ 65535)
port_small None fine = tt
port_small (Some ds) fine = number_small ds fine

decimal_place : (port : Option ℕ) → IfSome port (λ n. n ≤ 65535)
    → IfSome (option_map decimal port) (λ ds. list_all may_be_port ds ≡ true)
decimal_place None small = tt
decimal_place (Some n) small =
    all-weaker is_ascii_digit may_be_port digit_place (decimal n) (decimal_digits n small)

decimal_fits : (port : Option ℕ) → IfSome port (λ n. n ≤ 65535)
    → IfSome (option_map decimal port) (λ ds. is_port ds ≡ true)
decimal_fits None small = tt
decimal_fits (Some n) small = decimal_port n small

-- ---- a normal URL is read back
same_url : (u v : Url) → u.scheme ≡ v.scheme → u.host ≡ v.host → u.port ≡ v.port → u.path ≡ v.path
    → u.query ≡ v.query → u.fragment ≡ v.fragment → u ≡ v
same_url u v a b c d e f =
    λ i. record { scheme = a i; host = b i; port = c i; path = d i; query = e i; fragment = f i }

pub normal_again : (u : Url) → IsNormal u → IsUrl (printed u) u
normal_again u normal = (
  parts_for u,
  normal.split,
  normal.fits,
  same_url (url_of (parts_for u)) u normal.scheme normal.host
      (port_back u.port normal.port) refl refl refl,
)

-- ---- what is read is normal
map_some : (f : List ℕ → List ℕ) (P Q : List ℕ → Type 0) → ((x : List ℕ) → P x → Q (f x))
    → (o : Option (List ℕ)) → IfSome o P → IfSome (option_map f o) Q
map_some f P Q each None holds = tt
map_some f P Q each (Some x) holds = each x holds

none_of_map : (f : List ℕ → List ℕ) (o : Option (List ℕ)) → option_map f o ≡ None → o ≡ None
none_of_map f None none = refl
none_of_map f (Some x) none = absurd (let e = none in cc)

some_of_map : (f : List ℕ → List ℕ) (o : Option (List ℕ)) → IsSome (option_map f o) → IsSome o
some_of_map f None some = some
some_of_map f (Some x) some = refl

map_twice : (o : Option (List ℕ)) → option_map lower (option_map lower o) ≡ option_map lower o
map_twice None = refl
map_twice (Some x) = ap Some (lower-lower x)

normal_of : (t : List ℕ) (p : Parts) → IsSplit t p → Fits p → IsNormal (url_of p)
normal_of t p split fine =
    let small = port_small p.port fine.port in
    record {
      split = record {
        spells = refl;
        scheme =
            map_some lower (λ s. list_all may_be_scheme s ≡ true)
            (λ s. list_all may_be_scheme s ≡ true)
            (all-map may_be_scheme to_ascii_lowercase place_lower) p.scheme split.scheme;
        host =
            map_some lower (λ h. list_all may_be_host h ≡ true) (λ h. list_all may_be_host h ≡ true)
            (all-map may_be_host to_ascii_lowercase host_place_lower) p.host split.host;
        port = decimal_place (option_and_then port_number p.port) (port_small p.port fine.port);
        port_has_host =
            λ none. ap (λ port. option_map decimal (option_and_then port_number port))
            (split.port_has_host (none_of_map lower p.host none));
        path = split.path;
        query = split.query;
        no_scheme =
            λ s h. split.no_scheme (none_of_map lower p.scheme s) (none_of_map lower p.host h);
        rooted = λ some. split.rooted (some_of_map lower p.host some);
        no_host = λ none. split.no_host (none_of_map lower p.host none);
      };
      fits = record {
        scheme =
            map_some lower (λ s. is_scheme s ≡ true)
            (λ s. is_scheme s ≡ true) is_scheme_lower p.scheme fine.scheme;
        host =
            map_some lower (λ h. is_host h ≡ true)
            (λ h. is_host h ≡ true) is_host_lower p.host fine.host;
        port = decimal_fits (option_and_then port_number p.port) (port_small p.port fine.port);
      };
      port = port_small p.port fine.port;
      scheme = map_twice p.scheme;
      host = map_twice p.host;
    }

pub url_normal : (t : List ℕ) (u : Url) → IsUrl t u → IsNormal u
url_normal t u (p, split, fine, is) = subst IsNormal is (normal_of t p split fine)
