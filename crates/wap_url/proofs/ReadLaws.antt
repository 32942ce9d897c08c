-- What a reading of the bytes says of the text.
use Rattle.std.proofs.Common.{◌≡◌, ℕ, Bool, true, false, not, List, length, ap, sym, ◌∙◌, Ok}
use Rattle.std.proofs.Common.{Err, Some, None, encode_utf8_all, Option, Result}
use Rattle.std.proofs.lemmas.Bool.{cond-true, cond-false}
use Rattle.wap_url.specs.declared.url.Url.{Url}
use Rattle.wap_url.specs.declared.fault.UrlFault.{UrlFault}
use Rattle.wap_url.specs.declared.fault.UrlFault.TheVariants.{BadChar}
use Rattle.wap_url.specs.Characters.{is_hash}
use Rattle.wap_base.specs.Cuts.{until, onward, begins_with}
use Rattle.wap_url.specs.UrlParts.{url_of}
use Rattle.wap_url.specs.Calculation.{is_stop, front, has_bad_char, fault_of, parts_of}
use Rattle.wap_url.specs.Calculation.{parts_with, unless, fragment_of, url_at}
use Rattle.wap_url.specs.UrlParts.{IsUrl}
use Rattle.wap_url.specs.Refusal.{IsRefused}
use Rattle.wap_url.specs.Printing.{IsNormal}
use Rattle.wap_url.proofs.FoundLaws.{url_takes, url_stops}
use Rattle.wap_url.proofs.AgainLaws.{url_again, url_fails}
use Rattle.wap_url.proofs.NormalLaws.{url_normal}
use Rattle.wap_url.proofs.FrontLaws.{bad-encodes, front-encodes}

-- a prefix and what follows it, cut from a text's bytes
pub record IsCut (cs before after : List ℕ) (bad : Bool) : Type 0 where
  pub front_is : before ≡ front cs
  pub bad_is : bad ≡ has_bad_char cs

pub is_cut : (cs whole bytes before after : List ℕ) (bad : Bool) → bytes ≡ whole
    → whole ≡ encode_utf8_all cs → before ≡ until is_stop bytes → after ≡ onward is_stop bytes
    → bad ≡ begins_with (λ c. not (is_hash c)) after → IsCut cs before after bad
is_cut cs whole bytes before after bad same is before_is after_is bad_is = record {
  front_is = before_is ∙ front-encodes cs bytes (same ∙ is);
  bad_is =
      bad_is ∙ ap (begins_with (λ c. not (is_hash c))) after_is ∙ bad-encodes cs bytes (same ∙ is);
}

pub url_bad : (cs before after : List ℕ) (bad : Bool) → IsCut cs before after bad → bad ≡ true
    → url_at cs ≡ Err (BadChar (length before))
url_bad cs before after bad cut holds =
    cond-true (has_bad_char cs) (Err (BadChar (length (front cs))))
    (unless (fault_of (parts_of cs)) (url_of (parts_of cs))) (sym cut.bad_is ∙ holds)
    ∙ ap (λ f. Err (BadChar (length f))) (sym cut.front_is)

good : (cs before after : List ℕ) (bad : Bool) → IsCut cs before after bad → bad ≡ false
    → url_at cs
    ≡ unless (fault_of (parts_with before None)) (url_of (parts_with before (fragment_of cs)))
good cs before after bad cut fails =
    cond-false (has_bad_char cs) (Err (BadChar (length (front cs))))
    (unless (fault_of (parts_of cs)) (url_of (parts_of cs))) (sym cut.bad_is ∙ fails)
    ∙ ap (λ f. unless (fault_of (parts_with f None)) (url_of (parts_with f (fragment_of cs))))
    (sym cut.front_is)

pub url_fault : (cs before after : List ℕ) (bad : Bool) (fault : UrlFault)
    → IsCut cs before after bad → bad ≡ false → fault_of (parts_with before None) ≡ Some fault
    → url_at cs ≡ Err fault
url_fault cs before after bad fault cut fails is =
    good cs before after bad cut fails
    ∙ ap (λ f. unless f (url_of (parts_with before (fragment_of cs)))) is

pub url_found : (cs before after : List ℕ) (bad : Bool) (fragment : Option (List ℕ)) (url : Url)
    → IsCut cs before after bad → bad ≡ false → fault_of (parts_with before None) ≡ None
    → fragment ≡ fragment_of cs → url ≡ url_of (parts_with before fragment) → url_at cs ≡ Ok url
url_found cs before after bad fragment url cut fails is fragment_is url_is =
    good cs before after bad cut fails
    ∙ ap (λ f. unless f (url_of (parts_with before (fragment_of cs)))) is
    ∙ ap Ok (ap (λ f. url_of (parts_with before f)) (sym fragment_is) ∙ sym url_is)

-- ---- the clauses of a reading, from what the definition gives
pub record OkClauses (t : List ℕ) (u : Url) : Type 0 where
  pub found : IsUrl t u
  pub only : (v : Url) → IsUrl t v → ◌≡◌ {A = Result Url UrlFault} (Ok v) (Ok u)
  pub first : (f : UrlFault) → IsRefused t f → ◌≡◌ {A = Result Url UrlFault} (Err f) (Ok u)
  pub normal : IsNormal u

pub ok_clauses : (t : List ℕ) (u : Url) → url_at t ≡ Ok u → OkClauses t u
ok_clauses t u is = record {
  found = url_takes t u is;
  only = λ v has. sym (url_again t v has) ∙ is;
  first = λ f has. sym (url_fails t f has) ∙ is;
  normal = url_normal t u (url_takes t u is);
}

pub record ErrClauses (t : List ℕ) (e : UrlFault) : Type 0 where
  pub only : (v : Url) → IsUrl t v → ◌≡◌ {A = Result Url UrlFault} (Ok v) (Err e)
  pub refused : IsRefused t e
  pub first : (f : UrlFault) → IsRefused t f → ◌≡◌ {A = Result Url UrlFault} (Err f) (Err e)

pub err_clauses : (t : List ℕ) (e : UrlFault) → url_at t ≡ Err e → ErrClauses t e
err_clauses t e is = record {
  only = λ v has. sym (url_again t v has) ∙ is;
  refused = url_stops t e is;
  first = λ f has. sym (url_fails t f has) ∙ is;
}
