-- What an item begins with, numbers and characters are read as they are spelled.
use Rattle.std.proofs.Common.{◌≡◌, ℕ, Bool, true, false, cond, eqb, List, [], ◌∷◌, ◌++◌}
use Rattle.std.proofs.Common.{length, Some, Ok, Err, refl, sym, ap, subst, ◌∙◌}
use Rattle.std.proofs.lemmas.Bool.{eqb-true, eqb-false, eq-eqb, ne_eqb}
use Rattle.wap_base.specs.Numbers.{IsMb}
use Rattle.wap_base.specs.formats.ByteReading.{taken_at}
use Rattle.wap_base.proofs.Choices.{err_same}
use Rattle.wap_base.proofs.formats.Readers as formats
use Rattle.wap_base.proofs.formats.Readers.{pair_same}
use Rattle.wap_base.proofs.formats.Steps
use Rattle.wap_tokens.specs.declared.markup.codes.TheConstants.{SWITCH_PAGE}
use Rattle.wap_tokens.specs.declared.markup.mark.Lead.{Lead}
use Rattle.wap_tokens.specs.markup.Charsets.{is_character}
use Rattle.wap_tokens.specs.markup.Grammar.{IsLead, IsOpaque, IsCharacter}
use Rattle.wap_wbxml.specs.declared.fault.DocFault.{DocFault}
use Rattle.wap_wbxml.specs.declared.fault.DocFault.TheVariants as doc
use Rattle.wap_wbxml.specs.Places.{just_before}
use Rattle.wap_wbxml.specs.reading.Fronts.{switched_in, or_short, lead_at, number_at, opaque_at}
use Rattle.wap_wbxml.specs.reading.Fronts.{character_at}
use Rattle.wap_wbxml.specs.Refusals.{Anything}
use Rattle.wap_wbxml.specs.Refusal.{RefusedLead, RefusedNumber, RefusedOpaque, RefusedCharacter}
use Rattle.wap_wbxml.proofs.Readings.{Reads, at_end, no_fault, no_value, reads_then}

-- ---- the byte that an item begins with

abbrev plain_lead : ℕ → ℕ → Lead
plain_lead page byte = record { switched = false; page = page; byte = byte }

abbrev switched_lead : ℕ → ℕ → Lead
switched_lead page byte = record { switched = true; page = page; byte = byte }

abbrev Led : ℕ → List ℕ → Lead → List ℕ → Type 0
Led page bytes x rest =
    (front : List ℕ) × (bytes ≡ front ++ rest) × IsLead page front x × Anything x rest

switched_takes : (total page : ℕ) (bytes : List ℕ) (x : Lead) (rest : List ℕ)
    → or_short total (switched_in bytes) ≡ Ok (x, rest) → Led page (SWITCH_PAGE ∷ bytes) x rest
switched_takes total page [] x rest e = absurd (no_value e)
switched_takes total page (next ∷ []) x rest e = absurd (no_value e)
switched_takes total page (next ∷ byte ∷ bytes) x rest e =
    let same = pair_same (switched_lead next byte) x bytes rest e in (
      SWITCH_PAGE ∷ next ∷ byte ∷ [],
      ap (λ (l : List ℕ). SWITCH_PAGE ∷ next ∷ byte ∷ l) same.1,
      (refl, sym same.0),
      tt,
    )

lead_takes : (total page : ℕ) (bytes : List ℕ) (x : Lead) (rest : List ℕ)
    → lead_at total page bytes ≡ Ok (x, rest)
    → Led page bytes x rest
unfolding lead_at
lead_takes total page [] x rest e = absurd (no_value e)
lead_takes total page (byte ∷ bytes) x rest e = by (eqb byte SWITCH_PAGE) refl e
  where
    by : (t : Bool) → eqb byte SWITCH_PAGE ≡ t
        → or_short total (cond t (switched_in bytes) (Some (plain_lead page byte, bytes)))
        ≡ Ok (x, rest)
        → Led page (byte ∷ bytes) x rest
    by true t f =
        subst (λ (b : ℕ). Led page (b ∷ bytes) x rest) (sym (eqb-true byte SWITCH_PAGE t))
        (switched_takes total page bytes x rest f)
    by false t f =
        let same = pair_same (plain_lead page byte) x bytes rest f in (
          byte ∷ [],
          ap (λ (l : List ℕ). byte ∷ l) same.1,
          (eqb-false byte SWITCH_PAGE t, sym same.0),
          tt,
        )

lead_again : (total page : ℕ) (front : List ℕ) (x : Lead) (rest : List ℕ) → IsLead page front x
    → lead_at total page (front ++ rest) ≡ Ok (x, rest)
unfolding lead_at
lead_again total page [] x rest is = absurd is
lead_again total page (byte ∷ []) x rest is =
    ap (λ (t : Bool).
    or_short total (cond t (switched_in rest) (Some (plain_lead page byte, rest))))
    (ne_eqb byte SWITCH_PAGE is.0) ∙ ap (λ (y : Lead). Ok (y, rest)) (sym is.1)
lead_again total page (byte ∷ next ∷ []) x rest is = absurd is
lead_again total page (switch ∷ next ∷ byte ∷ []) x rest is =
    ap (λ (t : Bool). or_short total
    (cond t (switched_in (next ∷ byte ∷ rest)) (Some (plain_lead page switch, next ∷ byte ∷ rest))))
    (eq-eqb switch SWITCH_PAGE is.0) ∙ ap (λ (y : Lead). Ok (y, rest)) (sym is.1)
lead_again total page (a ∷ b ∷ c ∷ d ∷ front) x rest is = absurd is

switched_stops : (total : ℕ) (bytes : List ℕ) (fault : DocFault)
    → or_short total (switched_in bytes) ≡ Err fault
    → RefusedLead total (SWITCH_PAGE ∷ bytes) fault
switched_stops total [] fault e = (refl, sym (err_same (doc.Short total) fault e))
switched_stops total (next ∷ []) fault e = (refl, sym (err_same (doc.Short total) fault e))
switched_stops total (next ∷ byte ∷ bytes) fault e = absurd (no_fault e)

lead_stops : (total page : ℕ) (bytes : List ℕ) (fault : DocFault)
    → lead_at total page bytes ≡ Err fault
    → RefusedLead total bytes fault
unfolding lead_at
lead_stops total page [] fault e = (tt, sym (err_same (doc.Short total) fault e))
lead_stops total page (byte ∷ bytes) fault e = by (eqb byte SWITCH_PAGE) refl e
  where
    by : (t : Bool) → eqb byte SWITCH_PAGE ≡ t
        → or_short total (cond t (switched_in bytes) (Some (plain_lead page byte, bytes)))
        ≡ Err fault
        → RefusedLead total (byte ∷ bytes) fault
    by true t f =
        subst (λ (b : ℕ). RefusedLead total (b ∷ bytes) fault) (sym (eqb-true byte SWITCH_PAGE t))
        (switched_stops total bytes fault f)
    by false t f = absurd (no_fault f)

lead_fails : (total page : ℕ) (bytes : List ℕ) (fault : DocFault) → RefusedLead total bytes fault
    → lead_at total page bytes ≡ Err fault
unfolding lead_at
lead_fails total page [] fault refused = ap Err (sym refused.1)
lead_fails total page (byte ∷ []) fault refused =
    ap (λ (t : Bool). or_short total (cond t (switched_in []) (Some (plain_lead page byte, []))))
    (eq-eqb byte SWITCH_PAGE refused.0) ∙ ap Err (sym refused.1)
lead_fails total page (byte ∷ next ∷ []) fault refused =
    ap (λ (t : Bool).
    or_short total (cond t (switched_in (next ∷ [])) (Some (plain_lead page byte, next ∷ []))))
    (eq-eqb byte SWITCH_PAGE refused.0) ∙ ap Err (sym refused.1)
lead_fails total page (byte ∷ next ∷ more ∷ rest) fault refused = absurd refused.0

pub reads_lead : (total page : ℕ)
    → Reads Anything (lead_at total page) (IsLead page) (RefusedLead total)
reads_lead total page = record {
  takes = lead_takes total page;
  again = λ front x rest is ends. lead_again total page front x rest is;
  stops = lead_stops total page;
  fails = lead_fails total page;
}

-- ---- numbers, bytes and characters

-- a number
pub reads_number : formats.Reads number_at IsMb RefusedNumber
reads_number = Steps.reads_number doc.Short doc.Number

-- a number, and so many bytes
pub reads_opaque : (total : ℕ) → Reads Anything (opaque_at total) IsOpaque (RefusedOpaque total)
unfolding opaque_at RefusedOpaque
reads_opaque total =
    reads_then (λ count. taken_at doc.Short count total) (at_end reads_number total)
    (λ count.
    at_end (formats.reads_as (Steps.reads_taken doc.Short count)
    (λ bytes opaque is. (ap (λ (l : List ℕ). length l) is.0 ∙ is.1, sym is.0))
    (λ bytes opaque is. (sym is.1, ap (λ (l : List ℕ). length l) is.1 ∙ is.0))) total)

-- a character
pub reads_character : formats.Reads character_at IsCharacter RefusedCharacter
unfolding character_at
reads_character = formats.reads_passing is_character (just_before doc.Text) reads_number
