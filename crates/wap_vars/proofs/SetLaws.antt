-- What a set gives, and that the variables stay what they are to be.
use Rattle.std.proofs.Common.{◌≡◌, ℕ, ◌+◌, ◌≤◌, Bool, true, false, cond, List, length, Option, Some}
use Rattle.std.proofs.Common.{None, Result, Ok, Err, inl, inr, refl, ap, sym, ◌∙◌, arith}
use Rattle.std.specs.Option.{is_some}
use Rattle.std.specs.List.Sorted.{IsStrictlySortedBy}
use Rattle.std.specs.Map.{keys_of, remove_entry}
use Rattle.std.proofs.lemmas.Bool.{cases_lt, le-ltb, le-leb, lt-leb}
use Rattle.std.proofs.lemmas.Bool.Decides.{nat_tests}
use Rattle.std.proofs.lemmas.Map.Views.{All-values-insert_entry, All-keys-insert_entry}
use Rattle.std.proofs.lemmas.Map.Views.{All-map-remove_entry}
use Rattle.wap_base.specs.Names.{is_name}
use Rattle.wap_base.specs.Texts.{text_cmp}
use Rattle.wap_base.specs.Utf8.{utf8_len}
use Rattle.wap_vars.specs.declared.limits.TheConstants.{VAR_LIMIT, TEXT_LIMIT}
use Rattle.wap_vars.specs.declared.fault.VarFault.{VarFault}
use Rattle.wap_vars.specs.declared.fault.VarFault.TheVariants.{Full}
use Rattle.wap_vars.specs.Variables.{text_of, updated, AreVars}
use Rattle.wap_vars.specs.Setting.{set_in}

pub set_ok : (vars : List (List ℕ × List ℕ)) (name text : List ℕ) → is_name name ≡ true
    → utf8_len text ≤ TEXT_LIMIT → (VAR_LIMIT ≤ length vars → is_some (text_of vars name) ≡ true)
    → set_in vars name text ≡ Ok (updated vars name text)
set_ok vars name text named short room = elim (cases_lt (length vars) VAR_LIMIT) [
  | inl few ↦
      rw (named, le-ltb TEXT_LIMIT (utf8_len text) short, lt-leb VAR_LIMIT (length vars) few) refl
  | inr full ↦
      let kept : is_some (text_of vars name) ≡ true = room full in
      rw (named, le-ltb TEXT_LIMIT (utf8_len text) short, le-leb VAR_LIMIT (length vars) full, kept)
      refl
]

pub set_full : (vars : List (List ℕ × List ℕ)) (name text : List ℕ) → is_name name ≡ true
    → utf8_len text ≤ TEXT_LIMIT → VAR_LIMIT ≤ length vars → is_some (text_of vars name) ≡ false
    → set_in vars name text ≡ Err Full
set_full vars name text named short full new =
    rw
    (named, le-ltb TEXT_LIMIT (utf8_len text) short, le-leb VAR_LIMIT (length vars) full, new) refl

-- the same of what the map is seen as
pub set_seen : (entries vars : List (List ℕ × List ℕ)) (key name text : List ℕ)
    (answer : Result (List (List ℕ × List ℕ)) VarFault) → entries ≡ vars → key ≡ name
    → set_in entries key text ≡ answer → set_in vars name text ≡ answer
set_seen entries vars key name text answer seen named is =
    ap (λ (vars : List (List ℕ × List ℕ)). set_in vars name text) (sym seen)
    ∙ ap (λ (name : List ℕ). set_in entries name text) (sym named) ∙ is

few_after : {X : Type 0} (before after : ℕ) (old : Option X) → before ≤ VAR_LIMIT
    → after ≡ before + cond (is_some old) 0 1 → (VAR_LIMIT ≤ before → is_some old ≡ true)
    → after ≤ VAR_LIMIT
few_after before after None few grew room = grind (arith, nat_tests)
few_after before after (Some x) few grew room = omega arith

pub vars_updated : (vars new : List (List ℕ × List ℕ)) (name text : List ℕ) (old : Option (List ℕ))
    → AreVars vars → is_name name ≡ true → utf8_len text ≤ TEXT_LIMIT → new ≡ updated vars name text
    → IsStrictlySortedBy text_cmp (keys_of new)
    → length new ≡ length vars + cond (is_some old) 0 1
    → (VAR_LIMIT ≤ length vars → is_some old ≡ true) → AreVars new
vars_updated vars new name text old are named short is ordered grew room = record {
  ordered = ordered;
  named =
      rw is (All-keys-insert_entry text_cmp name text
      (λ (name : List ℕ). is_name name ≡ true) vars are.named named);
  few = few_after (length vars) (length new) old are.few grew room;
  short =
      rw is (All-values-insert_entry text_cmp name text
      (λ (text : List ℕ). utf8_len text ≤ TEXT_LIMIT) vars are.short short);
}

pub vars_removed : (vars new : List (List ℕ × List ℕ)) (test : List ℕ → Bool) → AreVars vars
    → new ≡ remove_entry test vars → IsStrictlySortedBy text_cmp (keys_of new)
    → length new ≤ length vars → AreVars new
vars_removed vars new test are is ordered fewer = record {
  ordered = ordered;
  named =
      rw is (All-map-remove_entry test (λ (pair : List ℕ × List ℕ). pair.0)
      (λ (name : List ℕ). is_name name ≡ true) vars are.named);
  few = omega (arith, are.few);
  short =
      rw is (All-map-remove_entry test (λ (pair : List ℕ × List ℕ). pair.1)
      (λ (text : List ℕ). utf8_len text ≤ TEXT_LIMIT) vars are.short);
}
