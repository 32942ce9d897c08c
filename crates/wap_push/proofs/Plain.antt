-- The texts of the tables are of US-ASCII, so their bytes are their characters.
use Rattle.std.proofs.Common.{◌≡◌, ℕ, Bool, true, List, [], ◌∷◌, Option, Some, None, refl}
use Rattle.std.specs.Prelude.{IfSome}
use Rattle.std.specs.Borrow.{Bor}
use Rattle.std.specs.List.{list_all}
use Rattle.std.specs.Map.{lookup}
use Rattle.std.specs.Option.{option_map}
use Rattle.std.specs.Str.{chars}
use Rattle.std.proofs.lemmas.Bool.{and_parts, cond_both}
use Rattle.wap_base.proofs.Plain.{is_plain, chars-plain}
use Rattle.wap_push.specs.declared.names.PushField.{PushField}
use Rattle.wap_push.specs.Tables.{Start, start_rows, value_rows}
use Rattle.wap_push.specs.inside.Rows.{lent_start}

starts_plain : list_all (λ row. is_plain row.1.1) start_rows ≡ true
unfolding start_rows
starts_plain = refl

texts_plain : list_all (λ row. is_plain row.1) value_rows ≡ true
unfolding value_rows
texts_plain = refl

-- what is true of all values of a table is true of the one that is found
found : {X : Type 0} (P : X → Type 0) (is : X → Bool) (test : ℕ → Bool) (rows : List (ℕ × X))
    → ((x : X) → is x ≡ true → P x) → list_all (λ row. is row.1) rows ≡ true
    → IfSome (lookup test rows) P
found P is test [] each all = tt
found P is test (e ∷ es) each all =
    let parts = and_parts (is e.1) (list_all (λ row. is row.1) es) all in
    cond_both (test e.0) (Some e.1) (lookup test es) (λ o. IfSome o P) (λ _. each e.1 parts.0)
    (λ _. found P is test es each parts.1)

-- the text of a start that is found
pub chars-start : (test : ℕ → Bool) → IfSome (lookup test start_rows) (λ s. chars s.1 ≡ s.1)
chars-start test =
    found (λ (s : Start). chars s.1 ≡ s.1) (λ (s : Start). is_plain s.1) test start_rows
    (λ s plain. chars-plain s.1 plain) starts_plain

-- the text of a part of a value that is found
pub chars-value : (test : ℕ → Bool) → IfSome (lookup test value_rows) (λ text. chars text ≡ text)
chars-value test =
    found (λ (text : List ℕ). chars text ≡ text) is_plain test value_rows
    (λ text plain. chars-plain text plain) texts_plain

-- the same of a start that is lent
pub lent-start : (start : Option (PushField × Bor (List ℕ)))
    → IfSome (option_map lent_start start) (λ s. chars s.1 ≡ s.1)
    → IfSome start (λ s. chars s.1.now ≡ s.1.now)
lent-start None p = tt
lent-start (Some start) p = p

-- the same of a text that is lent
pub lent-text : (text : Option (Bor (List ℕ)))
    → IfSome (option_map (λ t. t.now) text) (λ t. chars t ≡ t)
    → IfSome text (λ t. chars t.now ≡ t.now)
lent-text None p = tt
lent-text (Some text) p = p
