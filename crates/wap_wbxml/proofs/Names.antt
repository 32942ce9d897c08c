-- Names of the string table that count, and how many bytes a table of them takes.
use Rattle.std.proofs.Common.{◌≡◌, ℕ, ◌+◌, ◌^◌, ◌<◌, ◌≤◌, Bool, true, false, cond, ltb, List}
use Rattle.std.proofs.Common.{[], ◌∷◌, ◌++◌, Ok, Err, ap, ◌∙◌, lt-ltb, arith}
use Rattle.std.proofs.lemmas.Bool.Decides.{nat_tests}
use Rattle.std.specs.List.{list_any}
use Rattle.indexmap.specs.IndexSet.{insert_key}
use Rattle.wap_base.specs.Texts.{is_same_text}
use Rattle.wap_base.specs.Utf8.{utf8_len}
use Rattle.wap_tokens.specs.markup.Grammar.{State, with_name, counted, table_size}
use Rattle.wap_wbxml.specs.declared.fault.DocFault.TheVariants as fault
use Rattle.wap_wbxml.specs.reading.Fronts.{counted_at}

pub table_size-append : (names : List (List ℕ)) (name : List ℕ)
    → table_size (names ++ name ∷ []) ≡ table_size names + utf8_len name + 1
unfolding table_size
table_size-append [] name = omega arith
table_size-append (first ∷ names) name = let more = table_size-append names name in omega arith

-- a name that is new in the root
pub counted_new : (before : State) (name : List ℕ) → before.in_root ≡ true
    → list_any (is_same_text name) before.names ≡ false
    → counted name before ≡ record before { names = before.names ++ name ∷ [] }
counted_new before name inside new =
    ap (λ (names : List (List ℕ)). record before { names = names })
    (ap (λ (b : Bool). cond b (with_name before.names name) before.names) inside
    ∙ ap (λ (b : Bool). cond b before.names (before.names ++ name ∷ [])) new)

size_of_new : (before : State) (name : List ℕ) → before.in_root ≡ true
    → list_any (is_same_text name) before.names ≡ false
    → table_size (counted name before).names ≡ table_size before.names + utf8_len name + 1
size_of_new before name inside new =
    ap (λ (s : State). table_size s.names) (counted_new before name inside new)
    ∙ table_size-append before.names name

pub counted_fits : (at : ℕ) (before : State) (name : List ℕ) → before.in_root ≡ true
    → list_any (is_same_text name) before.names ≡ false
    → table_size before.names + utf8_len name + 1 < 2 ^ 32
    → counted_at at before name ≡ Ok (record before { names = before.names ++ name ∷ [] })
unfolding counted_at
counted_fits at before name inside new fits =
    let size = size_of_new before name inside new in
    let test : ltb (table_size (counted name before).names) (2 ^ 32) ≡ true =
    lt-ltb _ _ (omega arith) in
    ap (λ (b : Bool). cond b (Ok (counted name before)) (Err (fault.Table at))) test
    ∙ ap Ok (counted_new before name inside new)

pub counted_over : (at : ℕ) (before : State) (name : List ℕ) → before.in_root ≡ true
    → list_any (is_same_text name) before.names ≡ false
    → 2 ^ 32 ≤ table_size before.names + utf8_len name + 1
    → counted_at at before name ≡ Err (fault.Table at)
unfolding counted_at
counted_over at before name inside new over =
    let size = size_of_new before name inside new in
    let large : 2 ^ 32 ≤ table_size (counted name before).names = omega arith in
    let test : ltb (table_size (counted name before).names) (2 ^ 32) ≡ false =
    grind (arith, nat_tests) in
    ap (λ (b : Bool). cond b (Ok (counted name before)) (Err (fault.Table at))) test

-- a set has such a name after the others
pub added : (after before : List (List ℕ)) (copy name : List ℕ)
    → after ≡ insert_key is_same_text before copy
    → copy ≡ name → list_any (is_same_text name) before ≡ false
    → after ≡ before ++ name ∷ []
added after before copy name inserted same new =
    inserted ∙ ap (insert_key is_same_text before) same
    ∙ ap (λ (b : Bool). cond b before (before ++ name ∷ [])) new
