-- What jobs came to is right for the pages of the store.
use Rattle.std.proofs.Common.{◌≡◌, ℕ, List, [], ◌∷◌, map, Result, Ok}
use Rattle.std.proofs.Common.{refl, sym, ap, ap₂, subst, ◌∙◌, ◌+◌, ◌++◌, take, drop}
use Rattle.std.proofs.Common.{length, append_assoc}
use Rattle.std.specs.Prelude.{All, IfOk}
use Rattle.std.specs.List.{AllZip, AllByRecursion}
use Rattle.std.specs.Map.{keys_of}
use Rattle.std.specs.List.Sorted.{IsPermutation}
use Rattle.std.proofs.lemmas.List.{take-append-drop, length-append, map-append}
use Rattle.std.proofs.lemmas.List.Elements.{recursion_from_All, All-from_recursion, All-append}
use Rattle.std.proofs.lemmas.List.Elements.{All-weaker}
use Rattle.wap_base.specs.Contents.{names_of}
use Rattle.wap_base.specs.Texts.{AreAscending}
use Rattle.wap_base.specs.declared.fault.NoMemory.{NoMemory}
use Rattle.wap_devices.specs.Stores.{StoreSeen, Known, Grew, Lists}
use Rattle.wap_devices.proofs.Telling.{agrees_before}
use Rattle.wap_cli.specs.prepare.Reports.{Entry, AreEntries, IsVerdict, IsEntry}
use Rattle.wap_cli.specs.Answers.{IsPageOf, page_of}
use Rattle.wap_cli.specs.prepare.Fetching.{Job, IsAnswered}
use Rattle.wap_cli.specs.prepare.inside.Jobs.{IsRight}
use Rattle.wap_cli.proofs.ResumeLemmas.Fetching.{page_later}

-- answers that all are there are right for their jobs
pub all_there : {J A : Type 0} (Right : J → A → Type 0) (jobs : List J) (all : List A)
    (answers : List (Result A NoMemory)) → map Ok all ≡ answers
    → AllZip (λ job answer. IfOk answer (Right job)) jobs answers → AllZip Right jobs all
all_there {J} {A} Right jobs all answers is right =
    by_lists jobs all
    (subst (λ (l : List (Result A NoMemory)). AllZip (λ job answer. IfOk answer (Right job)) jobs l)
    (sym is) right)
  where
    by_lists : (jobs : List J) (all : List A)
        → AllZip (λ job (answer : Result A NoMemory). IfOk answer (Right job)) jobs (map Ok all)
        → AllZip Right jobs all
    by_lists [] [] right = right
    by_lists [] (one ∷ all) right = absurd right
    by_lists (job ∷ jobs) [] right = absurd right
    by_lists (job ∷ jobs) (one ∷ all) right = (right.0, by_lists jobs all right.1)

-- what is right for a job has its name
pub same_names : {X : Type 0} (Right : Job → List ℕ × X → Type 0)
    → ((job : Job) (one : List ℕ × X) → Right job one → one.0 ≡ job.0) → (jobs : List Job)
    (all : List (List ℕ × X)) → AllZip Right jobs all → keys_of all ≡ keys_of jobs
same_names Right named [] [] right = refl
same_names Right named [] (one ∷ all) right = absurd right
same_names Right named (job ∷ jobs) [] right = absurd right
same_names Right named (job ∷ jobs) (one ∷ all) right =
    ap₂ (λ (name : List ℕ) (names : List (List ℕ)). name ∷ names) (named job one right.0)
    (same_names Right named jobs all right.1)

-- they are right for the answers of the store
entry_right : (known : Known) (job : Job) (entry : Entry) → IsAnswered known job
    → IsRight job entry → IsEntry known entry
entry_right known job entry answered right = record {
  page = page_of job.1;
  is = subst (λ (name : List ℕ). IsPageOf known name (page_of job.1)) (sym right.name) answered;
  verdict =
      subst (λ (name : List ℕ). IsVerdict name (page_of job.1) entry.1) (sym right.name)
      right.verdict;
  of_reason = right.for_fault;
}

pub all_right : (known : Known) (jobs : List Job) (entries : List Entry)
    → All (IsAnswered known) jobs → AllZip IsRight jobs entries → All (IsEntry known) entries
all_right known jobs entries answered right =
    All-from_recursion (IsEntry known) entries
    (by_lists jobs entries (recursion_from_All (IsAnswered known) jobs answered) right)
  where
    by_lists : (jobs : List Job) (entries : List Entry)
        → AllByRecursion (IsAnswered known) jobs → AllZip IsRight jobs entries
        → AllByRecursion (IsEntry known) entries
    by_lists [] [] answered right = tt
    by_lists [] (entry ∷ entries) answered right = absurd right
    by_lists (job ∷ jobs) [] answered right = absurd right
    by_lists (job ∷ jobs) (entry ∷ entries) answered right = (
      entry_right known job entry answered.0 right.0,
      by_lists jobs entries answered.1 right.1,
    )

-- so they are the entries of all pages, of which the names were listed
pub are_entries : {A : Type 0} (names_in : A → List (List ℕ)) (store listed : StoreSeen) (names : A)
    (entries : List Entry) (after : Known) → Lists names_in store listed (Ok names)
    → Grew listed.known after → keys_of entries ≡ names_in names → All (IsEntry after) entries
    → AreEntries after entries
are_entries names_in store listed names entries after lists grew same right = record {
  ascending = subst AreAscending (sym same) lists.ascending;
  all = λ pages agrees.
      subst (λ (l : List (List ℕ)). IsPermutation (names_of pages) l) (sym same)
      (lists.names pages (agrees_before listed.known after grew pages agrees));
  right = right;
}

-- ---- entries that are judged in parts

-- names that are taken in two parts
pub parts_together : (some left rest : List (List ℕ)) (k : ℕ) → some ≡ take k left
    → rest ≡ drop k left → length some + length rest ≡ length left
parts_together some left rest k first last =
    sym (length-append some rest)
    ∙ ap length (ap₂ (λ (l m : List (List ℕ)). l ++ m) first last ∙ take-append-drop k left)

-- the names that are left after more of them
pub left_after : (entries more all : List Entry) (some left rest names : List (List ℕ)) (k : ℕ)
    → keys_of entries ++ left ≡ names → some ≡ take k left → rest ≡ drop k left
    → keys_of more ≡ some → all ≡ entries ++ more → keys_of all ++ rest ≡ names
left_after entries more all some left rest names k so first last are together =
    ap (λ (l : List Entry). keys_of l ++ rest) together
    ∙ ap (λ (l : List (List ℕ)). l ++ rest) (map-append (λ (entry : Entry). entry.0) entries more)
    ∙ append_assoc (keys_of entries) (keys_of more) rest
    ∙ ap (λ (l : List (List ℕ)). keys_of entries ++ l)
    (ap₂ (λ (l m : List (List ℕ)). l ++ m) (are ∙ first) last ∙ take-append-drop k left)
    ∙ so

-- an entry that was right earlier is right of what is known later
still_right : (before after : Known) → Grew before after → (entry : Entry) → IsEntry before entry
    → IsEntry after entry
still_right before after grew entry right = record {
  page = right.page;
  is = page_later before after grew entry.0 right.page right.is;
  verdict = right.verdict;
  of_reason = right.of_reason;
}

-- all of them are right
pub right_after : (before after : Known) (entries more all : List Entry) → Grew before after
    → All (IsEntry before) entries → All (IsEntry after) more → all ≡ entries ++ more
    → All (IsEntry after) all
right_after before after entries more all grew right more_right together =
    subst (All (IsEntry after)) (sym together)
    (All-append (IsEntry after) entries more
    (All-weaker (IsEntry before) (IsEntry after) (still_right before after grew) entries right)
    more_right)
