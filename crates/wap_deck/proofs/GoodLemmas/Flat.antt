-- What is written on the first pages of codes ends on them.
use Rattle.std.proofs.Common.{◌≡◌, ℕ, List, [], ◌∷◌, ◌++◌, refl, sym, ap, subst, ◌∙◌, append_assoc}
use Rattle.std.specs.List.{flat_map, AllByRecursion}
use Rattle.wap_tokens.specs.declared.markup.codes.TheConstants.{END}
use Rattle.wap_wbxml.specs.declared.spelling.output.Pages.{Pages}
use Rattle.wap_wbxml.specs.spelling.Writings.{Writing, plain, ◌⨾◌, each, ended}
use Rattle.wap_wbxml.specs.spelling.Spelling.{first_pages}

abbrev pub Flat : Writing → List ℕ → Type 0
Flat write bytes = write first_pages ≡ (bytes, first_pages)

pub flat_on : (a b : Writing) (x y : List ℕ) → Flat a x → Flat b y → Flat (a ⨾ b) (x ++ y)
unfolding ◌⨾◌
flat_on a b x y one two =
    ap (λ (p : List ℕ × Pages). let w : List ℕ × Pages = (p.0 ++ (b p.1).0, (b p.1).1) in w) one
    ∙ ap (λ (q : List ℕ × Pages). let w : List ℕ × Pages = (x ++ q.0, q.1) in w) two

each_append : {A : Type 0} (write : A → Writing) (xs ys : List A) (pages : Pages)
    → each write (xs ++ ys) pages ≡ (each write xs ⨾ each write ys) pages
unfolding each ◌⨾◌
each_append write [] ys pages = refl
each_append write (x ∷ xs) ys pages =
    let a = write x pages in
    let c = each write xs a.1 in
    let d = each write ys c.1 in
    ap (λ (b : List ℕ × Pages). let w : List ℕ × Pages = (a.0 ++ b.0, b.1) in w)
    (each_append write xs ys a.1)
    ∙ ap (λ (l : List ℕ). let w : List ℕ × Pages = (l, d.1) in w) (sym (append_assoc a.0 c.0 d.0))

pub flat_both : {A : Type 0} (write : A → Writing) (xs ys : List A) (a b : List ℕ)
    → Flat (each write xs) a → Flat (each write ys) b → Flat (each write (xs ++ ys)) (a ++ b)
flat_both write xs ys a b one two =
    each_append write xs ys first_pages ∙ flat_on (each write xs) (each write ys) a b one two

pub flat_one : {A : Type 0} (write : A → Writing) (x : A) (a : List ℕ) → Flat (write x) a
    → Flat (each write (x ∷ [])) (a ++ [])
unfolding each
flat_one write x a one = flat_on (write x) (each write []) a [] one refl

pub flat_each : {A : Type 0} (write : A → Writing) (spell : A → List ℕ) (P : A → Type 0)
    → ((a : A) → P a → Flat (write a) (spell a)) → (xs : List A) → AllByRecursion P xs
    → Flat (each write xs) (flat_map spell xs)
unfolding each
flat_each write spell P one [] are = refl
flat_each write spell P one (x ∷ xs) are =
    flat_on (write x) (each write xs) (spell x) (flat_map spell xs) (one x are.0)
    (flat_each write spell P one xs are.1)

-- ---- lists with an end

pub record Filled {A : Type 0} (xs : List A) : Type 0 where
  pub first : A
  pub others : List A
  pub are : xs ≡ first ∷ others

pub flat_ended : {A : Type 0} (write : A → Writing) (xs : List A) (bytes : List ℕ) → Filled xs
    → Flat (each write xs) bytes → Flat (ended write xs) (bytes ++ END ∷ [])
flat_ended {A = A} write xs bytes filled flat =
    let P : List A → Type 0 =
    λ xs. Flat (each write xs) bytes → Flat (ended write xs) (bytes ++ END ∷ []) in
    subst P (sym filled.are) (λ flat. flat_on (each write (filled.first ∷ filled.others))
    (plain (END ∷ [])) bytes (END ∷ []) flat refl) flat
