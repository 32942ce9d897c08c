-- Items one after the other are read as they are spelled.
use Rattle.std.proofs.Common.{◌≡◌, ℕ, zero, suc, ◌<◌, ◌≤◌, List, [], ◌∷◌, length}
use Rattle.std.proofs.Common.{Option, Some, None, Ok, refl, sym, ap, subst, ◌∙◌, arith}
use Rattle.wap_base.specs.Outcome.{◌>>=◌}
use Rattle.wap_base.proofs.Choices.{bind_ok}
use Rattle.wap_grammar.specs.declared.lexeme.Lexeme.{Lexeme}
use Rattle.wap_grammar.specs.Spellings.{Spelling, Several, none, more}
use Rattle.wap_grammar.specs.reading.TokenReading.{Reading, told, Next, one_more, run_at, items_at}
use Rattle.wap_grammar.proofs.Firsts.{value_same, told_ok}

-- what is spelled the one way is spelled the other way
abbrev pub Implies : {A : Type 0} → Spelling A → Spelling A → Type 0
Implies {A = A} Is Js = (a : List Lexeme) (x : A) (b : List Lexeme) → Is a x b → Js a x b

-- what is read is spelled
abbrev pub Takes : {A : Type 0} → Spelling A → (List Lexeme → Reading A) → Type 0
Takes {A = A} Is read = (a : List Lexeme) (x : A) (b : List Lexeme) → read a ≡ Ok (x, b) → Is a x b

-- what is spelled is read, where nothing follows that goes on with it
abbrev pub Again : {A : Type 0} → Spelling A → (List Lexeme → Type 0) → (List Lexeme →
    Reading A) → Type 0
Again {A = A} Is E read =
    (a : List Lexeme) (x : A) (b : List Lexeme) → Is a x b → E b → read a ≡ Ok (x, b)

-- no token comes to what is left, or one goes at least
abbrev pub Within : {A : Type 0} → Spelling A → Type 0
Within {A = A} Is = (a : List Lexeme) (x : A) (b : List Lexeme) → Is a x b → length b ≤ length a

abbrev pub Shorter : {A : Type 0} → Spelling A → Type 0
Shorter {A = A} Is = (a : List Lexeme) (x : A) (b : List Lexeme) → Is a x b → length b < length a

-- a reading gives what is spelled, and all that is spelled where nothing follows that goes on with
-- it
pub record Reads {A : Type 0} (Is : Spelling A) (Ends : List Lexeme → Type 0) (read : List Lexeme →
    Reading A) : Type 0 where
  pub takes : Takes Is read
  pub again : Again Is Ends read
  pub within : Within Is

-- the next item of some, which begins with what ends the one before; none where they end
pub record ReadsItems {A : Type 0} (Is : Spelling A) (Inside Ends : List Lexeme →
    Type 0) (next : Next A) : Type 0 where
  pub item : (a : List Lexeme) (x : A) (b : List Lexeme) → next a ≡ Ok (Some x, b) → Is a x b
  pub stop : (a b : List Lexeme) → next a ≡ Ok (None, b) → a ≡ b
  pub again : (a : List Lexeme) (x : A) (b : List Lexeme) → Is a x b → Inside b →
      next a ≡ Ok (Some x, b)
  pub stops : (b : List Lexeme) → Ends b → next b ≡ Ok (None, b)
  pub looser : (b : List Lexeme) → Ends b → Inside b
  pub goes_on : (a : List Lexeme) (x : A) (b : List Lexeme) → Is a x b → Inside a
  pub shorter : Shorter Is

module _ {A : Type 0} {Is : Spelling A} {Inside Ends : List Lexeme →
    Type 0} {next : Next A} (reads : ReadsItems Is Inside Ends next) where
  items_ok : (most : ℕ) (a : List Lexeme) (xs : List A) (b : List Lexeme) →
      run_at next most a ≡ Ok (xs, b) → Several Is a xs b
  items_ok zero a xs b e =
      let same = value_same ([], a) (xs, b) e in
      rw (sym same.0, sym same.1) (none a)
  items_ok (suc most) a xs b e = by_first (bind_ok (next a) (one_more (run_at next most)) (xs, b) e)
      (items_ok most) where
        by_first : (first : Option A × List Lexeme) × (next a ≡ Ok first) × (one_more
            (run_at next most) first ≡ Ok (xs, b))
            → ((c : List Lexeme) (ys : List A) (d : List Lexeme) → run_at next most c ≡ Ok (ys, d) →
            Several Is c ys d) → Several Is a xs b
        by_first ((None, c), found, e) others =
            let same = value_same ([], c) (xs, b) e in
            subst (λ (ys : List A). Several Is a ys b) same.0 (subst (Several Is a [])
            (reads.stop a c found ∙ same.1) (none a))
        by_first ((Some x, c), found, e) others =
            let rest = told_ok (λ (ys : List A). x ∷ ys) (run_at next most c) xs b e in
            subst (λ (ys : List A). Several Is a ys b) rest.2 (more a c b x rest.0
            (reads.item a x c found) (others c rest.0 b rest.1))

  pub first_inside : (a : List Lexeme) (xs : List A) (b : List Lexeme) → Several Is a xs b →
      Ends b → Inside a
  first_inside a xs b (none a') ends = reads.looser a ends
  first_inside a xs b (more a' c b' x ys one rest) ends = reads.goes_on a x c one

  items_again : (a : List Lexeme) (xs : List A) (b : List Lexeme) → Several Is a xs b → Ends b →
      (most : ℕ) → length a ≤ most → run_at next most a ≡ Ok (xs, b)
  items_again a xs b (none a') ends zero few = refl
  items_again a xs b (none a') ends (suc most) few = ap (λ (r : Reading (Option A)). r >>= one_more
      (run_at next most)) (reads.stops a ends)
  items_again a xs b (more a' c b' x ys one rest) ends zero few = absurd (omega
      (arith, few, reads.shorter a x c one))
  items_again a xs b (more a' c b' x ys one rest) ends (suc most) few =
      ap (λ (r : Reading (Option A)). r >>= one_more (run_at next most)) (reads.again a x c one
      (first_inside c ys b rest ends))
      ∙ ap (told (λ (zs : List A). x ∷ zs)) (items_again c ys b rest ends most (omega
      (arith, few, reads.shorter a x c one)))

  items_within : (a : List Lexeme) (xs : List A) (b : List Lexeme) → Several Is a xs b →
      length b ≤ length a
  items_within a xs b (none a') = omega arith
  items_within a xs b (more a' c b' x ys one rest) = omega
      (arith, reads.shorter a x c one, items_within c ys b rest)

  pub reads_items : Reads (Several Is) Ends (items_at next)
  unfolding items_at
  reads_items = record {
    takes = λ a xs b e. items_ok (length a) a xs b e;
    again = λ a xs b are ends. items_again a xs b are ends (length a) (omega arith);
    within = items_within;
  }

-- no items
pub items_none : {A : Type 0} (next : Next A) (b : List Lexeme) → next b ≡ Ok (None, b) →
    items_at next b ≡ Ok ([], b)
unfolding items_at
items_none {A = A} next b nothing = by_most (length b) where
  by_most : (most : ℕ) → run_at next most b ≡ Ok ([], b)
  by_most zero = refl
  by_most (suc most) = ap (λ (r : Reading (Option A)). r >>= one_more (run_at next most)) nothing
