-- Functions and programs are read as they are spelled.
use Rattle.std.proofs.Common.{◌≡◌, ℕ, ◌<◌, Bool, true, false, cond, List, [], ◌∷◌, length}
use Rattle.std.proofs.Common.{Some, None, Ok, refl, sym, ap, subst, ◌∙◌, inl, inr, arith}
use Rattle.wap_base.specs.Outcome.{◌>>=◌}
use Rattle.wap_base.proofs.Choices.{bind_ok, ok_same}
use Rattle.wap_grammar.specs.declared.program.program.Span.{Span}
use Rattle.wap_grammar.specs.declared.program.program.Id.{Id}
use Rattle.wap_grammar.specs.declared.program.program.Use.{Use}
use Rattle.wap_grammar.specs.declared.program.program.Function.{Function}
use Rattle.wap_grammar.specs.declared.program.program.Program.{Program}
use Rattle.wap_grammar.specs.declared.program.statement.Stmt.{Stmt}
use Rattle.wap_grammar.specs.declared.lexeme.Lexeme.{Lexeme}
use Rattle.wap_grammar.specs.declared.precedence.TheConstants.{COMMA}
use Rattle.wap_grammar.specs.declared.word.Word.TheVariants as word
use Rattle.wap_grammar.specs.declared.word.Sign.TheVariants as signs
use Rattle.wap_grammar.specs.Lexemes.{word_of, is_sign}
use Rattle.wap_grammar.specs.Values.{id_of}
use Rattle.wap_grammar.specs.Spellings.{Spelling, name, sign, Several, AreListed, listed}
use Rattle.wap_grammar.specs.Spellings as several
use Rattle.wap_grammar.specs.Statements.{IsStatement}
use Rattle.wap_grammar.specs.Programs.{IsUse, IsHead, own, external, IsParameter, parameter}
use Rattle.wap_grammar.specs.Programs.{AreParameters, none, some, IsTail, without, semicolon}
use Rattle.wap_grammar.specs.Programs.{IsFunction, function, IsProgramOf, IsProgram, program}
use Rattle.wap_grammar.specs.reading.TokenReading.{Reading, span_of, after, told}
use Rattle.wap_grammar.specs.reading.TokenReading.{closed, id_at, items_at}
use Rattle.wap_grammar.specs.reading.Statements.{Statements, listed_at, statement_at}
use Rattle.wap_grammar.specs.reading.Programs.{next_use, parameters_at, tail_at, head_at}
use Rattle.wap_grammar.specs.reading.Programs.{function_of, function_at, next_function}
use Rattle.wap_grammar.specs.reading.Programs.{program_by, program_at}
use Rattle.wap_grammar.proofs.Firsts.{value_same, sign_first, Ends}
use Rattle.wap_grammar.proofs.Items.{Reads, reads_items, Implies, Shorter, Within}
use Rattle.wap_grammar.proofs.CommaLists.{reads_listed}
use Rattle.wap_grammar.proofs.Blocks.{reads_block}
use Rattle.wap_grammar.proofs.Statements.{ReadsStatements, reads_statements}
use Rattle.wap_grammar.proofs.Pragmas.{NoUse, reads_uses}
use Rattle.wap_grammar.proofs.Productions.{Anything, Given, given, Turn, turn, Behind, behind}
use Rattle.wap_grammar.proofs.Productions.{Before, before, Either, is_a, mapped, reads_given}
use Rattle.wap_grammar.proofs.Productions.{reads_then, reads_either, reads_behind, reads_before}
use Rattle.wap_grammar.proofs.Productions.{reads_name, bars_behind, reads_each}

module _ (src : List ℕ) (Statement : Spelling Stmt) (statement : Statements)
    (statements : ReadsStatements Statement statement) where
  -- ---- parameters

  reads_parameters : Reads (AreListed (IsParameter src)) (Ends COMMA) (listed_at (id_at src))
  reads_parameters = reads_listed (reads_name src)

  listed_first : (a : List Lexeme) (ps : List Id) (b : List Lexeme) →
      AreListed (IsParameter src) a ps b → is_sign signs.Close (word_of a) ≡ false
  listed_first a ps b (listed a' c b' p qs (parameter s x) others) = refl

  -- the names, and the parenthesis
  abbrev Named : Spelling (List Id)
  Named = Before signs.Close (AreListed (IsParameter src))

  reads_signature : Reads (AreParameters src) Anything (parameters_at src)
  unfolding parameters_at
  reads_signature = mapped (reads_either (is_sign signs.Close) (is_a signs.Close refl)
      (reads_given []) (reads_before src signs.Close refl reads_parameters
      (λ span b. omega arith)) (record { bars = λ a ps b is over. not_closed a ps b is })) from to
    where
      not_closed : (a : List Lexeme) (ps : List Id) (b : List Lexeme) → Named a ps b →
          is_sign signs.Close (word_of a) ≡ false
      not_closed a ps b (before right a' b' ps' are) = listed_first a ps _ are

      from : Implies (Either (Behind (word.Sign signs.Close) (Given [])) Named) (AreParameters
          src)
      from a ps b (inl (behind right x b' ps' (given x'))) = none right x
      from a ps b (inr (before right a' b' ps' are)) = some right a b ps are

      to : Implies (AreParameters src) (Either (Behind (word.Sign signs.Close) (Given [])) Named)
      to a ps b (none right x) = inl (behind right x b ps (given x))
      to a ps b (some right a' b' ps' are) = inr (before right a b ps are)

  -- ---- functions

  -- `function`
  abbrev Opening : Bool → Spelling Bool
  Opening out = Behind (word.Sign signs.Function) (Given out)

  reads_head : Reads IsHead Anything (head_at src)
  unfolding head_at
  reads_head = mapped (reads_either (is_sign signs.Extern) (is_a signs.Extern refl)
      (reads_behind src signs.Function refl (reads_given true))
      (reads_behind src signs.Function refl (reads_given false)) (bars_behind refl)) from to where
        from : Implies (Either (Behind (word.Sign signs.Extern) (Opening true)) (Opening false))
            IsHead
        from a out b (inl (behind extern x b' o (behind w x' b2 o2 (given x2)))) =
            external extern w x'
        from a out b (inr (behind w x b' o (given x'))) = own w x

        to : Implies IsHead (Either (Behind (word.Sign signs.Extern) (Opening true)) (Opening
            false))
        to a out b (own w x) = inr (behind w x b out (given x))
        to a out b (external extern w x) =
            inl (behind extern _ b out (behind w x b out (given x)))

  tail_ok : (a : List Lexeme) → IsTail a (tail_at a)
  tail_ok a = by_sign (is_sign signs.Semicolon (word_of a)) refl where
    by_sign : (b : Bool) → is_sign signs.Semicolon (word_of a) ≡ b → IsTail a (cond b (after a) a)
    by_sign true so = subst (λ (x : List Lexeme). IsTail x (after a)) (sym
        (sign_first signs.Semicolon a so)) (semicolon (span_of a) (after a))
    by_sign false so = without a

  abbrev NoTail : List Lexeme → Type 0
  NoTail a = is_sign signs.Semicolon (word_of a) ≡ false

  -- a value, and the `;` that may stand there
  data Ended {A : Type 0} (x : A) : List Lexeme → A → List Lexeme → Type 0 where
    ended : (a b : List Lexeme) → IsTail a b → Ended x a x b

  reads_tail : {A : Type 0} (x : A) → Reads (Ended x) NoTail (λ a. Ok (x, tail_at a))
  reads_tail {A = A} x = record { takes = takes; again = again; within = within } where
    takes : (a : List Lexeme) (y : A) (b : List Lexeme) →
        ◌≡◌ {A = Reading A} (Ok (x, tail_at a)) (Ok (y, b)) → Ended x a y b
    takes a y b e =
        let same = value_same (x, tail_at a) (y, b) e in
        rw (sym same.0, sym same.1) (ended a (tail_at a) (tail_ok a))

    again : (a : List Lexeme) (y : A) (b : List Lexeme) → Ended x a y b → NoTail b →
        ◌≡◌ {A = Reading A} (Ok (x, tail_at a)) (Ok (y, b))
    again a y b (ended a' b' (without c)) over = rw over refl
    again a y b (ended a' b' (semicolon end c)) over = refl

    within : Within (Ended x)
    within a y b (ended a' b' (without c)) = omega arith
    within a y b (ended a' b' (semicolon end c)) = omega arith

  -- a function in turn: its head, its name, its parameters, its statements, its end
  abbrev InTurn : Spelling Function
  InTurn = Turn IsHead (λ out. Turn (IsParameter src) (λ f. Behind (word.Sign signs.Open)
      (Turn (AreParameters src) (λ ps. Behind (word.Sign signs.OpenBlock)
      (Turn (Before signs.CloseBlock (Several Statement))
      (λ ss. Ended (function_of out f ps ss)))))))

  made_of : (a y z u : List Lexeme) (f left opened closed : Span) (out : Bool) (ps : List Id)
      (ss : List Stmt) → IsHead a out (name f ∷ sign signs.Open left ∷ y) →
      AreParameters src y ps (sign signs.OpenBlock opened ∷ z) →
      Several Statement z ss (sign signs.CloseBlock closed ∷ u) → (g : Function)
      (b : List Lexeme) → Ended (function_of out (id_of src f) ps ss) u g b →
      IsFunction src Statement a g b
  made_of a y z u f left opened closed out ps ss one two three g b (ended u' b' four) =
      function f left opened closed a y z u b out ps ss one two three four

  turn_from : Implies InTurn (IsFunction src Statement)
  turn_from a g b (turn a' c b' out g' one (turn c' d b2 id g2 (parameter f d') (behind left y b3
      g3 (turn y' e b4 ps g4 two (behind opened z b5 g5 (turn z' u b6 ss g6
      (before closed z2 u' ss' three) four)))))) =
      made_of a y z u f left opened closed out ps ss one two three g b four

  turn_to : Implies (IsFunction src Statement) InTurn
  turn_to a g b (function f left opened closed a' y z u b' out ps ss one two three four) =
      turn a _ b out g one (turn _ _ b (id_of src f) g (parameter f _) (behind left y b g
      (turn y _ b ps g two (behind opened z b g (turn z u b ss g (before closed z u ss three)
      (ended u b four))))))

  reads_function : Reads (IsFunction src Statement) NoTail (function_at src statement)
  unfolding function_at
  reads_function = mapped (reads_then reads_head (λ out. reads_then (reads_name src) (λ f.
      reads_behind src signs.Open refl (reads_then reads_signature (λ ps.
      reads_behind src signs.OpenBlock refl (reads_then (reads_block src Statement statement
      statements) (λ ss. reads_tail (function_of out f ps ss)))))))) turn_from turn_to

  -- each has a token, its `function` at the latest
  head_shorter : Shorter IsHead
  head_shorter a out b (own w x) = omega arith
  head_shorter a out b (external extern w x) = omega arith

  function_shorter : Shorter (IsFunction src Statement)
  function_shorter a g b (function f left opened closed a' y z u b' out ps ss one two three four) =
      omega (
        arith,
        head_shorter a out (name f ∷ sign signs.Open left ∷ y) one,
        reads_signature.within y ps (sign signs.OpenBlock opened ∷ z) two,
        (reads_block src Statement statement statements).within z ss u
            (before closed z u ss three),
        (reads_tail out).within u out b (ended u b four),
      )

  head_first : (a : List Lexeme) (out : Bool) (b : List Lexeme) → IsHead a out b →
      (is_sign signs.Semicolon (word_of a) ≡ false) × (is_sign signs.Use (word_of a) ≡ false)
  head_first a out b (own word x) = (refl, refl)
  head_first a out b (external extern word x) = (refl, refl)

  function_first : (a : List Lexeme) (g : Function) (b : List Lexeme) →
      IsFunction src Statement a g b → NoTail a ×
      (is_sign signs.Use (word_of a) ≡ false)
  function_first a g b (function f left opened shut a' y z u b' out ps ss one two three four) =
      head_first a out (name f ∷ sign signs.Open left ∷ y) one

  abbrev is_end : List Lexeme → Bool
  is_end [] = true
  is_end (l ∷ x) = false

  abbrev IsEnd : List Lexeme → Type 0
  IsEnd a = a ≡ []

  reads_functions : Reads (Several (IsFunction src Statement)) IsEnd (items_at
      (next_function src statement))
  unfolding next_function
  reads_functions = reads_items {Inside = NoTail} (reads_each is_end (function_at src statement)
      by_test (λ a g b no e. reads_function.takes a g b e) reads_function.again
      (λ a g b is. (begun (length b) a (function_shorter a g b is), (function_first a g b is).0))
      (λ b over. (ap is_end over, ap (λ x. is_sign signs.Semicolon (word_of x)) over))
      function_shorter) where
        by_test : (a : List Lexeme) → next_function src statement a ≡ cond (is_end a) (Ok (None, a))
            (told Some (function_at src statement a))
        by_test [] = refl
        by_test (l ∷ x) = refl

        begun : (n : ℕ) (a : List Lexeme) → n < length a → is_end a ≡ false
        begun n [] less = absurd (omega (arith, less))
        begun n (l ∷ x) less = refl

  -- ---- programs

  whole_ok : (a : List Lexeme) (us : List Use) (c : List Lexeme) → Several (IsUse src) a us c →
      (fs : List Function) (d : List Lexeme) → Several (IsFunction src Statement) c fs d
      → (p : Program) → program_by src us fs d ≡ Ok p → IsProgramOf src Statement a p
  whole_ok a us c uses [] d functions p e = absurd cc
  whole_ok a us c uses (f ∷ fs) [] functions p e =
      subst (IsProgramOf src Statement a) (ok_same (record { uses = us; functions = f ∷ fs }) p e)
      (program a c us f fs uses functions)
  whole_ok a us c uses (f ∷ fs) (l ∷ d) functions p e = absurd cc

  pub program_ok_of : (a : List Lexeme) (p : Program) → program_at src statement a ≡ Ok p →
      IsProgramOf src Statement a p
  unfolding program_at
  program_ok_of a p e =
      let us = bind_ok (items_at (next_use src) a) _ p e in
      let fs = bind_ok (items_at (next_function src statement) us.0.1) _ p us.2 in
      whole_ok a us.0.0 us.0.1 ((reads_uses src).takes a us.0.0 us.0.1 us.1) fs.0.0 fs.0.1
      (reads_functions.takes us.0.1 fs.0.0 fs.0.1 fs.1) p fs.2

  no_use : (a : List Lexeme) (f : Function) (fs : List Function) (b : List Lexeme) →
      Several (IsFunction src Statement) a (f ∷ fs) b → NoUse src a
  no_use a f fs b (several.more a' c b' f' fs' one others) = (function_first a f c one).1

  pub program_again_of : (a : List Lexeme) (p : Program) → IsProgramOf src Statement a p →
      program_at src statement a ≡ Ok p
  unfolding program_at
  program_again_of a p (program a' c us f fs uses functions) =
      ap (λ (r : Reading (List Use)). r >>= λ us. items_at
      (next_function src statement) us.1 >>= λ fs. program_by src us.0 fs.0 fs.1)
      ((reads_uses src).again a us c uses (no_use c f fs [] functions))
      ∙ ap (λ (r : Reading (List Function)). r >>= λ fs. program_by src us fs.0 fs.1)
      (reads_functions.again c (f ∷ fs) [] functions refl)

-- ---- with so many levels

pub program_ok : (src : List ℕ) (levels : ℕ) (a : List Lexeme) (p : Program) →
    program_at src (statement_at src levels) a ≡ Ok p → IsProgram src levels a p
program_ok src levels = program_ok_of src (IsStatement src levels) (statement_at src levels)
    (reads_statements src levels)

pub program_again : (src : List ℕ) (levels : ℕ) (a : List Lexeme) (p : Program) →
    IsProgram src levels a p → program_at src (statement_at src levels) a ≡ Ok p
program_again src levels = program_again_of src (IsStatement src levels) (statement_at src levels)
    (reads_statements src levels)
