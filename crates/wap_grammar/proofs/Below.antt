-- What comes of the levels that a program is read with: with more of them it is the same, unless a
-- part stood too deep; and the place named is that of the first such part. Reading never runs out
-- of memory.
use Rattle.std.proofs.Common.{◌≡◌, ℕ, zero, suc, ◌+◌, ◌-◌, ◌≤◌, nat_lt, List, []}
use Rattle.std.proofs.Common.{◌∷◌, length, Result, Ok, Err, refl, sym, ap, subst, ◌∙◌}
use Rattle.std.proofs.Common.{inl, inr, ◌⊎◌, length-append, arith}
use Rattle.std.proofs.lemmas.Bool.{lt-ltb, ltb-true, le-ltb}
use Rattle.wap_base.specs.Outcome.{◌>>=◌}
use Rattle.wap_base.proofs.Choices.{chosen, bind_err}
use Rattle.wap_grammar.specs.declared.program.program.Program.{Program}
use Rattle.wap_grammar.specs.declared.program.program.Use.{Use}
use Rattle.wap_grammar.specs.declared.program.program.Function.{Function}
use Rattle.wap_grammar.specs.declared.program.statement.Stmt.{Stmt}
use Rattle.wap_grammar.specs.declared.fault.ParseFault.{ParseFault}
use Rattle.wap_grammar.specs.declared.fault.ParseFault.TheVariants as fault
use Rattle.wap_grammar.specs.declared.lexeme.Lexeme.{Lexeme}
use Rattle.wap_grammar.specs.Refusal.{place_of, IsPast}
use Rattle.wap_grammar.specs.Spellings.{Spelling}
use Rattle.wap_grammar.specs.Expressions.{Expressions, IsExpression}
use Rattle.wap_grammar.specs.Statements.{IsStatement}
use Rattle.wap_grammar.specs.Programs.{IsProgram, Spells}
use Rattle.wap_grammar.specs.Depth.{IsLate, IsExpressionOver, IsStatementOver}
use Rattle.wap_grammar.specs.Depth.{IsProgramLate, IsFirstBelow}
use Rattle.wap_grammar.specs.reading.TokenReading.{Reading, nested}
use Rattle.wap_grammar.specs.reading.Expressions.{expression_at}
use Rattle.wap_grammar.specs.reading.Statements.{statement_at}
use Rattle.wap_grammar.specs.reading.Programs.{program_by, program_at}
use Rattle.wap_grammar.proofs.Firsts.{Ends}
use Rattle.wap_grammar.proofs.Items.{Reads, Again, Takes}
use Rattle.wap_grammar.proofs.Operands.{AllRead, AllStart}
use Rattle.wap_grammar.proofs.Levels.{reads_part, part_starts, reads_expression, expression_starts}
use Rattle.wap_grammar.proofs.CommaLists.{Anything}
use Rattle.wap_grammar.proofs.Statements.{ReadsStatements, reads_of, reads_statements}
use Rattle.wap_grammar.proofs.Whole.{program_ok_of, program_again_of, program_ok, program_again}
use Rattle.wap_grammar.proofs.Guards.{Guard, nowhere, late, anywhere, Goes, Forks, past_of}
use Rattle.wap_grammar.proofs.Depths.{expression_over, statement_over, guarded, deep_expression}
use Rattle.wap_grammar.proofs.Depths.{guarded_statement, splits_statement, none_below, all_below}
use Rattle.wap_grammar.proofs.Refusals.{Made, parts_at, ended, splits_parts, program_parts}

-- ---- what begins late is read as it is spelled

module _ (src : List ℕ) (most : ℕ) {A : Type 0} (Is : Spelling A) (ends : List Lexeme → Type 0)
    (read : List Lexeme → Reading A) (reads : Reads Is ends read) where
  abbrev late_read : List Lexeme → Reading A
  late_read = guarded src (late most) read

  late_ok : Takes (IsLate most Is) late_read
  late_ok a x b e = elim (chosen (nat_lt (length a) most) (read a) (nested src a) (Ok (x, b)) e) [
    | inl so ↦ (ltb-true (length a) most so.0, reads.takes a x b so.1)
    | inr other ↦ absurd (refused other.1)
  ] where
    refused : nested {A = A × List Lexeme} src a ≡ Ok (x, b) → ⊥
    refused e = absurd cc

  late_again : Again (IsLate most Is) ends late_read
  late_again a x b is over = rw (lt-ltb (length a) most is.0) (reads.again a x b is.1 over)

  pub reads_late : Reads (IsLate most Is) ends late_read
  reads_late = record {
    takes = late_ok;
    again = late_again;
    within = λ a x b is. reads.within a x b is.1;
  }

module _ (src : List ℕ) (more most : ℕ) where
  abbrev Deep : Expressions
  Deep level = IsLate most (IsExpression src more level)

  abbrev Below : Spelling Stmt
  Below = IsLate most (IsStatement src more)

  deep_read : AllRead Deep (deep_expression src more (late most))
  deep_read level = reads_late src most (IsExpression src more level) (Ends level)
      (expression_at src more level) (reads_expression src more level)

  deep_start : AllStart Deep
  deep_start level a e b is = expression_starts src more level a e b is.1

  below_read : ReadsStatements Below (guarded src (late most) (statement_at src more))
  below_read =
      let all = reads_statements src more in
      record {
        reads = reads_late src most (IsStatement src more) Anything (statement_at src more)
            all.reads;
        shorter = λ a s b is. all.shorter a s b is.1;
        inside = λ a s b is. all.inside a s b is.1;
      }

  mutual
    unfolding IsExpressionOver expression_over

    over_read : (levels : ℕ) → AllRead (IsExpressionOver src Deep levels)
        (expression_over src (deep_expression src more (late most)) levels)
    over_read zero level = deep_read level
    over_read (suc levels) level =
        reads_part src (IsExpressionOver src Deep levels)
        (expression_over src (deep_expression src more (late most)) levels) (over_read levels)
        (over_start levels) level

    over_start : (levels : ℕ) → AllStart (IsExpressionOver src Deep levels)
    over_start zero level a e b is = deep_start level a e b is
    over_start (suc levels) level a e b is =
        part_starts src (IsExpressionOver src Deep levels)
        (expression_over src (deep_expression src more (late most)) levels) (over_read levels)
        (over_start levels) level a e b is

  over_statements : (levels : ℕ) → ReadsStatements (IsStatementOver src Deep Below levels)
      (guarded_statement src more (late most) levels)
  unfolding IsStatementOver statement_over
  over_statements zero = below_read
  over_statements (suc levels) =
      reads_of src (IsExpressionOver src Deep levels)
      (expression_over src (deep_expression src more (late most)) levels) (over_read levels)
      (over_start levels) (IsStatementOver src Deep Below levels)
      (guarded_statement src more (late most) levels) (over_statements levels)

  late_program_ok : (limit : ℕ) (a : List Lexeme) (p : Program) →
      program_at src (guarded_statement src more (late most) limit) a ≡ Ok p →
      IsProgramLate src limit more most a p
  late_program_ok limit = program_ok_of src (IsStatementOver src Deep Below limit)
      (guarded_statement src more (late most) limit) (over_statements limit)

  late_program_again : (limit : ℕ) (a : List Lexeme) (p : Program) →
      IsProgramLate src limit more most a p →
      program_at src (guarded_statement src more (late most) limit) a ≡ Ok p
  late_program_again limit = program_again_of src (IsStatementOver src Deep Below limit)
      (guarded_statement src more (late most) limit) (over_statements limit)

-- ---- programs

ok_nested : (p : Program) (at : ℕ) → ◌≡◌ {A = Result Program ParseFault} (Ok p) (Err
    (fault.Nested at)) → ⊥
ok_nested p at e = absurd cc

place_same : (B : Type 0) (p q : ℕ) → ◌≡◌ {A = Result B ParseFault} (Err (fault.Nested p)) (Err
    (fault.Nested q)) → p ≡ q
place_same B p q e = cc

shallow : (src : List ℕ) (us : List Use) (fs : List Function) (c : List Lexeme) (at : ℕ) →
    program_by src us fs c ≡ Err (fault.Nested at) → ⊥
shallow src us [] c at e = absurd cc
shallow src us (f ∷ fs) [] at e = absurd cc
shallow src us (f ∷ fs) (l ∷ c) at e = absurd cc

unmade : (src : List ℕ) (us : List Use) (fs : List Function) (c : List Lexeme) →
    program_by src us fs c ≡ Err fault.NoMemory → ⊥
unmade src us [] c e = absurd cc
unmade src us (f ∷ fs) [] e = absurd cc
unmade src us (f ∷ fs) (l ∷ c) e = absurd cc

nested_memory : (B : Type 0) (at : ℕ) → ◌≡◌ {A = Result B ParseFault} (Err (fault.Nested at)) (Err
    fault.NoMemory) → ⊥
nested_memory B at e = absurd cc

module _ (src : List ℕ) (whole : List Lexeme) (limit more : ℕ) where
  abbrev parts : Guard → Reading Made
  parts g = parts_at src whole (guarded_statement src more g limit)

  -- what is read with so many levels, and with more
  abbrev few : Result Program ParseFault
  few = program_at src (statement_at src limit) whole

  abbrev many : Result Program ParseFault
  many = program_at src (statement_at src (limit + more)) whole

  forked : Forks src whole limit (length whole) parts
  forked = splits_parts src whole limit (λ g. guarded_statement src more g limit)
      (splits_statement src whole limit more limit (length whole) (omega arith))

  by_parts : (g : Guard) → program_at src (guarded_statement src more g limit) whole
      ≡ (parts g >>= ended src)
  by_parts g = program_parts src whole (guarded_statement src more g limit)

  by_few : few ≡ (parts nowhere >>= ended src)
  by_few = ap (λ s. program_at src s whole) (sym (none_below src more limit)) ∙ by_parts nowhere

  by_many : many ≡ (parts anywhere >>= ended src)
  by_many = ap (λ s. program_at src s whole) (sym (all_below src more limit)) ∙ by_parts anywhere

  parts_nested : (at : ℕ) → few ≡ Err (fault.Nested at) → parts nowhere ≡ Err (fault.Nested at)
  parts_nested at e =
      elim (bind_err (parts nowhere) (ended src) (fault.Nested at) (sym by_few ∙ e)) [
        | inl so ↦ so
        | inr x ↦ absurd (shallow src x.0.0.0 x.0.0.1 x.0.1 at x.2)
      ]

  pub program_past : (at : ℕ) → few ≡ Err (fault.Nested at) → IsPast src limit whole at
  program_past at e = by_fork forked where
    by_fork : Forks src whole limit (length whole) parts → IsPast src limit whole at
    by_fork (inl same) = subst (λ (q : Reading Made). Goes src whole limit (length whole) q)
        (sym (same.0 nowhere) ∙ parts_nested at e) same.1
    by_fork (inr fork) = subst (IsPast src limit whole)
        (place_same (Made × List Lexeme) (place_of src fork.at) at
        (sym (fork.refused nowhere refl) ∙ parts_nested at e))
        (past_of src whole limit fork.at fork.is fork.many)

  pub program_unfailing : few ≡ Err fault.NoMemory → ⊥
  program_unfailing e = by_fork forked where
    stopped : parts nowhere ≡ Err fault.NoMemory
    stopped =
        elim (bind_err (parts nowhere) (ended src) fault.NoMemory (sym by_few ∙ e)) [
          | inl so ↦ so
          | inr x ↦ absurd (unmade src x.0.0.0 x.0.0.1 x.0.1 x.2)
        ]

    by_fork : Forks src whole limit (length whole) parts → ⊥
    by_fork (inl same) = subst (λ (q : Reading Made). Goes src whole limit (length whole) q)
        (sym (same.0 nowhere) ∙ stopped) same.1
    by_fork (inr fork) = nested_memory (Made × List Lexeme) (place_of src fork.at)
        (sym (fork.refused nowhere refl) ∙ stopped)

  pub program_agrees : (few ≡ many)
      ⊎ ((at : ℕ) × (few ≡ Err (fault.Nested at)))
  program_agrees = by_fork forked where
    by_fork : Forks src whole limit (length whole) parts → (few ≡ many)
        ⊎ ((at : ℕ) × (few ≡ Err (fault.Nested at)))
    by_fork (inl same) = inl (by_few
        ∙ ap (λ (q : Reading Made). q >>= ended src) (same.0 nowhere) ∙ sym by_many)
    by_fork (inr fork) = inr (
      place_of src fork.at,
      by_few ∙ ap (λ (q : Reading Made). q >>= ended src) (fork.refused nowhere refl),
    )

  pub first_below : (at : ℕ) (p : Program) → few ≡ Err (fault.Nested at) →
      IsProgram src (limit + more) whole p → IsFirstBelow src limit whole p at
  first_below at p e spells = by_fork forked where
    all : many ≡ Ok p
    all = program_again src (limit + more) whole p spells

    by_fork : Forks src whole limit (length whole) parts →
        IsFirstBelow src limit whole p at
    by_fork (inl same) = absurd (ok_nested p at (sym all ∙ by_many
        ∙ sym (ap (λ (q : Reading Made). q >>= ended src) (same.0 nowhere))
        ∙ sym by_few ∙ e))
    by_fork (inr fork) =
        let n = length fork.at in
        let there : place_of src fork.at ≡ at =
        place_same (Made × List Lexeme) (place_of src fork.at) at
        (sym (fork.refused nowhere refl) ∙ parts_nested at e) in
        record {
          more = more;
          past = record {
            before = fork.is.before;
            rest = fork.at;
            whole = fork.is.is;
            many = omega (
              arith,
              fork.many,
              ap length fork.is.is,
              length-append fork.is.before fork.at,
            );
            place = sym there;
          };
          from = late_program_ok src more (suc n) limit whole p (by_parts (late (suc n))
              ∙ ap (λ (q : Reading Made). q >>= ended src) (fork.passed (late (suc n))
              (lt-ltb n (suc n) (omega arith))) ∙ sym by_many ∙ all);
          here = λ is. ok_nested p (place_of src fork.at)
              (sym (late_program_again src more n limit whole p is) ∙ by_parts (late n)
              ∙ ap (λ (q : Reading Made). q >>= ended src) (fork.refused (late n)
              (le-ltb n n (omega arith))));
        }

-- what is read with few levels is read with many
pub program_more : (src : List ℕ) (few many : ℕ) → few ≤ many → (a : List Lexeme) (p : Program) →
    program_at src (statement_at src few) a ≡ Ok p →
    program_at src (statement_at src many) a ≡ Ok p
program_more src few many within a p e =
    let whole : few + (many - few) ≡ many = omega (arith, within) in
    elim (program_agrees src a few (many - few)) [
      | inl alike ↦ subst (λ (n : ℕ). program_at src (statement_at src n) a ≡ Ok p) whole
          (sym alike ∙ e)
      | inr deep ↦ absurd (ok_nested p deep.0 (sym e ∙ deep.1))
    ]

-- where the grammar stops a reading no program is spelled
pub program_none : (src : List ℕ) (a : List Lexeme) (at limit : ℕ) →
    program_at src (statement_at src limit) a ≡ Err (fault.Syntax at) → (p : Program) →
    Spells src p a → ⊥
program_none src a at limit e p spells =
    let many = limit + spells.0 in
    let found = program_more src spells.0 many (omega arith) a p
    (program_again src spells.0 a p spells.1) in
    elim (program_agrees src a limit spells.0) [
      | inl alike ↦ unread (sym e ∙ alike ∙ found)
      | inr deep ↦ unlike deep.0 (sym e ∙ deep.1)
    ] where
      unread : ◌≡◌ {A = Result Program ParseFault} (Err (fault.Syntax at)) (Ok p) → ⊥
      unread e = absurd cc

      unlike : (place : ℕ) → ◌≡◌ {A = Result Program ParseFault} (Err (fault.Syntax at)) (Err
          (fault.Nested place)) → ⊥
      unlike place e = absurd cc

-- where some program is spelled, the place is that of its first part below the levels
pub first_spelled : (src : List ℕ) (a : List Lexeme) (limit at : ℕ) (p : Program) →
    program_at src (statement_at src limit) a ≡ Err (fault.Nested at) → Spells src p a →
    IsFirstBelow src limit a p at
first_spelled src a limit at p e spells =
    first_below src a limit spells.0 at p e
    (program_ok src (limit + spells.0) a p (program_more src spells.0 (limit + spells.0)
    (omega arith) a p (program_again src spells.0 a p spells.1)))
