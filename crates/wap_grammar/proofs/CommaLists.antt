-- Lists with commas, declarations, conditions and the like are read as they are spelled.
use Rattle.std.proofs.Common.{◌≡◌, ℕ, ◌<◌, true, false, List, ◌∷◌, Option, Some, None}
use Rattle.std.proofs.Common.{refl, inl, inr, arith}
use Rattle.wap_value.specs.declared.operator.BinOp.TheVariants as op
use Rattle.wap_grammar.specs.declared.program.program.Id.{Id}
use Rattle.wap_grammar.specs.declared.program.expression.Expr.{Expr}
use Rattle.wap_grammar.specs.declared.program.statement.Stmt.{Stmt}
use Rattle.wap_grammar.specs.declared.program.statement.Stmt.TheVariants as stmt
use Rattle.wap_grammar.specs.declared.lexeme.Lexeme.{Lexeme}
use Rattle.wap_grammar.specs.declared.precedence.TheConstants.{ASSIGNMENT, COMMA}
use Rattle.wap_grammar.specs.declared.word.Word.{Word}
use Rattle.wap_grammar.specs.declared.word.Word.TheVariants as word
use Rattle.wap_grammar.specs.declared.word.Sign.{Sign}
use Rattle.wap_grammar.specs.declared.word.Sign.TheVariants as signs
use Rattle.wap_grammar.specs.Lexemes.{word_of, is_same_sign, is_sign, is_comma, is_equals}
use Rattle.wap_grammar.specs.Values.{id_of}
use Rattle.wap_grammar.specs.Spellings.{Spelling, sign, Several}
use Rattle.wap_grammar.specs.Spellings.{IsAfterComma, item, AreListed, listed}
use Rattle.wap_grammar.specs.Expressions.{Expressions}
use Rattle.wap_grammar.specs.Programs.{IsParameter, parameter}
use Rattle.wap_grammar.specs.Statements.{IsDeclaration, plain, valued, IsOptional, none}
use Rattle.wap_grammar.specs.Statements.{some, done_first, IsInitial, expression, variables}
use Rattle.wap_grammar.specs.Statements.{IsCondition, condition}
use Rattle.wap_grammar.specs.reading.TokenReading.{Reading}
use Rattle.wap_grammar.specs.reading.Expressions.{Reader}
use Rattle.wap_grammar.specs.reading.Statements as reading
use Rattle.wap_grammar.specs.reading.Statements.{next_listed, listed_at, declaration_after}
use Rattle.wap_grammar.specs.reading.Statements.{declaration_at, variables_at, optional_at}
use Rattle.wap_grammar.specs.reading.Statements.{initial_at, condition_at}
use Rattle.wap_grammar.proofs.Firsts.{Ends, looseness, looseness_of, no_comma, no_start}
use Rattle.wap_grammar.proofs.Items.{Reads, ReadsItems, reads_items, first_inside, Implies}
use Rattle.wap_grammar.proofs.Operands.{AllRead, AllStart}
use Rattle.wap_grammar.proofs.Productions.{Tests, is_a, a_comma, mapped, mapped_items}
use Rattle.wap_grammar.proofs.Productions.{Given, given, Made, made, Turn, turn, Behind, behind}
use Rattle.wap_grammar.proofs.Productions.{Before, before, Either, reads_given, reads_made}
use Rattle.wap_grammar.proofs.Productions.{reads_turn, reads_then, reads_either, reads_behind}
use Rattle.wap_grammar.proofs.Productions.{reads_before, reads_name, reads_next, bars_given}
pub use Rattle.wap_grammar.proofs.Productions.{Anything, closing_ok, closing_again}

-- ---- lists with commas

module _ {A : Type 0} {Is : Spelling A} {read : List Lexeme →
    Reading A} (reads : Reads Is (Ends ASSIGNMENT) read) where
  reads_more : ReadsItems (IsAfterComma Is) (Ends ASSIGNMENT) (Ends COMMA) (next_listed read)
  unfolding next_listed
  reads_more = mapped_items (reads_next is_comma a_comma reads (λ span a. omega arith)
      (λ b over. omega (arith, over)) (λ b over. no_comma (word_of b) over)) from to where
        from : Implies (Behind (word.Operator op.Comma) Is) (IsAfterComma Is)
        from a x b (behind s c b' x' is) = item s c b x is

        to : Implies (IsAfterComma Is) (Behind (word.Operator op.Comma) Is)
        to a x b (item s c b' x' is) = behind s c b x is

  pub reads_listed : Reads (AreListed Is) (Ends COMMA) (listed_at read)
  unfolding listed_at
  reads_listed = mapped (reads_turn reads (λ x. reads_made (λ others. x ∷ others)
      (reads_items reads_more)) fits) from to where
        Rest : A → Spelling (List A)
        Rest x = Made (λ others. x ∷ others) (Several (IsAfterComma Is))

        fits : (x : A) (a : List Lexeme) (xs : List A) (b : List Lexeme) → Rest x a xs b →
            Ends COMMA b → Ends ASSIGNMENT a
        fits x a xs b (made a' b' ys rest) over = first_inside reads_more a ys b rest over

        begun : (a c b : List Lexeme) (x : A) → Is a x c → (xs : List A) → Rest x c xs b →
            AreListed Is a xs b
        begun a c b x one xs (made c' b' ys rest) = listed a c b x ys one rest

        from : Implies (Turn Is Rest) (AreListed Is)
        from a xs b (turn a' c b' x xs' one rest) = begun a c b x one xs rest

        to : Implies (AreListed Is) (Turn Is Rest)
        to a xs b (listed a' c b' x ys one rest) = turn a c b x (x ∷ ys) one (made c b ys rest)

-- ---- `=`

equals_is : (w : Word) → is_equals w ≡ true → w ≡ word.Assign None
equals_is (word.Assign None) e = refl
equals_is (word.Assign (Some o)) e = absurd cc
equals_is (word.Sign s) e = absurd cc
equals_is w e = absurd cc

equals : Tests is_equals (word.Assign None)
equals = record { holds = refl; none = refl; only = equals_is }

no_equals : (w : Word) → 12 < looseness w → is_equals w ≡ false
no_equals (word.Assign o) loose = absurd (omega (arith, loose))
no_equals (word.Sign s) loose = refl
no_equals w loose = refl

module _ (src : List ℕ) (Inner : Expressions) (inner : Reader) (deep : AllRead Inner inner)
    (begin : AllStart Inner) where
  -- ---- declarations

  reads_declaration : Reads (IsDeclaration src Inner) (Ends ASSIGNMENT) (declaration_at src inner)
  unfolding declaration_at declaration_after
  reads_declaration = mapped (reads_then (reads_name src) (λ id. reads_either is_equals equals
      (reads_made (reading.valued id) (deep ASSIGNMENT)) (reads_given (id, None))
      (bars_given (λ b over. no_equals (word_of b) over)))) from to where
        Value : Id → Spelling (Id × Option Expr)
        Value id = Either (Behind (word.Assign None) (Made (reading.valued id) (Inner ASSIGNMENT)))
            (Given (id, None))

        from : Implies (Turn (IsParameter src) Value) (IsDeclaration src Inner)
        from a d b (turn a' c b' v d' (parameter s x) (inl (behind e y b2 d2 (made y' b3 w one)))) =
            valued s e y b w one
        from a d b (turn a' c b' v d' (parameter s x) (inr (given x'))) = plain s x

        to : Implies (IsDeclaration src Inner) (Turn (IsParameter src) Value)
        to a d b (plain v x) = turn a x b (id_of src v) d (parameter v x) (inr (given x))
        to a d b (valued v s x b' e one) = turn a _ b (id_of src v) d (parameter v _)
            (inl (behind s x b d (made x b e one)))

  pub reads_declarations : Reads (AreListed (IsDeclaration src Inner)) (Ends COMMA) (listed_at
      (declaration_at src inner))
  reads_declarations = reads_listed reads_declaration

  -- what `var` declares, and the `;`
  abbrev pub Declared : Spelling Stmt
  Declared = Made stmt.Vars (Before signs.Semicolon (AreListed (IsDeclaration src Inner)))

  pub reads_variables : Reads Declared Anything (variables_at src inner)
  unfolding variables_at
  reads_variables = reads_made stmt.Vars (reads_before src signs.Semicolon refl reads_declarations
      (λ span b. omega arith))

  -- ---- expressions that may be absent

  module _ (s : Sign) (same : is_same_sign s s ≡ true) (loose : 13 < looseness_of s)
      (no_open : is_same_sign signs.Open s ≡ false) where
    pub reads_optional : Reads (IsOptional Inner s) Anything (optional_at src inner s)
    unfolding optional_at
    reads_optional = mapped (reads_either (is_sign s) (is_a s same) (reads_given None)
        (reads_made Some (reads_before src s same (deep COMMA) (λ span b. loose)))
        (record { bars = λ a e b is over. no_sign a e b is })) from to where
          There : Spelling (Option Expr)
          There = Made Some (Before s (Inner COMMA))

          no_sign : (a : List Lexeme) (e : Option Expr) (b : List Lexeme) → There a e b →
              is_sign s (word_of a) ≡ false
          no_sign a e b (made a' b' f (before span a2 b2 f' one)) =
              no_start s a no_open (begin COMMA a f _ one)

          from : Implies (Either (Behind (word.Sign s) (Given None)) There) (IsOptional Inner s)
          from a e b (inl (behind span c b' e' (given c'))) = none span c
          from a e b (inr (made a' b' f (before span a2 b2 f' one))) = some span a b f one

          to : Implies (IsOptional Inner s) (Either (Behind (word.Sign s) (Given None)) There)
          to a e b (none span c) = inl (behind span c b e (given c))
          to a e b (some span a' b' f one) = inr (made a b f (before span a b f one))

  abbrev until_semicolon : Reads (IsOptional Inner signs.Semicolon) Anything
      (optional_at src inner signs.Semicolon)
  until_semicolon = reads_optional signs.Semicolon refl (omega arith) refl

  -- ---- what is done first in `for`

  no_var : (a : List Lexeme) (e : Option Expr) (b : List Lexeme) →
      IsOptional Inner signs.Semicolon a e b → is_sign signs.Var (word_of a) ≡ false
  no_var a e b (none span x) = refl
  no_var a e b (some span a' b' f one) = no_start signs.Var a refl (begin COMMA a f
      (sign signs.Semicolon span ∷ b) one)

  pub reads_initial : Reads (IsInitial src Inner) Anything (initial_at src inner)
  unfolding initial_at
  reads_initial = mapped (reads_either (is_sign signs.Var) (is_a signs.Var refl) reads_variables
      (reads_made done_first until_semicolon) (record {
        bars = λ a s b is over. plain_first a s b is;
      })) from to where
        Plain : Spelling Stmt
        Plain = Made done_first (IsOptional Inner signs.Semicolon)

        plain_first : (a : List Lexeme) (s : Stmt) (b : List Lexeme) → Plain a s b →
            is_sign signs.Var (word_of a) ≡ false
        plain_first a s b (made a' b' e one) = no_var a e b one

        from : Implies (Either (Behind (word.Sign signs.Var) Declared) Plain) (IsInitial src Inner)
        from a s b (inl (behind var c b' s' (made c' b2 ds (before end c2 b3 ds' are)))) =
            variables var end c b ds are
        from a s b (inr (made a' b' e one)) = expression a b e one

        to : Implies (IsInitial src Inner) (Either (Behind (word.Sign signs.Var) Declared) Plain)
        to a s b (expression a' b' e one) = inr (made a b e one)
        to a s b (variables var end x b' ds are) =
            inl (behind var x b s (made x b ds (before end x b ds are)))

  -- ---- conditions

  pub reads_condition : Reads (IsCondition Inner) Anything (condition_at src inner)
  unfolding condition_at
  reads_condition = mapped (reads_behind src signs.Open refl (reads_before src signs.Close refl
      (deep COMMA) (λ span b. omega arith))) from to where
        Inside : Spelling Expr
        Inside = Behind (word.Sign signs.Open) (Before signs.Close (Inner COMMA))

        from : Implies Inside (IsCondition Inner)
        from a c b (behind left x b' c' (before right x' b2 c2 one)) = condition left right x b c
            one

        to : Implies (IsCondition Inner) Inside
        to a c b (condition left right x b' c' one) =
            behind left x b c (before right x b c one)
