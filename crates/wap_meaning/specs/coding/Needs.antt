-- What the parts of a source need of the unit that they are compiled to, in the order in which
-- their tokens stand: constants, functions, units and libraries. This project's own.
use Rattle.std.specs.Prelude.{◌≡◌, ℕ, ◌<◌, List, [], ◌∷◌, ◌++◌, length, Option, Some, None}
use Rattle.std.specs.Prelude.{slice_get}
use Rattle.std.specs.List.{AllByRecursion, flat_map}
use Rattle.std.specs.Option.{option_map}
use Rattle.wap_value.specs.declared.operator.BinOp.{BinOp}
use Rattle.wap_value.specs.Binary.{TakesBoth}
use Rattle.wap_unit.specs.declared.unit.Unit.{Unit as CodeUnit}
use Rattle.wap_unit.specs.declared.unit.Code.{Code}
use Rattle.wap_unit.specs.Libraries.{lib_args}
use Rattle.wap_unit.specs.Strings.{string_at}
use Rattle.wap_grammar.specs.declared.program.program.Id.{Id}
use Rattle.wap_grammar.specs.declared.program.expression.Literal.{Literal}
use Rattle.wap_grammar.specs.declared.program.expression.Literal.TheVariants as literal
use Rattle.wap_grammar.specs.declared.program.expression.Expr.{Expr}
use Rattle.wap_grammar.specs.declared.program.expression.Expr.TheOpen.{Expr-F}
use Rattle.wap_grammar.specs.declared.program.expression.Expr.TheFolds.{fold-Expr}
use Rattle.wap_grammar.specs.declared.program.statement.Stmt.{Stmt}
use Rattle.wap_grammar.specs.declared.program.statement.Stmt.TheOpen.{Stmt-F}
use Rattle.wap_grammar.specs.declared.program.statement.Stmt.TheFolds.{fold-Stmt}
use Rattle.wap_execution.specs.Frames.{constant_at}
use Rattle.wap_meaning.specs.Names.{Names, variable_at, function_at, url_of, numbers_of}
use Rattle.wap_meaning.specs.Expressions.{value_of}
use Rattle.wap_meaning.specs.coding.Constants.{Numbers, number_of, text_number, url_number}

-- what a part needs
pub data Need : Type 0 where
  -- a constant
  Constant : Literal → Need
  -- the operator of an assignment, which takes both values
  Operator : BinOp → Need
  -- a variable
  Variable : Id → Need
  -- a function of the unit, with so many parameters
  Local : Id → ℕ → Need
  -- a function of another unit
  Other : Id → Id → Need
  -- a function of a library, with so many arguments
  Library : Id → Id → ℕ → Need

-- the constant of a literal that has one
abbrev pub literal_needs : Literal → List Need
literal_needs (literal.Int number) = Constant (literal.Int number) ∷ []
literal_needs (literal.Str []) = []
literal_needs (literal.Str (c ∷ cs)) = Constant (literal.Str (c ∷ cs)) ∷ []
literal_needs _ = []

-- the operator of an assignment
abbrev pub assign_needs : Option BinOp → List Need
assign_needs None = []
assign_needs (Some op) = Operator op ∷ []

-- what an expression needs, by what its parts need
abbrev pub expr_needs_by : Expr-F (List Need) → List Need
expr_needs_by (Expr-F.Lit l) = literal_needs l
expr_needs_by (Expr-F.Var v) = Variable v ∷ []
expr_needs_by (Expr-F.Assign v op e) = Variable v ∷ (assign_needs op ++ e)
expr_needs_by (Expr-F.Step v up prefix) = Variable v ∷ []
expr_needs_by (Expr-F.Unary op e) = e
expr_needs_by (Expr-F.Chain e pairs) = e ++ flat_map (λ pair. pair.1) pairs
expr_needs_by (Expr-F.Cond c first second) = c ++ (first ++ second)
expr_needs_by (Expr-F.Call f es) = Local f (length es) ∷ flat_map (λ e. e) es
expr_needs_by (Expr-F.External unit f es) = Other unit f ∷ flat_map (λ e. e) es
expr_needs_by (Expr-F.Library l f es) = Library l f (length es) ∷ flat_map (λ e. e) es

-- what an expression needs
unfoldable pub expr_needs : Expr → List Need
expr_needs = fold-Expr (List Need) expr_needs_by

-- the same of an expression that may be missing
abbrev pub optional_needs : Option Expr → List Need
optional_needs None = []
optional_needs (Some e) = expr_needs e

-- what a declaration needs
abbrev pub declared_needs : Id × Option Expr → List Need
declared_needs pair = Variable pair.0 ∷ optional_needs pair.1

-- what a statement that may be missing needs
abbrev pub otherwise_needs : Option (List Need) → List Need
otherwise_needs None = []
otherwise_needs (Some needs) = needs

-- what a statement needs, by what its parts need
abbrev pub stmt_needs_by : Stmt-F (List Need) → List Need
stmt_needs_by (Stmt-F.Expr e) = expr_needs e
stmt_needs_by (Stmt-F.Block ss) = flat_map (λ s. s) ss
stmt_needs_by (Stmt-F.Vars pairs) = flat_map declared_needs pairs
stmt_needs_by (Stmt-F.If c s other) = expr_needs c ++ (s ++ otherwise_needs other)
stmt_needs_by (Stmt-F.While c s) = expr_needs c ++ s
stmt_needs_by (Stmt-F.For first c update s) =
    first ++ (optional_needs c ++ (optional_needs update ++ s))
stmt_needs_by (Stmt-F.Return e) = optional_needs e
stmt_needs_by _ = []

-- what a statement needs
unfoldable pub stmt_needs : Stmt → List Need
stmt_needs = fold-Stmt (List Need) stmt_needs_by

-- the constants of a need
abbrev pub literals_of : Names → Need → List Literal
literals_of names (Constant l) = l ∷ []
literals_of names (Other u f) =
    literal.Str (url_of u.name names.urls) ∷ literal.Str f.name ∷ []
literals_of names _ = []

-- ---- a unit that has it

-- a need is met by a unit: the constant has the literal's value, the variable is there, what is
-- called takes so many arguments, and the URL and the name are texts
abbrev pub IsMet : CodeUnit → Numbers → Need → Type 0
IsMet unit numbers (Constant l) = constant_at unit (number_of numbers l) ≡ Some (value_of l)
IsMet unit numbers (Operator op) = TakesBoth op
IsMet unit numbers (Variable v) = variable_at numbers.names v < length numbers.names.variables
IsMet unit numbers (Local f count) =
    option_map (λ (code : Code). code.args)
    (slice_get unit.functions (function_at numbers.names f)) ≡ Some count
IsMet unit numbers (Other u f) =
    (string_at unit (url_number numbers u) ≡ Some (url_of u.name numbers.names.urls))
    × (string_at unit (text_number numbers f.name) ≡ Some f.name)
IsMet unit numbers (Library l f count) =
    lib_args (numbers_of l f).0 (numbers_of l f).1 ≡ Some count

-- all of them are
abbrev pub AreMet : CodeUnit → Numbers → List Need → Type 0
AreMet unit numbers = AllByRecursion (IsMet unit numbers)
