-- What a program says by names, in the order of the source (WAP-193, sections 6.1.8, 6.2, 6.4 and
-- 6.7). Names of variables, of functions and of units are told apart by where they stand.
use Rattle.std.specs.Prelude.{ℕ, Bool, true, false, List, [], ◌∷◌, ◌++◌}
use Rattle.std.specs.Prelude.{length, map, Option, Some, None}
use Rattle.std.specs.List.{filter_map, flat_map, find}
use Rattle.wap_base.specs.Texts.{is_same_text}
use Rattle.wap_grammar.specs.declared.program.program.Span.{Span}
use Rattle.wap_grammar.specs.declared.program.program.Id.{Id}
use Rattle.wap_grammar.specs.declared.program.program.Use.{Use}
use Rattle.wap_grammar.specs.declared.program.program.Use.TheVariants.{Url, Access}
use Rattle.wap_grammar.specs.declared.program.program.Function.{Function}
use Rattle.wap_grammar.specs.declared.program.expression.Expr.{Expr}
use Rattle.wap_grammar.specs.declared.program.expression.Expr.TheOpen.{Expr-F}
use Rattle.wap_grammar.specs.declared.program.expression.Expr.TheFolds.{fold-Expr}
use Rattle.wap_grammar.specs.declared.program.statement.Stmt.{Stmt}
use Rattle.wap_grammar.specs.declared.program.statement.Stmt.TheOpen.{Stmt-F}
use Rattle.wap_grammar.specs.declared.program.statement.Stmt.TheFolds.{fold-Stmt}

-- ---- expressions

-- what an expression names: a variable, or what it calls and with how many arguments, a function of
-- this unit, of another unit or of a library
pub data Reference : Type 0 where
  Variable : (v : Id) → Reference
  Local : (f : Id) (count : ℕ) → Reference
  External : (unit f : Id) (count : ℕ) → Reference
  Library : (library f : Id) (count : ℕ) → Reference

-- the references of an expression, by those of its parts
abbrev pub references_by : Expr-F (List Reference) → List Reference
references_by (Expr-F.Lit l) = []
references_by (Expr-F.Var v) = Variable v ∷ []
references_by (Expr-F.Assign v o e) = Variable v ∷ e
references_by (Expr-F.Step v up prefix) = Variable v ∷ []
references_by (Expr-F.Unary o e) = e
references_by (Expr-F.Chain e pairs) = e ++ flat_map (λ pair. pair.1) pairs
references_by (Expr-F.Cond c first second) = c ++ (first ++ second)
references_by (Expr-F.Call f es) = Local f (length es) ∷ flat_map (λ e. e) es
references_by (Expr-F.External unit f es) = External unit f (length es) ∷ flat_map (λ e. e) es
references_by (Expr-F.Library library f es) = Library library f (length es) ∷ flat_map (λ e. e) es

-- what an expression names, from left to right
unfoldable pub references : Expr → List Reference
references = fold-Expr (List Reference) references_by

-- ---- statements

-- what a statement says: the declaration of a variable, what an expression names, or the word of a
-- `break` or `continue`, and whether it stands in a loop
pub data Mention : Type 0 where
  Declares : (v : Id) → Mention
  Refers : (reference : Reference) → Mention
  Jumps : (word : Span) (inside : Bool) → Mention

-- what an expression names, as mentions
abbrev pub refers : Expr → List Mention
refers e = map Refers (references e)

-- the same of an expression that may be missing
abbrev pub refers_if : Option Expr → List Mention
refers_if None = []
refers_if (Some e) = refers e

-- a variable is known from right after its name, so in what it begins with
abbrev pub declares : Id × Option Expr → List Mention
declares pair = Declares pair.0 ∷ refers_if pair.1

-- the mentions of a statement that may be missing
abbrev pub says_if : Bool → Option (Bool → List Mention) → List Mention
says_if inside None = []
says_if inside (Some s) = s inside

-- the mentions of a statement that stands in a loop or not, by those of its parts
abbrev pub mentions_by : Stmt-F (Bool → List Mention) → Bool → List Mention
mentions_by Stmt-F.Empty inside = []
mentions_by (Stmt-F.Expr e) inside = refers e
mentions_by (Stmt-F.Block ss) inside = flat_map (λ s. s inside) ss
mentions_by (Stmt-F.Vars pairs) inside = flat_map declares pairs
mentions_by (Stmt-F.If c s other) inside = refers c ++ (s inside ++ says_if inside other)
mentions_by (Stmt-F.While c s) inside = refers c ++ s true
mentions_by (Stmt-F.For first c update s) inside =
    first inside ++ (refers_if c ++ (refers_if update ++ s true))
mentions_by (Stmt-F.Break word) inside = Jumps word inside ∷ []
mentions_by (Stmt-F.Continue word) inside = Jumps word inside ∷ []
mentions_by (Stmt-F.Return e) inside = refers_if e

-- the mentions of a statement that stands in a loop or not, from left to right
unfoldable pub mentions : Stmt → Bool → List Mention
mentions = fold-Stmt (Bool → List Mention) mentions_by

-- ---- functions

-- what a function says: its parameters, and then its body
abbrev pub said : Function → List Mention
said f = map Declares f.params ++ flat_map (λ s. mentions s false) f.body

-- the variable that is declared
abbrev pub declared : Mention → Option (List ℕ)
declared (Declares v) = Some v.name
declared _ = None

-- the names of the variables and parameters that are declared
abbrev pub names_declared : List Mention → List (List ℕ)
names_declared = filter_map declared

-- the first function of a name
abbrev pub function_named : List ℕ → List Function → Option Function
function_named name = find (λ f. is_same_text name f.name.name)

-- ---- pragmas

-- the name of a unit that a pragma makes known
abbrev pub unit_of : Use → Option (List ℕ)
unit_of (Url u t) = Some u.name
unit_of _ = None

-- the names of units
abbrev pub units : List Use → List (List ℕ)
units = filter_map unit_of

-- the place of a pragma that says who may call the unit
abbrev pub access_of : Use → Option Span
access_of (Access domain path span) = Some span
access_of _ = None

-- where who may call the unit is said
abbrev pub accesses : List Use → List Span
accesses = filter_map access_of
