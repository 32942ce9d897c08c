-- Where what a part of a program says stands, by what its parts say.
use Rattle.std.proofs.Common.{◌≡◌, ℕ, Bool, true, false, List, [], ◌∷◌, ◌++◌, Option, Some, None}
use Rattle.std.proofs.Common.{refl, ap, ◌∙◌}
use Rattle.std.proofs.lemmas.Grind.{flat_map-append}
use Rattle.std.proofs.lemmas.List.Folds.{flat_map-map}
use Rattle.std.specs.List.{flat_map}
use Rattle.wap_value.specs.declared.operator.BinOp.{BinOp}
use Rattle.wap_grammar.specs.declared.program.program.Span.{Span}
use Rattle.wap_grammar.specs.declared.program.program.Id.{Id}
use Rattle.wap_grammar.specs.declared.program.expression.Expr.{Expr}
use Rattle.wap_grammar.specs.declared.program.expression.Expr.TheVariants as expr
use Rattle.wap_grammar.specs.declared.program.statement.Stmt.{Stmt}
use Rattle.wap_grammar.specs.declared.program.statement.Stmt.TheVariants as stmt
use Rattle.wap_scope.specs.Names.{Reference, Mention, Refers, references, refers}
use Rattle.wap_scope.specs.Names.{refers_if, declares, mentions}
use Rattle.wap_scope.specs.Places.{reference_places, mention_places}
use Rattle.wap_grammar.specs.declared.callee.Callee.{Callee}
use Rattle.wap_grammar.specs.declared.callee.Callee.TheVariants as callee
use Rattle.wap_grammar.specs.Values.{called}
use Rattle.wap_grammar.specs.Expressions.{IsCallee}
use Rattle.wap_grammar.specs.Expressions as expressed
use Rattle.wap_scope.specs.Among.{no_more}
use Rattle.wap_scope.proofs.TreeNames.{of_literal, of_variable, of_assignment, of_step, of_unary}
use Rattle.wap_scope.proofs.TreeNames.{of_chain, of_choice, of_local, of_external, of_library}
use Rattle.wap_scope.proofs.TreeNames.{of_empty, of_value, of_block, of_variables, of_if, of_else}
use Rattle.wap_scope.proofs.TreeNames.{of_while, of_for, of_break, of_continue, of_return}
use Rattle.wap_scope.proofs.AmongLemmas.Rows.{over, at, in_a_row, Finds}
use Rattle.wap_scope.proofs.AmongLemmas.Sayings.{Sayings, if_there, declaring}
use Rattle.wap_grammar.specs.Statements.{IsStatement}
use Rattle.wap_scope.proofs.AmongLemmas.Statements.{finds_statement}
use Rattle.wap_scope.proofs.OrderLemmas.Spans.{BeginsAt}

-- ---- lists

-- a list of lists in a row, each of them mapped
pub flat_flat : {X Y Z : Type 0} (f : Y → List Z) (g : X → List Y) (xs : List X) →
    flat_map f (flat_map g xs) ≡ flat_map (λ x. flat_map f (g x)) xs
flat_flat f g [] = refl
flat_flat f g (x ∷ xs) =
    flat_map-append f (g x) (flat_map g xs)
    ∙ ap (λ rest. flat_map f (g x) ++ rest) (flat_flat f g xs)

-- ---- expressions

-- where the names of an expression stand
abbrev pub expr_places : Expr → List Span
expr_places e = flat_map reference_places (references e)

abbrev from_references : List Reference → List Span
from_references = flat_map reference_places

chain_places : (e : Expr) (pairs : List (BinOp × Expr)) → expr_places (expr.Chain e pairs)
    ≡ expr_places e ++ flat_map (λ (pair : BinOp × Expr). expr_places pair.1) pairs
chain_places e pairs =
    ap from_references (of_chain e pairs)
    ∙ flat_map-append reference_places (references e)
    (flat_map (λ (pair : BinOp × Expr). references pair.1) pairs)
    ∙ ap (λ (rest : List Span). expr_places e ++ rest)
    (flat_flat reference_places (λ (pair : BinOp × Expr). references pair.1) pairs)

choice_places : (c first second : Expr) → expr_places (expr.Cond c first second)
    ≡ expr_places c ++ (expr_places first ++ expr_places second)
choice_places c first second =
    ap from_references (of_choice c first second)
    ∙ flat_map-append reference_places (references c) (references first ++ references second)
    ∙ ap (λ (rest : List Span). expr_places c ++ rest)
    (flat_map-append reference_places (references first) (references second))

local_places : (f : Id) (es : List Expr) →
    expr_places (expr.Call f es) ≡ f.span ∷ flat_map expr_places es
local_places f es =
    ap from_references (of_local f es)
    ∙ ap (λ (rest : List Span). f.span ∷ rest) (flat_flat reference_places references es)

external_places : (unit f : Id) (es : List Expr) →
    expr_places (expr.External unit f es) ≡ unit.span ∷ f.span ∷ flat_map expr_places es
external_places unit f es =
    ap from_references (of_external unit f es)
    ∙ ap (λ (rest : List Span). unit.span ∷ f.span ∷ rest)
    (flat_flat reference_places references es)

library_places : (library f : Id) (es : List Expr) →
    expr_places (expr.Library library f es) ≡ library.span ∷ f.span ∷ flat_map expr_places es
library_places library f es =
    ap from_references (of_library library f es)
    ∙ ap (λ (rest : List Span). library.span ∷ f.span ∷ rest)
    (flat_flat reference_places references es)

-- ---- statements

-- where what is said stands
abbrev pub said_places : List Mention → List Span
said_places = flat_map mention_places

-- where what a statement says stands
abbrev pub stmt_places : Bool → Stmt → List Span
stmt_places inside s = said_places (mentions s inside)

-- where an identifier stands, and then what it begins with
abbrev id_places : Id → List Span
id_places v = v.span ∷ []

abbrev declaration_places : Id × Option Expr → List Span
declaration_places = declaring id_places expr_places

value_places : (e : Expr) → said_places (refers e) ≡ expr_places e
value_places e = flat_map-map mention_places Refers (references e)

value_if_places : (e : Option Expr) → said_places (refers_if e) ≡ if_there expr_places e
value_if_places None = refl
value_if_places (Some e) = value_places e

said_declared : (pairs : List (Id × Option Expr)) →
    flat_map (λ (pair : Id × Option Expr). said_places (declares pair)) pairs
    ≡ flat_map declaration_places pairs
said_declared [] = refl
said_declared (pair ∷ pairs) =
    ap (λ (first : List Span). (pair.0.span ∷ first)
    ++ flat_map (λ (pair : Id × Option Expr). said_places (declares pair)) pairs)
    (value_if_places pair.1)
    ∙ ap (λ (rest : List Span). declaration_places pair ++ rest) (said_declared pairs)

variables_places : (inside : Bool) (pairs : List (Id × Option Expr)) →
    stmt_places inside (stmt.Vars pairs) ≡ flat_map declaration_places pairs
variables_places inside pairs =
    ap said_places (of_variables inside pairs)
    ∙ flat_flat mention_places declares pairs ∙ said_declared pairs

block_places : (inside : Bool) (ss : List Stmt) →
    stmt_places inside (stmt.Block ss) ≡ flat_map (stmt_places inside) ss
block_places inside ss =
    ap said_places (of_block inside ss)
    ∙ flat_flat mention_places (λ (s : Stmt). mentions s inside) ss

-- what is said in a row
two_places : (e : Expr) (ms : List Mention) →
    said_places (refers e ++ ms) ≡ expr_places e ++ said_places ms
two_places e ms =
    flat_map-append mention_places (refers e) ms
    ∙ ap (λ (first : List Span). first ++ said_places ms) (value_places e)

if_places : (inside : Bool) (c : Expr) (s : Stmt) (other : Option Stmt) →
    stmt_places inside (stmt.If c s other)
    ≡ expr_places c ++ (stmt_places inside s ++ if_there (stmt_places inside) other)
if_places inside c s None =
    ap said_places (of_if inside c s) ∙ two_places c (mentions s inside ++ [])
    ∙ ap (λ (rest : List Span). expr_places c ++ rest)
    (flat_map-append mention_places (mentions s inside) [])
if_places inside c s (Some other) =
    ap said_places (of_else inside c s other)
    ∙ two_places c (mentions s inside ++ mentions other inside)
    ∙ ap (λ (rest : List Span). expr_places c ++ rest)
    (flat_map-append mention_places (mentions s inside) (mentions other inside))

while_places : (inside : Bool) (c : Expr) (s : Stmt) →
    stmt_places inside (stmt.While c s) ≡ expr_places c ++ stmt_places true s
while_places inside c s = ap said_places (of_while inside c s) ∙ two_places c (mentions s true)

for_places : (inside : Bool) (first : Stmt) (c update : Option Expr) (s : Stmt) →
    stmt_places inside (stmt.For first c update s)
    ≡ stmt_places inside first
    ++ (if_there expr_places c ++ (if_there expr_places update ++ stmt_places true s))
for_places inside first c update s =
    let last = mentions s true in
    ap said_places (of_for inside first c update s)
    ∙ flat_map-append mention_places (mentions first inside)
    (refers_if c ++ (refers_if update ++ last))
    ∙ ap (λ (rest : List Span). stmt_places inside first ++ rest)
    (flat_map-append mention_places (refers_if c) (refers_if update ++ last)
    ∙ ap (λ (one : List Span). one ++ said_places (refers_if update ++ last)) (value_if_places c)
    ∙ ap (λ (rest : List Span). if_there expr_places c ++ rest)
    (flat_map-append mention_places (refers_if update) last
    ∙ ap (λ (one : List Span). one ++ said_places last) (value_if_places update)))

-- ---- all of it

-- where what a call names stands
abbrev callee_places : Callee → List Span
callee_places (callee.Local f) = id_places f
callee_places (callee.External unit f) = unit.span ∷ id_places f
callee_places (callee.Library library f) = library.span ∷ id_places f

call_places : (f : Callee) (es : List Expr) →
    expr_places (called f es) ≡ callee_places f ++ flat_map expr_places es
call_places (callee.Local f) es = local_places f es
call_places (callee.External unit f) es = external_places unit f es
call_places (callee.Library library f) es = library_places library f es

finds_callee : (src : List ℕ) → Finds BeginsAt callee_places (IsCallee src)
finds_callee src x' f' x (expressed.local f x'') = at refl
finds_callee src x' f' x _ = in_a_row (at refl) (over (at refl))

-- what the parts of a program say by the places of their names
abbrev places_said : (src : List ℕ) → Sayings src BeginsAt
places_said src = record {
  variable = id_places;
  operator = λ o. [];
  literal = λ l. [];
  callee = λ count. callee_places;
  jump = λ word. word ∷ [];
  expression = expr_places;
  statement = stmt_places;
  at_variable = λ v x. at refl;
  at_operator = λ o span x. over (no_more x);
  at_literal = λ w span l x is. over (no_more x);
  at_callee = λ count. finds_callee src;
  at_jump = λ w word x. at refl;
  of_literal = λ l. ap from_references (of_literal l);
  of_variable = λ v. ap from_references (of_variable v);
  of_step = λ v up before. ap from_references (of_step v up before);
  of_assignment = λ v o e. ap from_references (of_assignment v o e);
  of_unary = λ o e. ap from_references (of_unary o e);
  of_chain = chain_places;
  of_choice = choice_places;
  of_call = call_places;
  of_empty = λ inside. ap said_places (of_empty inside);
  of_value = λ inside e. ap said_places (of_value inside e) ∙ value_places e;
  of_block = block_places;
  of_variables = variables_places;
  of_if = if_places;
  of_while = while_places;
  of_for = for_places;
  of_break = λ inside word. ap said_places (of_break inside word);
  of_continue = λ inside word. ap said_places (of_continue inside word);
  of_return = λ inside e. ap said_places (of_return inside e) ∙ value_if_places e;
}

-- the names of a statement stand among the tokens that spell it
pub finds_stmt : (src : List ℕ) (levels : ℕ) →
    Finds BeginsAt (stmt_places false) (IsStatement src levels)
finds_stmt src levels = finds_statement (places_said src) levels false
