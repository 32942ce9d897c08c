-- What expressions and statements need, by their parts.
use Rattle.std.proofs.Common.{◌≡◌, ℕ, List, ◌∷◌, ◌++◌, length, map, sym, ap, ◌∙◌}
use Rattle.std.specs.List.{flat_map}
use Rattle.std.proofs.lemmas.List.{length-map}
use Rattle.std.proofs.lemmas.List.Folds.{flat_map-map}
use Rattle.wap_value.specs.declared.operator.BinOp.{BinOp}
use Rattle.wap_grammar.specs.declared.program.program.Id.{Id}
use Rattle.wap_grammar.specs.declared.program.expression.Expr.{Expr, roll-Expr, map-Expr}
use Rattle.wap_grammar.specs.declared.program.expression.Expr.TheOpen.{Expr-F}
use Rattle.wap_grammar.specs.declared.program.expression.Expr.TheFolds.{fold-roll-Expr}
use Rattle.wap_grammar.specs.declared.program.expression.Expr.TheVariants as expr
use Rattle.wap_grammar.specs.declared.program.statement.Stmt.{Stmt, roll-Stmt, map-Stmt}
use Rattle.wap_grammar.specs.declared.program.statement.Stmt.TheOpen.{Stmt-F}
use Rattle.wap_grammar.specs.declared.program.statement.Stmt.TheFolds.{fold-roll-Stmt}
use Rattle.wap_grammar.specs.declared.program.statement.Stmt.TheVariants as stmt
use Rattle.wap_meaning.specs.coding.Needs.{Need, Local, Other, Library, expr_needs_by, expr_needs}
use Rattle.wap_meaning.specs.coding.Needs.{stmt_needs_by, stmt_needs}

-- ---- expressions

-- what an expression needs, by its form
pub by_form : (x : Expr-F Expr) {e : Expr} → roll-Expr x ≡ e
    → expr_needs e ≡ expr_needs_by (map-Expr Expr (List Need) expr_needs x)
unfolding expr_needs
by_form x is = ap expr_needs (sym is) ∙ fold-roll-Expr (List Need) expr_needs_by x

pub of_chain : (e : Expr) (pairs : List (BinOp × Expr)) → expr_needs (expr.Chain e pairs)
    ≡ expr_needs e ++ flat_map (λ pair. expr_needs pair.1) pairs
of_chain e pairs = by_form _ (expr.rolls-Chain e pairs)
    ∙ ap (λ rest. expr_needs e ++ rest)
    (flat_map-map (λ (pair : BinOp × List Need). pair.1)
    (λ (pair : BinOp × Expr). (pair.0, expr_needs pair.1)) pairs)

called : (make : ℕ → Need) (es : List Expr) →
    make (length (map expr_needs es)) ∷ flat_map (λ e. e) (map expr_needs es)
    ≡ make (length es) ∷ flat_map expr_needs es
called make es =
    ap (λ count. make count ∷ flat_map (λ e. e) (map expr_needs es)) (length-map es expr_needs)
    ∙ ap (λ rest. make (length es) ∷ rest) (flat_map-map (λ (e : List Need). e) expr_needs es)

pub of_local : (f : Id) (es : List Expr) → expr_needs (expr.Call f es)
    ≡ Local f (length es) ∷ flat_map expr_needs es
of_local f es = by_form _ (expr.rolls-Call f es) ∙ called (Local f) es

pub of_external : (unit f : Id) (es : List Expr) → expr_needs (expr.External unit f es)
    ≡ Other unit f ∷ flat_map expr_needs es
of_external unit f es =
    by_form _ (expr.rolls-External unit f es) ∙ called (λ count. Other unit f) es

pub of_library : (library f : Id) (es : List Expr) → expr_needs (expr.Library library f es)
    ≡ Library library f (length es) ∷ flat_map expr_needs es
of_library library f es =
    by_form _ (expr.rolls-Library library f es) ∙ called (Library library f) es

-- ---- statements

-- what a statement needs, by its form
pub by_statement : (x : Stmt-F Stmt) {s : Stmt} → roll-Stmt x ≡ s
    → stmt_needs s ≡ stmt_needs_by (map-Stmt Stmt (List Need) stmt_needs x)
unfolding stmt_needs
by_statement x is = ap stmt_needs (sym is) ∙ fold-roll-Stmt (List Need) stmt_needs_by x

pub of_block : (ss : List Stmt) → stmt_needs (stmt.Block ss) ≡ flat_map stmt_needs ss
of_block ss = by_statement _ (stmt.rolls-Block ss)
    ∙ flat_map-map (λ (needs : List Need). needs) stmt_needs ss
