-- Statements, functions and programs may be sent to threads and shared by them, as their parts may.
use denote.Param.Send.{IsSend, IsSync, sendable, struct_send, struct_sync}
use denote.Param.Send.{recorded_send, recorded_sync, view_send, view_sync}
use denote.Struct.Declared.{shape}
use Rattle.std.proofs.Crossing.{crosses}
use Rattle.std.proofs.option.Option.TheSendSync as option
use Rattle.wap_base.proofs.rows.Rows.TheSendSync as rows
use Rattle.wap_grammar.specs.contracts.program.expression.Expr as Expr
use Rattle.wap_grammar.specs.contracts.program.statement.Stmt as Stmt
use Rattle.wap_grammar.specs.contracts.program.program.Function as Function
use Rattle.wap_grammar.specs.contracts.program.program.Id as Id
use Rattle.wap_grammar.specs.contracts.program.program.Program as Program
use Rattle.wap_grammar.specs.contracts.program.program.Use as Use
use Rattle.wap_scope.specs.contracts.scoped.Scoped as Scoped
use Rattle.wap_scope.specs.contracts.scoped.Scoped.TheInside as inside
use Rattle.wap_grammar.proofs.program.boxed.Boxed.TheSendSync as boxed
use Rattle.wap_grammar.proofs.program.program.Id.TheSendSync as id
use Rattle.wap_grammar.proofs.program.program.Span.TheSendSync as span
use Rattle.wap_grammar.proofs.program.program.Use.TheSendSync as pragma
use Rattle.wap_grammar.proofs.program.expression.Literal.TheSendSync as literal
use Rattle.wap_grammar.proofs.program.expression.Expr.TheLaws.TheKnot as expr
use Rattle.wap_grammar.proofs.program.statement.Stmt.TheLaws.TheKnot as stmt

-- ---- sent

expr_fields_send : IsSend (Expr.the_field).row
expr_fields_send =
    search (
      rows.the_send,
      boxed.the_send,
      option.the_field_send,
      id.the_field_send,
      literal.the_field_send,
      crosses,
      expr.crosses,
      sendable,
    ) depth 60 fits 20000

pub stmt_fields_send : IsSend (Stmt.the_field).row
stmt_fields_send =
    search (
      expr_fields_send,
      rows.the_send,
      boxed.the_send,
      option.the_field_send,
      option.the_send,
      id.the_send,
      span.the_field_send,
      crosses,
      stmt.crosses,
      sendable,
    )
    depth 60 fits 20000

stmt_send : IsSend Stmt.the_row
stmt_send = recorded_send (Stmt.the_field).row _ _ (Stmt.the_type).to_one stmt_fields_send

pub function_fields_send : IsSend (Function.the_field).row
function_fields_send =
    struct_send (shape Function.the_type) (
      id.the_field_send,
      (
        search sendable,
        (rows.the_send Id.the_row id.the_send, (rows.the_send Stmt.the_row stmt_send, tt)),
      ),
    )

function_send : IsSend Function.the_row
function_send =
    recorded_send (Function.the_field).row _ _ (Function.the_type).to_one function_fields_send

pub program_fields_send : IsSend (Program.the_field).row
program_fields_send =
    struct_send (shape Program.the_type) (
      rows.the_send Use.the_row pragma.the_send,
      (rows.the_send Function.the_row function_send, tt),
    )

-- ---- shared

expr_fields_sync : IsSync (Expr.the_field).row
expr_fields_sync =
    search (
      rows.the_sync,
      boxed.the_sync,
      option.the_field_sync,
      id.the_field_sync,
      literal.the_field_sync,
      crosses,
      expr.crosses,
      sendable,
    ) depth 60 fits 20000

pub stmt_fields_sync : IsSync (Stmt.the_field).row
stmt_fields_sync =
    search (
      expr_fields_sync,
      rows.the_sync,
      boxed.the_sync,
      option.the_field_sync,
      option.the_sync,
      id.the_sync,
      span.the_field_sync,
      crosses,
      stmt.crosses,
      sendable,
    )
    depth 60 fits 20000

stmt_sync : IsSync Stmt.the_row
stmt_sync = recorded_sync (Stmt.the_field).row _ _ (Stmt.the_type).to_one stmt_fields_sync

pub function_fields_sync : IsSync (Function.the_field).row
function_fields_sync =
    struct_sync (shape Function.the_type) (
      id.the_field_sync,
      (
        search sendable,
        (rows.the_sync Id.the_row id.the_sync, (rows.the_sync Stmt.the_row stmt_sync, tt)),
      ),
    )

function_sync : IsSync Function.the_row
function_sync =
    recorded_sync (Function.the_field).row _ _ (Function.the_type).to_one function_fields_sync

pub program_fields_sync : IsSync (Program.the_field).row
program_fields_sync =
    struct_sync (shape Program.the_type) (
      rows.the_sync Use.the_row pragma.the_sync,
      (rows.the_sync Function.the_row function_sync, tt),
    )

pub scoped_send : IsSend Scoped.the_row
scoped_send =
    view_send inside.the_row _ _ _ _
    (recorded_send (inside.the_field).row _ _ (inside.the_type).to_one
    (struct_send (shape inside.the_type) (program_fields_send, tt)))

pub scoped_sync : IsSync Scoped.the_row
scoped_sync =
    view_sync inside.the_row _ _ _ _
    (recorded_sync (inside.the_field).row _ _ (inside.the_type).to_one
    (struct_sync (shape inside.the_type) (program_fields_sync, tt)))
