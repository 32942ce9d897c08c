use Rattle.std.proofs.Common.{Err}
use Rattle.std.proofs.lemmas.Result.{err_from_is_err_and}
use Rattle.wap_push.proofs.Pushing.{refused_of, first_of, document_read, document_refused}
use Rattle.wap_push.proofs.pushes.read_push.Goals as goal

pub returns-in_err-document-clause-refused : goal.returns-in_err-document-clause-refused
returns-in_err-document-clause-refused c =
    let p = err_from_is_err_and c.from_residual.result c.from_residual.ensures.1 in
    rw p.1
    (refused_of (Err p.0) c.args.bytes.now
    (document_refused c.args.bytes.now c.in_err-document.field-0.0 p.0 p.2
    c.in_err-document.ensures.exact))

pub returns-in_err-document-clause-first : goal.returns-in_err-document-clause-first
returns-in_err-document-clause-first c =
    let p = err_from_is_err_and c.from_residual.result c.from_residual.ensures.1 in
    rw p.1
    (first_of (Err p.0) c.args.bytes.now
    (document_refused c.args.bytes.now c.in_err-document.field-0.0 p.0 p.2
    c.in_err-document.ensures.exact))

pub returns-clause-refused : goal.returns-clause-refused
returns-clause-refused c =
    refused_of c.indication_of.result c.args.bytes.now
    (document_read c.args.bytes.now c.in_ok-document.document c.indication_of.result
    c.in_ok-document.ensures.exact c.indication_of.ensures.exact)

pub returns-clause-first : goal.returns-clause-first
returns-clause-first c =
    first_of c.indication_of.result c.args.bytes.now
    (document_read c.args.bytes.now c.in_ok-document.document c.indication_of.result
    c.in_ok-document.ensures.exact c.indication_of.ensures.exact)
