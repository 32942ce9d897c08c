use Rattle.std.proofs.Common.{ap, sym, ◌∙◌, Err}
use Rattle.wap_lex.specs.declared.fault.LexFault.{LexFault}
use Rattle.wap_lex.specs.Tokens.{no_text}
use Rattle.wap_lex.proofs.Sources.{found_by, refused_by, only_by, first_by}
use Rattle.wap_lex.proofs.Sources.{utf8_of, not_utf8_of, not_text_first}
use Rattle.wap_lex.proofs.lexer.lex.Goals as goal

pub returns-then-is_err-clause-refused : goal.returns-then-is_err-clause-refused
returns-then-is_err-clause-refused c =
    λ told. no_text (not_utf8_of _ _ c.args.src.now c.from_utf8.result
    (sym c.is_err.ensures.value ∙ c.if-is_err.true) c.from_utf8.ensures.cases)

pub returns-then-is_err-clause-first : goal.returns-then-is_err-clause-first
returns-then-is_err-clause-first c = λ fault refused told.
    ap (λ (f : LexFault). Err f)
    (not_text_first c.args.src.now (not_utf8_of _ _ c.args.src.now c.from_utf8.result
    (sym c.is_err.ensures.value ∙ c.if-is_err.true) c.from_utf8.ensures.cases) fault refused)

pub returns-clause-found : goal.returns-clause-found
returns-clause-found c =
    found_by (λ found. found.items) c.args.src.now c.pieces.result
    (utf8_of _ _ c.args.src.now c.from_utf8.result
    (sym c.is_err.ensures.value ∙ c.if-is_err.false) c.from_utf8.ensures.cases) c.pieces.ensures

pub returns-clause-only : goal.returns-clause-only
returns-clause-only c =
    only_by (λ found. found.items) c.args.src.now c.pieces.result c.pieces.ensures

pub returns-clause-refused : goal.returns-clause-refused
returns-clause-refused c =
    refused_by (λ found. found.items) c.args.src.now c.pieces.result
    (utf8_of _ _ c.args.src.now c.from_utf8.result
    (sym c.is_err.ensures.value ∙ c.if-is_err.false) c.from_utf8.ensures.cases) c.pieces.ensures

pub returns-clause-first : goal.returns-clause-first
returns-clause-first c =
    first_by (λ found. found.items) c.args.src.now c.pieces.result
    (utf8_of _ _ c.args.src.now c.from_utf8.result
    (sym c.is_err.ensures.value ∙ c.if-is_err.false) c.from_utf8.ensures.cases) c.pieces.ensures
