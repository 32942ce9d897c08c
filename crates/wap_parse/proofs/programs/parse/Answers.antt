use Rattle.std.proofs.Common.{List, ◌∙◌, subst}
use Rattle.wap_grammar.specs.declared.lexeme.Lexeme.{Lexeme}
use Rattle.wap_grammar.specs.Lexemes.{lexemes_of}
use Rattle.wap_grammar.proofs.Answering.{IsRead, found_by, only_by, syntax_by, nested_by, first_by}
use Rattle.wap_parse.proofs.programs.parse.Goals as goal

pub returns-clause-found : goal.returns-clause-found
returns-clause-found c =
    let src = c.args.src.now in
    found_by src (lexemes_of src c.args.tokens.now) c.read_program.result
    (subst (λ (a : List Lexeme). IsRead src a c.read_program.result)
    (c.as_slice.ensures ∙ c.in_ok-lexemes.ensures) c.read_program.ensures)

pub returns-clause-only : goal.returns-clause-only
returns-clause-only c =
    let src = c.args.src.now in
    only_by src (lexemes_of src c.args.tokens.now) c.read_program.result
    (subst (λ (a : List Lexeme). IsRead src a c.read_program.result)
    (c.as_slice.ensures ∙ c.in_ok-lexemes.ensures) c.read_program.ensures)

pub returns-clause-syntax : goal.returns-clause-syntax
returns-clause-syntax c =
    let src = c.args.src.now in
    syntax_by src (lexemes_of src c.args.tokens.now) c.read_program.result
    (subst (λ (a : List Lexeme). IsRead src a c.read_program.result)
    (c.as_slice.ensures ∙ c.in_ok-lexemes.ensures) c.read_program.ensures)

pub returns-clause-nested : goal.returns-clause-nested
returns-clause-nested c =
    let src = c.args.src.now in
    nested_by src (lexemes_of src c.args.tokens.now) c.read_program.result
    (subst (λ (a : List Lexeme). IsRead src a c.read_program.result)
    (c.as_slice.ensures ∙ c.in_ok-lexemes.ensures) c.read_program.ensures)

pub returns-clause-first : goal.returns-clause-first
returns-clause-first c =
    let src = c.args.src.now in
    first_by src (lexemes_of src c.args.tokens.now) c.read_program.result
    (subst (λ (a : List Lexeme). IsRead src a c.read_program.result)
    (c.as_slice.ensures ∙ c.in_ok-lexemes.ensures) c.read_program.ensures)
