use Rattle.std.proofs.Common.{◌≡◌, List, ℕ, suc, ◌-◌, ◌++◌, ap, subst, ◌∙◌, arith}
use Rattle.wap_tokens.specs.declared.markup.document.TheConstants.{LEVEL_LIMIT}
use Rattle.wap_tokens.specs.markup.Writing.{document_of}
use Rattle.wap_wbxml.specs.declared.spelling.output.Output.{Output}
use Rattle.wap_wbxml.specs.spelling.Characters.{OfNode}
use Rattle.wap_wbxml.specs.spelling.Spelling.{header_spelling, root_spelling, spelling}
use Rattle.wap_deck.proofs.writing.decks.spell.Goals as goal

pub returns-clause-spelled : goal.returns-clause-spelled
unfolding spelling
returns-clause-spelled c =
    let root = (document_of c.args.deck.now).root in
    let table = c.in_ok-table.table in
    ap (λ (output : Output). output.bytes) c.in_ok-write_node.ensures.written
    ∙ ap (λ (bytes : List ℕ). bytes ++ root_spelling table root)
    (c.in_ok-write_header.ensures.ok
    ∙ ap (λ (bytes : List ℕ). bytes ++ header_spelling 10 table) c.new-2.ensures)
    ∙ ap (λ (names : List (List ℕ)). header_spelling 10 names ++ root_spelling names root)
    (c.in_ok-table.ensures ∙ c.in_ok-names_of.ensures)

pub returns-clause-characters : goal.returns-clause-characters
returns-clause-characters c =
    let same : suc (LEVEL_LIMIT - 1) ≡ LEVEL_LIMIT = omega arith in
    subst (λ (l : ℕ). OfNode l c.args.deck.now.root) same c.in_ok-write_node.ensures.characters
