use Rattle.std.proofs.Common.{List, ℕ, ◌++◌, ap, ◌∙◌}
use Rattle.wap_wbxml.specs.declared.spelling.output.Output.{Output}
use Rattle.wap_wbxml.specs.spelling.Spelling.{header_spelling, root_spelling, spelling}
use Rattle.wap_wbxml.proofs.spelling.documents.encode.Goals as goal

pub returns : goal.returns
unfolding spelling
returns c =
    let public = c.args.document.now.public in
    let root = c.args.document.now.root in
    let table = c.in_ok-table.table in
    record {
      spelled =
          ap (λ (output : Output). output.bytes) c.in_ok-write_element.ensures
          ∙ ap (λ (bytes : List ℕ). bytes ++ root_spelling table root)
          (c.in_ok-write_header.ensures.ok
          ∙ ap (λ (bytes : List ℕ). bytes ++ header_spelling public table) c.new-2.ensures)
          ∙ ap (λ (names : List (List ℕ)). header_spelling public names ++ root_spelling names root)
          (c.in_ok-table.ensures ∙ c.in_ok-names_of.ensures);
    }
