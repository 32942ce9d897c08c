-- without_constants
use Rattle.std.proofs.Common.{ℕ, List, [], map, ap, ◌∙◌}
use Rattle.wap_grammar.specs.declared.program.program.Use.{Use}
use Rattle.wap_grammar.specs.declared.program.program.Function.{Function}
use Rattle.wap_meaning.specs.Names.{Names, url_in}
use Rattle.wap_codegen.specs.pool.Names.{with_names}
use Rattle.wap_codegen.specs.pool.inside.Declaring.{with_urls}
use Rattle.wap_codegen.proofs.PoolLemmas.Once.{functions_once, urls_once}
use Rattle.wap_codegen.proofs.pool.numbering.Numbering.without_constants.Goals as goal

-- names by their parts
abbrev by_parts : List (List ℕ) → List (List ℕ) → List (List ℕ × List ℕ) → Names
by_parts names functions urls =
    record { variables = names; functions = functions; urls = urls }

pub returns-clause-names : goal.returns-clause-names
returns-clause-names c =
    let functions = c.in_ok-functions_of.ensures
    ∙ ap (λ (fs : List Function). with_names [] (map (λ (f : Function). f.name.name) fs))
    c.as_slice.ensures
    ∙ functions_once c.args.program.now c.requires in
    let urls = c.in_ok-urls_of.ensures
    ∙ ap (λ (us : List Use). with_urls [] (map url_in us)) c.as_slice-2.ensures
    ∙ urls_once c.args.program.now c.requires in
    ap (λ (vs : List (List ℕ)). by_parts vs c.in_ok-functions_of.field-0
    c.in_ok-urls_of.field-0.entries) c.new.ensures
    ∙ ap (λ (fs : List (List ℕ)). by_parts [] fs c.in_ok-urls_of.field-0.entries) functions
    ∙ ap (λ (us : List (List ℕ × List ℕ)).
    by_parts [] (map (λ (f : Function). f.name.name) c.args.program.now.functions) us) urls
