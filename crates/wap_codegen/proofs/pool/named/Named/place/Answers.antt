-- place
use Rattle.std.proofs.Common.{ap, ap₂, ◌∙◌, unwrap_or, List, ℕ}
use Rattle.wap_base.specs.Texts.{is_same_text}
use Rattle.wap_scope.specs.accepted.Known.{place_of}
use Rattle.wap_codegen.proofs.PoolLemmas.Numbered.{found}
use Rattle.wap_codegen.proofs.pool.named.Named.place.Goals as goal

pub returns : goal.returns
returns c =
    c.unwrap_or.ensures
    ∙ ap₂ unwrap_or c.get_index_of.ensures.index c.len.ensures.len
    ∙ found (is_same_text c.args.name.now) c.self.inside.names.keys
    ∙ ap (λ (names : List (List ℕ)). place_of c.args.name.now names) c.self.view_is
