use Rattle.std.proofs.Common.{◌&&◌, not, ap, sym, ◌∙◌}
use Rattle.std.specs.List.{list_any}
use Rattle.wap_url.specs.Characters.{is_colon}
use Rattle.wap_url.proofs.RelationLaws.{alone_of_bytes}
use Rattle.wap_url.proofs.relation.stands_alone.Goals as goal

pub returns-then-not-is_empty : goal.returns-then-not-is_empty
returns-then-not-is_empty c =
    ap not (c.contains.ensures.value ∙ ap (list_any is_colon) c.as_bytes.ensures.value)
    ∙ ap (λ t. not t && not (list_any is_colon c.args.segment.now))
    (sym c.if-not-is_empty.true ∙ c.is_empty.ensures)
    ∙ alone_of_bytes c.args.segment.now c.utf8.segment

pub returns-else-not-is_empty : goal.returns-else-not-is_empty
returns-else-not-is_empty c =
    ap not c.if-not-is_empty.false
    ∙ ap (λ t. not t && not (list_any is_colon c.args.segment.now))
    (sym c.if-not-is_empty.false ∙ c.is_empty.ensures)
    ∙ alone_of_bytes c.args.segment.now c.utf8.segment
