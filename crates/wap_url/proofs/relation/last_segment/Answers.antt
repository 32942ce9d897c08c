use Rattle.wap_url.proofs.RelationLaws.{last_of_bytes, last_of_whole}
use Rattle.wap_url.proofs.relation.last_segment.Goals as goal

pub returns-in-Some : goal.returns-in-Some
returns-in-Some c =
    last_of_bytes c.args.path.now
    (c.in-Some.field-0-0, c.in-Some.last) c.utf8.path c.in-Some.ensures.cases

pub returns-in-None : goal.returns-in-None
returns-in-None c = last_of_whole c.args.path.now c.utf8.path c.in-None.ensures.cases
