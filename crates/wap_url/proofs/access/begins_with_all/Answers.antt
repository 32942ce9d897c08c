use Rattle.std.proofs.Common.{Some, None}
use Rattle.std.proofs.lemmas.Bool.Decides.{Decides-eqb}
use Rattle.std.proofs.lemmas.Slice.Eq.{strip_prefix_is}
use Rattle.wap_url.proofs.AccessLaws.{prefix_at_cut, prefix_from_cut, no_prefix}
use Rattle.wap_url.proofs.access.begins_with_all.Goals as goal

pub returns-in-Some : goal.returns-in-Some
returns-in-Some c =
    let cut =
    strip_prefix_is Decides-eqb c.args.path.now c.args.lead.now
    (Some c.in-Some.rest) c.in-Some.ensures.cases in (
      λ holds. prefix_from_cut 47 c.args.lead.now c.args.path.now c.in-Some.rest.now cut
          (c.begins_at_slash.ensures.0 holds),
      λ prefix. c.begins_at_slash.ensures.1
          (prefix_at_cut 47 c.args.lead.now c.args.path.now c.in-Some.rest.now cut prefix),
    )

pub returns-in-None : goal.returns-in-None
returns-in-None c =
    let none =
    strip_prefix_is Decides-eqb c.args.path.now c.args.lead.now None c.in-None.ensures.cases in (
      λ wrong. absurd (let w = wrong in cc),
      λ prefix. absurd (no_prefix 47 c.args.lead.now c.args.path.now none prefix),
    )
