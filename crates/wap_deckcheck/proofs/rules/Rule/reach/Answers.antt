use Rattle.std.proofs.Common.{sym, ◌∙◌}
use Rattle.wap_tokens.specs.markup.Good.{tags_of}
use Rattle.wap_deckcheck.proofs.Following.{follows_none, follows_reached, reached_by}
use Rattle.wap_deckcheck.proofs.rules.Rule.reach.Goals as goal

pub returns-in_default-clause-follows : goal.returns-in_default-clause-follows
returns-in_default-clause-follows c =
    sym (follows_none c.args.self.now c.args.tag (tags_of c.args.earlier.now)
    (sym c.in_default.ensures))

pub returns-then-admits-clause-follows : goal.returns-then-admits-clause-follows
returns-then-admits-clause-follows c =
    sym c.if-admits.true ∙ c.admits.ensures ∙ sym (follows_reached c.args.self.now c.args.tag
    c.args.earlier.now c.args.reached c.in-Some.place c.requires (sym c.in-Some.ensures))

pub returns-else-admits-clause-follows : goal.returns-else-admits-clause-follows
returns-else-admits-clause-follows c =
    sym c.if-admits.false ∙ c.admits.ensures ∙ sym (follows_reached c.args.self.now c.args.tag
    c.args.earlier.now c.args.reached c.in-Some.place c.requires (sym c.in-Some.ensures))

pub returns-then-admits-clause-reached : goal.returns-then-admits-clause-reached
returns-then-admits-clause-reached c =
    reached_by c.args.self.now c.args.tag c.in-Some.place c.args.reached c.max.result
    (sym c.in-Some.ensures) c.max.ensures
