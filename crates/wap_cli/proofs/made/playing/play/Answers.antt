use Rattle.std.proofs.Common.{ap, ◌∙◌}
use Rattle.wap_base.specs.declared.limits.Limits.{Limits}
use Rattle.wap_keys.specs.declared.words.numbers.TheConstants.{DEFAULT_SEED, DEFAULT_BUDGET}
use Rattle.wap_world.proofs.SiteLemmas.Asking.{Stays-then}
use Rattle.wap_session.specs.Feeding.{beginning}
use Rattle.wap_cli.specs.made.Making.{first_url}
use Rattle.wap_cli.proofs.MadeLemmas.Touring.{is_played}
use Rattle.wap_cli.proofs.made.playing.play.Goals as goal

pub returns-clause-played : goal.returns-clause-played
returns-clause-played g c =
    is_played c.args.keys.now (g.P.Pages.seen c.args.pages.now) (g.P.Pages.seen c.play.new.pages)
    (g.P.Pages.seen c.feed.new.pages) c.new-session.result c.play.new.self c.feed.new.self
    c.in-Ok.lines c.in-Ok-feed.variables c.in_ok-copied.field-0
    (c.new-session.ensures first_url ∙ ap (λ (limits : Limits). beginning (record {
      url = first_url;
      seed = DEFAULT_SEED;
      budget = DEFAULT_BUDGET;
      limits = limits;
    })) c.default.ensures.0)
    c.in-Ok.ensures.plays c.in-Ok-feed.ensures.plays (c.in_ok-copied.ensures.0 ∙ c.len.ensures)
    (c.in_ok-copied.ensures.1 ∙ c.value_in.ensures)

pub returns-clause-stays : goal.returns-clause-stays
returns-clause-stays g c =
    Stays-then (g.P.Pages.seen c.args.pages.now) (g.P.Pages.seen c.play.new.pages)
    (g.P.Pages.seen c.feed.new.pages) c.in-Ok.ensures.plays.stays c.in-Ok-feed.ensures.plays.stays
