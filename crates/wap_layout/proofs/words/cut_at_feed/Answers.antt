use Rattle.std.proofs.Common.{sym, ap, ◌∙◌}
use Rattle.std.specs.List.{position}
use Rattle.wap_layout.specs.Blanks.{is_line_feed}
use Rattle.wap_layout.proofs.Feeds.{feed_none}
use Rattle.wap_layout.proofs.words.cut_at_feed.Goals as goal

pub returns-in-None : goal.returns-in-None
returns-in-None c =
    feed_none c.args.text.now c.utf8.text
    (ap (position is_line_feed) (sym c.as_bytes.ensures.value)
    ∙ sym c.feed_place.ensures.place ∙ c.in-None.is)
