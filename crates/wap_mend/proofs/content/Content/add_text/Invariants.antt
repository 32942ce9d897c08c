use Rattle.std.proofs.Common.{◌≡◌, take, map}
use Rattle.wap_tokens.specs.markup.Decks.{part}
use Rattle.wap_deck.specs.documents.Adding.{marks_after}
use Rattle.wap_mend.proofs.content.Content.add_text.Given as goal

-- the parts so far are added
abbrev pub invariant-loop-part : goal.invariant-loop-part
invariant-loop-part l =
    l.self
    ≡ record l.initial.self {
      items = marks_after l.initial.self.items (map part (take l.part-index l.parts));
    }
