use Rattle.std.proofs.Common.{◌≡◌, true, false, ap, sym, ◌∙◌}
use Rattle.std.specs.Str.{chars}
use Rattle.wap_libs.specs.Characters.{is_blank, before_blanks}
use Rattle.wap_libs.proofs.TextsLemmas.Blanks.{before_blanks-blank, before_blanks-other}
use Rattle.wap_libs.proofs.texts.characters.trim_end.Goals as goal

pub loop-character-smaller : goal.loop-character-smaller
loop-character-smaller c = c.in-Some.ensures.2

pub loop-character-preserved : goal.loop-character-preserved
loop-character-preserved c =
    let first = c.in-Some.ensures in
    let blank : is_blank c.in-Some.character ≡ true =
    sym c.is_blank.ensures ∙ c.if-not-is_blank.false in (
      first.1,
      sym (before_blanks-blank (chars c.in-Some.before.now) c.in-Some.character blank)
          ∙ ap before_blanks (sym first.0) ∙ c.loop-character.invariant.1,
    )

pub returns-then-not-is_blank : goal.returns-then-not-is_blank
returns-then-not-is_blank c =
    let first = c.in-Some.ensures in
    let other : is_blank c.in-Some.character ≡ false =
    sym c.is_blank.ensures ∙ c.if-not-is_blank.true in
    first.0 ∙ sym (before_blanks-other (chars c.in-Some.before.now) c.in-Some.character other)
    ∙ ap before_blanks (sym first.0) ∙ c.loop-character.invariant.1

pub returns : goal.returns
returns c =
    c.in_default.ensures ∙ ap before_blanks (sym c.in_default.ensures)
    ∙ c.loop-character.invariant.1
