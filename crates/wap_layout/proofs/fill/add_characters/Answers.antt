use Rattle.std.proofs.Common.{◌++◌, ◌∷◌, [], length, sym, ap, ◌∙◌, arith}
use Rattle.std.specs.Str.{chars}
use Rattle.std.proofs.lemmas.Iterator.{YieldsList-from_chars}
use Rattle.std.proofs.lemmas.Iterator.Consumers.{YieldsList-turn, YieldsList-end}
use Rattle.std.proofs.lemmas.List.{length_push}
use Rattle.wap_layout.proofs.Splitting.{drop-turn, drop-end}
use Rattle.wap_layout.proofs.Placing.{cut-full, cut-more, cut-end}
use Rattle.wap_layout.proofs.fill.add_characters.Goals as goal
use Rattle.wap_layout.proofs.fill.add_characters.Goals.{then-columns-width+in_ok-add+in_ok-part-2}
use Rattle.wap_layout.proofs.fill.add_characters.Goals.{else-columns-width}

pub loop-character-preserved : goal.loop-character-preserved
loop-character-preserved c =
    let t =
    YieldsList-turn (YieldsList-from_chars c.args.word.now c.utf8.word cc) c.loop-character.yielded
    _ c.loop-character.yielded_by _ _ c.in-Some.character c.in-Some.is c.next.ensures.steps in
    let turn = drop-turn (chars c.args.word.now) c.loop-character.yielded c.in-Some.character t in
    let longer =
    ap length c.in_ok-push.ensures.ok ∙ length_push c.if-columns-width.part c.in-Some.character in
    elim c.if-columns-width.branch [
      | then-columns-width+in_ok-add+in_ok-part-2 w ↦
          let starts = w.part-is ∙ w.in_ok-part-2.ensures in (
            λ more. cut-full c.loop-character.lines c.if-columns-width.lines c.loop-character.part
                c.push.new.self _ _ c.in-Some.character c.args.width more _ c.requires
                (sym c.loop-character.invariant.1 ∙ w.if-columns-width.true)
                (w.lines-is ∙ w.in_ok-add.ensures.ok
                ∙ ap (λ l. c.loop-character.lines ++ l ∷ []) w.as_str.ensures.characters)
                (c.in_ok-push.ensures.ok ∙ ap (λ p. p ++ c.in-Some.character ∷ []) starts) turn
                (c.loop-character.invariant.0 more),
            omega (arith, w.columns-is, ap length starts),
            omega (arith, w.columns-is),
          )
      | else-columns-width w ↦ (
        λ more. cut-more c.loop-character.lines c.if-columns-width.lines c.loop-character.part
            c.push.new.self _ _ c.in-Some.character c.args.width more _
            w.lines-is (c.in_ok-push.ensures.ok ∙ ap (λ p. p ++ c.in-Some.character ∷ []) w.part-is)
            turn (c.loop-character.invariant.0 more),
        omega (arith, w.columns-is, ap length w.part-is, c.loop-character.invariant.1),
        omega (arith, w.columns-is, c.loop-character.invariant.2, w.if-columns-width.false),
      )
    ]

pub returns : goal.returns
returns c = λ more.
    let t =
    YieldsList-end (YieldsList-from_chars c.args.word.now c.utf8.word cc)
    c.loop-character.yielded _ c.loop-character.yielded_by _ _ c.in-None.is c.next.ensures.steps in
    cut-end c.loop-character.lines c.loop-character.part _ c.args.width more _
    (omega (arith, c.loop-character.invariant.1, c.loop-character.invariant.2))
    (drop-end (chars c.args.word.now) c.loop-character.yielded (sym t.1))
    (c.loop-character.invariant.0 more)
