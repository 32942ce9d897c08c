use Rattle.std.proofs.Common.{sym, ◌∙◌}
use Rattle.std.specs.Str.{chars}
use Rattle.std.proofs.lemmas.Iterator.{YieldsList-from_chars}
use Rattle.std.proofs.lemmas.Iterator.Consumers.{YieldsList-turn, YieldsList-end}
use Rattle.wap_cardrules.specs.Selects.{pieces_of}
use Rattle.wap_cards.proofs.InputsLemmas.Splitting.{pieces-semicolon, pieces-other, pieces-end}
use Rattle.wap_layout.proofs.Splitting.{drop-turn, drop-end}
use Rattle.wap_cards.proofs.inputs.pieces.pieces_of.Goals as goal

pub loop-character-preserved-then-is_semicolon : goal.loop-character-preserved-then-is_semicolon
loop-character-preserved-then-is_semicolon c =
    let t =
    YieldsList-turn (YieldsList-from_chars c.args.text.now c.utf8.text cc) c.loop-character.yielded
    _ c.loop-character.yielded_by _ _ c.in-Some.character c.in-Some.is c.next.ensures.steps in
    pieces-semicolon c.loop-character.pieces c.add.new.self c.loop-character.piece
    c.new-piece-then-is_semicolon.result _ _ c.in-Some.character (pieces_of (chars c.args.text.now))
    c.in_ok-add.ensures.ok c.new-piece-then-is_semicolon.ensures
    (sym c.is_semicolon.ensures ∙ c.if-is_semicolon.true) (drop-turn (chars c.args.text.now)
    c.loop-character.yielded c.in-Some.character t) c.loop-character.invariant

pub loop-character-preserved : goal.loop-character-preserved
loop-character-preserved c =
    let t =
    YieldsList-turn (YieldsList-from_chars c.args.text.now c.utf8.text cc) c.loop-character.yielded
    _ c.loop-character.yielded_by _ _ c.in-Some.character c.in-Some.is c.next.ensures.steps in
    pieces-other c.loop-character.pieces c.loop-character.piece c.push.new.self _ _
    c.in-Some.character (pieces_of (chars c.args.text.now))
    c.in_ok-push.ensures.ok (sym c.is_semicolon.ensures ∙ c.if-is_semicolon.false)
    (drop-turn (chars c.args.text.now) c.loop-character.yielded c.in-Some.character t)
    c.loop-character.invariant

pub returns : goal.returns
returns c =
    let t =
    YieldsList-end (YieldsList-from_chars c.args.text.now c.utf8.text cc)
    c.loop-character.yielded _ c.loop-character.yielded_by _ _ c.in-None.is c.next.ensures.steps in
    pieces-end c.loop-character.pieces c.add-2.new.self c.loop-character.piece _
    (pieces_of (chars c.args.text.now))
    c.in_ok-add-2.ensures.ok (drop-end (chars c.args.text.now) c.loop-character.yielded (sym t.1))
    c.loop-character.invariant
