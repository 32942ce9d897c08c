use Rattle.std.proofs.Common.{◌≡◌, ℕ, List, [], ◌∷◌, ◌++◌, ap, sym, subst, ◌∙◌, append-nil}
use Rattle.std.proofs.Common.{encode_utf8, encode_utf8_all}
use Rattle.std.proofs.lemmas.List.{map-append, map-id}
use Rattle.std.proofs.lemmas.Str.{encodes-append}
use Rattle.std.proofs.lemmas.Iterator.{YieldsList-from_chars}
use Rattle.std.proofs.lemmas.Iterator.Consumers.{YieldsList-end}
use Rattle.wap_base.specs.Controls.{shown_character, shown_text}
use Rattle.wap_dis.specs.Listing.{shown}
use Rattle.wap_dis.specs.inside.Gathering.{Gathers}
use Rattle.wap_dis.specs.inside.Gathered.{state}
use Rattle.wap_dis.proofs.Putting.{gathers_then}
use Rattle.wap_dis.proofs.word.put_shown.Goals as goal

pub loop-character-preserved : goal.loop-character-preserved
loop-character-preserved g c =
    let seen = g.O.Sink.seen in
    let before = c.loop-character.yielded in
    let one = c.in-Some.character in
    let bytes = c.as_bytes.result.now in
    let is : encode_utf8 (shown_character one) ≡ bytes = cc in
    let all : shown (before ++ one ∷ []) ≡ shown before ++ bytes =
    ap encode_utf8_all (map-append shown_character before (one ∷ []))
    ∙ encodes-append (shown_text before) (shown_character one ∷ [])
    ∙ ap (λ (l : List ℕ). shown before ++ l)
    (append-nil (encode_utf8 (shown_character one)) ∙ is) in
    subst
    (Gathers (seen c.args.out.now) (seen c.put.new.out) (state c.args.held.now)
    (state c.put.new.held)) (sym all)
    (gathers_then (seen c.args.out.now) (seen c.loop-character.out) (seen c.put.new.out)
    (state c.args.held.now) (state c.loop-character.held) (state c.put.new.held)
    (shown before) bytes c.loop-character.invariant c.put.ensures)

pub returns : goal.returns
returns g c =
    let seen = g.O.Sink.seen in
    let all =
    YieldsList-end (YieldsList-from_chars c.args.text.now c.utf8.text cc)
    c.loop-character.yielded _ c.loop-character.yielded_by _ _ c.in-None.is
    c.next.ensures.steps in
    subst
    (Gathers (seen c.args.out.now) (seen c.loop-character.out) (state c.args.held.now)
    (state c.loop-character.held))
    (ap shown (sym (map-id c.loop-character.yielded) ∙ all.0)) c.loop-character.invariant
