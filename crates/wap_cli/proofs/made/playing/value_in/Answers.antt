use Rattle.std.proofs.Common.{◌∷◌, ◌-◌, List, ℕ, length, drop, sym, ap, ◌∙◌, arith}
use Rattle.std.specs.Str.{chars}
use Rattle.std.proofs.lemmas.List.{take_all, length-drop}
use Rattle.wap_cli.proofs.MadeLemmas.Finding.{value_found, value_later}
use Rattle.wap_cli.proofs.made.playing.value_in.Goals as goal

pub returns-then-starts_with : goal.returns-then-starts_with
returns-then-starts_with c =
    let bytes = c.as_bytes-bytes.result.now in
    let rest = c.next.new.self in
    take_all (length bytes - 4) (drop 4 bytes) (omega (arith, length-drop 4 bytes))
    ∙ value_found bytes rest c.loop-line.line-iterator c.args.lines.now
    c.as_bytes-bytes.ensures.utf8 (c.in-Some.ensures.steps
    ∙ ap (λ (l : List ℕ). chars l ∷ rest) (sym c.as_bytes-bytes.ensures.value))
    c.loop-line.invariant (sym c.starts_with.ensures.value ∙ c.if-starts_with.true)

pub loop-line-preserved : goal.loop-line-preserved
loop-line-preserved c =
    let rest = c.next.new.self in
    value_later c.as_bytes-bytes.result.now rest c.loop-line.line-iterator c.args.lines.now
    c.as_bytes-bytes.ensures.utf8
    (c.in-Some.ensures.steps
    ∙ ap (λ (l : List ℕ). chars l ∷ rest) (sym c.as_bytes-bytes.ensures.value))
    c.loop-line.invariant (sym c.starts_with.ensures.value ∙ c.if-starts_with.false)
