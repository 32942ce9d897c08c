use Rattle.std.proofs.Common.{ℕ, ◌<◌, ◌/◌, get_or, ◌∷◌, [], length, ap, ◌∙◌, arith}
use Rattle.wap_dis.specs.Listing.{hex_digit, hex_byte}
use Rattle.wap_dis.specs.inside.Gathered.{state}
use Rattle.wap_dis.proofs.Putting.{puts_at}
use Rattle.wap_dis.proofs.word.put_hex.Goals as goal

pub loop-byte-preserved : goal.loop-byte-preserved
loop-byte-preserved g c =
    let within : c.loop-byte.byte-index < length c.args.bytes.now = omega arith in
    puts_at (g.O.Sink.seen c.args.out.now) (g.O.Sink.seen c.loop-byte.out)
    (g.O.Sink.seen c.put.new.out)
    (state c.args.held.now) (state c.loop-byte.held)
    (state c.put.new.held) 0 hex_byte c.args.bytes.now c.loop-byte.byte-index
    (c.hex_digit.result ∷ c.hex_digit-in-loop-byte.result ∷ []) within
    (ap (λ (n : ℕ). n ∷ c.hex_digit-in-loop-byte.result ∷ []) c.hex_digit.ensures
    ∙ ap (λ (n : ℕ). hex_digit (get_or c.args.bytes.now c.loop-byte.byte-index 0 / 16) ∷ n ∷ [])
    c.hex_digit-in-loop-byte.ensures)
    c.loop-byte.invariant c.put.ensures
