use Rattle.std.proofs.Common.{ℕ, ◌<◌, ◌+◌, List, [], ◌∷◌, ◌++◌, length, take}
use Rattle.std.proofs.Common.{get_or, refl, sym, subst, arith}
use Rattle.wap_dis.specs.declared.word.Word.{Word}
use Rattle.wap_dis.specs.declared.word.Word.TheVariants.{Name}
use Rattle.wap_dis.specs.Listing.{spaced}
use Rattle.wap_dis.specs.inside.Gathering.{Gathers}
use Rattle.wap_dis.specs.inside.Gathered.{state}
use Rattle.wap_dis.specs.inside.LineWords.{word_bytes}
use Rattle.wap_dis.proofs.Putting.{gathers_then, puts_at, flat_map-map}
use Rattle.wap_dis.proofs.word.put_words.Goals as goal

pub loop-word-preserved : goal.loop-word-preserved
loop-word-preserved g c =
    let seen = g.O.Sink.seen in
    let words : List Word = c.args.words.now in
    let i : ℕ = c.loop-word.word-index in
    let within : i < length words = omega arith in
    let none : Word = Name (record { ref_ptr = (0, 0); now = [] }) in
    let one : Word → List ℕ = λ w. spaced (word_bytes w) in
    let before =
    subst (Gathers (seen c.args.out.now) (seen c.loop-word.out) (state c.args.held.now)
    (state c.loop-word.held))
    (flat_map-map spaced word_bytes (take i words)) c.loop-word.invariant in
    let now =
    gathers_then (seen c.loop-word.out) (seen c.put.new.out) (seen c.put_word.new.out)
    (state c.loop-word.held) (state c.put.new.held) (state c.put_word.new.held) (32 ∷ [])
    (word_bytes (get_or words i none)) c.put.ensures c.put_word.ensures in
    subst (Gathers (seen c.args.out.now) (seen c.put_word.new.out) (state c.args.held.now)
    (state c.put_word.new.held))
    (sym (flat_map-map spaced word_bytes (take (i + 1) words)))
    (puts_at (seen c.args.out.now) (seen c.loop-word.out) (seen c.put_word.new.out)
    (state c.args.held.now) (state c.loop-word.held) (state c.put_word.new.held) none one words i
    ((32 ∷ []) ++ word_bytes (get_or words i none)) within refl before now)
