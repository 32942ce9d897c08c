use Rattle.std.proofs.Common.{List, ℕ, [], ◌∷◌, ◌++◌, map}
use Rattle.std.specs.List.{flat_map}
use Rattle.wap_dis.specs.Listing.{spaced}
use Rattle.wap_dis.specs.inside.Gathered.{state}
use Rattle.wap_dis.specs.inside.LineWords.{word_bytes}
use Rattle.wap_dis.proofs.Putting.{gathers_then}
use Rattle.wap_dis.proofs.word.put_line.Goals as goal

pub returns : goal.returns
returns g c =
    let seen = g.O.Sink.seen in
    let words : List ℕ = flat_map spaced (map word_bytes c.args.words.now) in
    gathers_then (seen c.args.out.now) (seen c.put_word.new.out) (seen c.put.new.out)
    (state c.args.held.now) (state c.put_word.new.held) (state c.put.new.held)
    (word_bytes c.args.first) (words ++ (10 ∷ [])) c.put_word.ensures
    (gathers_then (seen c.put_word.new.out) (seen c.put_words.new.out) (seen c.put.new.out)
    (state c.put_word.new.held) (state c.put_words.new.held) (state c.put.new.held) words
    (10 ∷ []) c.put_words.ensures c.put.ensures)
