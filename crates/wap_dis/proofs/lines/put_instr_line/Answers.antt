use Rattle.std.proofs.Common.{◌≡◌, ℕ, ◌+◌, List, [], ◌∷◌, take, map, sym, ap, subst, ◌∙◌}
use Rattle.std.specs.Fmt.{decimal}
use Rattle.std.proofs.lemmas.List.{take-map}
use Rattle.wap_dis.specs.declared.word.Word.{Word}
use Rattle.wap_dis.specs.declared.word.Word.TheVariants.{Name, Number}
use Rattle.wap_dis.specs.Names.{name_of}
use Rattle.wap_dis.specs.Listing.{line, operand_count, instr_words}
use Rattle.wap_dis.specs.inside.Gathering.{Gathers}
use Rattle.wap_dis.specs.inside.Gathered.{state}
use Rattle.wap_dis.specs.inside.LineWords.{word_bytes}
use Rattle.wap_dis.proofs.lines.put_instr_line.Goals as goal

pub returns : goal.returns
returns g c =
    let puts : List ℕ → Type 0 =
    Gathers (g.O.Sink.seen c.args.out.now) (g.O.Sink.seen c.put_line.new.out)
    (state c.args.held.now)
    (state c.put_line.new.held) in
    let words : List Word =
    Name c.name_of.result ∷ Number c.from.result ∷ Number c.from-2.result
    ∷ Number c.from-3.result ∷ [] in
    let instr = c.args.instr in
    let count : ℕ = operand_count c.args.row in
    let front : List (List ℕ) → List (List ℕ) = λ l. take (1 + count) l in
    let same : map word_bytes (take (1 + c.operand_count.result) words)
    ≡ instr_words c.args.row instr =
    sym (take-map word_bytes (1 + c.operand_count.result) words)
    ∙ ap (λ (n : ℕ). take (1 + n) (map word_bytes words)) c.operand_count.ensures.count
    ∙ ap (λ (name : List ℕ).
    front (name ∷ decimal c.from.result ∷ decimal c.from-2.result ∷ decimal c.from-3.result ∷ []))
    c.name_of.ensures
    ∙ ap (λ (n : ℕ).
    front (name_of instr.name ∷ decimal n ∷ decimal c.from-2.result ∷ decimal c.from-3.result ∷ []))
    c.from.ensures
    ∙ ap (λ (n : ℕ).
    front (name_of instr.name ∷ decimal instr.a ∷ decimal n ∷ decimal c.from-3.result ∷ []))
    c.from-2.ensures
    ∙ ap
    (λ (n : ℕ). front (name_of instr.name ∷ decimal instr.a ∷ decimal instr.b ∷ decimal n ∷ []))
    c.from-3.ensures in
    subst (λ (l : List (List ℕ)). puts (line (decimal c.args.at) l)) same c.put_line.ensures
