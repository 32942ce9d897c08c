use Rattle.std.proofs.Common.{◌≡◌, ℕ, suc, ◌+◌, ◌-◌, ◌<◌, List, ◌++◌, length, Some, None}
use Rattle.std.proofs.Common.{sym, ap, subst, ◌∙◌, append_assoc, arith}
use Rattle.std.proofs.lemmas.List.{append-nil}
use Rattle.wap_dis.specs.Listing.{byte_lines, instr_line, code_from}
use Rattle.wap_dis.specs.inside.Gathering.{Gathers}
use Rattle.wap_dis.specs.inside.Gathered.{state}
use Rattle.wap_dis.proofs.Putting.{gathers_then}
use Rattle.wap_dis.proofs.Lists.{code_step, code_end, code_none}
use Rattle.wap_dis.proofs.listed.put_code.Goals as goal

pub returns-then-at-code : goal.returns-then-at-code
returns-then-at-code g c =
    let code : List ℕ = c.args.code.now in
    let so_far = c.loop.invariant in
    let whole : so_far.text ≡ code_from (length code) code 0 =
    sym (append-nil so_far.text)
    ∙ ap (λ (l : List ℕ). so_far.text ++ l)
    (sym (code_end (length code - c.loop.counter) code c.loop.at (omega arith)))
    ∙ so_far.goes_on in
    subst (λ (l : List ℕ). Gathers (g.O.Sink.seen c.args.out.now) (g.O.Sink.seen c.loop.out)
    (state c.args.held.now)
    (state c.loop.held) l) whole so_far.puts

pub returns-in-None : goal.returns-in-None
returns-in-None g c =
    let code : List ℕ = c.args.code.now in
    let so_far = c.loop.invariant in
    let left : ℕ = length code - (c.loop.counter + 1) in
    let turns : length code - c.loop.counter ≡ suc left = omega arith in
    let within : c.loop.at < length code = omega arith in
    let rest : code_from (length code - c.loop.counter) code c.loop.at ≡ byte_lines code c.loop.at =
    ap (λ (k : ℕ). code_from k code c.loop.at) turns
    ∙ code_step left code c.loop.at None within (sym c.in-None.ensures) in
    subst (λ (l : List ℕ).
    Gathers (g.O.Sink.seen c.args.out.now) (g.O.Sink.seen c.put_bytes.new.out)
    (state c.args.held.now)
    (state c.put_bytes.new.held) l)
    (ap (λ (l : List ℕ). so_far.text ++ l) (sym rest) ∙ so_far.goes_on)
    (gathers_then (g.O.Sink.seen c.args.out.now) (g.O.Sink.seen c.loop.out)
    (g.O.Sink.seen c.put_bytes.new.out) (state c.args.held.now)
    (state c.loop.held) (state c.put_bytes.new.held) so_far.text
    (byte_lines code c.loop.at) so_far.puts c.put_bytes.ensures)

pub loop-preserved : goal.loop-preserved
loop-preserved g c =
    let code : List ℕ = c.args.code.now in
    let so_far = c.loop.invariant in
    let left : ℕ = length code - (c.loop.counter + 1) in
    let turns : length code - c.loop.counter ≡ suc left = omega arith in
    let within : c.loop.at < length code = omega arith in
    let line : List ℕ = instr_line c.loop.at c.in-Some.row c.in-Some.instr in
    let rest : code_from (length code - c.loop.counter) code c.loop.at
    ≡ line ++ code_from left code c.in-Some.instr.next =
    ap (λ (k : ℕ). code_from k code c.loop.at) turns ∙ code_step left code c.loop.at
    (Some (c.in-Some.row, c.in-Some.instr)) within (sym c.in-Some.ensures) in
    record {
      text = so_far.text ++ line;
      puts =
          gathers_then (g.O.Sink.seen c.args.out.now) (g.O.Sink.seen c.loop.out)
          (g.O.Sink.seen c.put_instr_line.new.out)
          (state c.args.held.now) (state c.loop.held)
          (state c.put_instr_line.new.held) so_far.text line so_far.puts c.put_instr_line.ensures;
      goes_on =
          append_assoc so_far.text line (code_from left code c.in-Some.instr.next)
          ∙ ap (λ (l : List ℕ). so_far.text ++ l) (sym rest) ∙ so_far.goes_on;
    }

pub returns : goal.returns
returns g c =
    let code : List ℕ = c.args.code.now in
    let so_far = c.loop.invariant in
    let turns : length code - c.loop.counter ≡ 0 = omega arith in
    let whole : so_far.text ≡ code_from (length code) code 0 =
    sym (append-nil so_far.text)
    ∙ ap (λ (l : List ℕ). so_far.text ++ l)
    (sym (ap (λ (k : ℕ). code_from k code c.loop.at) turns ∙ code_none code c.loop.at))
    ∙ so_far.goes_on in
    subst (λ (l : List ℕ). Gathers (g.O.Sink.seen c.args.out.now) (g.O.Sink.seen c.loop.out)
    (state c.args.held.now)
    (state c.loop.held) l) whole so_far.puts
