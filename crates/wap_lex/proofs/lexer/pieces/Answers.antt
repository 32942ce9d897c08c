use Rattle.std.proofs.Common.{◌≡◌, ◌+◌, ◌-◌, ℕ, List, [], ◌++◌, Option, Ok, length, take}
use Rattle.std.proofs.Common.{ap, ◌∙◌, sym, inl, inr, arith, length-drop}
use Rattle.std.proofs.lemmas.Result.{err_from_is_err_and}
use Rattle.std.proofs.lemmas.List.{nil_from_length}
use Rattle.std.proofs.lemmas.Bool.{eqb-true}
use Rattle.wap_lex.specs.declared.token.Kind.{Kind}
use Rattle.wap_lex.specs.declared.token.Token.{Token}
use Rattle.wap_lex.specs.Tokens.{kind_of, token_before}
use Rattle.wap_lex.specs.Calculation.{pieces_at}
use Rattle.wap_lex.proofs.Loops.{with_front, nothing_before, some_left}
use Rattle.wap_lex.proofs.Loops.{pieces_more, pieces_fault, pieces_end}
use Rattle.wap_lex.proofs.lexer.pieces.Goals as goal

pub loop-init : goal.loop-init
loop-init c =
    let src = c.args.src.now in
    let all : length src - 0 ≡ length src = omega arith in
    let front : length src - length src ≡ 0 = omega arith in
    record {
      passed =
          ap (λ (tokens : List Token).
          with_front tokens (pieces_at (length src - 0) (length src - length src) src))
          c.new-tokens.ensures
          ∙ nothing_before (pieces_at (length src - 0) (length src - length src) src)
          ∙ ap (λ (n : ℕ). pieces_at n (length src - length src) src) all
          ∙ ap (λ (n : ℕ). pieces_at (length src) n src) front;
      within = omega arith;
    }

pub loop-preserved : goal.loop-preserved
loop-preserved c =
    let src = c.args.src.now in
    let rest = c.loop.rest.now in
    let at : ℕ = length src - length rest in
    let shape = c.in_ok-shape.shape in
    let len = c.in_ok-shape.len in
    let turns : ℕ = length src - (c.loop.counter + 1) in
    let behind = c.split_at.result.1.now in
    let step =
    pieces_more (length src) c.loop.counter at rest c.loop.tokens (shape, len) c.loop-test.true
    (some_left rest c.is_empty.result c.is_empty.ensures c.if-is_empty.false)
    c.in_ok-shape.ensures.piece in
    let kind = c.kind_of.ensures ∙ ap (kind_of shape) c.split_at.ensures.front in
    let tokens =
    c.in_ok-add_token.ensures.ok
    ∙ ap (λ (k : Option Kind). c.loop.tokens ++ token_before k at (at + len) []) kind in
    let left = ap length c.split_at.ensures.back ∙ length-drop len rest in
    let place : length src - length behind ≡ at + len =
    omega (arith, left, c.loop.invariant.within, c.in_ok-shape.ensures.within) in
    record {
      passed =
          ap (λ (ts : List Token).
          with_front ts (pieces_at turns (length src - length behind) behind)) tokens
          ∙ ap (λ (n : ℕ). with_front (c.loop.tokens ++ token_before (kind_of shape (take len rest))
          at (at + len) []) (pieces_at turns n behind)) place
          ∙ ap (λ (l : List ℕ). with_front (c.loop.tokens ++ token_before (kind_of shape
          (take len rest)) at (at + len) []) (pieces_at turns (at + len) l)) c.split_at.ensures.back
          ∙ sym step
          ∙ c.loop.invariant.passed;
      within = omega (arith, left, c.loop.invariant.within);
    }

pub returns-in_err-shape : goal.returns-in_err-shape
returns-in_err-shape c =
    let p = err_from_is_err_and c.from_residual.result c.from_residual.ensures.1 in
    let src = c.args.src.now in
    let rest = c.loop.rest.now in
    rw (p.1, p.2) (λ told. sym c.loop.invariant.passed
    ∙ pieces_fault (length src) c.loop.counter (length src - length rest)
    rest c.loop.tokens c.in_err-shape.field-0.0 c.loop-test.true (some_left rest c.is_empty.result
    c.is_empty.ensures c.if-is_empty.false) (c.in_err-shape.ensures.piece told))

pub returns-then-is_empty : goal.returns-then-is_empty
returns-then-is_empty c =
    let rest = c.loop.rest.now in
    let none =
    nil_from_length rest (eqb-true (length rest) 0 (sym c.is_empty.ensures ∙ c.if-is_empty.true)) in
    sym c.loop.invariant.passed
    ∙ pieces_end (length c.args.src.now - c.loop.counter)
    (length c.args.src.now - length rest) rest c.loop.tokens (inl none)
    ∙ ap (λ (tokens : List Token). Ok tokens) (sym c.into_vec.ensures)

pub returns : goal.returns
returns c =
    let none : length c.args.src.now - c.loop.counter ≡ 0 = omega arith in
    sym c.loop.invariant.passed
    ∙ pieces_end (length c.args.src.now - c.loop.counter)
    (length c.args.src.now - length c.loop.rest.now) c.loop.rest.now c.loop.tokens (inr none)
    ∙ ap (λ (tokens : List Token). Ok tokens) (sym c.into_vec-2.ensures)
