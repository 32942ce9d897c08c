-- Calls are read as they are spelled, and a fragment is one at most.
use Rattle.std.proofs.Common.{◌≡◌, ℕ, List, [], ◌∷◌, length, Some, None, Result, Ok, Err, refl, sym}
use Rattle.std.proofs.Common.{ap, subst, ◌∙◌, inl, inr, arith, encode_utf8_all}
use Rattle.std.specs.Result.{result_ok}
use Rattle.wap_base.specs.Outcome.{◌>>=◌}
use Rattle.wap_base.proofs.Choices.{chosen, bind_ok, ok_same, some_same}
use Rattle.wap_value.specs.declared.value.Value.{Value}
use Rattle.wap_grammar.specs.declared.program.program.Id.{Id}
use Rattle.wap_lex.specs.declared.token.Token.{Token}
use Rattle.wap_lex.specs.declared.fault.LexFault.{LexFault}
use Rattle.wap_lex.specs.Calculation.{pieces_at}
use Rattle.wap_lex.proofs.Sources.{read_ok, read_again}
use Rattle.wap_grammar.specs.declared.lexeme.Lexeme.{Lexeme}
use Rattle.wap_grammar.specs.declared.word.Sign.TheVariants as signs
use Rattle.wap_grammar.specs.Lexemes.{lexemes_of}
use Rattle.wap_grammar.specs.Values.{id_of}
use Rattle.wap_grammar.specs.Spellings.{name, sign}
use Rattle.wap_grammar.specs.reading.TokenReading.{Reading, span_of, expect_at, id_at}
use Rattle.wap_grammar.proofs.Firsts.{expect_ok, id_ok}
use Rattle.wap_parse.specs.declared.invocation.invocation.Invocation.{Invocation}
use Rattle.wap_parse.specs.invocation.Calls.{AreArguments, SpellsCall, call, is_spaced, IsCall}
use Rattle.wap_parse.specs.invocation.Calculation.{arguments_at, ended, call_at, spelled_by}
use Rattle.wap_parse.specs.invocation.Calculation.{call_of}
use Rattle.wap_parse.proofs.InvocationLemmas.ArgumentReading.{reads_closed}

-- ---- tokens

-- the call of a name and arguments
abbrev made : List ℕ → List Value → Invocation
made f vs = record { function = f; arguments = vs }

-- a call ends where no tokens are left
ended_ok : (src : List ℕ) (f : Id) (vs : List Value) (b : List Lexeme) (c : Invocation) →
    ended src f (vs, b) ≡ Ok c → (b ≡ []) × (made f.name vs ≡ c)
ended_ok src f vs [] c e = (refl, ok_same (made f.name vs) c e)
ended_ok src f vs (first ∷ rest) c e = absurd cc

-- a call that is read from tokens is spelled by them
pub call_ok : (src : List ℕ) (a : List Lexeme) (c : Invocation) → call_at src a ≡ Ok c →
    SpellsCall src a c
unfolding call_at
call_ok src a c e =
    let first = bind_ok (id_at src a)
    (λ f. expect_at src signs.Open f.1 >>= λ rest. arguments_at src rest >>= ended src f.0) c e in
    let f = first.0.0 in
    let id = id_ok src a f first.0.1 first.1 in
    let opened = bind_ok (expect_at src signs.Open first.0.1)
    (λ rest. arguments_at src rest >>= ended src f) c first.2 in
    let left = expect_ok src signs.Open first.0.1 opened.0 opened.1 in
    let values = bind_ok (arguments_at src opened.0) (ended src f) c opened.2 in
    let end = ended_ok src f values.0.0 values.0.1 c values.2 in
    let are : AreArguments src opened.0 values.0.0 [] =
    subst (AreArguments src opened.0 values.0.0) end.0
    ((reads_closed src).takes opened.0 values.0.0 values.0.1 values.1) in
    let whole : a ≡ name (span_of a) ∷ sign signs.Open (span_of first.0.1) ∷ opened.0 =
    id.0 ∙ ap (λ (x : List Lexeme). name (span_of a) ∷ x) left in
    let same : made (id_of src (span_of a)).name values.0.0 ≡ c =
    ap (λ (g : Id). made g.name values.0.0) (sym id.1) ∙ end.1 in
    subst (λ (x : List Lexeme). SpellsCall src x c) (sym whole)
    (subst (SpellsCall src (name (span_of a) ∷ sign signs.Open (span_of first.0.1) ∷ opened.0)) same
    (call (span_of a) (span_of first.0.1) opened.0 values.0.0 are))

-- one that is spelled is read
pub call_again : (src : List ℕ) (a : List Lexeme) (c : Invocation) → SpellsCall src a c →
    call_at src a ≡ Ok c
unfolding call_at id_at expect_at
call_again src a c (call f left x vs are) =
    ap (λ (r : Reading (List Value)). r >>= ended src (id_of src f))
    ((reads_closed src).again x vs [] are tt)

-- ---- fragments

-- what is answered as a value was one
ok_is : {A E : Type 0} (r : Result A E) (x : A) → result_ok r ≡ Some x → r ≡ Ok x
ok_is (Ok y) x e = ap (λ z. Ok z) (some_same y x e)
ok_is (Err f) x e = absurd cc

-- a call that is read is the fragment's, by its tokens
by_tokens : (fragment : List ℕ) (c : Invocation) (r : Result (List Token) LexFault) →
    pieces_at (length (encode_utf8_all fragment)) 0 (encode_utf8_all fragment) ≡ r →
    spelled_by (encode_utf8_all fragment) r ≡ Some c → IsCall fragment c
by_tokens fragment c (Ok tokens) read e =
    let src = encode_utf8_all fragment in
    elim (chosen (is_spaced src 0 tokens) (result_ok (call_at src (lexemes_of src tokens))) None
    (Some c) e) [
      | inl so ↦ record {
        tokens = tokens;
        lexed = read_ok (length src) 0 src tokens (omega arith) read;
        spaced = so.0;
        spelled = call_ok src (lexemes_of src tokens) c
            (ok_is (call_at src (lexemes_of src tokens)) c so.1);
      }
      | inr so ↦ absurd cc
    ]
by_tokens fragment c (Err fault) read e = absurd cc

-- a call that is read is the fragment's
pub is_call : (fragment : List ℕ) (c : Invocation) → call_of fragment ≡ Some c → IsCall fragment c
unfolding call_of
is_call fragment c e =
    let src = encode_utf8_all fragment in
    by_tokens fragment c (pieces_at (length src) 0 src) refl e

-- the fragment's call is read
pub is_read : (fragment : List ℕ) (c : Invocation) → IsCall fragment c → call_of fragment ≡ Some c
unfolding call_of
is_read fragment c is =
    let src = encode_utf8_all fragment in
    ap (spelled_by src) (read_again 0 src is.tokens is.lexed (length src) (omega arith))
    ∙ rw is.spaced (ap result_ok (call_again src (lexemes_of src is.tokens) c is.spelled))

-- a fragment is no two calls
pub one_call : (fragment : List ℕ) (c d : Invocation) → IsCall fragment c → IsCall fragment d →
    c ≡ d
one_call fragment c d these those =
    some_same c d (sym (is_read fragment c these) ∙ is_read fragment d those)
