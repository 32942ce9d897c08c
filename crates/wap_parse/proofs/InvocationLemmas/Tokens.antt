-- What the tokens of a fragment say of its call.
use Rattle.std.proofs.Common.{◌≡◌, ◌≢◌, ℕ, List, length, None, Result, Ok, Err}
use Rattle.std.proofs.Common.{refl, sym, ap, ◌∙◌, arith, encode_utf8_all}
use Rattle.std.specs.Str.{IsUtf8}
use Rattle.wap_lex.specs.declared.token.Token.{Token}
use Rattle.wap_lex.specs.declared.fault.LexFault.{LexFault}
use Rattle.wap_lex.specs.declared.fault.LexFault.TheVariants as fault
use Rattle.wap_lex.specs.Tokens.{AreTokens}
use Rattle.wap_lex.specs.Calculation.{pieces_at}
use Rattle.wap_lex.proofs.Sources.{read_ok, read_again}
use Rattle.wap_parse.specs.invocation.Calculation.{spelled_by, call_of}

-- the call is that of the tokens
pub by_tokens : (fragment src : List ℕ) (tokens : List Token) → src ≡ encode_utf8_all fragment →
    AreTokens src tokens → spelled_by src (Ok tokens) ≡ call_of fragment
unfolding call_of
by_tokens fragment src tokens is are =
    ap (spelled_by src) (sym (read_again 0 src tokens are.lexed (length src) (omega arith)))
    ∙ ap (λ (bytes : List ℕ). spelled_by bytes (pieces_at (length bytes) 0 bytes)) is

-- without tokens nothing is spelled
unread : (src : List ℕ) (f : LexFault) (r : Result (List Token) LexFault) → IsUtf8 src →
    f ≢ fault.NoMemory →
    ((tokens : List Token) → AreTokens src tokens → f ≢ fault.NoMemory → ◌≡◌ {A = Result
    (List Token) LexFault} (Ok tokens) (Err f)) →
    pieces_at (length src) 0 src ≡ r → None ≡ spelled_by src r
unread src f (Ok tokens) text known only read =
    let are : AreTokens src tokens = record {
      text = text;
      lexed = read_ok (length src) 0 src tokens (omega arith) read;
    } in
    let e = only tokens are known in
    absurd cc
unread src f (Err g) text known only read = refl

-- without tokens there is no call
pub no_tokens : (fragment src : List ℕ) (f : LexFault) → src ≡ encode_utf8_all fragment →
    IsUtf8 src → f ≢ fault.NoMemory →
    ((tokens : List Token) → AreTokens src tokens → f ≢ fault.NoMemory → ◌≡◌ {A = Result
    (List Token) LexFault} (Ok tokens) (Err f)) →
    None ≡ call_of fragment
unfolding call_of
no_tokens fragment src f is text known only =
    unread src f (pieces_at (length src) 0 src) text known only refl
    ∙ ap (λ (bytes : List ℕ). spelled_by bytes (pieces_at (length bytes) 0 bytes)) is
