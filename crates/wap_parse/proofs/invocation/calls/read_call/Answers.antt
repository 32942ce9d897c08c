use Rattle.std.proofs.Common.{◌≡◌, ◌≢◌, List, None, Ok, ap, ◌∙◌, encode_utf8_all}
use Rattle.std.proofs.lemmas.Result.{IfOk-weaker}
use Rattle.wap_lex.specs.declared.token.Token.{Token}
use Rattle.wap_lex.specs.declared.fault.LexFault.TheVariants as faults
use Rattle.wap_parse.specs.invocation.Calculation.{spelled_by, call_of}
use Rattle.wap_parse.proofs.InvocationLemmas.Tokens.{by_tokens, no_tokens}
use Rattle.wap_parse.proofs.invocation.calls.read_call.Goals as goal

pub returns-in-Ok : goal.returns-in-Ok
returns-in-Ok c =
    let src = c.as_bytes-src.result.now in
    let fragment = c.args.fragment.now in
    let is : src ≡ encode_utf8_all fragment = cc in
    let same : c.deref.result.now ≡ c.in-Ok.tokens.items = cc in
    IfOk-weaker c.spelled_by.result (λ found. found ≡ spelled_by src (Ok c.deref.result.now))
    (λ found. found ≡ call_of fragment)
    (λ found h. h ∙ (ap (λ (tokens : List Token). spelled_by src (Ok tokens)) same
    ∙ by_tokens fragment src c.in-Ok.tokens.items is c.in-Ok.ensures.found))
    c.spelled_by.ensures

pub returns-in-Err : goal.returns-in-Err
returns-in-Err c =
    let src = c.as_bytes-src.result.now in
    let fragment = c.args.fragment.now in
    let is : src ≡ encode_utf8_all fragment = cc in
    IfOk-weaker c.no_call.result
    (λ found. (found ≡ None) × (c.in-Err.fault ≢ faults.NoMemory))
    (λ found. found ≡ call_of fragment)
    (λ found h. h.0 ∙ no_tokens fragment src c.in-Err.fault is c.as_bytes-src.ensures.utf8 h.1
    c.in-Err.ensures.only)
    c.no_call.ensures
