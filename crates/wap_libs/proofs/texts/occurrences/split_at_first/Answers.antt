use Rattle.std.proofs.Common.{◌≡◌, ◌<◌, ℕ, List, [], ◌∷◌, None, MatchOption, subst, ap, ◌∙◌, arith}
use Rattle.std.specs.Str.Pattern.{FindsText, SplitsAroundMatch}
use Rattle.wap_libs.proofs.TextsLemmas.Occurs.{one_byte, split_text}
use Rattle.wap_libs.proofs.texts.occurrences.split_at_first.Goals as goal

pub returns-in-len1 : goal.returns-in-len1
returns-in-len1 c =
    let s : List ℕ = c.args.text.now in
    let byte : ℕ = c.from.result in
    let low : byte < 128 = omega (arith, c.from.ensures, c.if-byte-lt128.true) in
    let part : byte ∷ [] ≡ c.args.part.now =
    ap (λ (b : ℕ). b ∷ []) c.from.ensures
    ∙ one_byte c.as_bytes.result.now c.in-len1.len_at_least c.in-len1.len_below
    ∙ c.as_bytes.ensures.value in
    subst (λ (p : List ℕ). MatchOption c.split_once.result (FindsText p s None)
    (λ split. SplitsAroundMatch (FindsText p) s split.0.now split.1.now)) part
    (split_text byte s c.split_once.result low c.split_once.ensures.cases)
