use Rattle.std.proofs.Common.{◌≡◌, List, ℕ, length, take, drop, Some, ap, ◌∙◌, arith}
use Rattle.std.proofs.lemmas.Grind.{common_steps}
use Rattle.std.specs.Str.{chars}
use Rattle.wap_libs.proofs.TextsLemmas.Occurs.{Lacks-chars, IsFirst-chars, place_of-Lacks}
use Rattle.wap_libs.proofs.TextsLemmas.Occurs.{place_of-first, some_bytes}
use Rattle.wap_libs.proofs.texts.occurrences.place_of.Goals as goal

pub returns-in-Some : goal.returns-in-Some
returns-in-Some c =
    let s = c.args.text.now in
    let p = c.args.part.now in
    let at = c.in-Some.at in
    let j = c.in-Some.ensures.cases.0 in
    let before : c.range.result.now ≡ take at s =
    grind (arith, common_steps, c.range.ensures.value) in
    ap (λ n. Some n) (c.count.ensures ∙ ap (λ (t : List ℕ). length (chars t)) before)
    ∙ place_of-first (chars p) (chars s) (chars (take at s)) (chars (drop j s)) c.requires
    (IsFirst-chars s p at j c.utf8.text c.utf8.part
    (some_bytes p c.utf8.part c.requires) c.in-Some.ensures.cases.1)

pub returns-in-None : goal.returns-in-None
returns-in-None c =
    place_of-Lacks (chars c.args.part.now) (chars c.args.text.now)
    (Lacks-chars c.args.text.now c.args.part.now c.utf8.text c.utf8.part c.in-None.ensures.cases)
