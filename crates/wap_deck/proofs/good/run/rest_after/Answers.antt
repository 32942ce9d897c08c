use Rattle.std.proofs.Common.{sym, subst, List, ℕ}
use Rattle.std.specs.Str.{chars}
use Rattle.std.proofs.lemmas.Bool.Decides.{Decides-eqb}
use Rattle.std.proofs.lemmas.Slice.Eq.{strip_prefix_is}
use Rattle.wap_base.specs.declared.name.Part.TheVariants.{Lit}
use Rattle.wap_deck.specs.declared.good.bits.Bit.{Bit}
use Rattle.wap_deck.specs.good.Runs.{part_of, TakesPart}
use Rattle.wap_deck.proofs.GoodLemmas.Compared.{slice_taken}
use Rattle.wap_deck.proofs.good.run.rest_after.Goals as goal

pub returns-in-Slice : goal.returns-in-Slice
returns-in-Slice c =
    let bytes = c.as_bytes.result.now in
    let cases =
    strip_prefix_is Decides-eqb c.args.text.now bytes c.strip_prefix.result
    c.strip_prefix.ensures.cases in
    let taken =
    slice_taken bytes c.args.text.now c.strip_prefix.result c.as_bytes.ensures.utf8 cases in
    subst (λ (bit : Bit). TakesPart (part_of bit) c.args.text.now c.strip_prefix.result)
    (sym c.in-Slice.is)
    (subst (λ (l : List ℕ). TakesPart (Lit (chars l)) c.args.text.now c.strip_prefix.result)
    c.as_bytes.ensures.value taken)
