use Rattle.std.proofs.Common.{◌≡◌, ap, ◌∙◌, ◌++◌, List, ℕ, OnOk, decimal, subst, arith}
use Rattle.std.specs.Str.{chars}
use Rattle.std.proofs.lemmas.Str.{chars-IsAscii}
use Rattle.std.proofs.lemmas.Fmt.{IsAscii-decimal}
use Rattle.wap_base.proofs.text.Text.add_number.Goals as goal

pub returns-clause-ok : goal.returns-clause-ok
returns-clause-ok c =
    let number = c.args.number in
    let same : chars c.format.result.now ≡ decimal number =
    ap chars c.format.ensures.text ∙ chars-IsAscii (decimal number)
    (IsAscii-decimal number (omega (arith, c.ranges.number.fits))) in
    let Adds : List ℕ → Type 0 =
    λ digits. OnOk c.add.result (c.add.new.self ≡ c.args.self.now ++ digits) in
    subst Adds same c.add.ensures.ok
