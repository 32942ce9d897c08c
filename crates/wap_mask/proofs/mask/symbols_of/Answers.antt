use Rattle.std.proofs.Common.{List, ◌++◌, sym, ap, ◌∙◌, rules}
use Rattle.std.specs.Prelude.{option_map}
use Rattle.std.specs.Str.{chars}
use Rattle.wap_mask.specs.declared.symbol.Symbol.{Symbol}
use Rattle.wap_mask.specs.Calculation.{symbols_of}
use Rattle.wap_mask.proofs.SymbolLaws.{symbols_of-push}
use Rattle.wap_mask.proofs.mask.symbols_of.Goals as goal

pub loop-symbol-preserved : goal.loop-symbol-preserved
loop-symbol-preserved c = (
  search rules,
  ap (λ (symbols : List Symbol).
      option_map (λ more. symbols ++ more) (symbols_of (chars c.in-Some.behind.now)))
      c.in_ok-add.ensures.ok
      ∙ symbols_of-push c.loop-symbol.symbols (chars c.loop-symbol.rest.now)
      (chars c.in-Some.behind.now) c.in-Some.symbol (symbols_of (chars c.args.text.now))
      (sym c.in-Some.ensures) (sym c.if-is_misplaced.ensures) c.loop-symbol.invariant.1,
)
