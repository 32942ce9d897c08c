-- A function of a program, its unit and the constants of the unit.
use Rattle.std.proofs.Common.{◌≡◌, ℕ, ◌≤◌, ◌<◌, true, List, length, slice_get}
use Rattle.std.specs.Option.{option_map}
use Rattle.wap_value.specs.Binary.{TakesBoth}
use Rattle.wap_unit.specs.declared.unit.Unit.{Unit as CodeUnit}
use Rattle.wap_unit.specs.declared.unit.Code.{Code}
use Rattle.wap_grammar.specs.declared.program.program.Function.{Function}
use Rattle.wap_grammar.specs.declared.program.program.Program.{Program}
use Rattle.wap_grammar.specs.declared.program.expression.Literal.{Literal}
use Rattle.wap_grammar.specs.declared.program.expression.Literal.TheVariants as literal
use Rattle.wap_scope.specs.Names.{Reference}
use Rattle.wap_scope.specs.accepted.Known.{variables, IsKnown}
use Rattle.wap_meaning.specs.Names.{url_of}
use Rattle.wap_meaning.specs.coding.Constants.{Numbers, HasPool, is_in}
use Rattle.wap_meaning.specs.coding.Compiled.{numbers_in}
use Rattle.wap_meaning.specs.coding.Needs.{Need, Constant, Operator, Other}
use Rattle.wap_compiled_laws.proofs.BodiesLemmas.Pooled.{InPool}

-- a function of a program, its unit and the constants of the unit
pub record Place : Type 0 where
  pub program : Program
  pub function : Function
  pub unit : CodeUnit
  pub pool : List Literal
  pub has : HasPool unit pool
  pub arities : (i : ℕ) → option_map (λ (code : Code). code.args) (slice_get unit.functions i)
      ≡ option_map (λ (f : Function). length f.params) (slice_get program.functions i)
  pub few_constants : length pool ≤ 65536
  pub few_functions : length program.functions < 256
  pub few_variables : length (variables function) < 256

module _ (here : Place) where
  -- what its names mean, and the numbers of its constants
  abbrev pub numbers : Numbers
  numbers = numbers_in here.program here.pool here.function

  -- what it names is known
  abbrev pub Known : Reference → Type 0
  Known = IsKnown here.program here.function

  -- the constants have what a need needs, and an assignment has a fitting operator
  abbrev pub Given : Need → Type 0
  Given (Constant l) = InPool here.pool l
  Given (Operator o) = TakesBoth o
  Given (Other u f) =
      (is_in (literal.Str (url_of u.name numbers.names.urls)) here.pool ≡ true)
      × (is_in (literal.Str f.name) here.pool ≡ true)
  Given _ = Unit {0}
