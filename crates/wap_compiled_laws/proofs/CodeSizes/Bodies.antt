-- The code of a function of a program has room for its operands, and costs what the wide size says
-- but for what it saves.
use Rattle.std.proofs.Common.{◌≡◌, ℕ, ◌<◌, Bool, true, false, List, length, Some}
use Rattle.std.proofs.Common.{refl, ap, arith, map, option_map, slice_get}
use Rattle.std.specs.List.{AllByRecursion, flat_map, sum_by}
use Rattle.std.proofs.lemmas.List.{length-map}
use Rattle.wap_unit.specs.declared.row.OpName.TheVariants as op
use Rattle.wap_unit.specs.declared.unit.Code.{Code}
use Rattle.wap_unit.specs.declared.row.OpName.{OpName}
use Rattle.wap_unit.specs.declared.row.Operands.TheVariants as operands
use Rattle.wap_unit.specs.Strings.{string_at, string_of}
use Rattle.wap_asm.specs.Spellings.{operation_of, longest}
use Rattle.wap_asm.specs.Placing.{wide_size}
use Rattle.wap_grammar.specs.declared.program.statement.Stmt.{Stmt}
use Rattle.wap_scope.specs.Names.{mentions}
use Rattle.wap_meaning.specs.coding.Coded.{all_code, instr, plain}
use Rattle.wap_meaning.specs.coding.Needs.{AreMet, stmt_needs}
use Rattle.wap_meaning.specs.coding.Statements.{stmt_code}
use Rattle.wap_meaning.specs.compiled.Wide.{stmt_wide}
use Rattle.wap_meaning.specs.compiled.Savings.{stmt_saves}
use Rattle.wap_compiled_laws.proofs.Depths.Flow.{Flow}
use Rattle.wap_compiled_laws.proofs.Labels.Ranges.{kind_of, then_within, mapped_within}
use Rattle.wap_compiled_laws.proofs.CodeSizes.Costs.{has_room, Costs, costs_both, costs_same}
use Rattle.wap_compiled_laws.proofs.CodeSizes.Costs.{costs_op, costs_empty, costs_test, byte_fits}
use Rattle.wap_compiled_laws.proofs.CodeSizes.Costs.{word_fits, library_fits, address_fits}
use Rattle.wap_compiled_laws.proofs.CodeSizes.Libraries.{numbers_fit}
use Rattle.wap_compiled_laws.proofs.CodeSizes.Needs.{Codable, meets}
use Rattle.wap_compiled_laws.proofs.CodeSizes.Pieces.{costs_exit, costs_either, costs_branch}
use Rattle.wap_compiled_laws.proofs.CodeSizes.Pieces.{costs_short, costs_loop}
use Rattle.wap_compiled_laws.proofs.CodeSizes.Places.{Place, numbers, Given}
use Rattle.wap_compiled_laws.proofs.Induction.Pieces.{Facts, Property, HasFacts, names_is}
use Rattle.wap_compiled_laws.proofs.Induction.Pieces.{OfPieces, Saves}
use Rattle.wap_compiled_laws.proofs.Induction.Statements.{of_body}
use Rattle.std.proofs.lemmas.Grind.{common_steps}

-- an operation on a variable has room for one of few
variable_fits : (name : OpName) (a : ℕ) → kind_of name ≡ operands.Variable → a < 256
    → has_room (instr name a 0 0) ≡ true
unfolding operation_of longest
variable_fits op.LoadVar a is less = byte_fits less
variable_fits op.StoreVar a is less = byte_fits less
variable_fits op.IncrVar a is less = byte_fits less
variable_fits op.DecrVar a is less = byte_fits less
variable_fits op.AddAsg a is less = byte_fits less
variable_fits op.SubAsg a is less = byte_fits less
variable_fits _ a is less = absurd (cc is)

module _ (here : Place) where
  -- there are few constants
  constant_less : (a : ℕ) → a < length here.unit.constants → a < 65536
  constant_less a there = grind (arith, common_steps, length-map)

  -- so a text has a low number
  text_less : {a : ℕ} {text : List ℕ} → string_at here.unit a ≡ Some text → a < 65536
  text_less {a} is =
      constant_less a (then_within (string_of here.unit.charset) here.unit.constants is)

  -- and few functions
  function_less : (a count : ℕ)
      → option_map (λ (code : Code). code.args) (slice_get here.unit.functions a) ≡ Some count
      → a < 256
  function_less a count is = grind (arith, common_steps, mapped_within)

  -- an operation without operands
  plain_costs : {inside : Bool} {name : OpName} {flow : Flow}
      → HasFacts here.unit (instr name 0 0 0) operands.Plain flow 1 → Costs inside (plain name) 1
  plain_costs {inside} has =
      costs_op inside (ap (λ (f : Facts). f.roomy) has) (ap (λ (f : Facts). f.size) has)

  -- a piece costs so many bytes, whatever its operands
  abbrev pub DoesCost : Property
  DoesCost inside coded from to size = Costs inside coded size

  -- the pieces of code cost what is told of them, where what is said can be coded
  costs : OfPieces here.unit (length (numbers here).names.variables) (Codable here) DoesCost
  unfolding wide_size operation_of longest
  costs = record {
    none = λ {inside}. costs_empty inside;
    plain_op = λ name x has. plain_costs has;
    leaving = λ name x has. plain_costs has;
    variable_op = λ {inside} name a x has there.
        costs_op inside (variable_fits name a (names_is here.unit (instr name a 0 0) has)
        (omega (arith, there, here.few_variables))) (ap (λ (f : Facts). f.size) has);
    constant_op = λ {inside} a there. costs_op inside (word_fits a (constant_less a there)) refl;
    local_op = λ {inside} a x is. costs_op inside (byte_fits (function_less a _ is)) refl;
    other_op = λ {inside} a b x one two said.
        costs_op inside (address_fits (text_less one) (text_less two) (omega (arith, said.1))) refl;
    library_op = λ {inside} a b x is.
        let fits = numbers_fit is in
        costs_op inside (library_fits a b fits.1 fits.0) refl;
    both = λ {inside}. costs_both inside;
    either = λ {inside}. costs_either inside;
    branch = λ {inside}. costs_branch inside _ _;
    short_circuit = λ {inside} name has. costs_short inside (plain_costs has);
    endless = λ {inside}. costs_loop inside (λ over. costs_empty inside);
    loop = λ {inside} tests bodies updates.
        costs_same inside (omega arith) (costs_loop inside (λ over. costs_both inside tests
        (costs_test inside over)) bodies updates);
    break_out = λ {inside} is. costs_exit inside (λ labels. labels.0) is;
    next_turn = λ {inside} is. costs_exit inside (λ labels. labels.1) is;
  }

  -- where what a function says can be coded and its constants are there, what its statements need
  -- is met, and they cost what the wide size says but for what they save
  pub body_good : (ss : List Stmt)
      → AllByRecursion (Codable here) (flat_map (λ (s : Stmt). mentions s false) ss)
      → AllByRecursion (Given here) (flat_map stmt_needs ss)
      → AreMet here.unit (numbers here) (flat_map stmt_needs ss)
      × Saves DoesCost false (all_code (map (stmt_code (numbers here)) ss)) (sum_by stmt_saves ss)
      (sum_by stmt_wide ss)
  body_good ss said given =
      let good = of_body (record {
        unit = here.unit;
        numbers = numbers here;
        Needed = Given here;
        Said = Codable here;
        own = λ v said. said;
        meets = meets here;
        P = DoesCost;
        pieces = costs;
      }) ss given said in (good.0.met, good.1)
