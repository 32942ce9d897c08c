-- What the code of a function is made from.
use Rattle.std.proofs.Common.{◌≡◌, ℕ, ◌+◌, ◌*◌, ◌≤◌, List, length, map, sym, ap, ◌∙◌, subst, None}
use Rattle.std.proofs.lemmas.List.{length-append, length-map}
use Rattle.wap_asm.specs.declared.form.Form.{Form}
use Rattle.wap_asm.specs.Placing.{wide, placed}
use Rattle.wap_unit.specs.declared.unit.Code.{Code}
use Rattle.wap_grammar.specs.declared.program.program.Id.{Id}
use Rattle.wap_grammar.specs.declared.program.program.Function.{Function}
use Rattle.wap_grammar.specs.declared.program.program.Program.{Program}
use Rattle.wap_scope.specs.accepted.Known.{variables}
use Rattle.wap_scope.proofs.AcceptedLemmas.Known.{parameters_first}
use Rattle.wap_meaning.specs.Names.{locals}
use Rattle.wap_meaning.specs.coding.Constants.{Numbers}
use Rattle.wap_meaning.specs.coding.Compiled.{function_code, numbers_in}
use Rattle.wap_grammar.specs.declared.program.expression.Literal.{Literal}
use Rattle.wap_meaning.specs.compiled.Pool.{pool}
use Rattle.wap_meaning.specs.compiled.Units.{forms_of, compiled_function}
use Rattle.wap_meaning.specs.compiled.Wide.{function_wide}
use Rattle.wap_codegen.specs.declared.fault.CompileFault.{CompileFault}
use Rattle.wap_codegen.specs.declared.fault.CompileFault.TheVariants.{NoMemory, CodeTooLong}
use Rattle.wap_meaning.specs.compiled.Savings.{saved, function_saves}
use Rattle.wap_meaning.specs.compiled.Accepted.{most_code}
use Rattle.wap_compiled_laws.specs.Laws.{HasForms}
use Rattle.wap_codegen.specs.inside.Units.{AreNumbersOf, IsFormsCause, IsFunctionCause}

-- numbers by their parts
abbrev by_parts : List (List ℕ) → List (List ℕ) → List (List ℕ × List ℕ) → List Literal → Numbers
by_parts names functions urls pool = record {
  names = record { variables = names; functions = functions; urls = urls };
  pool = pool;
}

-- the numbers in a function
pub numbers_are : (p : Program) (f : Function) (n : Numbers) → AreNumbersOf p n
    → n.names.variables ≡ variables f → n ≡ numbers_in p (pool p) f
numbers_are p f n are names =
    ap (λ (vs : List (List ℕ)). by_parts vs n.names.functions n.names.urls n.pool) names
    ∙ ap (λ (fs : List (List ℕ)). by_parts (variables f) fs n.names.urls n.pool) are.functions
    ∙ ap (λ (us : List (List ℕ × List ℕ)).
    by_parts (variables f) (numbers_in p (pool p) f).names.functions us n.pool) are.urls
    ∙ ap (λ (ls : List Literal). by_parts (variables f)
    (numbers_in p (pool p) f).names.functions (numbers_in p (pool p) f).names.urls ls) are.pool

-- its forms
pub forms_are : (p : Program) (f : Function) (n : Numbers) → AreNumbersOf p n
    → n.names.variables ≡ variables f → (function_code n f).forms None 0 ≡ forms_of p f
unfolding forms_of
forms_are p f n are names =
    ap (λ (numbers : Numbers). (function_code numbers f).forms None 0) (numbers_are p f n are names)

-- its variables but for the parameters
pub locals_counted : (f : Function) → length (variables f) ≡ length f.params + length (locals f)
locals_counted f =
    ap length (parameters_first f)
    ∙ length-append (map (λ (v : Id). v.name) f.params) (locals f)
    ∙ ap (λ (count : ℕ). count + length (locals f)) (length-map f.params (λ (v : Id). v.name))

-- numbers that change in nothing but variables
pub still_numbers : (p : Program) (before now : Numbers) → AreNumbersOf p before
    → now.names.functions ≡ before.names.functions → now.names.urls ≡ before.names.urls
    → now.pool ≡ before.pool → AreNumbersOf p now
still_numbers p before now are functions urls pool = record {
  functions = functions ∙ are.functions;
  urls = urls ∙ are.urls;
  pool = pool ∙ are.pool;
}

-- its forms, by the numbers in it
pub forms_now : (p : Program) (f : Function) (before now : Numbers) → AreNumbersOf p before
    → now.names.functions ≡ before.names.functions → now.names.urls ≡ before.names.urls
    → now.pool ≡ before.pool → now.names.variables ≡ variables f → (forms slice : List Form)
    → forms ≡ (function_code now f).forms None 0 → slice ≡ forms → slice ≡ forms_of p f
forms_now p f before now are functions urls pool names forms slice is same =
    same ∙ is ∙ forms_are p f now (still_numbers p before now are functions urls pool) names

-- code by its parts
abbrev pub code_by : ℕ → ℕ → List ℕ → Code
code_by args count bytes = record { args = args; locals = count; code = bytes }

-- its code
pub code_is : (p : Program) (f : Function) (args count : ℕ) (bytes : List ℕ)
    → args ≡ length f.params → count ≡ length (locals f) → bytes ≡ placed (forms_of p f)
    → code_by args count bytes ≡ compiled_function p f
unfolding compiled_function
code_is p f args count bytes params rest code =
    ap (λ (n : ℕ). code_by n count bytes) params
    ∙ ap (λ (n : ℕ). code_by (length f.params) n bytes) rest
    ∙ ap (λ (bs : List ℕ). code_by (length f.params) (length (locals f)) bs) code

-- it isn't too long
pub is_short : (p : Program) (f : Function) (forms : List Form) → forms ≡ forms_of p f
    → HasForms p f → wide forms + saved forms + function_saves f ≤ most_code
    → function_wide f ≤ most_code
is_short p f forms same has short =
    subst (λ (n : ℕ). n ≤ most_code)
    (ap (λ (fs : List Form). wide fs + saved fs + function_saves f) same ∙ sym has.size) short

-- its statements save no more than three bytes for two that are left
pub saves_few : (p : Program) (f : Function) (forms : List Form) → forms ≡ forms_of p f
    → HasForms p f → function_saves f * 2 ≤ (wide forms + saved forms) * 3
saves_few p f forms same has =
    subst (λ (fs : List Form). function_saves f * 2 ≤ (wide fs + saved fs) * 3) (sym same) has.few

-- why it has none
pub function_cause : (p : Program) (index : ℕ) (f : Function) (forms : List Form)
    → forms ≡ forms_of p f → HasForms p f → (fault : CompileFault)
    → IsFormsCause index f forms fault → IsFunctionCause index f fault
function_cause p index f forms same has (CodeTooLong function bytes) (there, size, long) = (
  there,
  size ∙ ap (λ (forms : List Form). wide forms + saved forms + function_saves f) same
      ∙ sym has.size,
  long,
)
function_cause p index f forms same has NoMemory is = tt
function_cause p index f forms same has _ is = absurd is
