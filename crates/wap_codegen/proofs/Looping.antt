-- The code of one function more.
use Rattle.std.proofs.Common.{◌≡◌, ℕ, ◌+◌, ◌<◌, ◌≤◌, List, [], ◌∷◌, ◌++◌, length, map, take, get_or}
use Rattle.std.proofs.Common.{All, sym, ap, ◌∙◌, subst}
use Rattle.std.proofs.lemmas.List.{map_more}
use Rattle.std.proofs.lemmas.List.Elements.{All-more}
use Rattle.wap_unit.specs.declared.unit.Code.{Code}
use Rattle.wap_grammar.specs.declared.program.program.Function.{Function}
use Rattle.wap_grammar.specs.declared.program.program.Program.{Program}
use Rattle.wap_meaning.specs.compiled.Units.{compiled_function}
use Rattle.wap_meaning.specs.compiled.Wide.{function_wide}
use Rattle.wap_meaning.specs.compiled.Accepted.{most_code}

-- so many functions and one more have their code
pub codes_more : (p : Program) (slice : List Function) (i : ℕ) (f : Function)
    (codes more : List Code) (code : Code) → slice ≡ p.functions → i < length slice
    → f ≡ get_or slice i f → codes ≡ map (compiled_function p) (take i p.functions)
    → code ≡ compiled_function p f → more ≡ codes ++ code ∷ []
    → more ≡ map (compiled_function p) (take (i + 1) p.functions)
codes_more p slice i f codes more code same within here before is added =
    added
    ∙ ap (λ (cs : List Code). cs ++ code ∷ []) before
    ∙ ap (λ (x : Code). map (compiled_function p) (take i p.functions) ++ x ∷ [])
    (is ∙ ap (compiled_function p) (here ∙ ap (λ (fs : List Function). get_or fs i f) same))
    ∙ sym (map_more (compiled_function p) p.functions i f
    (subst (λ (fs : List Function). i < length fs) same within))

-- none of them is too long
pub short_more : (slice functions : List Function) (i : ℕ) (f : Function) → slice ≡ functions
    → i < length slice → f ≡ get_or slice i f
    → All (λ f. function_wide f ≤ most_code) (take i functions) → function_wide f ≤ most_code
    → All (λ f. function_wide f ≤ most_code) (take (i + 1) functions)
short_more slice functions i f same within here before short =
    All-more (λ f. function_wide f ≤ most_code) functions i f
    (subst (λ (fs : List Function). i < length fs) same within) before
    (subst (λ (f : Function). function_wide f ≤ most_code)
    (here ∙ ap (λ (fs : List Function). get_or fs i f) same) short)
