-- Branches and exits of statements, as their forms are added.
use Rattle.std.proofs.Common.{◌≡◌, ℕ, ◌+◌, Bool, true, false, List, [], ◌∷◌, ◌++◌, length, set}
use Rattle.std.proofs.Common.{Result, OnOk, refl, ap, ◌∙◌, arith}
use Rattle.std.proofs.lemmas.List.{length_push}
use Rattle.std.proofs.lemmas.Result.{on_ok_weaker}
use Rattle.wap_unit.specs.declared.row.OpName.TheVariants as op
use Rattle.wap_asm.specs.declared.form.Form.{Form}
use Rattle.wap_asm.specs.declared.form.Form.TheVariants.{Jump}
use Rattle.wap_meaning.specs.coding.Coded.{Exits, Coded, ◌⨾◌, one, plain, label}
use Rattle.wap_meaning.specs.coding.Statements.{branch_code, exit_form}
use Rattle.wap_codegen.specs.declared.emission.exits.TheConstants.{BREAK, CONTINUE}
use Rattle.wap_codegen.specs.emission.inside.Exits.{exits_in}
use Rattle.wap_codegen.specs.emission.inside.Adding.{Adds, Extends}
use Rattle.wap_codegen.specs.emission.inside.Loops.{exit_at}
use Rattle.wap_codegen.proofs.EmissionLemmas.Extending.{adds_both, adds_one, adds_jump}

-- a condition, and what is done where it holds
pub branch_adds : {c body : Coded} {exits : Exits}
    {old tested begun chosen ended new : List Form} {test end : ℕ}
    → Adds c exits old tested → begun ≡ tested ++ Jump op.TjumpFw 0 ∷ [] → test ≡ length tested
    → Adds body exits begun chosen → Adds label exits chosen ended → end ≡ length chosen
    → new ≡ set ended test (Jump op.TjumpFw end)
    → Adds (c ⨾ branch_code body) exits old new
branch_adds {body} {tested} {begun} {ended} {end} first opens tests second third ends last =
    let long : length begun ≡ length tested + 1 =
    ap length opens ∙ length_push tested (Jump op.TjumpFw 0) in
    let counts : end ≡ length tested + 1 + body.size = omega (arith, second.sized, long, ends) in
    adds_both first
    (adds_jump op.TjumpFw body.size end (omega arith) opens (adds_both second third) counts
    (last ∙ ap (λ n. set ended n (Jump op.TjumpFw end)) tests))

-- ---- the same, where the last call succeeds

-- ---- `break` and `continue`

-- outside of loops they return
pub exit_outside : {E : Type 0} (inside : Bool) (label : ℕ) (old new : List Form)
    (r : Result (Unit {0}) E) → inside ≡ false → OnOk r (Extends (plain op.ReturnEs) old new)
    → OnOk r (new ≡ old ++ exit_at inside label ∷ [])
exit_outside false label old new r none is =
    on_ok_weaker r (λ adds. (adds (exits_in false)).forms) is
exit_outside true label old new r none is = absurd (cc none)

break_adds : (inside : Bool) (old new : List Form) → new ≡ old ++ exit_at inside BREAK ∷ []
    → Adds (one (λ exits at. exit_form exits (λ labels. labels.0))) (exits_in inside) old new
break_adds false old new is =
    adds_one (λ exits at. exit_form exits (λ labels. labels.0)) (exits_in false) old new
    (λ end again first second at few. refl) is
break_adds true old new is =
    adds_one (λ exits at. exit_form exits (λ labels. labels.0)) (exits_in true) old new
    (λ end again first second at few. refl) is

continue_adds : (inside : Bool) (old new : List Form) → new ≡ old ++ exit_at inside CONTINUE ∷ []
    → Adds (one (λ exits at. exit_form exits (λ labels. labels.1))) (exits_in inside) old new
continue_adds false old new is =
    adds_one (λ exits at. exit_form exits (λ labels. labels.1)) (exits_in false) old new
    (λ end again first second at few. refl) is
continue_adds true old new is =
    adds_one (λ exits at. exit_form exits (λ labels. labels.1)) (exits_in true) old new
    (λ end again first second at few. refl) is

pub in_break : {E : Type 0} (inside : Bool) (old new : List Form) (r : Result (Unit {0}) E)
    → OnOk r (new ≡ old ++ exit_at inside BREAK ∷ [])
    → OnOk r (Adds (one (λ exits at. exit_form exits (λ labels. labels.0))) (exits_in inside)
    old new)
in_break inside old new r is = on_ok_weaker r (break_adds inside old new) is

pub in_continue : {E : Type 0} (inside : Bool) (old new : List Form) (r : Result (Unit {0}) E)
    → OnOk r (new ≡ old ++ exit_at inside CONTINUE ∷ [])
    → OnOk r (Adds (one (λ exits at. exit_form exits (λ labels. labels.1))) (exits_in inside)
    old new)
in_continue inside old new r is = on_ok_weaker r (continue_adds inside old new) is
