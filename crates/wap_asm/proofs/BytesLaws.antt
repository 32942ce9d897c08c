-- What the writing of forms needs.
use Rattle.std.proofs.Common.{◌≡◌, ℕ, ◌+◌, ◌<◌, ◌≤◌, List, [], ◌∷◌, ◌++◌, Some, length, get_or}
use Rattle.std.proofs.Common.{take, map, slice_get, refl, sym, ◌∙◌, ap, arith, option_map, Result}
use Rattle.std.proofs.Common.{Ok, Err, OnOk}
use Rattle.std.specs.List.{enumerate_from, flat_map}
use Rattle.std.proofs.lemmas.Option.{same_Some, slice_get-get_or, slice_get-map, slice_get_within}
use Rattle.std.proofs.lemmas.Option.{slice_get_read}
use Rattle.std.proofs.lemmas.List.{take_more, take_all, length-map, flat_map_more}
use Rattle.std.proofs.lemmas.List.FromFn.{length-enumerate_from, get_or-enumerate_from}
use Rattle.wap_unit.specs.declared.instr.Instr.{Instr}
use Rattle.wap_unit.specs.declared.row.OpName.{OpName}
use Rattle.wap_unit.specs.declared.row.Row.{Row}
use Rattle.wap_asm.specs.Operands.{Holds}
use Rattle.wap_asm.proofs.RowLaws.{shortest_fits}
use Rattle.wap_asm.specs.declared.form.Form.{Form}
use Rattle.wap_asm.specs.declared.form.Form.TheVariants.{Op, Jump, Label}
use Rattle.wap_asm.specs.declared.site.Site.{Site}
use Rattle.wap_asm.specs.Spellings.{operation_of, longest, spelling_of}
use Rattle.wap_asm.specs.Placing.{target, between, form_bytes, bytes_at, wide, settled, placed}
use Rattle.wap_asm.specs.Placed.{ArePlaceable}
use Rattle.wap_asm.specs.inside.Passes.{site_of, apart, AreStarts, HasSpelling}
use Rattle.wap_asm.proofs.PassLaws.{apart_is, target_within, targets_within}
use Rattle.wap_asm.proofs.SpellingLaws.{spelled_shortest}
use Rattle.wap_asm.proofs.Settling.{none}
use Rattle.wap_asm.proofs.PlacedLaws.{op_least, jump_least, distance_below, length-settled}

pub op_spelling : (forms : List Form) (i : ℕ) (instr : Instr) → ArePlaceable forms
    → slice_get forms i ≡ Some (Op instr)
    → HasSpelling (operation_of instr.name) instr.a instr.b instr.c
op_spelling forms i instr placeable here =
    let op = operation_of instr.name in
    let least = op_least (longest op) op instr.a instr.b instr.c refl (placeable.ops i instr here)
    in
    record { row = least.0; is = least.1 }

pub jump_spelling : (forms : List Form) (i label : ℕ) (name : OpName) → ArePlaceable forms
    → wide forms ≤ 65535 → slice_get forms i ≡ Some (Jump name label)
    → HasSpelling (operation_of name) (between (settled forms) i (target forms label)) 0 0
jump_spelling forms i label name placeable few here =
    let labelled = placeable.jumps i label name here in
    let t = target forms label in
    let d = between (settled forms) i t in
    let least = jump_least (operation_of name) i labelled.index d labelled.leads
    (distance_below forms i t few) in
    record { row = least.0; is = least.1 }

pub jump_small : (forms : List Form) (i label : ℕ) → wide forms ≤ 65535
    → between (settled forms) i (target forms label) < 65536
jump_small forms i label few = distance_below forms i (target forms label) few

-- the spelling that is taken has room for the operands
pub has_room : (operation : OpName) (a b c : ℕ) (row : Row)
    → HasSpelling operation a b c → spelling_of operation a b c ≡ Some row
    → (0 < row.count) × (row.first + row.count ≤ 256) × Holds row a b c
has_room operation a b c row spelling is =
    let same : spelling.row ≡ row =
    same_Some spelling.row row (sym (spelled_shortest operation a b c spelling.row spelling.is)
    ∙ is) in
    shortest_fits operation a b c row (spelling.is ∙ ap Some same)

pub site_at : (forms : List Form) (sites : List Site) (i : ℕ) (form : Form)
    → sites ≡ map (site_of forms) forms → slice_get forms i ≡ Some form
    → slice_get sites i ≡ Some (site_of forms form)
site_at forms sites i form all here =
    ap (λ l. slice_get l i) all ∙ slice_get-map (site_of forms) forms i
    ∙ ap (option_map (site_of forms)) here

pub form_at : (forms : List Form) (i : ℕ) (form d : Form) → i < length forms
    → get_or forms i d ≡ form → slice_get forms i ≡ Some form
form_at forms i form d within is = slice_get-get_or forms i d within ∙ ap Some is

-- the distance that the code computes for a jump
pub distance_at : (forms : List Form) (sites : List Site) (starts slice : List ℕ) (i label : ℕ)
    (name : OpName) (site : Site) (distance : ℕ)
    → sites ≡ map (site_of forms) forms → AreStarts (settled forms) starts → slice ≡ starts
    → slice_get forms i ≡ Some (Jump name label) → site ≡ get_or sites i site
    → distance ≡ apart slice i site.target
    → distance ≡ between (settled forms) i (target forms label)
distance_at forms sites starts slice i label name site distance all are same here read is =
    let t = target forms label in
    let within = slice_get_within forms i (Jump name label) here in
    let count : length sites ≡ length forms = ap length all ∙ length-map forms (site_of forms) in
    let site_is : site ≡ site_of forms (Jump name label) =
    same_Some site (site_of forms (Jump name label))
    (sym (slice_get_read sites (length sites) i site refl (omega (arith, within, count)) read)
    ∙ site_at forms sites i (Jump name label) all here) in
    is
    ∙ ap (λ s. apart slice i s.target) site_is
    ∙ ap (λ s. apart s i t) same
    ∙ apart_is (settled forms) starts i t are (omega (arith, within, length-settled forms))
    (omega (arith, target_within forms label, length-settled forms))

pub target_small : (forms : List Form) (sites : List Site) (starts slice : List ℕ) (i label : ℕ)
    (name : OpName) (site : Site)
    → sites ≡ map (site_of forms) forms → AreStarts (settled forms) starts → slice ≡ starts
    → slice_get forms i ≡ Some (Jump name label) → site ≡ get_or sites i site
    → (i + 1 < length slice) × (site.target < length slice)
target_small forms sites starts slice i label name site all are same here read =
    let within = slice_get_within forms i (Jump name label) here in
    let count : length sites ≡ length forms = ap length all ∙ length-map forms (site_of forms) in
    let found = slice_get_read sites (length sites) i site refl (omega (arith, within, count)) read
    in
    let long : length slice ≡ length starts = ap length same in
    let below = targets_within forms sites starts all
    (omega (arith, are.count, length-settled forms)) i site found in
    (omega (arith, are.count, length-settled forms, within, long), omega (arith, below, long))

-- a form more
pub code_more : (forms : List Form) (i : ℕ) (code later : List ℕ) → i < length forms
    → code ≡ flat_map (bytes_at forms (settled forms)) (take i (enumerate_from 0 forms))
    → ((form : Form) → slice_get forms i ≡ Some form
    → later ≡ code ++ form_bytes forms (settled forms) i form)
    → later ≡ flat_map (bytes_at forms (settled forms)) (take (i + 1) (enumerate_from 0 forms))
code_more forms i code later within is next =
    let f = bytes_at forms (settled forms) in
    let all = enumerate_from 0 forms in
    let form = get_or forms i (Label 0) in
    let item : get_or all i none ≡ (i, form) =
    get_or-enumerate_from 0 forms i none within ∙ ap (λ n. (n, form)) (omega arith) in
    let part : take (i + 1) all ≡ take i all ++ (get_or all i none ∷ []) =
    take_more all i none (omega (arith, length-enumerate_from 0 forms)) in
    next form (slice_get-get_or forms i (Label 0) within)
    ∙ ap (λ l. l ++ form_bytes forms (settled forms) i form) is
    ∙ ap (λ x. flat_map f (take i all) ++ f x) (sym item)
    ∙ flat_map_more f [] (take i all) (get_or all i none)
    ∙ ap (flat_map f) (sym part)

pub code_all : (forms : List Form) (n : ℕ) (code : List ℕ) → length forms ≤ n
    → code ≡ flat_map (bytes_at forms (settled forms)) (take n (enumerate_from 0 forms))
    → code ≡ placed forms
unfolding placed
code_all forms n code end is =
    is ∙ ap (flat_map (bytes_at forms (settled forms)))
    (take_all n (enumerate_from 0 forms) (omega (arith, length-enumerate_from 0 forms)))

pub on_ok_then : {A E : Type 0} (r : Result A E) {P Q : Type 0} → OnOk r P → (P → Q) → OnOk r Q
on_ok_then (Ok x) h then = then h
on_ok_then (Err e) h then = tt

pub form_same : (forms : List Form) (i : ℕ) (form other : Form) → slice_get forms i ≡ Some form
    → slice_get forms i ≡ Some other → form ≡ other
form_same forms i form other here there = same_Some form other (sym here ∙ there)
