-- The sites by the indexes of labels are the forms' sites.
use Rattle.std.proofs.Common.{◌≡◌, ℕ, zero, suc, List, [], ◌∷◌, Option, Some, None}
use Rattle.std.proofs.Common.{length, map, slice_get, unwrap_or, refl, sym, ◌∙◌, ap}
use Rattle.std.specs.Ordering.{nat_cmp}
use Rattle.std.specs.BTreeMap.{BTreeMap, get}
use Rattle.std.proofs.lemmas.Option.{slice_get_within}
use Rattle.wap_unit.specs.declared.row.OpName.{OpName}
use Rattle.wap_asm.specs.declared.form.Form.{Form}
use Rattle.wap_asm.specs.declared.form.Form.TheVariants.{Jump, Label}
use Rattle.wap_asm.specs.Spellings.{operation_of}
use Rattle.wap_asm.specs.Placing.{target}
use Rattle.wap_asm.specs.Placed.{IsLabelled, ArePlaceable}
use Rattle.wap_asm.specs.inside.Passes.{kind_of, site_of}
use Rattle.wap_asm.specs.inside.Indexes.{IsIndex, AreIndexes, site_by}
use Rattle.wap_asm.proofs.PlacedLaws.{target_is}

map_same : {X Y : Type 0} (f g : X → Y) (xs : List X)
    → ((k : ℕ) (x : X) → slice_get xs k ≡ Some x → f x ≡ g x) → map f xs ≡ map g xs
map_same f g [] same = refl
map_same f g (x ∷ xs) same =
    ap (λ y. y ∷ map f xs) (same zero x refl)
    ∙ ap (λ l. g x ∷ l) (map_same f g xs (λ k y h. same (suc k) y h))

index_is : (forms : List Form) (operation : OpName) (i label : ℕ) (o : Option ℕ)
    → IsLabelled forms operation i label → IsIndex forms (length forms) label o
    → unwrap_or o 0 ≡ target forms label
index_is forms operation i label None labelled none =
    absurd (none labelled.index
    (slice_get_within forms labelled.index (Label label) labelled.stands) labelled.stands)
index_is forms operation i label (Some k) labelled there =
    sym (target_is forms operation i label k labelled there)

site_same : (forms : List Form) (labels : BTreeMap ℕ ℕ) (k : ℕ) (form : Form) → ArePlaceable forms
    → AreIndexes forms (length forms) labels → slice_get forms k ≡ Some form
    → site_by labels form ≡ site_of forms form
site_same forms labels k (Jump name label) placeable are here =
    let kind = kind_of (operation_of name) in
    ap (λ (t : ℕ). record { kind = kind; target = t })
    (index_is forms (operation_of name) k label (get nat_cmp labels label)
    (placeable.jumps k label name here) (are label))
site_same forms labels k _ placeable are here = refl

pub sites_same : (forms : List Form) (labels : BTreeMap ℕ ℕ) → ArePlaceable forms
    → AreIndexes forms (length forms) labels → map (site_by labels) forms
    ≡ map (site_of forms) forms
sites_same forms labels placeable are =
    map_same (site_by labels) (site_of forms) forms
    (λ k form here. site_same forms labels k form placeable are here)
