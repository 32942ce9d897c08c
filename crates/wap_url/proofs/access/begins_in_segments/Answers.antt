use Rattle.std.proofs.Common.{◌++◌, List, ℕ, [], ◌∷◌, ap, sym, ◌∙◌, refl}
use Rattle.std.proofs.Common.{Some, None, arith, length, subst}
use Rattle.std.proofs.lemmas.Bool.{eqb-true, eqb-false}
use Rattle.std.proofs.lemmas.Bool.Decides.{Decides-eqb}
use Rattle.std.proofs.lemmas.List.{nil_from_length}
use Rattle.std.proofs.lemmas.Slice.Eq.{strip_suffix_is}
use Rattle.wap_url.specs.Access.{without_empty_last}
use Rattle.wap_url.specs.Segments.{segments, IsPrefix}
use Rattle.wap_url.proofs.AccessLaws.{drops_last, keeps_last}
use Rattle.wap_url.proofs.access.begins_in_segments.Goals as goal

pub returns-then-is_empty : goal.returns-then-is_empty
returns-then-is_empty c =
    let none =
    nil_from_length c.args.access.now
    (eqb-true (length c.args.access.now) 0 (sym c.is_empty.ensures ∙ c.if-is_empty.true)) in (
      λ holds. (
        segments c.args.path.now,
        sym (ap (λ access. without_empty_last (segments access) ++ segments c.args.path.now) none),
      ),
      λ prefix. refl,
    )

pub returns-in-Some : goal.returns-in-Some
returns-in-Some c =
    let cut =
    strip_suffix_is Decides-eqb c.args.access.now (47 ∷ [])
    (Some c.in-Some.lead) c.in-Some.ensures.cases in
    let same = drops_last c.args.access.now c.in-Some.lead.now cut in
    let P : List (List ℕ) → Type 0 = λ ss. IsPrefix ss (segments c.args.path.now) in (
      λ holds. subst P (sym same) (c.begins_with_all.ensures.0 holds),
      λ prefix. c.begins_with_all.ensures.1 (subst P same prefix),
    )

pub returns-in-None : goal.returns-in-None
returns-in-None c =
    let none =
    strip_suffix_is Decides-eqb c.args.access.now (47 ∷ []) None c.in-None.ensures.cases in
    let some =
    eqb-false (length c.args.access.now) 0 (sym c.is_empty.ensures ∙ c.if-is_empty.false) in
    let same = keeps_last c.args.access.now (omega arith) none in
    let P : List (List ℕ) → Type 0 = λ ss. IsPrefix ss (segments c.args.path.now) in (
      λ holds. subst P (sym same) (c.begins_with_all-in-None.ensures.0 holds),
      λ prefix. c.begins_with_all-in-None.ensures.1 (subst P same prefix),
    )
