use Rattle.std.proofs.Common.{◌≡◌, ℕ, List, [], ◌++◌, sym, ap, ◌∙◌, append_assoc, append-nil, arith}
use Rattle.std.proofs.lemmas.Bool.Decides.{nat_tests}
use Rattle.std.specs.Str.{chars}
use Rattle.wap_value.specs.declared.value.Value.TheVariants.{Str}
use Rattle.wap_libs.specs.declared.fault.LibFault.TheVariants.{NoMemory}
use Rattle.wap_libs.specs.Occurrences.{replaced}
use Rattle.wap_libs.specs.Outcome.{kept_within}
use Rattle.wap_libs.specs.declared.texts.draft.Draft.{Draft}
use Rattle.wap_libs.specs.texts.Draft.{draft_of, grown}
use Rattle.wap_libs.proofs.TextsLemmas.Drafts.{grown-draft_of, meets_same}
use Rattle.wap_libs.proofs.TextsLemmas.Ends.{no_characters}
use Rattle.wap_libs.proofs.TextsLemmas.Occurs.{IsStep-split, Lacks-chars, replaced-Lacks}
use Rattle.wap_libs.proofs.texts.occurrences.replace.Goals as goal
use Rattle.wap_libs.proofs.texts.occurrences.replace.Goals.{then-not-is_empty+in_ok-add}
use Rattle.wap_libs.proofs.texts.occurrences.replace.Goals.{else-not-is_empty}

pub loop-before-smaller : goal.loop-before-smaller
loop-before-smaller c =
    (IsStep-split c.args.old.now c.args.new.now c.loop-before.rest.now c.in-Some.before.now
    c.in-Some.behind.now c.loop-before.invariant.0 c.utf8.old c.requires
    c.in-Some.ensures).smaller

pub loop-before-preserved : goal.loop-before-preserved
loop-before-preserved c =
    let rest = c.loop-before.rest.now in
    let before = chars c.in-Some.before.now in
    let new = chars c.args.new.now in
    let made = c.loop-before.invariant.1.0 in
    let step =
    IsStep-split c.args.old.now c.args.new.now rest c.in-Some.before.now c.in-Some.behind.now
    c.loop-before.invariant.0 c.utf8.old c.requires c.in-Some.ensures in (
      step.utf8,
      (
        (made ++ before) ++ new,
        elim c.if-not-is_empty.branch [
          | then-not-is_empty+in_ok-add w ↦
              c.in_ok-add-2.ensures
              ∙ ap (λ (d : Draft). grown d new) (w.draft-is ∙ w.in_ok-add.ensures
              ∙ ap (λ (d : Draft). grown d before) c.loop-before.invariant.1.1
              ∙ grown-draft_of c.args.limit made before)
              ∙ grown-draft_of c.args.limit (made ++ before) new
          | else-not-is_empty w ↦
              let none : before ≡ [] = no_characters c.in-Some.before.now
              (grind (arith, nat_tests, c.is_empty.ensures, w.if-not-is_empty.false)) in
              c.in_ok-add-2.ensures
              ∙ ap (λ (d : Draft). grown d new) (w.draft-is ∙ c.loop-before.invariant.1.1
              ∙ ap (draft_of c.args.limit) (sym (ap (λ t. made ++ t) none ∙ append-nil made)))
              ∙ grown-draft_of c.args.limit (made ++ before) new
        ],
        simp append_assoc
            (ap (λ (t : List ℕ). made ++ t) (sym step.made) ∙ c.loop-before.invariant.1.2),
      ),
    )

pub returns : goal.returns
returns c =
    let rest = c.loop-before.rest.now in
    let old = chars c.args.old.now in
    let new = chars c.args.new.now in
    let made = c.loop-before.invariant.1.0 in
    let whole : made ++ chars rest ≡ replaced old new (chars c.args.text.now) =
    ap (λ (t : List ℕ). made ++ t) (sym (replaced-Lacks old new (chars rest) (Lacks-chars rest
    c.args.old.now c.loop-before.invariant.0 c.utf8.old c.in_default.ensures)))
    ∙ c.loop-before.invariant.1.2 in
    meets_same NoMemory c.finish.result
    (kept_within c.args.limit (Str (replaced old new (chars c.args.text.now))))
    (c.finish.ensures c.args.limit (replaced old new (chars c.args.text.now))
    (c.in_ok-add-3.ensures ∙ ap (λ (d : Draft). grown d (chars rest)) c.loop-before.invariant.1.1
    ∙ grown-draft_of c.args.limit made (chars rest) ∙ ap (draft_of c.args.limit) whole))
