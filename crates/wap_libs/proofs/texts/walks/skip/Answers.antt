use Rattle.std.proofs.Common.{◌≡◌, ◌-◌, [], drop, take, length, refl, ap, sym, ◌∙◌, subst, arith}
use Rattle.std.proofs.lemmas.List.{drop_all, length-drop}
use Rattle.std.specs.Str.{chars, IsAscii, IsCharBoundary}
use Rattle.wap_libs.proofs.TextsLemmas.Ends.{ends_whole, ends_more, ends_cut, skip_one}
use Rattle.wap_libs.proofs.TextsLemmas.Ends.{skip_ascii, cut_ascii}
use Rattle.wap_libs.proofs.texts.walks.skip.Goals as goal

pub range_from-requires : goal.range_from-requires
range_from-requires c =
    let s = c.args.text.now in
    let most = c.min-most.result in
    let ascii : IsAscii (take most s) =
    subst (λ b. IsAscii (take most b)) c.as_bytes.ensures.value c.if-is_ascii.ensures.cases in
    λ _. cut_ascii s most c.utf8.text (omega (arith, c.min-most.ensures)) ascii

pub returns-then-is_ascii-clause-value : goal.returns-then-is_ascii-clause-value
returns-then-is_ascii-clause-value c =
    let s = c.args.text.now in
    let most = c.min-most.result in
    let ascii : IsAscii (take most s) =
    subst (λ b. IsAscii (take most b)) c.as_bytes.ensures.value c.if-is_ascii.ensures.cases in
    skip_ascii s c.range_from.result.now c.args.count most c.utf8.text c.min-most.ensures ascii
    c.range_from.ensures.value

pub returns-then-is_ascii-clause-cut : goal.returns-then-is_ascii-clause-cut
returns-then-is_ascii-clause-cut c =
    let s = c.args.text.now in
    let most = c.min-most.result in
    let ascii : IsAscii (take most s) =
    subst (λ b. IsAscii (take most b)) c.as_bytes.ensures.value c.if-is_ascii.ensures.cases in
    let size : most ≡ length s - length c.range_from.result.now =
    omega (
      arith,
      c.min-most.ensures,
      ap length c.range_from.ensures.value,
      length-drop most s,
    ) in
    subst (IsCharBoundary s) size
    (cut_ascii s most c.utf8.text (omega (arith, c.min-most.ensures)) ascii)

pub loop-left-init : goal.loop-left-init
loop-left-init c =
    (c.utf8.text, record { is_end = ends_whole c.args.text.now c.utf8.text; parts = refl })

pub loop-left-preserved : goal.loop-left-preserved
loop-left-preserved c =
    let is = c.loop-left.invariant.1 in
    let first = c.in-Some.ensures in
    let rest = c.loop-left.rest.now in
    let behind = c.in-Some.behind.now in (
      first.1,
      record {
        is_end =
            ends_more c.args.text.now rest behind is.is_end
            (record { utf8 = first.1; shorter = omega (arith, first.2); end = first.3 });
        parts =
            sym (skip_one c.loop-left.left _ (chars behind) c.loop-left-test.true)
            ∙ ap (drop c.loop-left.left) (sym first.0) ∙ is.parts;
      },
    )

pub returns-in-None : goal.returns-in-None
returns-in-None c =
    let is = c.loop-left.invariant.1 in
    let left = c.loop-left.left in
    record {
      value =
          c.in-None.ensures ∙ sym (drop_all left [] (omega arith))
          ∙ ap (drop left) (sym c.in-None.ensures) ∙ is.parts;
      shorter = is.is_end.shorter;
      end = is.is_end.end;
      cut = ends_cut c.args.text.now c.loop-left.rest.now is.is_end;
    }

pub returns : goal.returns
returns c =
    let is = c.loop-left.invariant.1 in
    let rest = c.loop-left.rest.now in
    let none : c.loop-left.left ≡ 0 = omega arith in
    record {
      value = sym (ap (λ n. drop n (chars rest)) none) ∙ is.parts;
      shorter = is.is_end.shorter;
      end = is.is_end.end;
      cut = ends_cut c.args.text.now rest is.is_end;
    }
