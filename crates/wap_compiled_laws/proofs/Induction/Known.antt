-- What is known of parts of sources, what they need and what they say; and that what is needed is
-- met.
use Rattle.std.proofs.Common.{◌≡◌, List, [], ◌++◌, sym, ap, ◌∙◌, subst}
use Rattle.std.specs.List.{AllByRecursion}
use Rattle.wap_grammar.specs.declared.program.expression.Expr.{Expr, roll-Expr, map-Expr}
use Rattle.wap_grammar.specs.declared.program.expression.Expr.TheOpen.{Expr-F}
use Rattle.wap_grammar.specs.declared.program.expression.Expr.TheFolds.{fold-roll-Expr}
use Rattle.wap_scope.specs.Names.{Reference, references, references_by, Refers}
use Rattle.wap_meaning.specs.coding.Needs.{Need, IsMet, AreMet, expr_needs_by, expr_needs}
use Rattle.wap_meaning.proofs.Each.{each_front, each_back, each_both}
use Rattle.wap_compiled_laws.proofs.Induction.Pieces.{Setting}

module _ (here : Setting) where
  open here use {unit, numbers, Needed, Said}

  -- something holds of each need, and of each thing that is said
  pub record Known {X : Type 0} (Q : X → Type 0) (needs : List Need) (says : List X) : Type 0 where
    pub given : AllByRecursion Needed needs
    pub said : AllByRecursion Q says

  -- what is known of two parts is known of the first
  pub front : {X : Type 0} {Q : X → Type 0} {needs : List Need} (more : List Need)
      {says : List X} (after : List X)
      → Known Q (needs ++ more) (says ++ after) → Known Q needs says
  front {Q} {needs} more {says} after known = record {
    given = each_front Needed needs more known.given;
    said = each_front Q says after known.said;
  }

  -- and of the second
  pub behind : {X : Type 0} {Q : X → Type 0} (needs : List Need) {more : List Need}
      (says : List X) {after : List X}
      → Known Q (needs ++ more) (says ++ after) → Known Q more after
  behind {Q} needs {more} says {after} known = record {
    given = each_back Needed needs more known.given;
    said = each_back Q says after known.said;
  }

  -- what is needed is met
  pub record Met (needs : List Need) : Type 0 where
    pub met : AreMet unit numbers needs

  -- nothing is needed
  pub none_met : Met []
  none_met = record { met = tt }

  -- what two parts need is met
  pub both_met : {needs more : List Need} → Met needs → Met more → Met (needs ++ more)
  both_met {needs} {more} ones twos = record {
    met = each_both (IsMet unit numbers) needs more ones.met twos.met;
  }

  -- what a name says
  abbrev pub Named : Reference → Type 0
  Named r = Said (Refers r)

  -- what is known of an expression
  abbrev pub KnownOf : Expr → Type 0
  KnownOf e = Known Named (expr_needs e) (references e)

  -- what is known of an expression by its parts
  abbrev pub KnownBy : Expr-F Expr → Type 0
  KnownBy x = Known Named (expr_needs_by (map-Expr Expr (List Need) expr_needs x))
      (references_by (map-Expr Expr (List Reference) references x))

  -- what is known of an expression is known of its parts
  pub unrolled : (x : Expr-F Expr) {e : Expr} → roll-Expr x ≡ e → KnownOf e → KnownBy x
  unfolding expr_needs references
  unrolled x is known = record {
    given = subst (AllByRecursion Needed)
        (ap expr_needs (sym is) ∙ fold-roll-Expr (List Need) expr_needs_by x) known.given;
    said = subst (AllByRecursion Named)
        (ap references (sym is) ∙ fold-roll-Expr (List Reference) references_by x) known.said;
  }
