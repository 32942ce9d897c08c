-- What a function of a program needs is in its unit, where what it says can be coded and its
-- constants are those of the unit.
use Rattle.std.proofs.Common.{◌≡◌, ℕ, Option, Some, None, refl, ◌∙◌}
use Rattle.std.specs.Option.{option_map}
use Rattle.wap_unit.specs.Libraries.{lib_args, lib_named}
use Rattle.wap_grammar.specs.declared.program.program.Id.{Id}
use Rattle.wap_scope.specs.Names.{Library as supplied, Mention}
use Rattle.wap_scope.specs.accepted.Known.{CanBeCoded}
use Rattle.wap_meaning.specs.Names.{function_at, library_numbers, url_of}
use Rattle.wap_meaning.specs.coding.Needs.{Need, Constant, Operator, Variable, Local, Other}
use Rattle.wap_meaning.specs.coding.Needs.{Library, IsMet}
use Rattle.wap_compiled_laws.proofs.BodiesLemmas.Pooled.{literal_at, text_at}
use Rattle.wap_compiled_laws.proofs.CodeSizes.Libraries.{row_of_names}
use Rattle.wap_compiled_laws.proofs.CodeSizes.Places.{Place, numbers, Known, Given}
use Rattle.wap_compiled_laws.proofs.Induction.Pieces.{Settled}

module _ (here : Place) where
  -- what is said can be coded
  abbrev pub Codable : Mention → Type 0
  Codable = CanBeCoded here.program here.function

  -- a function of a library
  library_meets : (l f : Id) {count : ℕ} → Known here (supplied l f count)
      → IsMet here.unit (numbers here) (Library l f count)
  library_meets l f {count} is = by (lib_named l.name f.name) refl is
    where
      by : (o : Option (ℕ × ℕ × ℕ)) → lib_named l.name f.name ≡ o
          → option_map (λ (row : ℕ × ℕ × ℕ). row.2) o ≡ Some count
          → lib_args (library_numbers o).0 (library_numbers o).1 ≡ Some count
      by None at is = absurd (cc is)
      by (Some row) at is = (row_of_names l.name f.name row at).args ∙ is

  -- a need that is settled, and whose constants are given
  pub meets : (need : Need) → Given here need → Settled Codable need
      → IsMet here.unit (numbers here) need
  meets (Constant l) given settled =
      literal_at here.unit here.pool here.has l settled (given settled)
  meets (Operator o) given settled = given
  meets (Variable v) given settled = settled
  meets (Local f count) given settled =
      here.arities (function_at (numbers here).names f) ∙ settled
  meets (Other u f) given settled = (
    text_at here.unit here.pool here.has (url_of u.name (numbers here).names.urls) given.0,
    text_at here.unit here.pool here.has f.name given.1,
  )
  meets (Library l f count) given settled = library_meets l f settled
