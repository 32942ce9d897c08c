-- What is read of a source is the program that it is accepted for.
use Rattle.std.proofs.Common.{◌≡◌, ◌↔◌, ℕ, ◌≤◌, ◌^◌, ltb, leb, Bool, true, cond, List, []}
use Rattle.std.proofs.Common.{◌∷◌, length, Option, Some, None, Result, Ok, Err, refl, sym, ap}
use Rattle.std.proofs.Common.{◌∙◌, inl, inr, arith}
use Rattle.std.specs.Prelude.{◌&&◌, is_none, option_and_then}
use Rattle.std.specs.List.{AllByRecursion, list_all}
use Rattle.std.specs.Str.{is_utf8}
use Rattle.std.proofs.lemmas.Bool.{ltb-true, lt-ltb, leb-true, le-leb, and_parts}
use Rattle.std.proofs.lemmas.Str.{IsUtf8-from_is_utf8, is_utf8-from_IsUtf8}
use Rattle.std.proofs.lemmas.List.Elements.{recursion_from_All, All-from_recursion}
use Rattle.wap_base.proofs.Choices.{chosen, some_same}
use Rattle.wap_lex.specs.declared.token.Token.{Token}
use Rattle.wap_lex.specs.declared.fault.LexFault.{LexFault}
use Rattle.wap_lex.specs.declared.fault.LexFault.TheVariants.{NotText}
use Rattle.wap_lex.specs.Tokens.{AreTokens}
use Rattle.wap_lex.specs.Calculation.{pieces_at}
use Rattle.wap_lex.proofs.Sources.{read_ok, read_again}
use Rattle.wap_grammar.specs.declared.fault.ParseFault.{ParseFault}
use Rattle.wap_grammar.specs.declared.precedence.TheConstants.{LEVEL_LIMIT}
use Rattle.wap_grammar.specs.Lexemes.{lexemes_of}
use Rattle.wap_grammar.specs.reading.Statements.{statement_at}
use Rattle.wap_grammar.specs.reading.Programs.{program_at}
use Rattle.wap_grammar.proofs.Whole.{program_ok, program_again}
use Rattle.wap_grammar.specs.declared.program.program.Program.{Program}
use Rattle.wap_grammar.specs.declared.program.program.Function.{Function}
use Rattle.wap_scope.specs.declared.fault.ScopeFault.{ScopeFault}
use Rattle.wap_scope.specs.Scoped.{IsScoped}
use Rattle.wap_scope.specs.Faults.{faults, first_fault}
use Rattle.wap_scope.proofs.Listed.{scoped_without_faults, faultless_where_scoped}
use Rattle.wap_meaning.specs.compiled.Pool.{pool}
use Rattle.wap_meaning.specs.compiled.Wide.{function_wide}
use Rattle.wap_meaning.specs.compiled.Accepted.{most_constants, most_code, IsSourceOf, HasRoom}
use Rattle.wap_meaning.specs.compiled.Accepted.{IsAccepted}
use Rattle.wap_meaning.specs.accepted.AcceptedPrograms.{tokens_at, read, spelled_by, is_short, fits}
use Rattle.wap_meaning.specs.accepted.AcceptedPrograms.{if_fits, accepted_in}

-- ---- room, and names in order

-- the code of a function has room
abbrev IsShort : Function → Type 0
IsShort f = function_wide f ≤ most_code

all_short : (functions : List Function) → list_all is_short functions ≡ true
    → AllByRecursion IsShort functions
all_short [] is = tt
all_short (f ∷ functions) is =
    let parts = and_parts (is_short f) (list_all is_short functions) is in
    (leb-true (function_wide f) most_code parts.0, all_short functions parts.1)

short_all : (functions : List Function) → AllByRecursion IsShort functions
    → list_all is_short functions ≡ true
short_all [] are = refl
short_all (f ∷ functions) are =
    ap (λ (b : Bool). b && list_all is_short functions) (le-leb (function_wide f) most_code are.0)
    ∙ short_all functions are.1

-- no faults
none_first : (some : List ScopeFault) → is_none (first_fault some) ≡ true → some ≡ []
none_first [] is = refl
none_first (first ∷ others) is = absurd (cc is)

fits_so : (p : Program) → fits p ≡ true → IsScoped p × HasRoom p
unfolding fits
fits_so p is =
    let parts =
    and_parts (is_none (first_fault (faults p)))
    (leb (length (pool p)) most_constants && list_all is_short p.functions) is in
    let rest =
    and_parts (leb (length (pool p)) most_constants) (list_all is_short p.functions) parts.1 in (
      scoped_without_faults p (none_first (faults p) parts.0),
      record {
        constants = leb-true (length (pool p)) most_constants rest.0;
        code = All-from_recursion IsShort p.functions (all_short p.functions rest.1);
      },
    )

fits_again : (p : Program) → IsScoped p → HasRoom p → fits p ≡ true
unfolding fits
fits_again p scoped room =
    ap (λ (some : List ScopeFault). is_none (first_fault some)
    && (leb (length (pool p)) most_constants && list_all is_short p.functions))
    (faultless_where_scoped p scoped)
    ∙ ap (λ (b : Bool). b && list_all is_short p.functions)
    (le-leb (length (pool p)) most_constants room.constants)
    ∙ short_all p.functions (recursion_from_All IsShort p.functions room.code)

-- ---- sources

module _ (source : List ℕ) where
  tokens_so : (tokens : List Token) → tokens_at source ≡ Ok tokens → AreTokens source tokens
  tokens_so tokens is =
      elim (chosen (is_utf8 source) (pieces_at (length source) 0 source) (Err NotText)
      (Ok tokens) is) [
        | inl text ↦ record {
          text = IsUtf8-from_is_utf8 source text.0;
          lexed = read_ok (length source) 0 source tokens (omega arith) text.1;
        }
        | inr none ↦ absurd (cc none.1)
      ]

  tokens_again : (tokens : List Token) → AreTokens source tokens → tokens_at source ≡ Ok tokens
  tokens_again tokens are =
      ap (λ (b : Bool). cond b (pieces_at (length source) 0 source) (Err NotText))
      (is_utf8-from_IsUtf8 source are.text)
      ∙ read_again 0 source tokens are.lexed (length source) (omega arith)

  spelled_so : (found : Result (List Token) LexFault) → tokens_at source ≡ found → (p : Program)
      → spelled_by source found ≡ Some p → IsSourceOf source p
  spelled_so (Err why) is p so = absurd (cc so)
  spelled_so (Ok tokens) is p so =
      by_read (program_at source (statement_at source LEVEL_LIMIT) (lexemes_of source tokens))
      refl so
    where
      by_read : (r : Result Program ParseFault)
          → program_at source (statement_at source LEVEL_LIMIT) (lexemes_of source tokens) ≡ r
          → read r ≡ Some p → IsSourceOf source p
      by_read (Err why) e so = absurd (cc so)
      by_read (Ok q) e so = record {
        tokens = tokens;
        are_tokens = tokens_so tokens is;
        spells =
            program_ok source LEVEL_LIMIT (lexemes_of source tokens) p
            (e ∙ ap (λ (o : Program). Ok o) (some_same q p so));
      }

  spelled_again : (p : Program) → IsSourceOf source p
      → spelled_by source (tokens_at source) ≡ Some p
  spelled_again p is =
      ap (spelled_by source) (tokens_again is.tokens is.are_tokens)
      ∙ ap read (program_again source LEVEL_LIMIT (lexemes_of source is.tokens) p is.spells)

  -- ---- both

  fitting : (found : Option Program) → spelled_by source (tokens_at source) ≡ found
      → (p : Program) → option_and_then if_fits found ≡ Some p
      → IsSourceOf source p × IsScoped p × HasRoom p
  fitting None is p so = absurd (cc so)
  fitting (Some q) is p so = elim (chosen (fits q) (Some q) None (Some p) so) [
    | inl fit ↦
        let same = some_same q p fit.1 in
        let both = fits_so p (sym (ap fits same) ∙ fit.0) in (
          spelled_so (tokens_at source) refl p (is ∙ ap (λ (o : Program). Some o) same),
          both.0,
          both.1,
        )
    | inr none ↦ absurd (cc none.1)
  ]

  accepted_so : (p : Program) → accepted_in source ≡ Some p → IsAccepted source p
  unfolding accepted_in
  accepted_so p is =
      elim (chosen (ltb (length source) (2 ^ 31))
      (option_and_then if_fits (spelled_by source (tokens_at source))) None (Some p) is) [
        | inl short ↦
            let found = fitting (spelled_by source (tokens_at source)) refl p short.1 in
            record {
              short = ltb-true (length source) (2 ^ 31) short.0;
              spells = found.0;
              scoped = found.1;
              room = found.2;
            }
        | inr long ↦ absurd (cc long.1)
      ]

  accepted_again : (p : Program) → IsAccepted source p → accepted_in source ≡ Some p
  unfolding accepted_in
  accepted_again p is =
      ap (λ (b : Bool).
      cond b (option_and_then if_fits (spelled_by source (tokens_at source))) None)
      (lt-ltb (length source) (2 ^ 31) is.short)
      ∙ ap (option_and_then if_fits) (spelled_again p is.spells)
      ∙ ap (λ (b : Bool). cond b (Some p) None) (fits_again p is.scoped is.room)

  pub some : (p : Program) → (accepted_in source ≡ Some p) ↔ IsAccepted source p
  some p = (accepted_so p, accepted_again p)

  none_so : (found : Option Program) → accepted_in source ≡ found
      → ((p : Program) → ¬ IsAccepted source p) → found ≡ None
  none_so None is never = refl
  none_so (Some p) is never = absurd (never p (accepted_so p is))

  pub none : (accepted_in source ≡ None) ↔ ((p : Program) → ¬ IsAccepted source p)
  none = (
    λ is p accepted. no_both p (sym (accepted_again p accepted) ∙ is),
    λ never. none_so (accepted_in source) refl never,
  )
    where
      no_both : (p : Program) → Some p ≡ None → ⊥
      no_both p e = cc
