-- A source is accepted, or it has a fault.
use Rattle.std.proofs.Common.{◌≡◌, ℕ, suc, ◌<◌, ◌≤◌, ◌^◌, leb, List, []}
use Rattle.std.proofs.Common.{◌∷◌, length, take, Option, Some, None, Result, Ok, Err, refl, sym}
use Rattle.std.proofs.Common.{◌∙◌, ◌⊎◌, inl, inr, arith, All}
use Rattle.std.specs.Str.{IsUtf8, is_utf8}
use Rattle.std.proofs.lemmas.Bool.{cases_Bool, leb-true, leb-false}
use Rattle.std.proofs.lemmas.Str.{IsUtf8-from_is_utf8, is_utf8-from_IsUtf8}
use Rattle.std.proofs.lemmas.List.Elements.{All-nil, All-cons}
use Rattle.wap_lex.specs.declared.token.Token.{Token}
use Rattle.wap_lex.specs.declared.fault.LexFault.{LexFault}
use Rattle.wap_lex.specs.declared.fault.LexFault.TheVariants as lex
use Rattle.wap_lex.specs.Tokens.{AreTokens, no_text, stops}
use Rattle.wap_lex.specs.Calculation.{pieces_at}
use Rattle.wap_lex.proofs.Sources.{read_ok, read_err}
use Rattle.wap_grammar.specs.declared.fault.ParseFault.{ParseFault}
use Rattle.wap_grammar.specs.declared.fault.ParseFault.TheVariants as parse
use Rattle.wap_grammar.specs.declared.precedence.TheConstants.{LEVEL_LIMIT}
use Rattle.wap_grammar.specs.Lexemes.{lexemes_of}
use Rattle.wap_grammar.specs.Programs.{IsProgram}
use Rattle.wap_grammar.specs.reading.Statements.{statement_at}
use Rattle.wap_grammar.specs.reading.Programs.{program_at}
use Rattle.wap_grammar.proofs.Whole.{program_ok, program_again}
use Rattle.wap_grammar.proofs.Below.{program_none, program_past, first_spelled, program_unfailing}
use Rattle.wap_grammar.specs.declared.program.program.Function.{Function}
use Rattle.wap_grammar.specs.declared.program.program.Program.{Program}
use Rattle.wap_scope.specs.declared.fault.ScopeFault.{ScopeFault}
use Rattle.wap_scope.specs.Scoped.{IsScoped}
use Rattle.wap_scope.specs.Faults.{faults, first_fault}
use Rattle.wap_scope.proofs.Listed.{scoped_without_faults, first_is_fault}
use Rattle.wap_meaning.specs.compiled.Pool.{pool}
use Rattle.wap_meaning.specs.compiled.Wide.{function_wide}
use Rattle.wap_meaning.specs.compiled.Accepted.{IsSourceOf, IsAccepted, most_constants, most_code}
use Rattle.wap_codegen.specs.declared.fault.CompileFault.{CompileFault}
use Rattle.wap_codegen.specs.declared.fault.CompileFault.TheVariants as fault
use Rattle.wap_codegen.specs.Faults.{IsFirstLong}
use Rattle.wap_codegen.specs.source_faults.Faults.{IsFaultOf}

-- ---- the first function that is too long

abbrev IsShort : Function → Type 0
IsShort f = function_wide f ≤ most_code

-- functions are all short, or one is the first that isn't
abbrev ShortOrNot : List Function → Type 0
ShortOrNot functions =
    All IsShort functions ⊎ ((index : ℕ) × (wide : ℕ) × IsFirstLong functions index wide)

-- a short one before others changes nothing
after_short : (f : Function) (functions : List Function) → IsShort f → ShortOrNot functions
    → ShortOrNot (f ∷ functions)
after_short f functions short (inl all) = inl (All-cons IsShort f functions short all)
after_short f functions short (inr (index, wide, first)) = inr (
  suc index,
  wide,
  record {
    function = first.function;
    here = first.here;
    size = first.size;
    long = first.long;
    shorter = All-cons IsShort f (take index functions) short first.shorter;
  },
)

short_or_not : (functions : List Function) → ShortOrNot functions
short_or_not [] = inl (All-nil IsShort)
short_or_not (f ∷ functions) = elim (cases_Bool (leb (function_wide f) most_code)) [
  | inl short ↦
      after_short f functions (leb-true (function_wide f) most_code short) (short_or_not functions)
  | inr long ↦ inr (
    0,
    function_wide f,
    record {
      function = f;
      here = refl;
      size = refl;
      long = leb-false (function_wide f) most_code long;
      shorter = All-nil IsShort;
    },
  )
]

-- ---- sources

no_faults : (some : List ScopeFault) → first_fault some ≡ None → some ≡ []
no_faults [] is = refl
no_faults (first ∷ others) is = absurd cc

module _ (source : List ℕ) (short : length source < 2 ^ 31) where
  abbrev pub Found : Type 0
  Found = ((p : Program) × IsAccepted source p) ⊎ ((why : CompileFault) × IsFaultOf source why)

  -- a source with a program whose names are in order, by its sizes
  by_code : (p : Program) → IsSourceOf source p → IsScoped p → length (pool p) ≤ most_constants
      → ShortOrNot p.functions → Found
  by_code p spells scoped few (inl all) = inl (
    p,
    record {
      short = short;
      spells = spells;
      scoped = scoped;
      room = record { constants = few; code = all };
    },
  )
  by_code p spells scoped few (inr (index, wide, first)) =
      inr (
        fault.CodeTooLong index wide,
        record {
          cause = record {
            program = p;
            spelled = spells;
            scoped = scoped;
            few = few;
            first = first;
          };
          some = λ e. cc;
        },
      )

  by_sizes : (p : Program) → IsSourceOf source p → IsScoped p → Found
  by_sizes p spells scoped = elim (cases_Bool (leb (length (pool p)) most_constants)) [
    | inl few ↦
        by_code p spells scoped (leb-true (length (pool p)) most_constants few)
        (short_or_not p.functions)
    | inr many ↦ inr (
      fault.TooManyConstants (length (pool p)),
      record {
        cause = record {
          program = p;
          spelled = spells;
          scoped = scoped;
          past = leb-false (length (pool p)) most_constants many;
          needed = refl;
        };
        some = λ e. cc;
      },
    )
  ]

  -- a source with a program, by its names
  by_names : (p : Program) → IsSourceOf source p → (first : Option ScopeFault)
      → first_fault (faults p) ≡ first → Found
  by_names p spells None none =
      by_sizes p spells (scoped_without_faults p (no_faults (faults p) none))
  by_names p spells (Some why) some = inr (
    fault.Scope why,
    record {
      cause = record {
        program = p;
        spelled = spells;
        found = first_is_fault p why some;
        first = some;
      };
      some = λ e. cc;
    },
  )

  -- a source with tokens, by what they spell
  module _ (tokens : List Token) (are : AreTokens source tokens) where
    abbrev spelled : Result Program ParseFault
    spelled = program_at source (statement_at source LEVEL_LIMIT) (lexemes_of source tokens)

    -- what isn't read is no program of so few levels
    unread : (why : ParseFault) → spelled ≡ Err why → (p : Program)
        → IsProgram source LEVEL_LIMIT (lexemes_of source tokens) p → ⊥
    unread why is p of =
        cc (sym (program_again source LEVEL_LIMIT (lexemes_of source tokens) p of) ∙ is)

    by_program : (read : Result Program ParseFault) → spelled ≡ read → Found
    by_program (Ok p) is = by_names p (record {
      tokens = tokens;
      are_tokens = are;
      spells = program_ok source LEVEL_LIMIT (lexemes_of source tokens) p is;
    }) (first_fault (faults p)) refl
    by_program (Err (parse.Syntax at)) is = inr (
      fault.Parse (parse.Syntax at),
      record {
        cause = record {
          tokens = tokens;
          are_tokens = are;
          none = unread (parse.Syntax at) is;
          why = program_none source (lexemes_of source tokens) at LEVEL_LIMIT is;
          stops = is;
        };
        some = λ e. cc;
      },
    )
    by_program (Err (parse.Nested at)) is = inr (
      fault.Parse (parse.Nested at),
      record {
        cause = record {
          tokens = tokens;
          are_tokens = are;
          none = unread (parse.Nested at) is;
          why = (
            program_past source (lexemes_of source tokens) LEVEL_LIMIT 0 at is,
            λ p spells.
                first_spelled source (lexemes_of source tokens) LEVEL_LIMIT at p is spells,
          );
          stops = is;
        };
        some = λ e. cc;
      },
    )
    by_program (Err parse.NoMemory) is =
        absurd (program_unfailing source (lexemes_of source tokens) LEVEL_LIMIT 0 is)

  -- a source that is a text, by its tokens
  by_tokens : IsUtf8 source → (read : Result (List Token) LexFault)
      → pieces_at (length source) 0 source ≡ read → Found
  by_tokens text (Ok tokens) is =
      let are : AreTokens source tokens =
      record { text = text; lexed = read_ok (length source) 0 source tokens (omega arith) is } in
      by_program tokens are (spelled tokens are) refl
  by_tokens text (Err why) is = inr (
    fault.Lex why,
    record {
      cause = stops why text (read_err (length source) 0 source why (omega arith) is);
      some = λ e. cc;
    },
  )

  pub found : Found
  found = elim (cases_Bool (is_utf8 source)) [
    | inl text ↦
        by_tokens (IsUtf8-from_is_utf8 source text) (pieces_at (length source) 0 source) refl
    | inr other ↦ inr (
      fault.Lex lex.NotText,
      record {
        cause = no_text (λ text. cc (sym (is_utf8-from_IsUtf8 source text) ∙ other));
        some = λ e. cc;
      },
    )
  ]
