-- The unit of a program has a spelling, where what its source says can be spelled.
use Rattle.std.proofs.Common.{◌≡◌, ℕ, suc, ◌+◌, ◌*◌, ◌^◌, ◌<◌, ◌≤◌, Bool, true, false, ◌&&◌, cond}
use Rattle.std.proofs.Common.{List, [], ◌∷◌, ◌++◌, length, Some, None, map, refl, arith}
use Rattle.std.specs.Prelude.{encode_utf8_all}
use Rattle.std.specs.List.{AllByRecursion, flat_map, filter_map, enumerate_from, sum_by}
use Rattle.std.specs.List.{cons_option}
use Rattle.std.specs.Str.{all_scalars}
use Rattle.std.proofs.lemmas.Bool.{ltb-true}
use Rattle.std.proofs.Math.Nat.{mul-suc}
use Rattle.std.proofs.lemmas.List.{length-map, length-append}
use Rattle.std.proofs.lemmas.List.Elements.{recursion_from_All}
use Rattle.std.proofs.lemmas.List.Sums.{sum_by-cons}
use Rattle.std.proofs.lemmas.Option.{slice_get_within}
use Rattle.wap_base.specs.Numbers.{mb_spelling}
use Rattle.wap_unit.specs.declared.unit.Pragma.{Pragma}
use Rattle.wap_unit.specs.declared.unit.Pragma.TheVariants as pragma
use Rattle.wap_asm.specs.Placing.{wide}
use Rattle.wap_asm.proofs.PlacedLaws.{no_longer}
use Rattle.wap_grammar.specs.declared.program.program.Use.{Use}
use Rattle.wap_grammar.specs.declared.program.program.Use.TheVariants.{Access, Agent}
use Rattle.wap_grammar.specs.declared.program.program.Function.{Function}
use Rattle.wap_grammar.specs.declared.program.program.Program.{Program}
use Rattle.wap_grammar.specs.declared.program.expression.Literal.{Literal}
use Rattle.wap_grammar.specs.declared.program.expression.Literal.TheVariants.{Str}
use Rattle.wap_scope.specs.Scoped.{IsScoped}
use Rattle.wap_scope.proofs.AcceptedLemmas.Places.{all_by_places}
use Rattle.wap_meaning.proofs.Variables.{variables_first}
use Rattle.wap_meaning.specs.coding.Constants.{place_in, constant_for}
use Rattle.wap_unit.specs.Sequences.{IsRow, IsCounted}
use Rattle.wap_unit.specs.Units.{IsConstant, AreConstants, IsPragma, IsName, IsFunction}
use Rattle.wap_unit.specs.Units.{AreFunctions, IsBody, IsUnit}
use Rattle.wap_unit.specs.Spelling.{counted, constant_spelling, pragma_spelling, name_spelling}
use Rattle.wap_unit.specs.Spelling.{function_spelling, constants_spelling, functions_spelling}
use Rattle.wap_unit.specs.Spelling.{body_spelling, spelling}
use Rattle.wap_meaning.specs.compiled.Pool.{use_literals, pool}
use Rattle.wap_meaning.specs.compiled.Units.{pragmas_of, text_place, is_short, entry_of, entries}
use Rattle.wap_meaning.specs.compiled.Units.{forms_of, compiled_function, compiled}
use Rattle.wap_meaning.specs.compiled.Wide.{function_wide}
use Rattle.wap_meaning.specs.compiled.Accepted.{HasRoom}
use Rattle.wap_meaning.proofs.Each.{each_front, each_back, each_both}
use Rattle.wap_compiled_laws.proofs.BodiesLemmas.Pooled.{stands, InPool}
use Rattle.wap_compiled_laws.proofs.Functions.{AllTake, Among, in_uses, few_functions}
use Rattle.wap_compiled_laws.proofs.Functions.{few_variables, wide_exact, placeable, one_of}
use Rattle.wap_compiled_laws.proofs.SpellingLemmas.Written.{bytes_both, Written, in_turn, row}
use Rattle.wap_compiled_laws.proofs.SpellingLemmas.Written.{number, constant_written, pragma_size}
use Rattle.wap_compiled_laws.proofs.SpellingLemmas.Written.{HasSmall, pragma_written, name_written}
use Rattle.wap_compiled_laws.proofs.SpellingLemmas.Written.{function_written}
use Rattle.wap_compiled_laws.proofs.SourceSizes.Sizes.{text_size, CanBeSaid}
use Rattle.wap_compiled_laws.proofs.SpellingLemmas.Bytes.{placed_bytes}

-- what a program says can be spelled
pub record CanBeSpelled (p : Program) : Type 0 where
  -- it has a function
  pub some : 0 < length p.functions
  -- its integers are in range, and its texts and the names of its functions are texts
  pub literals : AllByRecursion CanBeSaid (pool p)
  pub names : AllByRecursion (λ (f : Function). all_scalars f.name.name ≡ true) p.functions
  -- its constants and pragmas have fewer bytes than a source
  pub short : sum_by text_size (pool p) + sum_by pragma_size (compiled p).pragmas < 2 ^ 31

-- ---- sums

sum_same : {X : Type 0} (n : ℕ) (xs : List X) → sum_by (λ x. n) xs ≡ n * length xs
sum_same n [] = omega arith
sum_same n (x ∷ xs) =
    omega (arith, sum_by-cons (λ x. n) x xs, sum_same n xs, mul-suc n (length xs))

-- ---- constants

-- how many bytes literals have at most as constants
constants_size : (ls : List Literal)
    → sum_by (λ (l : Literal). 6 + text_size l) ls ≡ 6 * length ls + sum_by text_size ls
constants_size [] = omega arith
constants_size (l ∷ ls) =
    omega (
      arith,
      sum_by-cons (λ (l : Literal). 6 + text_size l) l ls,
      sum_by-cons text_size l ls,
      constants_size ls,
    )

constants_written : (ls : List Literal) → AllByRecursion CanBeSaid ls
    → sum_by text_size ls < 2 ^ 32
    → Written (λ bytes. IsRow (IsConstant 106) bytes (map constant_for ls))
    (flat_map constant_spelling (map constant_for ls))
    (sum_by (λ (l : Literal). 6 + text_size l) ls)
constants_written [] said few = record { is = refl; are = tt; short = omega arith }
constants_written (l ∷ ls) said few =
    let sum = sum_by-cons text_size l ls in
    let rest = constants_written ls said.1 (omega (arith, few, sum)) in
    let whole = in_turn (constant_written l said.0 (omega (arith, few, sum))) rest in
    record {
      is = whole.is;
      are = whole.are;
      short = omega (arith, whole.short, sum_by-cons (λ (l : Literal). 6 + text_size l) l ls);
    }

-- ---- pragmas

module _ (constants : List Literal) (few : length constants ≤ 65536) where
  -- the number of a text that is there
  small : (t : List ℕ) → InPool constants (Str t) → text_place constants t < 65536
  small t there =
      omega (
        arith,
        slice_get_within constants (place_in (Str t) constants) (Str t)
            (stands (Str t) constants (there tt)),
        few,
      )

  use_small : (x : Use) → AllByRecursion (InPool constants) (use_literals x)
      → AllByRecursion HasSmall (pragmas_of (text_place constants) x)
  use_small (Access (Some domain) None span) all = (small domain all.0, tt)
  use_small (Access None (Some path) span) all = (small path all.0, tt)
  use_small (Access (Some domain) (Some path) span) all =
      (small domain all.0, (small path all.1.0, tt))
  use_small (Agent name content None) all = ((small name all.0, small content all.1.0), tt)
  use_small (Agent name content (Some scheme)) all =
      ((small name all.0, small content all.1.0, small scheme all.1.1.0), tt)
  use_small _ all = tt

  uses_small : (uses : List Use) → AllByRecursion (InPool constants) (flat_map use_literals uses)
      → AllByRecursion HasSmall (flat_map (pragmas_of (text_place constants)) uses)
  uses_small [] all = tt
  uses_small (x ∷ uses) all =
      each_both HasSmall (pragmas_of (text_place constants) x)
      (flat_map (pragmas_of (text_place constants)) uses)
      (use_small x (each_front (InPool constants) (use_literals x) _ all))
      (uses_small uses (each_back (InPool constants) (use_literals x) _ all))

pragmas_written : (ps : List Pragma) → AllByRecursion HasSmall ps
    → Written (λ bytes. IsRow IsPragma bytes ps) (flat_map pragma_spelling ps)
    (sum_by pragma_size ps)
pragmas_written ps small = row IsPragma pragma_spelling pragma_size ps (all ps small)
  where
    all : (ps : List Pragma) → AllByRecursion HasSmall ps
        → AllByRecursion (λ (p : Pragma). Written (λ bytes. IsPragma bytes p) (pragma_spelling p)
        (pragma_size p)) ps
    all [] small = tt
    all (p ∷ ps) small = (pragma_written p small.0, all ps small.1)

-- ---- names

module _ (count : ℕ) (few : count < 256) where
  -- the entry of a function can be written
  abbrev NameWritten : ℕ × List ℕ → Type 0
  NameWritten name = Written (λ bytes. IsName count bytes name) (name_spelling name) 257

  names_from : (index : ℕ) (fs : List Function) → index + length fs ≤ count
      → AllByRecursion (λ (f : Function). all_scalars f.name.name ≡ true) fs
      → AllByRecursion NameWritten (filter_map entry_of (enumerate_from index fs))
  names_from index [] within scalars = tt
  names_from index (f ∷ fs) within scalars =
      by f.external (is_short f.name.name) refl
      (names_from (index + 1) fs (omega (arith, within)) scalars.1)
    where
      by : (out short : Bool) → is_short f.name.name ≡ short
          → AllByRecursion NameWritten (filter_map entry_of (enumerate_from (index + 1) fs))
          → AllByRecursion NameWritten (cons_option
          (cond (out && short) (Some (index, f.name.name)) None)
          (filter_map entry_of (enumerate_from (index + 1) fs)))
      by true true is rest = (
        name_written (omega (arith, within)) few scalars.0
            (ltb-true (length (encode_utf8_all f.name.name)) 256 is),
        rest,
      )
      by true false is rest = rest
      by false short is rest = rest

  few_entries : (index : ℕ) (fs : List Function)
      → length (filter_map entry_of (enumerate_from index fs)) ≤ length fs
  few_entries index [] = omega arith
  few_entries index (f ∷ fs) =
      by (f.external && is_short f.name.name) (few_entries (index + 1) fs)
    where
      by : (out : Bool)
          → length (filter_map entry_of (enumerate_from (index + 1) fs)) ≤ length fs
          → length (cons_option
          (cond out (Some (index, f.name.name)) None)
          (filter_map entry_of (enumerate_from (index + 1) fs))) ≤ suc (length fs)
      by true rest = omega (arith, rest)
      by false rest = omega (arith, rest)

-- ---- functions

module _ (p : Program) (scoped : IsScoped p) (takes : AllTake p) (room : HasRoom p) where
  -- a function can be written
  one_written : (f : Function) → Among p f
      → Written (λ bytes. IsFunction bytes (compiled_function p f))
      (function_spelling (compiled_function p f)) 65542
  unfolding compiled_function
  one_written f among =
      let few = few_variables p scoped f among in
      let less = one_of p scoped takes room.constants f among
      (λ (f : Function). function_wide f ≤ 65535) room.code in
      let size = wide_exact p scoped takes room.constants f among in
      let wide_less : wide (forms_of p f) ≤ 65535 = omega (arith, size, less) in
      function_written (omega (arith, variables_first f, few))
      (omega (arith, variables_first f, few))
      (placed_bytes (forms_of p f) (placeable p scoped takes room.constants f among) wide_less)
      (omega (arith, no_longer (forms_of p f), wide_less))

  abbrev Fine : Function → Type 0
  Fine f = Written (λ bytes. IsFunction bytes (compiled_function p f))
      (function_spelling (compiled_function p f)) 65542

  all_written : (fs : List Function) → AllByRecursion Fine fs
      → Written (λ bytes. IsRow IsFunction bytes (map (compiled_function p) fs))
      (flat_map function_spelling (map (compiled_function p) fs)) (65542 * length fs)
  all_written [] fine = record { is = refl; are = tt; short = omega arith }
  all_written (f ∷ fs) fine =
      let whole = in_turn fine.0 (all_written fs fine.1) in
      record { is = whole.is; are = whole.are; short = omega (arith, whole.short) }

  functions_written : Written
      (λ bytes. IsRow IsFunction bytes (map (compiled_function p) p.functions))
      (flat_map function_spelling (map (compiled_function p) p.functions))
      (65542 * length p.functions)
  functions_written =
      all_written p.functions (recursion_from_All Fine p.functions
      (all_by_places Fine p.functions (λ earlier f later is.
      one_written f (record { earlier = earlier; later = later; functions = is }))))

-- ---- the whole unit

module _ (p : Program) (scoped : IsScoped p) (takes : AllTake p) (room : HasRoom p)
    (can : CanBeSpelled p) where
  -- the constants
  constants_part : Written (λ bytes. AreConstants bytes 106 (compiled p).constants)
      (constants_spelling 106 (compiled p).constants)
      (5 + (5 + sum_by (λ (l : Literal). 6 + text_size l) (pool p)))
  unfolding compiled
  constants_part =
      let constants = map constant_for (pool p) in
      let many : length constants ≡ length (pool p) = length-map (pool p) constant_for in
      in_turn (number (omega (arith, many, room.constants))) (in_turn (number (omega arith))
      (constants_written (pool p) can.literals (omega (arith, can.short))))

  -- pragmas have a byte each at least
  some_bytes : (ps : List Pragma) → length ps ≤ sum_by pragma_size ps
  some_bytes [] = omega arith
  some_bytes (q ∷ ps) = omega (arith, some_bytes ps, sum_by-cons pragma_size q ps, one q)
    where
      one : (q : Pragma) → 1 ≤ pragma_size q
      one (pragma.Domain text) = omega arith
      one (pragma.Path text) = omega arith
      one (pragma.Property name content) =
          omega arith
      one (pragma.Scheme name content scheme) =
          omega arith

  -- the pragmas
  pragmas_part : Written (λ bytes. IsCounted IsPragma bytes (compiled p).pragmas)
      (counted pragma_spelling (compiled p).pragmas)
      (5 + sum_by pragma_size (compiled p).pragmas)
  unfolding compiled
  pragmas_part =
      let ps = flat_map (pragmas_of (text_place (pool p))) p.uses in
      in_turn (number (omega (arith, some_bytes ps, can.short)))
      (pragmas_written ps (uses_small (pool p) room.constants p.uses (in_uses p)))

  -- the names and the functions
  functions_part : Written (λ bytes. AreFunctions bytes (compiled p).names (compiled p).functions)
      (functions_spelling (compiled p).names (compiled p).functions) 16780000
  unfolding compiled
  functions_part =
      let fs = map (compiled_function p) p.functions in
      let names = entries p.functions in
      let many : length fs ≡ length p.functions = length-map p.functions (compiled_function p) in
      let few = few_functions p scoped in
      let fewer = few_entries (length fs) (omega (arith, many, few)) 0 p.functions in
      let named = row (IsName (length fs)) name_spelling (λ name. 257) names
      (names_from (length fs) (omega (arith, many, few)) 0 p.functions (omega (arith, many))
      can.names) in
      let each = in_turn named (functions_written p scoped takes room) in
      record {
        is = record {
          rows = flat_map name_spelling names ++ flat_map function_spelling fs;
          spelled = refl;
          some = omega (arith, many, can.some);
          each = each.is;
        };
        are = (omega (arith, many, few), (omega (arith, fewer, few), each.are));
        short = omega (arith, each.short, sum_same 257 names, fewer, few);
      }

  -- the body
  body_part : Written (λ bytes. IsBody bytes (compiled p)) (body_spelling (compiled p))
      (2 ^ 31 + 17200000)
  unfolding body_spelling compiled
  body_part =
      let inner = in_turn pragmas_part functions_part in
      let whole = in_turn constants_part inner in
      record {
        is = whole.is;
        are = whole.are;
        short = omega (arith, whole.short, constants_size (pool p), room.constants, can.short);
      }

  -- its bytes are the unit, and fewer than 2^32
  pub is_spelled : IsUnit (spelling (compiled p)) (compiled p)
      × (length (spelling (compiled p)) < 2 ^ 32)
  unfolding spelling compiled
  is_spelled =
      let u = compiled p in
      let body = body_spelling u in
      let size = number (omega (arith, body_part.short)) in (
        record {
          bytes_are =
              (omega arith, bytes_both (mb_spelling (length body)) body size.are body_part.are);
          body = body;
          head = record {
            size = mb_spelling (length body);
            spelled = refl;
            low = omega arith;
            size_is = size.is;
          };
          body_is = body_part.is;
        },
        omega (arith, size.short, body_part.short, length-append (mb_spelling (length body)) body),
      )
