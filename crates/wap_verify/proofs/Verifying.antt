-- The verifier as a whole: what refuses a unit, and what is kept of one.
use Rattle.std.proofs.Common.{◌≡◌, ◌≢◌, ℕ, ◌+◌, ◌<◌, true, List, [], ◌∷◌, ◌++◌}
use Rattle.std.proofs.Common.{length, map, get_or, Option, Some, None, Result, Ok, Err, refl}
use Rattle.std.proofs.Common.{sym, ap, subst, ◌∙◌, ◌⊎◌, inl, inr, arith}
use Rattle.std.specs.Prelude.{slice_get, slice_index, option_and_then}
use Rattle.std.specs.List.{AllByRecursion}
use Rattle.std.specs.Option.{option_map}
use Rattle.std.proofs.lemmas.Bool.{cases_lt}
use Rattle.std.proofs.lemmas.Option.{slice_get-map, slice_get_within}
use Rattle.std.proofs.lemmas.List.{get_or_append_left, get_or_push, length_push}
use Rattle.wap_base.proofs.Choices.{some_same}
use Rattle.wap_base.specs.declared.charset.Charset.{Charset}
use Rattle.wap_unit.specs.declared.unit.Unit.{Unit}
use Rattle.wap_unit.specs.declared.unit.Code.{Code}
use Rattle.wap_unit.specs.declared.unit.Constant.{Constant}
use Rattle.wap_unit.specs.declared.unit.Constant.TheVariants.{Coded}
use Rattle.wap_unit.specs.declared.row.Row.{Row}
use Rattle.wap_unit.specs.declared.instr.Instr.{Instr}
use Rattle.wap_unit.specs.declared.instr.InstrFault.{InstrFault}
use Rattle.wap_base.specs.Charsets.{charset_of, is_text}
use Rattle.wap_unit.specs.Strings.{string_of, string_at}
use Rattle.wap_unit.specs.Instructions.{row_of, read_row}
use Rattle.wap_unit.specs.Sequences.{IsRow}
use Rattle.wap_unit.specs.Units.{IsConstant, IsUnit}
use Rattle.wap_verify.specs.declared.step.Step.{Step}
use Rattle.wap_verify.specs.declared.fault.VerifyFault.{VerifyFault}
use Rattle.wap_verify.specs.declared.fault.VerifyFault.TheVariants as fault
use Rattle.wap_verify.specs.CodePlaces.{operand_fault, checked, instr_read, step_by, step_at}
use Rattle.wap_verify.specs.Sound.{is_aimed, IsSound, IsRoom, IsVerified}
use Rattle.wap_verify.specs.Faults.{IsFunctionFault, item, target, underflow}
use Rattle.wap_verify.specs.Faults.{depths, IsFault, pragma, function}
use Rattle.wap_verify.specs.Kept.{coded_text, IsReadableText, IsReadable, AreRooms}
use Rattle.wap_verify.specs.Ready.{NeverStuck}
use Rattle.wap_verify.proofs.Walks.{runs_same}
use Rattle.wap_verify.proofs.Working.{is_here, runs_has, stands_at, stands_reached}
use Rattle.wap_verify.proofs.Working.{stays_reached, ways_reached}

-- ---- no unit that may be run has a fault

-- a function that is sound has no fault
unsound : (unit : Unit) (index : ℕ) (code : Code) (found : VerifyFault) → IsSound unit index code
    → IsFunctionFault unit index code found → ⊥
unsound unit index code found sound (item places at runs within is) =
    let split = sound.split in
    let among = runs_has unit index code 0 places split.places at runs split.runs within in
    let stands = stands_at unit index code 0 split.places (length code.code) at split.runs among in
    cc (sym is ∙ stands.1)
unsound unit index code found sound
    (target places front at whole runs within aimed misses same) =
    let split = sound.split in
    let places_same : split.places ≡ places =
    runs_same unit index code 0 split.places places split.runs whole in
    let among = runs_has unit index code 0 front split.places at runs split.runs within in
    let hits : is_aimed unit index code places at ≡ true =
    subst (λ (l : List ℕ). is_aimed unit index code l at ≡ true) places_same
    (is_here split.places at among (is_aimed unit index code split.places) split.aimed) in
    cc (sym hits ∙ misses)
unsound unit index code found sound (underflow at values step split within reached is few same) =
    let enough = sound.enough at values step within reached is in
    omega arith
unsound unit index code found sound (depths at some other split within first second apart same) =
    apart (sound.one at some other within first second)

-- a unit that may be run has no fault
pub unverified : (unit : Unit) (found : VerifyFault) → IsVerified unit → IsFault unit found → ⊥
unverified unit found verified (pragma index is same) = cc (sym is ∙ verified.pragmas)
unverified unit found verified (function index code pragmas is earlier fault) =
    unsound unit index code found
    (verified.functions index code (within unit.functions index code is) is) fault
  where
    within : (functions : List Code) (index : ℕ) (code : Code)
        → slice_get functions index ≡ Some code → index < length functions
    within functions index code is = slice_get_within functions index code is

-- a fault that can only be out of memory is that
pub no_memory : (found : VerifyFault) → (found ≢ fault.NoMemory → ⊥) → found ≡ fault.NoMemory
no_memory fault.NoMemory never = refl
no_memory _ never = absurd (never (λ e. cc e))

-- ---- room for each function

-- an index below the next count is the last or one before it
last_or_before : (i count : ℕ) → i < count + 1 → (i ≡ count) ⊎ (i < count)
last_or_before i count within =
    elim (cases_lt i count) [ inl less ↦ inr less | inr more ↦ inl (omega arith) ]

-- room for one function more
pub rooms_push : (unit : Unit) (count : ℕ) (rooms : List ℕ) (code : Code) (room : ℕ)
    → AreRooms unit count rooms → slice_get unit.functions count ≡ Some code
    → IsSound unit count code → IsRoom unit count code room
    → AreRooms unit (count + 1) (rooms ++ room ∷ [])
rooms_push unit count rooms code room so_far is sound fits =
    let long = so_far.long in
    record {
      long = length_push rooms room ∙ ap (λ (n : ℕ). n + 1) long;
      sound = λ i other within there. elim (last_or_before i count within) [
        | inl last ↦
            same_sound i other last
            (some_same code other (sym is ∙ ap (slice_get unit.functions) (sym last) ∙ there))
        | inr before ↦ so_far.sound i other before there
      ];
      each = λ i other within there. elim (last_or_before i count within) [
        | inl last ↦
            let code_is : code ≡ other =
            some_same code other (sym is ∙ ap (slice_get unit.functions) (sym last) ∙ there) in
            let value : get_or (rooms ++ room ∷ []) i 0 ≡ room =
            get_or_push rooms room 0 i (long ∙ sym last) in
            subst (IsRoom unit i other) (sym value) (subst (λ (n : ℕ). IsRoom unit n other room)
            (sym last) (subst (λ (c : Code). IsRoom unit count c room) code_is fits))
        | inr before ↦
            let inside : i < length rooms = omega arith in
            subst (IsRoom unit i other) (sym (get_or_append_left rooms (room ∷ []) 0 i inside))
            (so_far.each i other before there)
      ];
    }
  where
    same_sound : (i : ℕ) (other : Code) → i ≡ count → code ≡ other → IsSound unit i other
    same_sound i other last code_is =
        subst (λ (n : ℕ). IsSound unit n other) (sym last)
        (subst (λ (c : Code). IsSound unit count c) code_is sound)

-- ---- texts

-- the coded string of a constant that was read is a text
readable : (charset : ℕ) (bytes : List ℕ) (c : Constant) → IsConstant charset bytes c
    → IsReadable (charset_of charset) c
readable charset bytes (Coded text) is =
    let coded = is.2.2.1 in
    subst (λ (o : Option Charset). IsReadableText o text) (sym coded.known)
    (subst (λ (l : List ℕ). is_text coded.set l ≡ true) is.2.2.0 coded.fits)
readable charset bytes _ is = tt

-- so are those of a pool
row_readable : (charset : ℕ) (bytes : List ℕ) (cs : List Constant)
    → IsRow (IsConstant charset) bytes cs → AllByRecursion (IsReadable (charset_of charset)) cs
row_readable charset bytes [] row = tt
row_readable charset bytes (c ∷ cs) row =
    (readable charset row.front c row.first, row_readable charset row.back cs row.second)

-- and those of a unit
pub all_readable : (bytes : List ℕ) (unit : Unit) → IsUnit bytes unit
    → AllByRecursion (IsReadable (charset_of unit.charset)) unit.constants
all_readable bytes unit is =
    let pool = is.body_is.first in
    row_readable unit.charset pool.second.back unit.constants pool.second.second

-- the text that is kept at the index of a coded string
kept_at : (unit : Unit) (texts : List (Option (List ℕ))) (index : ℕ) (bytes : List ℕ)
    → texts ≡ map (coded_text (charset_of unit.charset)) unit.constants
    → slice_get unit.constants index ≡ Some (Coded bytes)
    → slice_get texts index ≡ Some (string_of unit.charset (Coded bytes))
kept_at unit texts index bytes are is =
    ap (λ (l : List (Option (List ℕ))). slice_get l index) are
    ∙ slice_get-map (coded_text (charset_of unit.charset)) unit.constants index
    ∙ ap (option_map (coded_text (charset_of unit.charset))) is

-- the text that is kept there is the string
pub string_kept : (unit : Unit) (texts : List (Option (List ℕ))) (index : ℕ) (bytes : List ℕ)
    (text : Option (List ℕ)) → texts ≡ map (coded_text (charset_of unit.charset)) unit.constants
    → Some (Coded bytes) ≡ slice_get unit.constants index → Some text ≡ slice_get texts index
    → text ≡ string_at unit index
string_kept unit texts index bytes text are is there =
    some_same text (string_of unit.charset (Coded bytes))
    (there ∙ kept_at unit texts index bytes are (sym is))
    ∙ ap (option_and_then (string_of unit.charset)) is

-- there is a text for each constant
pub string_missed : (unit : Unit) (texts : List (Option (List ℕ))) (index : ℕ) (bytes : List ℕ)
    → texts ≡ map (coded_text (charset_of unit.charset)) unit.constants
    → Some (Coded bytes) ≡ slice_get unit.constants index → None ≡ slice_get texts index → ⊥
string_missed unit texts index bytes are is there =
    cc (there ∙ kept_at unit texts index bytes are (sym is))

-- ---- what is ready

-- what was read at a place
record Read (unit : Unit) (index : ℕ) (code : Code) (at : ℕ) : Type 0 where
  row : Row
  row_is : row_of (slice_index code.code at) ≡ Some row
  instr : Instr
  read : read_row row code.code at ≡ Ok instr
  operands : operand_fault unit index code at row.operands instr ≡ None

module _ (unit : Unit) (index : ℕ) (code : Code) (at : ℕ) (step : Step) where
  -- where a step stands, no operand is at fault
  by_operands : (row : Row) (instr : Instr) (found : Option VerifyFault)
      → operand_fault unit index code at row.operands instr ≡ found
      → checked unit index code at row instr found ≡ Ok step → found ≡ None
  by_operands row instr (Some bad) is e = absurd (cc e)
  by_operands row instr None is e = refl

  -- where a step stands, the instruction is whole
  by_instr : (row : Row) (r : Result Instr InstrFault)
      → row_of (slice_index code.code at) ≡ Some row → read_row row code.code at ≡ r
      → instr_read unit index code at row r ≡ Ok step → Read unit index code at
  by_instr row (Err short) row_is read e = absurd (cc e)
  by_instr row (Ok instr) row_is read e =
      record {
        row = row;
        row_is = row_is;
        instr = instr;
        read = read;
        operands =
            by_operands row instr (operand_fault unit index code at row.operands instr) refl e;
      }

  -- where a step stands, the byte is the code of a row
  by_row : (o : Option Row) → row_of (slice_index code.code at) ≡ o
      → step_by unit index code at o ≡ Ok step → Read unit index code at
  by_row None is e = absurd (cc e)
  by_row (Some row) is e = by_instr row (read_row row code.code at) is refl e

  -- where a step stands, all that was read
  read_of : step_at unit index code at ≡ Ok step → Read unit index code at
  unfolding step_at
  read_of e = by_row (row_of (slice_index code.code at)) refl e

-- where a function is reached, its instruction is ready
pub never_stuck : NeverStuck
never_stuck = record {
  ready = λ unit index code at values verified is reached within.
      let sound =
      verified.functions index code (slice_get_within unit.functions index code is) is in
      let split = sound.split in
      let stands = stands_reached unit index code split at values reached within in
      let read = read_of unit index code at stands.0 stands.1 in
      record {
        row = read.row;
        row_is = read.row_is;
        instr = read.instr;
        read = read.read;
        operands = read.operands;
        step = stands.0;
        stands = stands.1;
        enough = sound.enough at values stands.0 within reached stands.1;
        stays = stays_reached unit index code split at values stands.0 reached within stands.1;
        ways = ways_reached unit index code split at values stands.0 reached within stands.1;
      };
}
