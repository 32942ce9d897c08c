-- What is written for the parts of a context is their image, and can be written.
use Rattle.std.proofs.Common.{◌≡◌, ℕ, suc, ◌<◌, ◌≤◌, ◌^◌, true, false, List, []}
use Rattle.std.proofs.Common.{◌∷◌, ◌++◌, length, Result, Ok, Err, refl, sym, ap, subst, ◌∙◌, arith}
use Rattle.std.specs.Prelude.{IfOk, ⊤, ◌&&◌, ◌||◌, encode_utf8_all, nat_le, nat_lt}
use Rattle.std.specs.Int.{w64, to_be_bytes}
use Rattle.std.specs.List.{flat_map, list_all, AllByRecursion, All}
use Rattle.std.specs.List.Sorted.{IsStrictlySortedBy}
use Rattle.std.specs.Map.{keys_of, values_of}
use Rattle.std.specs.Str.{all_scalars}
use Rattle.std.specs.Ordering.{is_lt}
use Rattle.std.specs.declared.cmp.Ordering.TheVariants.{Less}
use Rattle.std.proofs.lemmas.Bool.{ltb-true, lt-ltb, le-leb, and_parts, and_from}
use Rattle.std.proofs.lemmas.Nat.{from_be_bytes-to_be_bytes_8}
use Rattle.std.proofs.lemmas.Str.{chars-encodes}
use Rattle.wap_base.specs.Names.{is_name}
use Rattle.wap_base.specs.Numbers.{IsMb, mb_spelling}
use Rattle.wap_base.specs.Texts.{text_cmp}
use Rattle.wap_base.specs.Utf8.{utf8_len}
use Rattle.wap_base.specs.Limits.{AreInRange}
use Rattle.wap_base.specs.declared.limits.Limits.{Limits}
use Rattle.wap_base.proofs.CharsetLaws.{text_in-utf8}
use Rattle.wap_base.proofs.NumberSpelling.{IsShortest-mb_spelling}
use Rattle.wap_base.proofs.Utf8Lengths.{length-encode_utf8_all}
use Rattle.wap_vars.specs.Variables.{AreVars}
use Rattle.wap_vars.specs.declared.limits.TheConstants.{TEXT_LIMIT}
use Rattle.wap_image.specs.declared.context_parts.parts.ContextParts.{ContextParts}
use Rattle.wap_image.specs.declared.context_parts.parts.SavedTimer.{SavedTimer}
use Rattle.wap_image.specs.declared.context_parts.parts.SavedTimer.TheVariants.{NotStarted, Running}
use Rattle.wap_image.specs.declared.context_parts.parts.SavedTimer.TheVariants.{Off}
use Rattle.wap_image.specs.declared.kind.TimerKind.TheVariants as kind
use Rattle.wap_image.specs.declared.kind.TheConstants.{NOT_STARTED, RUNNING, OFF}
use Rattle.wap_base.specs.formats.Sequences.{IsRowAfter, Passing}
use Rattle.wap_base.proofs.formats.Parts.{both, then_is}
use Rattle.wap_image.specs.Items.{head, is_drawn, is_after, is_next_name, is_value_length}
use Rattle.wap_image.specs.Items.{is_not_started, is_entry_text}
use Rattle.wap_image.specs.Images.{IsText, AreLimits, IsTimer, IsVariable, AreVariables, IsEntry}
use Rattle.wap_image.specs.Images.{AreEntries, IsImage, IsDrawn}
use Rattle.wap_image.specs.Rules.{AreParts, is_short_text, is_short_variable, is_short_entry}
use Rattle.wap_image.specs.Rules.{are_short}
use Rattle.wap_image.specs.Spelling.{text_spelling, limits_spelling, timer_spelling}
use Rattle.wap_image.specs.Spelling.{variable_spelling, entry_spelling, variables_spelling}
use Rattle.wap_image.specs.Spelling.{entries_spelling, spelling}
use Rattle.wap_image.specs.inside.Fitting.{FitsText, FitsVariable, FitsEntry, FitsParts, FitsTimer}
use Rattle.wap_image.specs.inside.Fitting.{OfVariable, OfEntry}

-- ---- tests

-- a number between two others
between : (low n high : ℕ) → low ≤ n → n ≤ high → (nat_le low n && nat_le n high) ≡ true
between low n high one two =
    and_from (nat_le low n) (nat_le n high) (le-leb low n one) (le-leb n high two)

-- ---- numbers and texts

-- a number is written in the shortest way
number_is : (n : ℕ) → n < 2 ^ 32 → IsMb (mb_spelling n) n
number_is n fits = (IsShortest-mb_spelling n fits).spells

-- a text of characters is written after its length
text_is : (IsSize : List ℕ → ℕ → Type 0) (text : List ℕ)
    → IsSize (mb_spelling (length (encode_utf8_all text))) (length (encode_utf8_all text))
    → all_scalars text ≡ true → IsText IsSize (text_spelling text) text
text_is IsSize text size scalars =
    let content : List ℕ = encode_utf8_all text in (
      content,
      then_is (length content) (mb_spelling (length content)) _ size (refl, refl),
      sym (text_in-utf8 content text (text, (scalars, refl)) (sym (chars-encodes text scalars))),
    )

-- the length of a short text can be written
short_fits : (text : List ℕ) → is_short_text text ≡ true → FitsText text
short_fits text short = ltb-true _ _ short

-- ---- limits and timers

-- limits that may be chosen
limits_are : (limits : Limits) → AreInRange limits → AreLimits (limits_spelling limits) limits
limits_are limits are =
    let string = are.string in
    let most : limits.string ≤ 1048575 = string.1 in
    then_is limits.string (mb_spelling limits.string) _
    (number_is limits.string (omega arith), between _ _ _ string.0 string.1)
    (then_is limits.history (limits.history ∷ []) _
    (refl, between _ _ _ are.history.0 are.history.1)
    (limits.depth, (refl, between _ _ _ are.depth.0 are.depth.1), refl))

-- the byte of a kind, and what follows it
timer_is : (timer : SavedTimer) → ((tenths : ℕ) → timer ≡ Running tenths → 0 < tenths)
    → FitsTimer timer
    → IsTimer (timer_spelling timer) timer
timer_is NotStarted runs fits =
    then_is kind.NotStarted (NOT_STARTED ∷ []) _ (NOT_STARTED, refl, refl) (refl, refl)
timer_is (Running tenths) runs fits =
    then_is kind.Running (RUNNING ∷ []) _ (RUNNING, refl, refl)
    (tenths, (number_is tenths fits, lt-ltb 0 tenths (runs tenths refl)), refl)
timer_is Off runs fits = then_is kind.Off (OFF ∷ []) _ (OFF, refl, refl) (refl, refl)

-- ---- variables

-- what may stand as a variable after these
record MayFollow (before : List (List ℕ × List ℕ)) (variable : List ℕ × List ℕ) : Type 0 where
  name : is_next_name before variable.0 ≡ true
  fits : FitsText variable.0
  short : length (encode_utf8_all variable.1) ≤ TEXT_LIMIT
  texts : OfVariable variable

-- one variable
variable_is : (before : List (List ℕ × List ℕ)) (variable : List ℕ × List ℕ)
    → MayFollow before variable → IsVariable before (variable_spelling variable) variable
variable_is before variable may =
    let short : length (encode_utf8_all variable.1) ≤ 65535 = may.short in
    then_is variable.0 (text_spelling variable.0) _
    (text_is IsMb variable.0 (number_is _ may.fits) may.texts.name, may.name) (
      variable.1,
      text_is (Passing is_value_length IsMb) variable.1
          (number_is _ (omega arith), le-leb _ _ short) may.texts.value,
      refl,
    )

-- each of these may follow those before it
abbrev AllMayFollow : List (List ℕ × List ℕ) → List (List ℕ × List ℕ) → Type 0
AllMayFollow before [] = ⊤
AllMayFollow before (variable ∷ variables) =
    MayFollow before variable × AllMayFollow (before ++ variable ∷ []) variables

-- variables one after the other
row_is : (before variables : List (List ℕ × List ℕ)) → AllMayFollow before variables
    → IsRowAfter IsVariable before (flat_map variable_spelling variables) variables
row_is before [] may = refl
row_is before (variable ∷ variables) may =
    both (variable_spelling variable) _ (variable_is before variable may.0)
    (row_is (before ++ variable ∷ []) variables may.1)

-- the last of variables is the one that was added
pub after_last : (before : List (List ℕ × List ℕ)) (variable : List ℕ × List ℕ) (name : List ℕ)
    → is_after (before ++ variable ∷ []) name ≡ is_lt (text_cmp variable.0 name)
after_last [] variable name = refl
after_last (one ∷ []) variable name = refl
after_last (one ∷ next ∷ before) variable name = after_last (next ∷ before) variable name

-- names that come after the one that was added
names_after : (before : List (List ℕ × List ℕ)) (variable : List ℕ × List ℕ)
    (names : List (List ℕ)) → AllByRecursion (λ name. text_cmp variable.0 name ≡ Less) names
    → AllByRecursion (λ name. is_after (before ++ variable ∷ []) name ≡ true) names
names_after before variable [] less = tt
names_after before variable (name ∷ names) less = (
  after_last before variable name ∙ ap is_lt less.0,
  names_after before variable names less.1,
)

-- variables in order may follow each other
all_follow : (before variables : List (List ℕ × List ℕ))
    → AllByRecursion (λ name. is_after before name ≡ true) (keys_of variables)
    → IsStrictlySortedBy text_cmp (keys_of variables)
    → All (λ (name : List ℕ). is_name name ≡ true) (keys_of variables)
    → All (λ (text : List ℕ). utf8_len text ≤ TEXT_LIMIT) (values_of variables)
    → list_all is_short_variable variables ≡ true → AllByRecursion OfVariable variables
    → AllMayFollow before variables
unfolding IsStrictlySortedBy
all_follow before [] after sorted named short fits texts = tt
all_follow before (variable ∷ variables) after sorted named short fits texts =
    let split =
    and_parts (is_short_variable variable) (list_all is_short_variable variables) fits in
    let value : utf8_len variable.1 ≤ TEXT_LIMIT = short 0 [] (omega arith) in (
      record {
        name =
            and_from (is_name variable.0) (is_after before variable.0) (named 0 [] (omega arith))
            after.0;
        fits = short_fits variable.0 split.0;
        short =
            subst (λ (n : ℕ). n ≤ TEXT_LIMIT) (sym (length-encode_utf8_all variable.1)) value;
        texts = texts.0;
      },
      all_follow (before ++ variable ∷ []) variables
          (names_after before variable (keys_of variables) sorted.0) sorted.1
          (λ k d within. named (suc k) d (omega (arith, within)))
          (λ k d within. short (suc k) d (omega (arith, within))) split.1 texts.1,
    )

-- nothing stands before the first name
after_none : (names : List (List ℕ)) → AllByRecursion (λ name. is_after [] name ≡ true) names
after_none [] = tt
after_none (name ∷ names) = (refl, after_none names)

-- the variables of a context may follow each other
vars_follow : (parts : ContextParts) → AreVars parts.vars
    → list_all is_short_variable parts.vars ≡ true → AllByRecursion OfVariable parts.vars
    → AllMayFollow [] parts.vars
vars_follow parts vars fits texts =
    all_follow [] parts.vars (after_none (keys_of parts.vars)) vars.ordered vars.named vars.short
    fits texts

-- after their number
variables_are : (parts : ContextParts) → AreVars parts.vars
    → list_all is_short_variable parts.vars ≡ true → AllByRecursion OfVariable parts.vars
    → AreVariables (variables_spelling parts.vars) parts.vars
variables_are parts vars fits texts =
    let few : length parts.vars ≤ 1024 = vars.few in
    then_is (length parts.vars) (mb_spelling (length parts.vars)) _
    (number_is (length parts.vars) (omega arith), le-leb _ _ few)
    (row_is [] parts.vars (vars_follow parts vars fits texts), refl)

-- ---- entries

-- entries one after the other
list_is : (before entries : List (List ℕ × ℕ))
    → AllByRecursion (λ entry. is_entry_text entry.0 ≡ true) entries
    → list_all is_short_entry entries ≡ true → AllByRecursion OfEntry entries
    → IsRowAfter (λ before. IsEntry) before (flat_map entry_spelling entries) entries
list_is before [] urls fits texts = refl
list_is before (entry ∷ entries) urls fits texts =
    let split = and_parts (is_short_entry entry) (list_all is_short_entry entries) fits in
    let one = and_parts (is_short_text entry.0) (nat_lt entry.1 (2 ^ 32)) split.0 in
    both (entry_spelling entry) _ (then_is entry.0 (text_spelling entry.0) _
    (text_is IsMb entry.0 (number_is _ (short_fits entry.0 one.0)) texts.0, urls.0)
    (entry.1, number_is entry.1 (ltb-true _ _ one.1), refl))
    (list_is (before ++ entry ∷ []) entries urls.1 split.1 texts.1)

-- there are some entries where the timer has started
some_started : (timer : SavedTimer) (entries : List (List ℕ × ℕ))
    → (entries ≡ [] → timer ≡ NotStarted)
    → (is_not_started timer || nat_lt 0 (length entries)) ≡ true
some_started timer [] started =
    ap (λ (t : SavedTimer). is_not_started t || false) (started refl)
some_started NotStarted (entry ∷ entries) started = refl
some_started (Running tenths) (entry ∷ entries) started = lt-ltb 0 _ (omega arith)
some_started Off (entry ∷ entries) started = lt-ltb 0 _ (omega arith)

-- after their number
entries_are : (parts : ContextParts) → AreParts parts
    → list_all is_short_entry parts.history ≡ true → AllByRecursion OfEntry parts.history
    → AreEntries parts.limits parts.timer (entries_spelling parts.history) parts.history
entries_are parts are fits texts =
    then_is (length parts.history) (length parts.history ∷ []) _ (
      refl,
      and_from (nat_le (length parts.history) parts.limits.history)
          (is_not_started parts.timer || nat_lt 0 (length parts.history)) (le-leb _ _ are.few)
          (some_started parts.timer parts.history are.started),
    ) (list_is [] parts.history are.urls fits texts, refl)

-- ---- images

-- how many words were drawn
drawn_is : (drawn : ℕ) → is_drawn drawn ≡ true → IsDrawn (to_be_bytes w64 drawn) drawn
drawn_is drawn few =
    let below : drawn < 18446744073709551615 = ltb-true _ _ few in (
      (
        to_be_bytes w64 drawn,
        (refl, refl),
        sym (from_be_bytes-to_be_bytes_8 drawn (omega arith)),
      ),
      few,
    )

-- what has to be known besides of the parts and the turns
pub record IsKnown (parts : ContextParts) (budget : ℕ) : Type 0 where
  pub seed : parts.seed < 2 ^ 32
  pub start : parts.start < 2 ^ 32
  pub turns : budget < 2 ^ 32
  pub timer : FitsTimer parts.timer
  pub vars : AllByRecursion OfVariable parts.vars
  pub history : AllByRecursion OfEntry parts.history

-- what is written is the image
pub image_is : (parts : ContextParts) (budget : ℕ) → AreParts parts → 0 < budget
    → is_drawn parts.drawn ≡ true → are_short parts ≡ true → IsKnown parts budget
    → IsImage (spelling parts budget) (parts, budget)
unfolding spelling IsImage
image_is parts budget are turns drawn short known =
    let split =
    and_parts (list_all is_short_variable parts.vars) (list_all is_short_entry parts.history) short
    in
    then_is head head _ ((refl, refl), refl)
    (then_is parts.seed (mb_spelling parts.seed) _ (number_is parts.seed known.seed)
    (then_is parts.start (mb_spelling parts.start) _ (number_is parts.start known.start)
    (then_is parts.drawn (to_be_bytes w64 parts.drawn) _ (drawn_is parts.drawn drawn)
    (then_is budget (mb_spelling budget) _
    (number_is budget known.turns, lt-ltb 0 budget turns)
    (then_is parts.limits (limits_spelling parts.limits) _ (limits_are parts.limits are.limits)
    (then_is parts.timer (timer_spelling parts.timer) _
    (timer_is parts.timer are.runs known.timer)
    (then_is parts.vars (variables_spelling parts.vars) _
    (variables_are parts are.vars split.0 known.vars)
    (parts.history, entries_are parts are split.1 known.history, refl))))))))

-- ---- lengths

-- variables that may follow each other can be written
vars_fit : (before variables : List (List ℕ × List ℕ)) → AllMayFollow before variables
    → AllByRecursion FitsVariable variables
vars_fit before [] may = tt
vars_fit before (variable ∷ variables) may =
    let short : length (encode_utf8_all variable.1) ≤ 65535 = may.0.short in (
      record { name = may.0.fits; value = omega arith },
      vars_fit (before ++ variable ∷ []) variables may.1,
    )

-- short entries can be written
entries_fit : (entries : List (List ℕ × ℕ)) → list_all is_short_entry entries ≡ true
    → AllByRecursion FitsEntry entries
entries_fit [] fits = tt
entries_fit (entry ∷ entries) fits =
    let split = and_parts (is_short_entry entry) (list_all is_short_entry entries) fits in
    let one = and_parts (is_short_text entry.0) (nat_lt entry.1 (2 ^ 32)) split.0 in (
      record { url = short_fits entry.0 one.0; card = ltb-true _ _ one.1 },
      entries_fit entries split.1,
    )

-- the parts can be written
pub parts_fit : (parts : ContextParts) → AreParts parts → are_short parts ≡ true
    → AllByRecursion OfVariable parts.vars → FitsParts parts
parts_fit parts are short texts =
    let split =
    and_parts (list_all is_short_variable parts.vars) (list_all is_short_entry parts.history) short
    in
    let few_vars : length parts.vars ≤ 1024 = are.vars.few in
    let few = are.few in
    let most : parts.limits.history ≤ 255 = are.limits.history.1 in
    record {
      few_vars = omega arith;
      few = omega arith;
      vars = vars_fit [] parts.vars (vars_follow parts are.vars split.0 texts);
      history = entries_fit parts.history split.1;
    }

-- what a call gives is the image
pub written_is : {E : Type 0} (parts : ContextParts) (budget : ℕ) (r : Result (List ℕ) E)
    → IfOk r (λ bytes. bytes ≡ spelling parts budget)
    → IsImage (spelling parts budget) (parts, budget)
    → IfOk r (λ bytes. IsImage bytes (parts, budget))
written_is parts budget (Ok bytes) same is =
    subst (λ (l : List ℕ). IsImage l (parts, budget)) (sym same) is
written_is parts budget (Err e) same is = tt

-- each name comes after none
pub after_nothing : (before : List (List ℕ × List ℕ)) (name : List ℕ) → length before ≡ 0
    → true ≡ is_after before name
after_nothing [] name none = refl
after_nothing (variable ∷ before) name none = absurd (omega (arith, none))
