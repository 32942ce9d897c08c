-- The parts of an image keep the rules of parts, and can be written again.
use Rattle.std.proofs.Common.{◌≡◌, ℕ, zero, suc, ◌+◌, ◌<◌, ◌≤◌, ◌^◌, true, false, List, []}
use Rattle.std.proofs.Common.{◌∷◌, ◌++◌, length, get_or, Some, None, refl, sym, ap, subst, ◌∙◌}
use Rattle.std.proofs.Common.{Result, Ok, Err, inl, inr, arith}
use Rattle.std.specs.Prelude.{IfOk, ◌&&◌, ◌||◌, encode_utf8_all, nat_le, nat_lt, slice_index_or}
use Rattle.std.specs.Cmp.Lexicographic.{nat_list_cmp_total}
use Rattle.std.specs.List.{list_all, AllByRecursion}
use Rattle.std.specs.Map.{keys_of, values_of}
use Rattle.std.specs.Str.{is_utf8, chars}
use Rattle.std.specs.declared.cmp.Ordering.{Ordering}
use Rattle.std.specs.Ordering.{is_lt}
use Rattle.std.specs.declared.cmp.Ordering.TheVariants.{Less}
use Rattle.std.proofs.lemmas.Bool.{ltb-true, leb-true, lt-ltb, and_parts, and_from}
use Rattle.std.proofs.lemmas.Map.Keys.{sorted_from_all_adjacent}
use Rattle.std.proofs.lemmas.Str.{IsUtf8-from_is_utf8, encodes-chars}
use Rattle.wap_base.specs.Limits.{AreInRange}
use Rattle.wap_base.specs.Names.{is_name}
use Rattle.wap_base.specs.Numbers.{IsMb}
use Rattle.wap_base.specs.Texts.{text_cmp}
use Rattle.wap_base.specs.Utf8.{utf8_len}
use Rattle.wap_base.specs.declared.limits.Limits.{Limits}
use Rattle.wap_base.proofs.Choices.{chosen, some_same}
use Rattle.wap_base.proofs.Utf8Lengths.{length-encode_utf8_all}
use Rattle.wap_vars.specs.Variables.{AreVars}
use Rattle.wap_vars.specs.declared.limits.TheConstants.{TEXT_LIMIT}
use Rattle.wap_image.specs.declared.context_parts.parts.SavedTimer.{SavedTimer}
use Rattle.wap_image.specs.declared.context_parts.parts.SavedTimer.TheVariants.{NotStarted, Running}
use Rattle.wap_image.specs.declared.kind.TimerKind.{TimerKind}
use Rattle.wap_image.specs.declared.kind.TimerKind.TheVariants as kind
use Rattle.wap_base.specs.formats.Sequences.{IsRowAfter, Passing}
use Rattle.wap_image.specs.Items.{is_after, is_next_name, is_value_length}
use Rattle.wap_image.specs.Items.{is_not_started, is_entry_count, is_entry_text}
use Rattle.wap_image.specs.Images.{Saved, IsText, AreLimits, IsTimerOf, IsVariable, AreVariables}
use Rattle.wap_image.specs.Images.{IsEntry, IsImage}
use Rattle.wap_image.specs.Rules.{is_short_text, is_short_variable, is_short_entry, MayBeSaved}
use Rattle.wap_image.proofs.SpellingLaws.{after_last}

-- a number that passes stands between two others
within : (low n high : ℕ) → (nat_le low n && nat_le n high) ≡ true → (low ≤ n) × (n ≤ high)
within low n high test =
    let both = and_parts (nat_le low n) (nat_le n high) test in
    (leb-true _ _ both.0, leb-true _ _ both.1)

-- limits may be chosen
limits_in : (bytes : List ℕ) (limits : Limits) → AreLimits bytes limits → AreInRange limits
limits_in bytes limits is =
    let history = is.1.second in
    let depth = history.1.second in
    subst AreInRange (sym depth.2) (record {
      string = within _ _ _ is.1.first.1;
      history = within _ _ _ history.1.first.1;
      depth = within _ _ _ depth.1.1;
    })

-- ---- timers

-- equal timers run for equal times
time_same : (m n : ℕ) → ◌≡◌ {A = SavedTimer} (Running m) (Running n) → m ≡ n
time_same m n e = cc e

-- a timer runs with some time left
timer_runs : (kind : TimerKind) (bytes : List ℕ) (timer : SavedTimer) → IsTimerOf kind bytes timer
    → (tenths : ℕ) → timer ≡ Running tenths → 0 < tenths
timer_runs kind.Running bytes timer is tenths e =
    subst (λ (n : ℕ). 0 < n) (time_same is.0 tenths (sym is.2 ∙ e)) (ltb-true _ _ is.1.1)
timer_runs _ bytes timer is tenths e = absurd (cc (sym is.1 ∙ e))

-- a timer that passes hasn't started
not_started : (timer : SavedTimer) → (is_not_started timer || false) ≡ true → timer ≡ NotStarted
not_started NotStarted e = refl
not_started _ e = absurd (cc e)

-- without entries it hasn't started
none_started : (limit count : ℕ) (timer : SavedTimer) (entries : List (List ℕ × ℕ))
    → is_entry_count limit timer count ≡ true → length entries ≡ count → entries ≡ []
    → timer ≡ NotStarted
none_started limit count timer entries test so_many none =
    let both = and_parts (nat_le count limit) (is_not_started timer || nat_lt 0 count) test in
    let zero_is : count ≡ 0 = sym so_many ∙ ap (λ (l : List (List ℕ × ℕ)). length l) none in
    not_started timer
    (subst (λ (n : ℕ). (is_not_started timer || nat_lt 0 n) ≡ true) zero_is both.1)

-- ---- texts

-- the number before a text is that of its bytes
text_length : (IsSize : List ℕ → ℕ → Type 0) (bytes text : List ℕ) → IsText IsSize bytes text
    → (front : List ℕ) × IsSize front (length (encode_utf8_all text))
text_length IsSize bytes text is =
    let content : List ℕ = is.0 in
    let sized = is.1 in
    elim (chosen (is_utf8 content) (Some (chars content)) None (Some text) is.2) [
      | inl t ↦
          let same : encode_utf8_all text ≡ content =
          ap encode_utf8_all (sym (some_same (chars content) text t.1))
          ∙ encodes-chars content (IsUtf8-from_is_utf8 content t.0) in (
            sized.1.front,
            subst (IsSize sized.1.front)
                (sym sized.1.second.1 ∙ ap (λ (l : List ℕ). length l) (sym same)) sized.1.first,
          )
      | inr f ↦ absurd (cc f.1)
    ]

-- a text after its number is short
text_short : (bytes text : List ℕ) → IsText IsMb bytes text → is_short_text text ≡ true
text_short bytes text is = lt-ltb _ _ (text_length IsMb bytes text is).1.fits

-- ---- variables

-- the name of a variable may follow
name_follows : (before : List (List ℕ × List ℕ)) (bytes : List ℕ) (variable : List ℕ × List ℕ)
    → IsVariable before bytes variable → is_next_name before variable.0 ≡ true
name_follows before bytes variable is =
    subst (λ (v : List ℕ × List ℕ). is_next_name before v.0 ≡ true) (sym is.1.second.2)
    is.1.first.1

-- its name is short
name_short : (before : List (List ℕ × List ℕ)) (bytes : List ℕ) (variable : List ℕ × List ℕ)
    → IsVariable before bytes variable → is_short_variable variable ≡ true
name_short before bytes variable is =
    subst (λ (v : List ℕ × List ℕ). is_short_variable v ≡ true) (sym is.1.second.2)
    (text_short is.1.front is.0 is.1.first.0)

-- its text is as long as may be
value_short : (before : List (List ℕ × List ℕ)) (bytes : List ℕ) (variable : List ℕ × List ℕ)
    → IsVariable before bytes variable → utf8_len variable.1 ≤ TEXT_LIMIT
value_short before bytes variable is =
    let made = is.1.second in
    let long = text_length (Passing is_value_length IsMb) is.1.back made.0 made.1 in
    subst (λ (v : List ℕ × List ℕ). utf8_len v.1 ≤ TEXT_LIMIT) (sym made.2)
    (subst (λ (n : ℕ). n ≤ TEXT_LIMIT) (length-encode_utf8_all made.0) (leb-true _ _ long.1.1))

-- each name is one
all_named : (before variables : List (List ℕ × List ℕ)) (bytes : List ℕ)
    → IsRowAfter IsVariable before bytes variables → (k : ℕ) (d : List ℕ)
    → k < length (keys_of variables) → is_name (slice_index_or (keys_of variables) k d) ≡ true
all_named before [] bytes row k d lt = absurd (omega (arith, lt))
all_named before (variable ∷ variables) bytes row zero d lt =
    (and_parts (is_name variable.0) (is_after before variable.0)
    (name_follows before row.front variable row.first)).0
all_named before (variable ∷ variables) bytes row (suc k) d lt =
    all_named (before ++ variable ∷ []) variables row.back row.second k d (omega (arith, lt))

-- each text is as long as may be
all_short : (before variables : List (List ℕ × List ℕ)) (bytes : List ℕ)
    → IsRowAfter IsVariable before bytes variables → (k : ℕ) (d : List ℕ)
    → k < length (values_of variables)
    → utf8_len (slice_index_or (values_of variables) k d) ≤ TEXT_LIMIT
all_short before [] bytes row k d lt = absurd (omega (arith, lt))
all_short before (variable ∷ variables) bytes row zero d lt =
    value_short before row.front variable row.first
all_short before (variable ∷ variables) bytes row (suc k) d lt =
    all_short (before ++ variable ∷ []) variables row.back row.second k d (omega (arith, lt))

-- all names are short
names_short : (before variables : List (List ℕ × List ℕ)) (bytes : List ℕ)
    → IsRowAfter IsVariable before bytes variables → list_all is_short_variable variables ≡ true
names_short before [] bytes row = refl
names_short before (variable ∷ variables) bytes row =
    and_from (is_short_variable variable) (list_all is_short_variable variables)
    (name_short before row.front variable row.first)
    (names_short (before ++ variable ∷ []) variables row.back row.second)

-- what passes the test is less
less_of : (order : Ordering) → is_lt order ≡ true → order ≡ Less
less_of Less e = refl
less_of _ e = absurd (cc e)

-- each name comes before the next
adjacent : (before variables : List (List ℕ × List ℕ)) (bytes : List ℕ)
    → IsRowAfter IsVariable before bytes variables → (k : ℕ) → suc k < length (keys_of variables)
    → text_cmp (get_or (keys_of variables) k []) (get_or (keys_of variables) (suc k) []) ≡ Less
adjacent before [] bytes row k lt = absurd (omega (arith, lt))
adjacent before (variable ∷ []) bytes row k lt = absurd (omega (arith, lt))
adjacent before (variable ∷ next ∷ variables) bytes row zero lt =
    let follows =
    and_parts (is_name next.0) (is_after (before ++ variable ∷ []) next.0)
    (name_follows (before ++ variable ∷ []) row.second.front next row.second.first) in
    less_of (text_cmp variable.0 next.0) (sym (after_last before variable next.0) ∙ follows.1)
adjacent before (variable ∷ next ∷ variables) bytes row (suc k) lt =
    adjacent (before ++ variable ∷ []) (next ∷ variables) row.back row.second k (omega (arith, lt))

-- the variables are as they are kept
vars_are : (bytes : List ℕ) (variables : List (List ℕ × List ℕ)) → AreVariables bytes variables
    → AreVars variables
vars_are bytes variables is =
    let row = is.1.second.0 in
    record {
      ordered = sorted_from_all_adjacent nat_list_cmp_total (keys_of variables) [] (λ k lt.
          let next : suc k ≡ k + 1 = omega arith in
          subst (λ (n : ℕ). text_cmp (get_or (keys_of variables) k [])
          (get_or (keys_of variables) n [])
          ≡ Less) next (adjacent [] variables is.1.back row k (omega (arith, lt))));
      named = all_named [] variables is.1.back row;
      few = subst (λ (n : ℕ). n ≤ 1024) (sym is.1.second.1) (leb-true _ _ is.1.first.1);
      short = all_short [] variables is.1.back row;
    }

-- ---- entries

-- each URL is written as it may be
urls_are : (before entries : List (List ℕ × ℕ)) (bytes : List ℕ)
    → IsRowAfter (λ before. IsEntry) before bytes entries
    → AllByRecursion (λ entry. is_entry_text entry.0 ≡ true) entries
urls_are before [] bytes row = tt
urls_are before (entry ∷ entries) bytes row =
    let one = row.first.1 in (
      subst (λ (e : List ℕ × ℕ). is_entry_text e.0 ≡ true) (sym one.second.2) one.first.1,
      urls_are (before ++ entry ∷ []) entries row.back row.second,
    )

-- all entries are short
entries_short : (before entries : List (List ℕ × ℕ)) (bytes : List ℕ)
    → IsRowAfter (λ before. IsEntry) before bytes entries → list_all is_short_entry entries ≡ true
entries_short before [] bytes row = refl
entries_short before (entry ∷ entries) bytes row =
    let one = row.first.1 in
    let url : List ℕ = row.first.0 in
    let card : ℕ = one.second.0 in
    and_from (is_short_entry entry) (list_all is_short_entry entries)
    (subst (λ (e : List ℕ × ℕ). is_short_entry e ≡ true) (sym one.second.2)
    (and_from (is_short_text url) (nat_lt card (2 ^ 32)) (text_short one.front url one.first.0)
    (lt-ltb card _ one.second.1.fits)))
    (entries_short (before ++ entry ∷ []) entries row.back row.second)

-- ---- images

-- the parts of an image may be saved
pub parts_are : (bytes : List ℕ) (saved : Saved) → IsImage bytes saved
    → MayBeSaved saved.0 saved.1
unfolding IsImage
parts_are bytes saved is =
    let seed = is.1.second in
    let start = seed.1.second in
    let drawn = start.1.second in
    let budget = drawn.1.second in
    let limits = budget.1.second in
    let timer = limits.1.second in
    let vars = timer.1.second in
    let history = vars.1.second in
    let entries = history.1 in
    let row = entries.1.second.0 in
    let variables = vars.1.first.1.second.0 in
    let count = and_parts (nat_le entries.0 limits.0.history)
    (is_not_started timer.0 || nat_lt 0 entries.0) entries.1.first.1 in
    subst (λ (s : Saved). MayBeSaved s.0 s.1) (sym history.2) (record {
      rules = record {
        limits = limits_in limits.1.front limits.0 limits.1.first;
        vars = vars_are vars.1.front vars.0 vars.1.first;
        few =
            subst (λ (n : ℕ). n ≤ limits.0.history) (sym entries.1.second.1)
            (leb-true _ _ count.0);
        urls = urls_are [] history.0 entries.1.back row;
        runs = timer_runs timer.1.first.0 timer.1.first.1.back timer.0 timer.1.first.1.second;
        started =
            none_started limits.0.history entries.0 timer.0 history.0 entries.1.first.1
            entries.1.second.1;
      };
      turns = ltb-true _ _ budget.1.first.1;
      drawn = drawn.1.first.1;
      short =
          and_from (list_all is_short_variable vars.0) (list_all is_short_entry history.0)
          (names_short [] vars.0 vars.1.first.1.back variables)
          (entries_short [] history.0 entries.1.back row);
    })

-- so may the parts that a call gives
pub kept_is : {E : Type 0} (bytes : List ℕ) (r : Result Saved E)
    → IfOk r (λ saved. IsImage bytes saved) → IfOk r (λ saved. MayBeSaved saved.0 saved.1)
kept_is bytes (Ok saved) is = parts_are bytes saved is
kept_is bytes (Err found) is = tt
