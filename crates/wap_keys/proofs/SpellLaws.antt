-- What a line says is what it spells.
use Rattle.std.proofs.Common.{◌≡◌, ◌≢◌, ◌⊎◌, ℕ, ◌+◌, ◌<◌, ◌≤◌, Bool, true, false, cond, List, []}
use Rattle.std.proofs.Common.{◌∷◌, ◌++◌, length, take, drop, get_or, Option, Some, None, Result, Ok}
use Rattle.std.proofs.Common.{Err, refl, sym, ap, subst, ◌∙◌, inl, inr, eqb-true, arith}
use Rattle.std.specs.Prelude.{not, find, nat_lt}
use Rattle.std.specs.List.{list_all, position_or_len, after_first}
use Rattle.std.specs.Str.{IsUtf8, is_utf8}
use Rattle.std.proofs.lemmas.Bool.{lt-ltb, le-ltb, cases_lt, not-true, both_ways}
use Rattle.std.proofs.lemmas.List.{length-append, length-take, get_or-take, take_all}
use Rattle.std.proofs.lemmas.List.{get_or_append_left, take-append-le}
use Rattle.std.proofs.lemmas.List.Sums.{split_at_first, position_or_len_is}
use Rattle.std.proofs.lemmas.List.Sums.{passes_at_first, fails_before_first}
use Rattle.std.proofs.lemmas.List.Sums.{AllPass-from_list_all, list_all-from_AllPass}
use Rattle.std.proofs.Math.Seq.{take-length, drop-append-add, get_or-append_seam}
use Rattle.std.specs.Cmp.Lexicographic.{bytes_decides}
use Rattle.std.specs.Prelude.{IfOk, IfErr}
use Rattle.std.proofs.lemmas.Str.{IsUtf8-from_is_utf8, is_utf8-from_IsUtf8}
use Rattle.wap_base.specs.Outcome.{◌>>=◌, Meets}
use Rattle.wap_base.specs.Texts.{is_same_text}
use Rattle.wap_base.specs.declared.key.Key.{Key}
use Rattle.wap_keys.specs.declared.limits.TheConstants.{LINE_LIMIT}
use Rattle.wap_keys.specs.declared.fault.KeyFault.{KeyFault}
use Rattle.wap_keys.specs.declared.fault.KeyFault.TheVariants.{TooLong, NotText, UnknownWord}
use Rattle.wap_keys.specs.declared.fault.KeyFault.TheVariants.{Missing, BadNumber, Surplus}
use Rattle.wap_keys.specs.declared.fault.KeyFault.TheVariants.{NoMemory}
use Rattle.wap_keys.specs.declared.word.Word.{Word}
use Rattle.wap_keys.specs.declared.word.Word.TheVariants as word
use Rattle.wap_keys.specs.Decimal.{decimal_of}
use Rattle.wap_keys.specs.Hexadecimal.{bytes_of}
use Rattle.wap_keys.specs.Forms.{Form, nothing, text, text_or_none, number, hexadecimal, form_of}
use Rattle.wap_keys.specs.Forms.{name_of, words, word_named, is_space, prefix_of, rest_of, or_bad}
use Rattle.wap_keys.specs.Forms.{value_in, argument_at, nothing_at, key_by, key_of_word, key_at}
use Rattle.wap_keys.specs.Spelling.{spaced, HasNoSpace, SpellsArgument, MisspellsArgument}
use Rattle.wap_keys.specs.Spelling.{Spells, Misspells, IsTextLine}
use Rattle.wap_keys.specs.Spelling.{IsKeyLine, IsUnknown, MisspellsLine, IsNoKeyLine}
use Rattle.wap_keys.proofs.KeyLaws.{long_key, bad_text, good_text}

-- ---- words and what follows them

no_space_at : (prefix : List ℕ) (k : ℕ) → HasNoSpace prefix → k < length prefix
    → is_space (get_or prefix k 0) ≡ false
no_space_at prefix k none within =
    not-true (is_space (get_or prefix k 0))
    (AllPass-from_list_all (λ (c : ℕ). not (is_space c)) prefix none k 0 within)

first_space : (prefix rest : List ℕ) → HasNoSpace prefix
    → position_or_len is_space (prefix ++ 32 ∷ rest) ≡ length prefix
first_space prefix rest none =
    position_or_len_is is_space (prefix ++ 32 ∷ rest) (length prefix) 0
    (omega (arith, length-append prefix (32 ∷ rest)))
    (λ k within.
    ap is_space (get_or_append_left prefix (32 ∷ rest) 0 k within)
    ∙ no_space_at prefix k none within)
    (λ _. ap is_space (get_or-append_seam prefix 32 rest 0))

no_first : (prefix : List ℕ) → HasNoSpace prefix → position_or_len is_space prefix ≡ length prefix
no_first prefix none =
    position_or_len_is is_space prefix (length prefix) 0 (omega arith)
    (λ k within. no_space_at prefix k none within) (λ within. absurd (omega arith))

pub prefix_spaced : (prefix : List ℕ) (rest : Option (List ℕ)) → HasNoSpace prefix
    → prefix_of (spaced prefix rest) ≡ prefix
prefix_spaced prefix None none =
    ap (λ (n : ℕ). take n prefix) (no_first prefix none) ∙ take-length prefix
prefix_spaced prefix (Some rest) none =
    ap (λ (n : ℕ). take n (prefix ++ 32 ∷ rest)) (first_space prefix rest none)
    ∙ take-append-le (length prefix) prefix (32 ∷ rest) (omega arith) ∙ take-length prefix

pub rest_spaced : (prefix : List ℕ) (rest : Option (List ℕ)) → HasNoSpace prefix
    → rest_of (spaced prefix rest) ≡ rest
rest_spaced prefix None none =
    ap (λ (b : Bool). cond b (Some (after_first is_space prefix)) None)
    (le-ltb (position_or_len is_space prefix) (length prefix) (omega (arith, no_first prefix none)))
rest_spaced prefix (Some rest) none =
    let bytes = prefix ++ 32 ∷ rest in
    ap (λ (b : Bool). cond b (Some (after_first is_space bytes)) None)
    (lt-ltb (position_or_len is_space bytes) (length bytes)
    (omega (arith, first_space prefix rest none, length-append prefix (32 ∷ rest))))
    ∙ ap (λ (n : ℕ). Some (drop (n + 1) bytes)) (first_space prefix rest none)
    ∙ ap (λ (l : List ℕ). Some l) (drop-append-add prefix (32 ∷ rest) 1)

prefix_none : (bytes : List ℕ) → HasNoSpace (prefix_of bytes)
prefix_none bytes =
    let place = position_or_len is_space bytes in
    list_all-from_AllPass (λ (c : ℕ). not (is_space c)) (prefix_of bytes)
    (λ k d within.
    let before : k < place = omega (arith, within, length-take place bytes) in
    ap (λ (c : ℕ). not (is_space c)) (get_or-take place bytes k d before)
    ∙ ap not (fails_before_first is_space bytes k d before))

parts_by : (bytes : List ℕ)
    → (position_or_len is_space bytes < length bytes)
    ⊎ (length bytes ≤ position_or_len is_space bytes)
    → bytes ≡ spaced (prefix_of bytes) (rest_of bytes)
parts_by bytes (inl within) =
    let place = position_or_len is_space bytes in
    let after = after_first is_space bytes in
    split_at_first is_space bytes 0 within
    ∙ ap (λ (c : ℕ). prefix_of bytes ++ c ∷ after)
    (eqb-true (get_or bytes place 0) 32 (passes_at_first is_space bytes 0 within))
    ∙ ap (spaced (prefix_of bytes))
    (sym (ap (λ (b : Bool). cond b (Some after) None) (lt-ltb place (length bytes) within)))
parts_by bytes (inr past) =
    let place = position_or_len is_space bytes in
    sym (take_all place bytes past)
    ∙ ap (spaced (prefix_of bytes)) (sym (ap (λ (b : Bool).
    cond b (Some (after_first is_space bytes)) None) (le-ltb place (length bytes) past)))

pub parts : (bytes : List ℕ) → bytes ≡ spaced (prefix_of bytes) (rest_of bytes)
parts bytes = parts_by bytes (cases_lt (position_or_len is_space bytes) (length bytes))

-- ---- arguments

abbrev Said : Form → Option (List ℕ) → Result Key KeyFault → Type 0
Said form rest (Ok key) = Spells form rest key
Said form rest (Err fault) = Misspells form rest fault

abbrev with_rest : {A : Type 0} → Option (List ℕ) → A → Result (A × Option (List ℕ)) KeyFault
with_rest rest value = Ok (value, rest)

abbrev goes_on : {A : Type 0} → (A → Form) → A × Option (List ℕ) → Result Key KeyFault
goes_on form got = key_by (form got.0) got.1

some_prefix : (c : ℕ) (cs : List ℕ) → c ∷ cs ≡ [] → ⊥
some_prefix c cs e = cc

split_is : (bytes prefix : List ℕ) → prefix_of bytes ≡ prefix
    → bytes ≡ spaced prefix (rest_of bytes)
split_is bytes prefix is = parts bytes ∙ ap (λ (l : List ℕ). spaced l (rest_of bytes)) is

-- of an argument, by how it is read, and of what follows it
module _ {A : Type 0} (read : List ℕ → Option A) (form : A → Form) where
  -- they spell the key, or misspell it
  abbrev SaidBy : Option (List ℕ) → Result Key KeyFault → Type 0
  SaidBy rest (Ok key) =
      (value : A) × (others : Option (List ℕ)) × SpellsArgument read rest value others
      × Spells (form value) others key
  SaidBy rest (Err fault) =
      MisspellsArgument read rest fault
      ⊎ ((value : A) × (others : Option (List ℕ)) × SpellsArgument read rest value others
      × Misspells (form value) others fault)

  more_said : (rest others : Option (List ℕ)) (value : A) (said : Result Key KeyFault)
      → SpellsArgument read rest value others → Said (form value) others said → SaidBy rest said
  more_said rest others value (Ok key) spells said = (value, others, spells, said)
  more_said rest others value (Err fault) spells said = inr (value, others, spells, said)

  value_said : (bytes : List ℕ) (c : ℕ) (cs : List ℕ) (value : Option A)
      → prefix_of bytes ≡ c ∷ cs → read (c ∷ cs) ≡ value
      → ((value : A) → Said (form value) (rest_of bytes) (key_by (form value) (rest_of bytes)))
      → SaidBy (Some bytes) ((or_bad value >>= with_rest (rest_of bytes)) >>= goes_on form)
  value_said bytes c cs None prefix none said =
      inl (inr (
        c ∷ cs,
        rest_of bytes,
        ap Some (split_is bytes (c ∷ cs) prefix),
        subst HasNoSpace prefix (prefix_none bytes),
        some_prefix c cs,
        none,
        refl,
      ))
  value_said bytes c cs (Some value) prefix some said =
      more_said (Some bytes) (rest_of bytes) value (key_by (form value) (rest_of bytes)) (
        c ∷ cs,
        ap Some (split_is bytes (c ∷ cs) prefix),
        subst HasNoSpace prefix (prefix_none bytes),
        some,
      )
      (said value)

  prefix_said : (bytes prefix : List ℕ) → prefix_of bytes ≡ prefix
      → ((value : A) → Said (form value) (rest_of bytes) (key_by (form value) (rest_of bytes)))
      → SaidBy (Some bytes)
      ((value_in read prefix >>= with_rest (rest_of bytes)) >>= goes_on form)
  prefix_said bytes [] prefix said =
      inl (inl (inr (rest_of bytes, ap Some (split_is bytes [] prefix)), refl))
  prefix_said bytes (c ∷ cs) prefix said =
      value_said bytes c cs (read (c ∷ cs)) prefix refl said

number_said : (greatest : ℕ) (form : ℕ → Form) (rest : Option (List ℕ))
    (said : Result Key KeyFault)
    → SaidBy (decimal_of greatest) form rest said → Said (number greatest form) rest said
number_said greatest form rest (Ok key) is = is
number_said greatest form rest (Err fault) is = is

bytes_said : (form : List ℕ → Form) (rest : Option (List ℕ)) (said : Result Key KeyFault)
    → SaidBy bytes_of form rest said → Said (hexadecimal form) rest said
bytes_said form rest (Ok key) is = is
bytes_said form rest (Err fault) is = is

form_said : (form : Form) (rest : Option (List ℕ)) → Said form rest (key_by form rest)
form_said (nothing key) None = (refl, refl)
form_said (nothing key) (Some t) = (t, refl, refl)
form_said (text make) None = (inl refl, refl)
form_said (text make) (Some []) = (inr refl, refl)
form_said (text make) (Some (c ∷ cs)) = (c, cs, refl, refl)
form_said (text_or_none make) None = inl (refl, refl)
form_said (text_or_none make) (Some t) = inr (t, refl, refl)
form_said (number greatest form) None = inl (inl (inl refl, refl))
form_said (number greatest form) (Some bytes) =
    number_said greatest form (Some bytes) (key_by (number greatest form) (Some bytes))
    (prefix_said (decimal_of greatest) form bytes (prefix_of bytes) refl
    (λ n. form_said (form n) (rest_of bytes)))
form_said (hexadecimal form) None = inl (inl (inl refl, refl))
form_said (hexadecimal form) (Some bytes) =
    bytes_said form (Some bytes) (key_by (hexadecimal form) (Some bytes))
    (prefix_said bytes_of form bytes (prefix_of bytes) refl
    (λ written. form_said (form written) (rest_of bytes)))

-- ---- and the other way

module _ {A : Type 0} (read : List ℕ → Option A) (form : A → Form) where
  then_reads : (others : Option (List ℕ)) (value : Result A KeyFault)
      → ((value >>= with_rest others) >>= goes_on form)
      ≡ (value >>= λ value. key_by (form value) others)
  then_reads others (Ok value) = refl
  then_reads others (Err fault) = refl

  -- what an argument and the others make
  abbrev read_by : Option (List ℕ) → Result Key KeyFault
  read_by rest = argument_at read rest >>= goes_on form

  argument_reads : (argument : List ℕ) (others : Option (List ℕ)) → HasNoSpace argument
      → read_by (Some (spaced argument others))
      ≡ (value_in read argument >>= λ value. key_by (form value) others)
  argument_reads argument others none =
      ap (λ (l : List ℕ). (value_in read l >>= with_rest (rest_of (spaced argument others)))
      >>= goes_on form) (prefix_spaced argument others none)
      ∙ ap
      (λ (rest : Option (List ℕ)). (value_in read argument >>= with_rest rest) >>= goes_on form)
      (rest_spaced argument others none)
      ∙ then_reads others (value_in read argument)

  bad_is : (argument : List ℕ) → argument ≢ [] → read argument ≡ None
      → value_in read argument ≡ Err BadNumber
  bad_is [] some none = absurd (some refl)
  bad_is (c ∷ cs) some none = ap or_bad none

  argument_misspelt : (rest : Option (List ℕ)) (fault : KeyFault)
      → MisspellsArgument read rest fault → read_by rest ≡ Err fault
  argument_misspelt rest fault (inl (inl none, is)) = ap read_by none ∙ ap Err (sym is)
  argument_misspelt rest fault (inl (inr (others, some), is)) =
      ap read_by some ∙ argument_reads [] others refl ∙ ap Err (sym is)
  argument_misspelt rest fault (inr (argument, others, some, none, filled, bad, is)) =
      ap read_by some ∙ argument_reads argument others none
      ∙ ap (λ (value : Result A KeyFault). value >>= λ value. key_by (form value) others)
      (bad_is argument filled bad)
      ∙ ap Err (sym is)

  module _ (empty : read [] ≡ None) where
    value_is : (argument : List ℕ) (value : A) → read argument ≡ Some value
        → value_in read argument ≡ Ok value
    value_is [] value some = absurd (none_some (sym empty ∙ some))
      where
        none_some : None ≡ Some value → ⊥
        none_some e = cc
    value_is (c ∷ cs) value some = ap or_bad some

    argument_spelt : (rest others : Option (List ℕ)) (value : A)
        → SpellsArgument read rest value others → read_by rest ≡ key_by (form value) others
    argument_spelt rest others value (argument, some, none, is) =
        ap read_by some ∙ argument_reads argument others none
        ∙ ap (λ (value : Result A KeyFault). value >>= λ value. key_by (form value) others)
        (value_is argument value is)

form_spelt : (form : Form) (rest : Option (List ℕ)) (said : Key) → Spells form rest said
    → key_by form rest ≡ Ok said
form_spelt (nothing key) rest said (none, is) = ap (nothing_at key) none ∙ ap Ok (sym is)
form_spelt (text make) rest said (c, cs, some, is) = ap (key_by (text make)) some ∙ ap Ok (sym is)
form_spelt (text_or_none make) rest said (inl (none, is)) =
    ap (key_by (text_or_none make)) none ∙ ap Ok (sym is)
form_spelt (text_or_none make) rest said (inr (t, some, is)) =
    ap (key_by (text_or_none make)) some ∙ ap Ok (sym is)
form_spelt (number greatest form) rest said (n, others, spells, is) =
    argument_spelt (decimal_of greatest) form refl rest others n spells
    ∙ form_spelt (form n) others said is
form_spelt (hexadecimal form) rest said (written, others, spells, is) =
    argument_spelt bytes_of form refl rest others written spells
    ∙ form_spelt (form written) others said is

form_misspelt : (form : Form) (rest : Option (List ℕ)) (fault : KeyFault)
    → Misspells form rest fault → key_by form rest ≡ Err fault
form_misspelt (nothing key) rest fault (t, some, is) = ap (nothing_at key) some ∙ ap Err (sym is)
form_misspelt (text make) rest fault (inl none, is) = ap (key_by (text make)) none ∙ ap Err (sym is)
form_misspelt (text make) rest fault (inr none, is) = ap (key_by (text make)) none ∙ ap Err (sym is)
form_misspelt (text_or_none make) rest fault no_way = absurd no_way
form_misspelt (number greatest form) rest fault (inl bad) =
    argument_misspelt (decimal_of greatest) form rest fault bad
form_misspelt (number greatest form) rest fault (inr (n, others, spells, is)) =
    argument_spelt (decimal_of greatest) form refl rest others n spells
    ∙ form_misspelt (form n) others fault is
form_misspelt (hexadecimal form) rest fault (inl bad) =
    argument_misspelt bytes_of form rest fault bad
form_misspelt (hexadecimal form) rest fault (inr (written, others, spells, is)) =
    argument_spelt bytes_of form refl rest others written spells
    ∙ form_misspelt (form written) others fault is

-- ---- words

abbrev pub are_low : List ℕ → Bool
are_low bytes = list_all (λ c. nat_lt c 128) bytes

-- the name of a word is found, has no space, and is ASCII
pub names : (w : Word) → (word_named (name_of w) ≡ Some w) × HasNoSpace (name_of w)
    × (are_low (name_of w) ≡ true)
names word.Open = (refl, refl, refl)
names word.Do = (refl, refl, refl)
names word.Pick = (refl, refl, refl)
names word.Type = (refl, refl, refl)
names word.Choose = (refl, refl, refl)
names word.Back = (refl, refl, refl)
names word.Tick = (refl, refl, refl)
names word.Ok = (refl, refl, refl)
names word.Cancel = (refl, refl, refl)
names word.Answer = (refl, refl, refl)
names word.Stop = (refl, refl, refl)
names word.Vars = (refl, refl, refl)
names word.Push = (refl, refl, refl)
names word.Inbox = (refl, refl, refl)
names word.Follow = (refl, refl, refl)

same_word : (v w : Word) → Some v ≡ Some w → v ≡ w
same_word v w e = cc

no_word : (w : Word) → None ≡ Some w → ⊥
no_word w e = cc

passes_by : (p : Word → Bool) (v : Word) (vs : List Word) (w : Word) (b : Bool) → p v ≡ b
    → cond b (Some v) (find p vs) ≡ Some w → (find p vs ≡ Some w → p w ≡ true) → p w ≡ true
passes_by p v vs w true passes found others =
    subst (λ (w : Word). p w ≡ true) (same_word v w found) passes
passes_by p v vs w false passes found others = others found

passes : (p : Word → Bool) (vs : List Word) (w : Word) → find p vs ≡ Some w → p w ≡ true
passes p [] w found = absurd (no_word w found)
passes p (v ∷ vs) w found = passes_by p v vs w (p v) refl found (passes p vs w)

pub name_is : (prefix : List ℕ) (w : Word) → word_named prefix ≡ Some w → prefix ≡ name_of w
name_is prefix w found =
    (bytes_decides prefix (name_of w)).0
    (passes (λ (w : Word). is_same_text prefix (name_of w)) words w found)

-- ---- lines

pub word_reads : (line : List ℕ) (w : Word) (rest : Option (List ℕ))
    → line ≡ spaced (name_of w) rest
    → key_of_word (word_named (prefix_of line)) (rest_of line) ≡ key_by (form_of w) rest
word_reads line w rest is =
    ap (λ (l : List ℕ). key_of_word (word_named (prefix_of l)) (rest_of l)) is
    ∙ ap (λ (l : List ℕ). key_of_word (word_named l) (rest_of (spaced (name_of w) rest)))
    (prefix_spaced (name_of w) rest (names w).1)
    ∙ ap (λ (word : Option Word). key_of_word word (rest_of (spaced (name_of w) rest))) (names w).0
    ∙ ap (key_by (form_of w)) (rest_spaced (name_of w) rest (names w).1)

pub spelt : (line : List ℕ) (key : Key) → IsKeyLine line key → key_at line ≡ Ok key
spelt line key (is_text, spells) =
    let (w, rest, is, said) = spells in
    good_text line is_text.0 is_text.1 ∙ word_reads line w rest is
    ∙ form_spelt (form_of w) rest key said

misspelt_line : (line : List ℕ) (fault : KeyFault) → IsTextLine line → MisspellsLine line fault
    → key_at line ≡ Err fault
misspelt_line line fault is_text (w, rest, is, misspells) =
    good_text line is_text.0 is_text.1 ∙ word_reads line w rest is
    ∙ form_misspelt (form_of w) rest fault misspells

unknown_by : (line : List ℕ) (w : Option Word) → word_named (prefix_of line) ≡ w → IsUnknown line
    → key_of_word w (rest_of line) ≡ Err UnknownWord
unknown_by line None found unknown = refl
unknown_by line (Some w) found unknown =
    absurd (unknown w (rest_of line) (split_is line (name_of w) (name_is (prefix_of line) w found)))

pub misspelt : (line : List ℕ) (fault : KeyFault) → IsNoKeyLine line fault → key_at line ≡ Err fault
misspelt line TooLong long = long_key line long
misspelt line NotText (short, none) = bad_text line short none
misspelt line UnknownWord (is_text, unknown) =
    good_text line is_text.0 is_text.1 ∙ unknown_by line (word_named (prefix_of line)) refl unknown
misspelt line Missing (is_text, misspells) = misspelt_line line Missing is_text misspells
misspelt line BadNumber (is_text, misspells) = misspelt_line line BadNumber is_text misspells
misspelt line Surplus (is_text, misspells) = misspelt_line line Surplus is_text misspells
misspelt line NoMemory no_way = absurd no_way

-- ---- each line is the one or the other

abbrev pub Judged : List ℕ → Result Key KeyFault → Type 0
Judged line (Ok key) = IsKeyLine line key
Judged line (Err fault) = IsNoKeyLine line fault

-- the faults of arguments
abbrev IsOfArgument : KeyFault → Type 0
IsOfArgument fault = (fault ≡ Missing) ⊎ ((fault ≡ BadNumber) ⊎ (fault ≡ Surplus))

of_one : {A : Type 0} (read : List ℕ → Option A) (rest : Option (List ℕ)) (fault : KeyFault)
    → MisspellsArgument read rest fault → IsOfArgument fault
of_one read rest fault (inl (none, is)) = inl is
of_one read rest fault (inr (argument, others, some, none, filled, bad, is)) = inr (inl is)

of_argument : (form : Form) (rest : Option (List ℕ)) (fault : KeyFault) → Misspells form rest fault
    → IsOfArgument fault
of_argument (nothing key) rest fault (t, some, is) = inr (inr is)
of_argument (text make) rest fault (none, is) = inl is
of_argument (text_or_none make) rest fault no_way = absurd no_way
of_argument (number greatest form) rest fault (inl bad) =
    of_one (decimal_of greatest) rest fault bad
of_argument (number greatest form) rest fault (inr (n, others, spells, misspells)) =
    of_argument (form n) others fault misspells
of_argument (hexadecimal form) rest fault (inl bad) = of_one bytes_of rest fault bad
of_argument (hexadecimal form) rest fault (inr (written, others, spells, misspells)) =
    of_argument (form written) others fault misspells

no_line : (line : List ℕ) (fault : KeyFault) → IsTextLine line → MisspellsLine line fault
    → IsOfArgument fault → IsNoKeyLine line fault
no_line line fault is_text misspells (inl is) =
    subst (IsNoKeyLine line) (sym is) (is_text, subst (MisspellsLine line) is misspells)
no_line line fault is_text misspells (inr (inl is)) =
    subst (IsNoKeyLine line) (sym is) (is_text, subst (MisspellsLine line) is misspells)
no_line line fault is_text misspells (inr (inr is)) =
    subst (IsNoKeyLine line) (sym is) (is_text, subst (MisspellsLine line) is misspells)

judged_form : (line : List ℕ) (w : Word) (read : Result Key KeyFault) → IsTextLine line
    → line ≡ spaced (name_of w) (rest_of line)
    → Said (form_of w) (rest_of line) read → Judged line read
judged_form line w (Ok key) is_text is said = (is_text, (w, rest_of line, is, said))
judged_form line w (Err fault) is_text is said =
    no_line line fault is_text (w, rest_of line, is, said)
    (of_argument (form_of w) (rest_of line) fault said)

judged_word : (line : List ℕ) (w : Option Word) → word_named (prefix_of line) ≡ w → IsTextLine line
    → Judged line (key_of_word w (rest_of line))
judged_word line None found is_text = (
  is_text,
  λ w rest is. no_word w (sym found ∙ ap (λ (l : List ℕ). word_named (prefix_of l)) is
      ∙ ap word_named (prefix_spaced (name_of w) rest (names w).1) ∙ (names w).0),
)
judged_word line (Some w) found is_text =
    judged_form line w (key_by (form_of w) (rest_of line)) is_text (split_is line (name_of w)
    (name_is (prefix_of line) w found)) (form_said (form_of w) (rest_of line))

-- bytes that a test finds are no text are none
pub not_utf8 : (bytes : List ℕ) → is_utf8 bytes ≡ false → IsUtf8 bytes → ⊥
not_utf8 bytes none utf8 = both_ways (is_utf8 bytes) none (is_utf8-from_IsUtf8 bytes utf8)

judged_text : (line : List ℕ) (b : Bool) → is_utf8 line ≡ b → length line ≤ LINE_LIMIT
    → Judged line (key_at line)
judged_text line true good short =
    let is_text : IsTextLine line = (short, IsUtf8-from_is_utf8 line good) in
    subst (Judged line) (sym (good_text line short is_text.1))
    (judged_word line (word_named (prefix_of line)) refl is_text)
judged_text line false none_is short =
    let none = not_utf8 line none_is in
    subst (Judged line) (sym (bad_text line short none)) (short, none)

judged_by : (line : List ℕ) → (LINE_LIMIT < length line) ⊎ (length line ≤ LINE_LIMIT)
    → Judged line (key_at line)
judged_by line (inl long) = subst (Judged line) (sym (long_key line long)) long
judged_by line (inr short) = judged_text line (is_utf8 line) refl short

pub judged : (line : List ℕ) → Judged line (key_at line)
judged line = judged_by line (cases_lt LINE_LIMIT (length line))

pub found_of : (result : Result Key KeyFault) (line : List ℕ)
    → Meets NoMemory (λ (key : Key). key) result (key_at line) → IfOk result (IsKeyLine line)
found_of (Ok key) line meets = subst (Judged line) meets (judged line)
found_of (Err fault) line meets = tt

pub refused_of : (result : Result Key KeyFault) (line : List ℕ)
    → Meets NoMemory (λ (key : Key). key) result (key_at line)
    → IfErr result (λ fault. fault ≢ NoMemory → IsNoKeyLine line fault)
refused_of (Ok key) line meets = tt
refused_of (Err fault) line meets = λ other. subst (Judged line) (meets other) (judged line)

pub only_of : (result : Result Key KeyFault) (line : List ℕ)
    → Meets NoMemory (λ (key : Key). key) result (key_at line) → (key : Key) → IsKeyLine line key
    → Meets NoMemory (λ (key : Key). key) result (Ok key)
only_of result line meets key spells =
    subst (Meets NoMemory (λ (key : Key). key) result) (spelt line key spells) meets

pub first_of : (result : Result Key KeyFault) (line : List ℕ)
    → Meets NoMemory (λ (key : Key). key) result (key_at line) → (fault : KeyFault)
    → IsNoKeyLine line fault → Meets NoMemory (λ (key : Key). key) result (Err fault)
first_of result line meets fault misspells =
    subst (Meets NoMemory (λ (key : Key). key) result) (misspelt line fault misspells) meets
