-- What pieces of code cost: their operands have room, and they have as many bytes as the wide size
-- says, but for those that ADD_ASG and SUB_ASG save.
use Rattle.std.proofs.Common.{◌≡◌, ℕ, ◌+◌, ◌<◌, Bool, true, false, ◌&&◌, List, [], ◌∷◌}
use Rattle.std.proofs.Common.{Some, None, refl, subst, arith, nat_lt}
use Rattle.std.specs.List.{AllByRecursion, sum_by}
use Rattle.std.specs.Option.{option_map_or}
use Rattle.std.proofs.lemmas.Bool.{lt-ltb}
use Rattle.std.proofs.lemmas.List.Sums.{sum_by-append, sum_by-cons}
use Rattle.wap_unit.specs.declared.row.OpName.TheVariants as op
use Rattle.wap_unit.specs.declared.instr.Instr.{Instr}
use Rattle.wap_asm.specs.Spelling.{holds}
use Rattle.wap_asm.specs.Spellings.{operation_of, longest}
use Rattle.wap_asm.specs.Placing.{wide_size, wide}
use Rattle.wap_asm.specs.declared.form.Form.{Form}
use Rattle.wap_asm.specs.declared.form.Form.TheVariants.{Op}
use Rattle.wap_meaning.specs.coding.Coded.{Exits, Coded, empty, one, ◌⨾◌, label, jump_over}
use Rattle.wap_meaning.specs.coding.Coded.{jump_before, within}
use Rattle.wap_meaning.specs.compiled.Savings.{form_saves, saved}
use Rattle.wap_meaning.proofs.Each.{each_both}

-- ---- one form

-- the operands of an operation have room in its longest spelling
abbrev pub has_room : Instr → Bool
has_room form =
    option_map_or (λ row. holds row form.a form.b form.c) (longest (operation_of form.name)) false

-- the same of a form
abbrev pub Fits : Form → Type 0
Fits (Op form) = has_room form ≡ true
Fits _ = Unit {0}

-- how many bytes a form has in wide code, with those that it saves
abbrev pub cost : Form → ℕ
cost form = wide_size form + form_saves form

-- forms cost what they have and what they save
pub both_costs : (forms : List Form) → sum_by cost forms ≡ wide forms + saved forms
unfolding wide
both_costs [] = refl
both_costs (form ∷ forms) =
    omega (
      arith,
      both_costs forms,
      sum_by-cons cost form forms,
      sum_by-cons wide_size form forms,
      sum_by-cons form_saves form forms,
    )

-- ---- pieces

-- in a loop there are labels to leave to
abbrev pub Allowed : Bool → Exits → Type 0
Allowed true None = ⊥
Allowed true (Some labels) = Unit {0}
Allowed false exits = Unit {0}

-- the forms of a piece have room for their operands and cost so many bytes, in a loop or anywhere
pub record Costs (inside : Bool) (coded : Coded) (size : ℕ) : Type 0 where
  pub fits : (exits : Exits) (i : ℕ) → AllByRecursion Fits (coded.forms exits i)
  pub costs : (exits : Exits) (i : ℕ) → Allowed inside exits
      → sum_by cost (coded.forms exits i) ≡ size

module _ (inside : Bool) where
  -- one piece after the other
  pub costs_both : {first second : Coded} {m n : ℕ} → Costs inside first m → Costs inside second n
      → Costs inside (first ⨾ second) (m + n)
  costs_both {first} {second} ones twos = record {
    fits = λ exits i.
        each_both Fits (first.forms exits i) (second.forms exits (i + first.size))
        (ones.fits exits i) (twos.fits exits (i + first.size));
    costs = λ exits i allowed.
        omega (
          arith,
          sum_by-append cost (first.forms exits i) (second.forms exits (i + first.size)),
          ones.costs exits i allowed,
          twos.costs exits (i + first.size) allowed,
        );
  }

  -- the same size
  pub costs_same : {coded : Coded} {m n : ℕ} → m ≡ n → Costs inside coded m → Costs inside coded n
  costs_same {coded} is costs = subst (Costs inside coded) is costs

  -- one form
  pub costs_one : {form : Exits → ℕ → Form} {n : ℕ}
      → ((exits : Exits) (i : ℕ) → Fits (form exits i))
      → ((exits : Exits) (i : ℕ) → Allowed inside exits → cost (form exits i) ≡ n)
      → Costs inside (one form) n
  costs_one {form} fits costs = record {
    fits = λ exits i. (fits exits i, tt);
    costs = λ exits i allowed.
        omega (arith, sum_by-cons cost (form exits i) [], costs exits i allowed);
  }

  -- an operation
  pub costs_op : {form : Instr} {n : ℕ} → has_room form ≡ true → cost (Op form) ≡ n
      → Costs inside (one (λ exits at. Op form)) n
  costs_op room is = costs_one (λ exits i. room) (λ exits i allowed. is)

  -- no form
  pub costs_empty : Costs inside empty 0
  costs_empty = record { fits = λ exits i. tt; costs = λ exits i allowed. refl }

  -- a label
  pub costs_label : Costs inside label 0
  unfolding wide_size
  costs_label = costs_one (λ exits i. tt) (λ exits i allowed. refl)

  -- a jump forward
  pub costs_over : (count : ℕ) → Costs inside (jump_over op.JumpFw count) 3
  unfolding wide_size operation_of longest
  costs_over count = costs_one (λ exits i. tt) (λ exits i allowed. refl)

  -- a conditional jump forward
  pub costs_test : (count : ℕ) → Costs inside (jump_over op.TjumpFw count) 3
  unfolding wide_size operation_of longest
  costs_test count = costs_one (λ exits i. tt) (λ exits i allowed. refl)

  -- a jump back
  pub costs_before : (count : ℕ) → Costs inside (jump_before op.JumpBw count) 3
  unfolding wide_size operation_of longest
  costs_before count = costs_one (λ exits i. tt) (λ exits i allowed. refl)

  -- the body of a loop
  pub costs_within : (breaks continues : ℕ) {body : Coded} {n : ℕ} → Costs true body n
      → Costs inside (within breaks continues body) n
  costs_within breaks continues costs = record {
    fits = λ exits i. costs.fits (Some (i + breaks, i + continues)) i;
    costs = λ exits i allowed. costs.costs (Some (i + breaks, i + continues)) i tt;
  }

-- ---- operands

-- a number that has room in a byte
pub byte_fits : {a : ℕ} → a < 256 → (nat_lt a 256 && (nat_lt 0 1 && nat_lt 0 1)) ≡ true
byte_fits {a} less = rw (lt-ltb a 256 less) refl

-- one that has room in two bytes
pub word_fits : (a : ℕ) → a < 65536 → (nat_lt a 65536 && (nat_lt 0 1 && nat_lt 0 1)) ≡ true
word_fits a less = rw (lt-ltb a 65536 less) refl

-- a function and its library
pub library_fits : (a b : ℕ) → a < 256 → b < 65536
    → (nat_lt a 256 && (nat_lt b 65536 && nat_lt 0 1)) ≡ true
library_fits a b less few = rw (lt-ltb a 256 less) (rw (lt-ltb b 65536 few) refl)

-- a URL, a name and how many arguments
pub address_fits : {a b c : ℕ} → a < 65536 → b < 65536 → c < 256
    → (nat_lt a 65536 && (nat_lt b 65536 && nat_lt c 256)) ≡ true
address_fits {a} {b} {c} one two few =
    rw (lt-ltb a 65536 one) (rw (lt-ltb b 65536 two) (rw (lt-ltb c 256 few) refl))
