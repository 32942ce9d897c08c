-- What is told of each form of code: that the numbers of operands before it and where it goes on
-- fit, and that it is an operation whose operands are in range, a jump that knows its label, or a
-- label that knows itself. And of a piece of code, that it goes from one number to another so.
use Rattle.std.proofs.Common.{◌≡◌, ℕ, zero, suc, ◌+◌, ◌<◌, ◌≤◌, List, [], ◌∷◌, ◌++◌, length, Some}
use Rattle.std.proofs.Common.{None, refl, sym, ◌∙◌, subst, arith, slice_get, length-append}
use Rattle.std.proofs.Common.{inl, inr, le_trans}
use Rattle.std.proofs.lemmas.Bool.Decides.{leb_tells}
use Rattle.std.proofs.lemmas.Option.{same_Some}
use Rattle.wap_unit.specs.declared.unit.Unit.{Unit as CodeUnit}
use Rattle.wap_unit.specs.declared.instr.Instr.{Instr}
use Rattle.wap_asm.specs.declared.form.Form.{Form}
use Rattle.wap_asm.specs.declared.form.Form.TheVariants.{Op, Label}
use Rattle.wap_meaning.specs.coding.Coded.{Exits, Coded, empty, one, ◌⨾◌}
use Rattle.wap_compiled_laws.proofs.Pieces.Pieces.{Holds, front, behind, Sized, sized_both}
use Rattle.wap_compiled_laws.proofs.Labels.Ranges.{kind_of, AreThere}
use Rattle.wap_compiled_laws.proofs.Labels.Wired.{IsOperation, WiredForm}
use Rattle.wap_compiled_laws.proofs.Depths.Flow.{goes, leaves, flow_of}
use Rattle.wap_compiled_laws.proofs.Depths.Fine.{FineAt, fine, OpFine, FormFine}
use Rattle.wap_compiled_laws.proofs.Induction.Pieces.{higher}

-- ---- numbers

-- so many operands more are a sum
higher_is : (n x : ℕ) → higher n x ≡ x + n
higher_is zero x = omega arith
higher_is (suc n) x = higher_is n (suc x) ∙ omega arith

-- numbers at the forms of a piece
abbrev pub Same : (ℕ → ℕ) → ℕ → List ℕ → Type 0
Same d i [] = Unit {0}
Same d i (x ∷ xs) = (d i ≡ x) × Same d (i + 1) xs

-- numbers that stand first
pub same_front : (d : ℕ → ℕ) (i : ℕ) (xs ys : List ℕ) → Same d i (xs ++ ys) → Same d i xs
same_front d i [] ys same = tt
same_front d i (x ∷ xs) ys same = (same.0, same_front d (i + 1) xs ys same.1)

-- and those behind them
pub same_back : (d : ℕ → ℕ) (i count : ℕ) (xs ys : List ℕ) → Same d i (xs ++ ys)
    → length xs ≡ count → Same d (i + count) ys
same_back d i count [] ys same is =
    let e : i ≡ i + count = omega arith in subst (λ n. Same d n ys) e same
same_back d i zero (x ∷ xs) ys same is = absurd (omega arith)
same_back d i (suc count) (x ∷ xs) ys same is =
    let e : i + 1 + count ≡ i + suc count = omega arith in
    subst (λ n. Same d n ys) e (same_back d (i + 1) count xs ys same.1 (omega arith))

-- ---- forms

-- forms among which code stands, its unit, and how many variables its function has
pub record Layout : Type 0 where
  pub unit : CodeUnit
  pub variables : ℕ
  pub forms : List Form

module _ (layout : Layout) where
  open layout use {unit, variables, forms}

  -- the operands of an instruction are in range
  abbrev pub Ranged : Instr → Type 0
  Ranged form = AreThere unit variables (kind_of form.name) form

  -- a label stands at its index
  abbrev pub HasLabel : ℕ → Type 0
  HasLabel n = slice_get forms n ≡ Some (Label n)

  -- a form, with the jump or label that it is
  abbrev pub WiredAt : ℕ → Form → Type 0
  WiredAt = WiredForm Ranged forms

  -- what is told of what stands at an index
  pub record Spot (d : ℕ → ℕ) (k : ℕ) : Type 0 where
    pub fits : FineAt (flow_of unit) forms d k
    pub wired : (form : Form) → slice_get forms k ≡ Some form → WiredAt k form

  -- it is told of the form that stands there
  pub spot_of : {d : ℕ → ℕ} {k : ℕ} {form : Form} → slice_get forms k ≡ Some form
      → FineAt (flow_of unit) forms d k → WiredAt k form → Spot d k
  spot_of {k} {form} here fits is = record {
    fits = fits;
    wired = λ other there. subst (WiredAt k) (same_Some form other (sym here ∙ there)) is;
  }

  -- the same of a form that is a place of its own
  pub spot : {d : ℕ → ℕ} {k : ℕ} {form : Form} → slice_get forms k ≡ Some form
      → FormFine (flow_of unit) forms d k form → WiredAt k form → Spot d k
  spot {form} here fits is = spot_of here (fine (form, here, fits)) is

  -- it is told of so many forms from an index on
  abbrev pub AllSpots : (ℕ → ℕ) → ℕ → ℕ → Type 0
  AllSpots d i size = (k : ℕ) → i ≤ k → k < i + size → Spot d k

  -- of forms, and those behind them
  pub all_both : {d : ℕ → ℕ} {i : ℕ} (one two : ℕ) → AllSpots d i one → AllSpots d (i + one) two
      → AllSpots d i (one + two)
  all_both {i} one two ones twos k least most =
      elim (leb_tells (i + one) k) [
        | inl later ↦ twos k later.1 (omega arith)
        | inr before ↦ ones k least (let no = before.1 in omega arith)
      ]

  -- of one form
  pub all_first : {d : ℕ → ℕ} {i : ℕ} → Spot d i → AllSpots d i 1
  all_first {d} {i} is k least most =
      let e : i ≡ k = omega arith in subst (Spot d) e is

  -- the exits of loops stand behind an end, where there are no operands
  abbrev pub Free : Exits → (ℕ → ℕ) → ℕ → Type 0
  Free None d end = Unit {0}
  Free (Some labels) d end =
      (d labels.0 ≡ 0) × HasLabel labels.0 × (end ≤ labels.0)
      × (d labels.1 ≡ 0) × HasLabel labels.1 × (end ≤ labels.1)

  -- what stands behind an end stands behind an earlier one
  pub nearer : (exits : Exits) (d : ℕ → ℕ) {some other : ℕ} → some ≤ other → Free exits d other
      → Free exits d some
  nearer None d less free = tt
  nearer (Some labels) d less free =
      (free.0, free.1, le_trans less free.2, free.3, free.4, le_trans less free.5)

  -- ---- pieces

  -- a piece goes from so many operands to so many, wherever its forms stand
  pub record Shape (coded : Coded) (from to : ℕ) : Type 0 where
    pub sized : Sized coded
    pub depths : List ℕ
    pub long : length depths ≡ coded.size
    pub fits : (exits : Exits) (i : ℕ) (d : ℕ → ℕ) → Same d i depths
        → d (i + coded.size) ≡ to → Free exits d (i + coded.size)
        → Holds forms i (coded.forms exits i) → (d i ≡ from) × AllSpots d i coded.size

  -- one piece after the other
  pub shape_both : {first second : Coded} {from middle to : ℕ} → Shape first from middle
      → Shape second middle to → Shape (first ⨾ second) from to
  shape_both {first} {second} {to} one two = record {
    sized = sized_both first second one.sized two.sized;
    depths = one.depths ++ two.depths;
    long = length-append one.depths two.depths ∙ omega (arith, one.long, two.long);
    fits = λ exits i d same last free holds.
        let some = first.forms exits i in
        let other = second.forms exits (i + first.size) in
        let e : i + (first.size + second.size) ≡ i + first.size + second.size = omega arith in
        let twos = two.fits exits (i + first.size) d
        (same_back d i first.size one.depths two.depths same one.long)
        (subst (λ n. d n ≡ to) e last) (subst (Free exits d) e free)
        (behind forms i first.size some other holds (one.sized exits i)) in
        let ones = one.fits exits i d (same_front d i one.depths two.depths same) twos.0
        (nearer exits d (omega arith) free) (front forms i some other holds) in
        (ones.0, all_both first.size second.size ones.1 twos.1);
  }

  -- an operation that goes on
  pub shape_op : {form : Instr} {takes gives : ℕ} (below : ℕ) → flow_of unit form ≡ goes takes gives
      → IsOperation form.name × Ranged form
      → Shape (one (λ exits at. Op form)) (higher takes below) (higher gives below)
  shape_op {takes} {gives} below flows is = record {
    sized = λ exits i. refl;
    depths = higher takes below ∷ [];
    long = refl;
    fits = λ exits i d same last free holds. (
      same.0,
      all_first (spot holds.0
          (subst (OpFine (flow_of unit) forms d i) (sym flows) (
            omega (arith, same.0, higher_is takes below),
            last ∙ omega (arith, same.0, higher_is takes below, higher_is gives below),
          )) is),
    );
  }

  -- an operation that leaves the function
  pub shape_leaves : {form : Instr} {takes : ℕ} (below : ℕ) {to : ℕ}
      → flow_of unit form ≡ leaves takes → IsOperation form.name × Ranged form
      → Shape (one (λ exits at. Op form)) (higher takes below) to
  shape_leaves {takes} below flows is = record {
    sized = λ exits i. refl;
    depths = higher takes below ∷ [];
    long = refl;
    fits = λ exits i d same last free holds. (
      same.0,
      all_first (spot holds.0 (subst (OpFine (flow_of unit) forms d i) (sym flows)
          (omega (arith, same.0, higher_is takes below))) is),
    );
  }

  -- no form
  pub shape_empty : (x : ℕ) → Shape empty x x
  shape_empty x = record {
    sized = λ exits i. refl;
    depths = [];
    long = refl;
    fits = λ exits i d same last free holds.
        let e : i + 0 ≡ i = omega arith in
        (subst (λ n. d n ≡ x) e last, λ k least most. absurd (omega arith));
  }
