-- The code of loops, whose labels are known only at their end.
use Rattle.std.proofs.Common.{◌≡◌, ℕ, ◌+◌, ◌-◌, ◌<◌, ◌≤◌, List, [], ◌∷◌, ◌++◌, length, map, set}
use Rattle.std.proofs.Common.{take, drop, Option, Some, None, refl, sym, ap, ap₂, ◌∙◌, subst, arith}
use Rattle.std.proofs.Common.{append_assoc, true, get_or}
use Rattle.std.proofs.lemmas.List.{length_push, length-append, length-map, map-append, drop_more}
use Rattle.std.proofs.lemmas.List.{take_more, length-take-le, get_or_at, set_at, get_or_default}
use Rattle.wap_unit.specs.declared.row.OpName.TheVariants as op
use Rattle.wap_asm.specs.declared.form.Form.{Form}
use Rattle.wap_asm.specs.declared.form.Form.TheVariants.{Jump, Label}
use Rattle.wap_grammar.specs.declared.program.expression.Expr.{Expr}
use Rattle.wap_meaning.specs.coding.Coded.{Exits, Coded, ◌⨾◌, one, label, jump_over, jump_before}
use Rattle.wap_meaning.specs.coding.Coded.{within}
use Rattle.wap_meaning.specs.coding.Constants.{Numbers}
use Rattle.wap_meaning.specs.coding.Expressions.{expr_code}
use Rattle.wap_meaning.specs.coding.Statements.{test_code, loop_code}
use Rattle.wap_codegen.specs.declared.emission.exits.TheConstants.{BREAK, CONTINUE}
use Rattle.wap_codegen.specs.emission.inside.Exits.{exits_in, redirected, Follows}
use Rattle.wap_codegen.specs.emission.inside.Adding.{Adds}
use Rattle.wap_codegen.specs.emission.inside.Loops.{Tests, closed}
use Rattle.wap_codegen.proofs.EmissionLemmas.Extending.{adds_both, adds_empty, adds_one, adds_assoc}
use Rattle.wap_codegen.proofs.EmissionLemmas.Extending.{adds_jump, stays}

-- how many forms are added
added : (coded : Coded) (exits : Exits) (old new : List Form) → Adds coded exits old new
    → length (coded.forms exits (length old)) ≡ coded.size
added coded exits old new is =
    let long : length new ≡ length old + length (coded.forms exits (length old)) =
    ap length is.forms ∙ length-append old (coded.forms exits (length old)) in
    omega (arith, long, is.sized)

-- ---- the body, whose jumps get their labels

-- a body in a loop whose end isn't known yet, and what comes after it
module _ (body rest : Coded) (breaks : ℕ) (below : breaks < body.size + rest.size)
    (more : 0 < rest.size) where
  within_follows : Follows body → Follows rest → Follows (within breaks body.size body ⨾ rest)
  within_follows first_follows rest_follows end again p q at few =
      map-append (redirected end again) (body.forms (Some (at + breaks, at + body.size)) at)
      (rest.forms (Some (p, q)) (at + body.size))
      ∙ ap₂ (λ (xs ys : List Form). xs ++ ys)
      (first_follows end again (at + breaks) (at + body.size) at (omega arith)
      ∙ ap₂ (λ first second. body.forms (Some (first, second)) at)
      (stays end again (at + breaks) (omega arith))
      (stays end again (at + body.size) (omega arith)))
      (rest_follows end again p q (at + body.size) (omega arith))

  pub within_adds : (exits : Exits) (old middle last new : List Form) (end again : ℕ)
      → Adds body (exits_in true) old middle → Adds rest exits middle last
      → end ≡ length old + breaks → again ≡ length old + body.size
      → length middle ≤ CONTINUE
      → new ≡ old ++ (map (redirected end again) (body.forms (exits_in true) (length old))
      ++ rest.forms exits (length middle))
      → Adds (within breaks body.size body ⨾ rest) exits old new
  within_adds exits old middle last new end again before behind ends begins few is = record {
    forms = is
        ∙ ap₂ (λ (xs ys : List Form). old ++ (xs ++ ys))
        (before.follows end again BREAK CONTINUE (length old) (omega (arith, before.sized, few))
        ∙ ap₂ (λ first second. body.forms (Some (first, second)) (length old)) ends begins)
        (ap (λ at. rest.forms exits at) before.sized);
    sized = ap length is
        ∙ length-append old (map (redirected end again) (body.forms (exits_in true) (length old))
        ++ rest.forms exits (length middle))
        ∙ ap (λ n. length old + n)
        (length-append (map (redirected end again) (body.forms (exits_in true) (length old)))
        (rest.forms exits (length middle))
        ∙ ap₂ (λ m n. m + n)
        (length-map (body.forms (exits_in true) (length old)) (redirected end again)
        ∙ added body (exits_in true) old middle before)
        (added rest exits middle last behind));
    follows = within_follows before.follows behind.follows;
  }

-- ---- the whole loop

back_follows : (count : ℕ) → Follows (jump_before op.JumpBw count)
back_follows count end again p q at few =
    ap (λ (label : ℕ). Jump op.JumpBw label ∷ [])
    (stays end again (at - count) (omega arith))

-- how many forms a condition with its jump has
pub test_sized : (numbers : Numbers) (condition : Option Expr) (over : ℕ) (old new : List Form)
    (index : ℕ) → Tests numbers condition old new index
    → length new ≡ length old + (test_code numbers condition over).size
test_sized numbers None over old new index test = ap length test ∙ omega arith
test_sized numbers (Some e) over old new index test =
    let long : length new ≡ length test.0 + 1 =
    ap length test.2 ∙ length_push test.0 (Jump op.TjumpFw 0) in
    omega (arith, long, (test.1 None).sized)

-- a condition with its jump, and what this jumps over
tested_adds : (numbers : Numbers) (condition : Option Expr) (inner : Coded) (exits : Exits)
    (over index end : ℕ) (begun tested redone new : List Form) → over < inner.size
    → Tests numbers condition begun tested index → Adds inner exits tested redone
    → end ≡ length tested + over → new ≡ closed condition index end redone
    → Adds (test_code numbers condition over ⨾ inner) exits begun new
tested_adds numbers None inner exits over index end begun tested redone new below test two ends
    closes =
    adds_both (adds_empty exits begun tested test)
    (subst (λ (forms : List Form). Adds inner exits tested forms) (sym closes) two)
tested_adds numbers (Some e) inner exits over index end begun tested redone new below test two
    ends closes =
    let long : length tested ≡ length test.0 + 1 =
    ap length test.2 ∙ length_push test.0 (Jump op.TjumpFw 0) in
    adds_assoc (expr_code numbers e) (jump_over op.TjumpFw over) inner
    (adds_both (test.1 exits)
    (adds_jump op.TjumpFw over end below test.2 two
    (ends ∙ ap (λ n. n + over) long)
    (closes ∙ ap (λ n. set redone n (Jump op.TjumpFw end)) test.3)))

module _ (numbers : Numbers) (condition : Option Expr) (body update : Coded) (exits : Exits)
    (start index again end : ℕ) where
  abbrev over : ℕ
  over = body.size + (update.size + 2)

  abbrev count : ℕ
  count = 1 + (test_code numbers condition over).size + body.size + 1 + update.size

  abbrev rest : Coded
  rest = label ⨾ update ⨾ jump_before op.JumpBw count ⨾ label

  abbrev inner : Coded
  inner = within over body.size body ⨾ rest

  -- what comes after the body
  pub rest_adds : (first begun tested bodied labelled updated jumped ended : List Form)
      → Adds label exits first begun → start ≡ length first
      → length tested ≡ length begun + (test_code numbers condition over).size
      → Adds body (exits_in true) tested bodied
      → Adds label exits bodied labelled → Adds update exits labelled updated
      → jumped ≡ updated ++ Jump op.JumpBw start ∷ [] → Adds label exits jumped ended
      → Adds rest exits bodied ended
  rest_adds first begun tested bodied labelled updated jumped ended one begins long two three four
      back five =
      let same : start ≡ length updated - count =
      omega (arith, one.sized, long, two.sized, three.sized, four.sized, begins) in
      adds_both three (adds_both four (adds_both
      (adds_one (λ exits at. Jump op.JumpBw (at - count)) exits updated jumped (back_follows count)
      (back ∙ ap (λ label. updated ++ Jump op.JumpBw label ∷ []) same)) five))

  -- the condition, and a loop whose body is complete
  pub loop_adds : (first begun tested redone new : List Form)
      → Adds label exits first begun → Tests numbers condition begun tested index
      → Adds inner exits tested redone
      → end ≡ length tested + over → new ≡ closed condition index end redone
      → Adds (loop_code (test_code numbers condition) body update) exits first new
  loop_adds first begun tested redone new one test two ends closes =
      adds_both one
      (tested_adds numbers condition inner exits over index end begun tested redone new
      (omega arith) test two ends closes)

  -- the body's jumps get their labels, and then that of the condition
  pub whole_loop : {first begun tested bodied labelled updated jumped ended redone new : List Form}
      → Adds label exits first begun → start ≡ length first
      → Tests numbers condition begun tested index
      → Adds body (exits_in true) tested bodied
      → Adds label exits bodied labelled → again ≡ length bodied
      → Adds update exits labelled updated
      → jumped ≡ updated ++ Jump op.JumpBw start ∷ []
      → Adds label exits jumped ended → end ≡ length jumped → end < CONTINUE
      → ((before items after : List Form) → ended ≡ before ++ (items ++ after)
      → length tested ≡ length before → length bodied ≡ length before + length items
      → redone ≡ before ++ (map (redirected end again) items ++ after))
      → new ≡ closed condition index end redone
      → Adds (loop_code (test_code numbers condition) body update) exits first new
  whole_loop {first} {begun} {tested} {bodied} {labelled} {updated} {jumped} {ended} {redone} {new}
      one begins test two three agains four back five ends few redirects closes =
      let long = test_sized numbers condition over begun tested index test in
      let behind : Adds rest exits bodied ended =
      rest_adds first begun tested bodied labelled updated jumped ended one begins long two
      three four back five in
      let items : List Form = body.forms (exits_in true) (length tested) in
      let after : List Form = rest.forms exits (length bodied) in
      let split : ended ≡ tested ++ (items ++ after) =
      behind.forms ∙ ap (λ (forms : List Form). forms ++ after) two.forms
      ∙ append_assoc tested items after in
      let count_of : length items ≡ body.size = added body (exits_in true) tested bodied two in
      let jumped_long : length jumped ≡ length updated + 1 =
      ap length back ∙ length_push updated (Jump op.JumpBw start) in
      let at_end : end ≡ length tested + over =
      omega (arith, ends, jumped_long, four.sized, three.sized, two.sized) in
      let is = redirects tested items after split refl (omega (arith, count_of, two.sized)) in
      loop_adds first begun tested redone new one test
      (within_adds body rest over (omega arith) (omega arith) exits tested bodied ended redone end
      again two behind at_end (agains ∙ two.sized)
      (omega (arith, few, ends, jumped_long, four.sized, three.sized)) is)
      at_end closes

-- ---- forms that are redirected one after the other

-- one form more
pub redirect_more : (f : Form → Form) (before items after forms : List Form) (k : ℕ) (x : Form)
    → k < length items → x ≡ get_or forms (length before + k) x
    → forms ≡ before ++ (map f (take k items) ++ (drop k items ++ after))
    → set forms (length before + k) (f x)
    ≡ before ++ (map f (take (k + 1) items) ++ (drop (k + 1) items ++ after))
redirect_more f before items after forms k x within is whole =
    let done : List Form = map f (take k items) in
    let left : List Form = drop (k + 1) items ++ after in
    let here : Form = get_or items k x in
    let split : forms ≡ (before ++ done) ++ here ∷ left =
    whole ∙ ap (λ (rest : List Form). before ++ (done ++ (rest ++ after)))
    (drop_more items k x within) ∙ sym (append_assoc before done (here ∷ left)) in
    let long : length (before ++ done) ≡ length before + k =
    length-append before done
    ∙ ap (λ n. length before + n)
    (length-map (take k items) f ∙ length-take-le k items (omega arith)) in
    let same : x ≡ here =
    is ∙ ap (λ (all : List Form). get_or all (length before + k) x) split
    ∙ get_or_at (before ++ done) here left x (length before + k) long in
    ap (λ (all : List Form). set all (length before + k) (f x)) split
    ∙ set_at (before ++ done) here left (f x) (length before + k) long
    ∙ append_assoc before done (f x ∷ left)
    ∙ ap (λ y. before ++ (done ++ (f y ∷ left))) same
    ∙ ap (λ (rest : List Form). before ++ rest)
    (sym (append_assoc done (f here ∷ []) left)
    ∙ ap (λ (all : List Form). all ++ left)
    (sym (map-append f (take k items) (here ∷ []))
    ∙ ap (λ (taken : List Form). map f taken) (sym (take_more items k x within))))

-- the same by the index among all forms
pub redirect_next : (f : Form → Form) (before items after forms new : List Form) (from to at : ℕ)
    → from ≤ at → at < to → from ≡ length before → to ≡ length before + length items
    → at < length forms
    → ((x : Form) → x ≡ get_or forms at x → new ≡ set forms at (f x))
    → forms ≡ before ++ (map f (take (at - from) items) ++ (drop (at - from) items ++ after))
    → new ≡ before ++ (map f (take (at + 1 - from) items)
    ++ (drop (at + 1 - from) items ++ after))
redirect_next f before items after forms new from to at past below starts ends within sets whole =
    let here : Form = get_or forms at (Label 0) in
    let is : here ≡ get_or forms at here = get_or_default forms at (Label 0) here within in
    let place : at ≡ length before + (at - from) = omega (arith, past, starts) in
    let few : at - from < length items = omega (arith, past, below, starts, ends) in
    let next : at - from + 1 ≡ at + 1 - from = omega (arith, past) in
    sets here is
    ∙ ap (λ n. set forms n (f here)) place
    ∙ redirect_more f before items after forms (at - from) here few
    (is ∙ ap (λ n. get_or forms n here) place) whole
    ∙ ap (λ k. before ++ (map f (take k items) ++ (drop k items ++ after))) next
