-- Choices without another branch, and loops.
use Rattle.std.proofs.Common.{◌≡◌, ℕ, zero, suc, ◌+◌, ◌-◌, ◌<◌, ◌≤◌, true, cond, List, length, Some}
use Rattle.std.proofs.Common.{refl, sym, ap, ◌∙◌, subst, arith}
use Rattle.std.specs.Prelude.{if◌then◌else◌}
use Rattle.wap_value.specs.declared.value.Value.{Value}
use Rattle.wap_value.specs.declared.value.Value.TheVariants.{Bool as Boolean, Invalid}
use Rattle.wap_execution.specs.Effects.{jumps_at}
use Rattle.wap_execution.specs.Outcomes.{Ended}
use Rattle.wap_meaning.specs.SourceParts.{Does, ◌>>=◌, done, give, turn}
use Rattle.wap_meaning.specs.Statements.{Ending, goes_on, if_continues, looped, loop}
use Rattle.wap_meaning.specs.coding.Coded.{Exits, Coded, empty, ◌⨾◌, jump_over}
use Rattle.wap_meaning.specs.coding.Statements.{branch_code, loop_code}
use Rattle.wap_meaning.proofs.Following.{from_done_where, done_same, lessened}
use Rattle.wap_meaning.specs.Keeping.{Keeps}
use Rattle.wap_compiled_laws.proofs.Pieces.Pieces.{Holds, front, behind, Sized, sized_both, Site}
use Rattle.wap_compiled_laws.proofs.Pieces.Pieces.{spot, onto, Reaches, nearer, Piece, both}
use Rattle.wap_compiled_laws.proofs.Pieces.Sizes.{sized_branch, sized_loop}
use Rattle.wap_compiled_laws.proofs.Pieces.Instructions.{as_is, pushed, nothing}
use Rattle.wap_compiled_laws.proofs.Pieces.Jumps.{HasLabel, HasJump, label_here, test_here}
use Rattle.wap_compiled_laws.proofs.Pieces.Jumps.{back_here, chosen}
use Rattle.wap_compiled_laws.proofs.Expressions.Agreeing.{Agrees}
use Rattle.wap_meaning.proofs.KeepingParts.{give_keeps, if_keeps}
use Rattle.wap_meaning.proofs.Trees.{loop_keeps}
use Rattle.wap_compiled_laws.proofs.Statements.Statements.{leaves, leaves_shifts, Runs}
use Rattle.wap_unit.specs.declared.row.OpName.TheVariants as op
use Rattle.std.proofs.lemmas.Grind.{common_steps}

module _ {S : Type 0} (site : Site S) where
  -- ---- one branch

  -- one branch does what is done where the condition holds
  branch_piece : {v : Value} {does : Does Ending S} {body : Coded} → Runs site does body
      → Piece site (if jumps_at v then give goes_on else does) (branch_code body) (pushed v)
      (leaves site)
  branch_piece {v} {does} {body} runs = record {
    sized = sized_branch body runs.sized;
    falls = if_keeps (jumps_at v) (give goes_on) does (give_keeps goes_on) runs.falls;
    follows = λ exits i reach holds variables fits operands turns state.
        let end : ℕ = i + 1 + body.size in
        let there = (behind site.forms (i + 1) body.size (body.forms exits (i + 1)) _ holds.1
        (runs.sized exits (i + 1))).0 in
        let whole : end + 1 ≡ i + (branch_code body).size = omega arith in
        let passes : (vs os : List Value) (left : ℕ) (later : S)
        → spot site end vs os left later ≡ spot site (i +
        (branch_code body).size) vs os left later =
        λ vs os left later. label_here site there vs os left later
        ∙ ap (λ (n : ℕ). spot site n vs os left later) whole in
        test_here site holds.0 there (omega arith) v variables operands turns state
        ∙ chosen site (jumps_at v) does (give goes_on)
        (leaves site exits (i + (branch_code body).size) operands) variables turns state
        (spot site (i + 1) variables operands turns state)
        (spot site end variables operands turns state)
        (runs.follows exits (i + 1) (nearer site exits (omega arith) reach) (front site.forms
        (i + 1) (body.forms exits (i + 1)) _ holds.1) variables fits operands turns state
        ∙ done_same (does variables turns state) (leaves site exits end operands)
        (leaves site exits (i + (branch_code body).size) operands)
        (λ ending vs left later. leaves_shifts site exits end (i + (branch_code body).size) passes
        operands ending vs left later))
        (passes variables operands turns state);
  }

  -- a condition with one branch
  pub branch_runs : {c : Does Value S} {does : Does Ending S} {one two : Coded} → Agrees site c one
      → Runs site does two
      → Runs site (c >>= λ v. if jumps_at v then give goes_on else does) (one ⨾ branch_code two)
  branch_runs ones twos = both site Invalid ones (λ v. branch_piece twos)

  -- ---- the condition of a loop, with a jump over so many forms

  pub record Tests (test : Does Value S) (coded : ℕ → Coded) : Type 0 where
    pub size : ℕ
    pub of_size : (count : ℕ) → (coded count).size ≡ size
    pub sized : (count : ℕ) → Sized (coded count)
    pub falls : Keeps test
    pub follows : (exits : Exits) (i count : ℕ) → Reaches site exits (i + size)
        → Holds site.forms i ((coded count).forms exits i)
        → HasLabel site (i + size + count)
        → (variables : List Value) → length variables ≡ site.count
        → (operands : List Value) (turns : ℕ) (state : S)
        → spot site i variables operands turns state
        ≡ done (test variables turns state) (λ v vs left later. cond (jumps_at v)
        (spot site (i + size + count) vs operands left later)
        (spot site (i + size) vs operands left later))

  -- no condition
  pub no_test : Tests (give (Boolean true)) (λ count. empty)
  no_test = record {
    size = 0;
    of_size = λ count. refl;
    sized = λ count exits i. refl;
    falls = give_keeps (Boolean true);
    follows = λ exits i count reach holds there variables fits operands turns state.
        let e : i ≡ i + 0 = omega arith in
        ap (λ (n : ℕ). spot site n variables operands turns state) e;
  }

  -- a condition
  pub one_test : {test : Does Value S} {coded : Coded} → Agrees site test coded
      → Tests test (λ count. coded ⨾ jump_over op.TjumpFw count)
  one_test {test} {coded} agrees = record {
    size = coded.size + 1;
    of_size = λ count. refl;
    sized = λ count. sized_both coded (jump_over op.TjumpFw count) agrees.sized (λ exits i. refl);
    falls = agrees.falls;
    follows = λ exits i count reach holds there variables fits operands turns state.
        let jump = behind site.forms i coded.size (coded.forms exits i) _ holds
        (agrees.sized exits i) in
        let to_end : i + (coded.size + 1) + count ≡ i + coded.size + 1 + count = omega arith in
        let to_next : i + coded.size + 1 ≡ i + (coded.size + 1) = omega arith in
        agrees.follows exits i (nearer site exits (omega arith) reach) (front site.forms i
        (coded.forms exits i) _ holds) variables fits operands turns state
        ∙ done_same (test variables turns state)
        (onto site pushed exits (i + coded.size) operands)
        (λ v vs left later. cond (jumps_at v)
        (spot site (i + (coded.size + 1) + count) vs operands left later)
        (spot site (i + (coded.size + 1)) vs operands left later))
        (λ v vs left later. test_here site jump.0 (subst (HasLabel site) to_end there) (omega arith)
        v vs operands left later
        ∙ ap (λ (n : ℕ). cond (jumps_at v) (spot site n vs operands left later)
        (spot site (i + coded.size + 1) vs operands left later)) (sym to_end)
        ∙ ap (λ (n : ℕ). cond (jumps_at v)
        (spot site (i + (coded.size + 1) + count) vs operands left later)
        (spot site n vs operands left later)) to_next);
  }

  -- what is done after a turn
  abbrev pub Updates : Does (Unit {0}) S → Coded → Type 0
  Updates update coded = Piece site update coded as_is (onto site nothing)

  -- ---- loops

  -- the places of a loop in the code
  record Loop (test : Does Value S) (body : Does Ending S) (update : Does (Unit {0}) S)
      (start inside again back end : ℕ) (operands : List Value) : Type 0 where
    test_keeps : Keeps test
    body_keeps : Keeps body
    update_keeps : Keeps update
    at_start : HasLabel site start
    at_again : HasLabel site again
    at_end : HasLabel site end
    at_back : HasJump site op.JumpBw back start
    earlier : start < back
    tests : (variables : List Value) → length variables ≡ site.count → (turns : ℕ) (state : S)
        → spot site (start + 1) variables operands turns state
        ≡ done (test variables turns state) (λ v vs left later. cond (jumps_at v)
        (spot site end vs operands left later) (spot site inside vs operands left later))
    does : (variables : List Value) → length variables ≡ site.count → (turns : ℕ) (state : S)
        → spot site inside variables operands turns state
        ≡ done (body variables turns state) (leaves site (Some (end, again)) again operands)
    updates : (variables : List Value) → length variables ≡ site.count → (turns : ℕ) (state : S)
        → spot site (again + 1) variables operands turns state
        ≡ done (update variables turns state)
        (λ _ vs left later. spot site back vs operands left later)

  module _ (test : Does Value S) (body : Does Ending S) (update : Does (Unit {0}) S)
      (start inside again back end : ℕ) (operands : List Value) (exits : Exits)
      (loops : Loop test body update start inside again back end operands) where
    abbrev After_loop : Ending → List Value → ℕ → S → Ended S
    After_loop = leaves site exits (end + 1) operands

    -- with fewer turns than may be taken
    abbrev Claim : ℕ → Type 0
    Claim more = (variables : List Value) → length variables ≡ site.count
        → (turns : ℕ) (state : S) → turns < more
        → spot site (start + 1) variables operands turns state
        ≡ done (looped test body update more variables turns state) After_loop

    -- where a turn is taken, the condition is tried again
    after_turn : {more : ℕ} → Claim more → (variables : List Value) → length variables ≡ site.count
        → (turns : ℕ) (state : S) → turns < suc more → done (turn variables turns state)
        (λ _ vs left later. spot site start vs operands left later)
        ≡ done ((turn >>= λ _. looped test body update more) variables turns state) After_loop
    after_turn h0 variables h2 turns state h5 = grind (arith, common_steps, label_here)

    -- behind the body the update is done, and a turn taken
    go_again : {more : ℕ} → Claim more → (variables : List Value) → length variables ≡ site.count
        → {turns : ℕ} (state : S) → turns < suc more
        → spot site again variables operands turns state
        ≡ done ((update >>= λ _. turn >>= λ _. looped test body update more) variables turns state)
        After_loop
    go_again {more} claim variables fits {turns} state fewer =
        grind (
          arith,
          common_steps,
          label_here,
          from_done_where,
          spot,
          lessened,
          back_here,
          after_turn,
        )

    -- the body leaves to there, or behind the loop
    after_body : (more : ℕ) → Claim more → (ending : Ending) (variables : List Value)
        → length variables ≡ site.count → (turns : ℕ) (state : S) → turns < suc more
        → leaves site (Some (end, again)) again operands ending variables turns state
        ≡ done (if_continues (update >>= λ _. turn >>= λ _. looped test body update more) ending
        variables turns state) After_loop
    after_body more h1 ending variables h4 turns state h7 =
        grind (arith, common_steps, go_again, label_here)

    -- a loop with so many turns at most
    repeats : (more : ℕ) → Claim more
    repeats zero variables fits turns state fewer = absurd (omega arith)
    repeats (suc more) variables fits turns state fewer =
        loops.tests variables fits turns state
        ∙ from_done_where (λ v vs left. (left ≤ turns) × (length vs ≡ length variables))
        (test variables turns state)
        (λ v. if jumps_at v then give goes_on
        else body >>= if_continues (update >>= λ _. turn >>= λ _. looped test body update more))
        (λ v vs left later. cond (jumps_at v) (spot site end vs operands left later)
        (spot site inside vs operands left later)) After_loop
        (lessened variables turns (test variables turns state)
        (loops.test_keeps variables turns state))
        (λ v vs left later less.
        chosen site (jumps_at v)
        (body >>= if_continues (update >>= λ _. turn >>= λ _. looped test body update more))
        (give goes_on) After_loop vs left later
        (spot site inside vs operands left later) (spot site end vs operands left later)
        (loops.does vs (less.1 ∙ fits) left later
        ∙ from_done_where (λ ending os fewer. (fewer ≤ left) × (length os ≡ length vs))
        (body vs left later)
        (if_continues (update >>= λ _. turn >>= λ _. looped test body update more))
        (leaves site (Some (end, again)) again operands) After_loop
        (lessened vs left (body vs left later) (loops.body_keeps vs left later))
        (λ ending one two three fall. after_body more (repeats more) ending one
        (fall.1 ∙ (less.1 ∙ fits)) two three (omega (arith, fall.0, less.0))))
        (label_here site loops.at_end vs operands left later))

    -- a loop, from its first label
    whole_loop : (variables : List Value) → length variables ≡ site.count → (turns : ℕ) (state : S)
        → spot site start variables operands turns state
        ≡ done (loop test body update variables turns state) After_loop
    whole_loop variables fits turns state =
        label_here site loops.at_start variables operands turns state
        ∙ repeats (suc turns) variables fits turns state (omega arith)

  -- ---- the code of a loop

  module _ (test : Does Value S) (body : Does Ending S) (update : Does (Unit {0}) S)
      (one : ℕ → Coded) (two three : Coded) (tests : Tests test one) (runs : Runs site body two)
      (updates : Updates update three) where
    -- how many forms the jump behind the loop passes
    abbrev past : ℕ
    past = two.size + (three.size + 2)

    -- a loop and its code agree
    pub loop_runs : Runs site (loop test body update) (loop_code one two three)
    loop_runs = record {
      sized = sized_loop one two three tests.sized runs.sized updates.sized;
      falls = loop_keeps test body update tests.falls runs.falls updates.falls;
      follows = λ exits i reach holds variables fits operands turns state.
          let t = (one past).size in
          let same : t ≡ tests.size = tests.of_size past in
          let inside : ℕ = i + 1 + t in
          let again : ℕ = inside + two.size in
          let back : ℕ = again + 1 + three.size in
          let end : ℕ = inside + past in
          let inner : Exits = Some (end, again) in
          let after_test = behind site.forms (i + 1) t ((one past).forms exits (i + 1)) _ holds.1
          (tests.sized past exits (i + 1)) in
          let after_body = behind site.forms inside two.size
          (two.forms inner inside) _ after_test (runs.sized inner inside) in
          let after_update = behind site.forms (again + 1) three.size
          (three.forms exits (again + 1)) _ after_body.1 (updates.sized exits (again + 1)) in
          let is_end : back + 1 ≡ end = omega arith in
          let is_start : back - (1 + t + two.size + 1 + three.size) ≡ i = omega arith in
          let whole : end + 1 ≡ i + (loop_code one two three).size = omega arith in
          let at_end : HasLabel site end = subst (HasLabel site) is_end after_update.1.0 in
          let to_end : end ≡ i + 1 + tests.size + past = omega (arith, same) in
          let to_inside : inside ≡ i + 1 + tests.size = omega (arith, same) in
          let loops : Loop test body update i inside again back end operands = record {
            test_keeps = tests.falls;
            body_keeps = runs.falls;
            update_keeps = updates.falls;
            at_start = holds.0;
            at_again = after_body.0;
            at_end = at_end;
            at_back = subst (λ n. HasJump site op.JumpBw back n) is_start after_update.0;
            earlier = omega arith;
            tests = λ vs suits left later.
                tests.follows exits (i + 1) past (nearer site exits (omega (arith, same)) reach)
                (front site.forms (i + 1) ((one past).forms exits (i + 1)) _ holds.1)
                (subst (HasLabel site) to_end at_end) vs suits operands left later
                ∙ done_same (test vs left later)
                (λ v vs left later. cond (jumps_at v)
                (spot site (i + 1 + tests.size + past) vs operands left later)
                (spot site (i + 1 + tests.size) vs operands left later))
                (λ v vs left later. cond (jumps_at v)
                (spot site end vs operands left later) (spot site inside vs operands left later))
                (λ v vs left later.
                ap (λ (n : ℕ). cond (jumps_at v) (spot site n vs operands left later)
                (spot site (i + 1 + tests.size) vs operands left later)) (sym to_end)
                ∙ ap (λ (n : ℕ). cond (jumps_at v) (spot site end vs operands left later)
                (spot site n vs operands left later)) (sym to_inside));
            does = λ vs suits left later.
                runs.follows inner inside (at_end, omega arith, after_body.0, omega arith)
                (front site.forms inside (two.forms inner inside) _ after_test)
                vs suits operands left later;
            updates = λ vs suits left later.
                updates.follows exits (again + 1) (nearer site exits (omega arith) reach)
                (front site.forms (again + 1) (three.forms exits (again + 1)) _ after_body.1)
                vs suits operands left later;
          } in
          whole_loop test body update i inside again back end operands exits loops variables
          fits turns state
          ∙ ap (λ (n : ℕ). done (loop test body update variables turns state)
          (leaves site exits n operands)) whole;
    }
