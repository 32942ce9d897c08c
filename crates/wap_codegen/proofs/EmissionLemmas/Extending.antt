-- Forms that are added one after the other are the code of parts that follow one another.
use Rattle.std.proofs.Common.{◌≡◌, ℕ, ◌+◌, ◌<◌, ◌≢◌, List, [], ◌∷◌, ◌++◌, length, map, set}
use Rattle.std.proofs.Common.{Some, refl, sym, ap, ap₂, ◌∙◌, append_assoc, append-nil, arith, eqb}
use Rattle.std.proofs.Common.{ne_eqb, cond}
use Rattle.std.proofs.lemmas.List.{length_push, length-set, set_at, map-append}
use Rattle.wap_unit.specs.declared.row.OpName.{OpName}
use Rattle.wap_asm.specs.declared.form.Form.{Form}
use Rattle.wap_asm.specs.declared.form.Form.TheVariants.{Jump}
use Rattle.wap_meaning.specs.coding.Coded.{Exits, Coded, empty, one, ◌⨾◌, jump_over}
use Rattle.wap_codegen.specs.declared.emission.exits.TheConstants.{BREAK, CONTINUE}
use Rattle.wap_codegen.specs.emission.inside.Exits.{moved, redirected, Follows}
use Rattle.wap_codegen.specs.emission.inside.Adding.{Adds}

-- ---- labels

-- a label of a form that is there stays
pub stays : (end again label : ℕ) → label < CONTINUE → moved end again label ≡ label
stays end again label below =
    ap (λ same. cond same end (cond (eqb label CONTINUE) again label))
    (let apart : label ≢ BREAK = omega arith in ne_eqb _ _ apart)
    ∙ ap (λ same. cond same again label)
    (let apart : label ≢ CONTINUE = omega arith in ne_eqb _ _ apart)

-- ---- parts

-- nothing is added
pub adds_empty : (exits : Exits) (old new : List Form) → new ≡ old → Adds empty exits old new
adds_empty exits old new same = record {
  forms = same ∙ sym (append-nil old);
  sized = ap length same ∙ omega arith;
  follows = λ end again first second at few. refl;
}

-- one form is added
pub adds_one : (form : Exits → ℕ → Form) (exits : Exits) (old new : List Form)
    → Follows (one form)
    → new ≡ old ++ form exits (length old) ∷ [] → Adds (one form) exits old new
adds_one form exits old new follows is = record {
  forms = is;
  sized = ap length is ∙ length_push old (form exits (length old));
  follows = follows;
}

both_follow : (first second : Coded) → Follows first → Follows second → Follows (first ⨾ second)
both_follow first second one two end again p q at few =
    map-append (redirected end again) (first.forms (Some (p, q)) at)
    (second.forms (Some (p, q)) (at + first.size))
    ∙ ap₂ (λ (xs ys : List Form). xs ++ ys) (one end again p q at (omega arith))
    (two end again p q (at + first.size) (omega arith))

-- one part, and the next
pub adds_both : {first second : Coded} {exits : Exits} {old middle new : List Form}
    → Adds first exits old middle → Adds second exits middle new
    → Adds (first ⨾ second) exits old new
adds_both {first} {second} {exits} {old} {middle} one two = record {
  forms = two.forms
      ∙ ap (λ (forms : List Form). forms ++ second.forms exits (length middle)) one.forms
      ∙ append_assoc old (first.forms exits (length old)) (second.forms exits (length middle))
      ∙ ap (λ at. old ++ (first.forms exits (length old) ++ second.forms exits at)) one.sized;
  sized = omega (arith, one.sized, two.sized);
  follows = both_follow first second one.follows two.follows;
}

-- code of the same forms
same_adds : {one other : Coded} {exits : Exits} {old new : List Form}
    → one.size ≡ other.size
    → ((exits : Exits) (at : ℕ) → one.forms exits at ≡ other.forms exits at)
    → Adds one exits old new → Adds other exits old new
same_adds {exits} {old} size forms is = record {
  forms = is.forms ∙ ap (λ (forms : List Form). old ++ forms) (forms exits (length old));
  sized = is.sized ∙ ap (λ size. length old + size) size;
  follows = λ end again p q at few.
      ap (λ (forms : List Form). map (redirected end again) forms) (sym (forms (Some (p, q)) at))
      ∙ is.follows end again p q at (omega (arith, size, few))
      ∙ forms (Some (moved end again p, moved end again q)) at;
}

-- the same parts, taken together otherwise
pub adds_assoc : (first second third : Coded) {exits : Exits} {old new : List Form}
    → Adds (first ⨾ (second ⨾ third)) exits old new
    → Adds ((first ⨾ second) ⨾ third) exits old new
adds_assoc first second third {exits} is =
    same_adds (omega arith)
    (λ exits at. sym (append_assoc (first.forms exits at) (second.forms exits (at + first.size))
    (third.forms exits (at + first.size + second.size)))
    ∙ ap (λ place. (first.forms exits at ++ second.forms exits (at + first.size))
    ++ third.forms exits place)
    (let same : at + first.size + second.size ≡ at + (first.size + second.size)
    = omega arith in same))
    is

-- ---- jumps forward

jump_follows : (name : OpName) (count : ℕ) (body : Coded) → count < body.size → Follows body
    → Follows (jump_over name count ⨾ body)
jump_follows name count body within follows end again p q at few =
    ap₂ (λ (label : ℕ) (forms : List Form). Jump name label ∷ forms)
    (stays end again (at + 1 + count) (omega arith))
    (follows end again p q (at + 1) (omega arith))

-- a jump forward whose label is known once what it jumps over is there
pub adds_jump : (name : OpName) (count label : ℕ) {body : Coded} {exits : Exits}
    {old opened behind new : List Form} → count < body.size
    → opened ≡ old ++ Jump name 0 ∷ [] → Adds body exits opened behind
    → label ≡ length old + 1 + count → new ≡ set behind (length old) (Jump name label)
    → Adds (jump_over name count ⨾ body) exits old new
adds_jump name count label {body} {exits} {old} {opened} {behind} within opens adds counts
    closes =
    let after = length_push old (Jump name 0) in
    let at : length opened ≡ length old + 1 = ap length opens ∙ after in
    let whole : behind ≡ old ++ Jump name 0 ∷ body.forms exits (length old + 1) =
    adds.forms ∙ ap (λ at. opened ++ body.forms exits at) at
    ∙ ap (λ (forms : List Form). forms ++ body.forms exits (length old + 1)) opens
    ∙ append_assoc old (Jump name 0 ∷ []) (body.forms exits (length old + 1)) in
    record {
      forms = closes
          ∙ ap (λ (forms : List Form). set forms (length old) (Jump name label)) whole
          ∙ set_at old (Jump name 0) (body.forms exits (length old + 1)) (Jump name label)
          (length old) refl
          ∙ ap (λ n. old ++ Jump name n ∷ body.forms exits (length old + 1)) counts;
      sized = ap length closes ∙ length-set behind (length old) (Jump name label)
          ∙ adds.sized ∙ omega (arith, at);
      follows = jump_follows name count body within adds.follows;
    }
