-- Pragmas, functions and programs read with parts too deep at some places: the readings part at the
-- first such part.
use Rattle.std.proofs.Common.{◌≡◌, ℕ, suc, ◌<◌, Bool, true, false, cond, List, [], ◌∷◌}
use Rattle.std.proofs.Common.{length, Option, Some, None, Result, Ok, Err, refl, arith}
use Rattle.wap_base.specs.Outcome.{◌>>=◌}
use Rattle.wap_grammar.specs.declared.program.program.Span.{Span}
use Rattle.wap_grammar.specs.declared.program.program.Use.{Use}
use Rattle.wap_grammar.specs.declared.program.program.Use.TheVariants as pragma
use Rattle.wap_grammar.specs.declared.program.program.Function.{Function}
use Rattle.wap_grammar.specs.declared.program.program.Program.{Program}
use Rattle.wap_grammar.specs.declared.fault.ParseFault.{ParseFault}
use Rattle.wap_grammar.specs.declared.lexeme.Lexeme.{Lexeme}
use Rattle.wap_grammar.specs.declared.word.Sign.{Sign}
use Rattle.wap_grammar.specs.declared.word.Sign.TheVariants as signs
use Rattle.wap_grammar.specs.Lexemes.{word_of, is_sign, is_text}
use Rattle.wap_grammar.specs.Values.{text_of}
use Rattle.wap_grammar.specs.Programs.{from_to}
use Rattle.wap_grammar.specs.reading.TokenReading.{Reading, span_of, after, told, closed, items_at}
use Rattle.wap_grammar.specs.reading.Statements.{Statements}
use Rattle.wap_grammar.specs.reading.Programs.{text_at, signed_at, access_by, access_at, scheme_at}
use Rattle.wap_grammar.specs.reading.Programs.{property_at, agent_of, note_of, url_at, who_at}
use Rattle.wap_grammar.specs.reading.Programs.{meta_at, use_at, next_use, parameters_at, tail_at}
use Rattle.wap_grammar.specs.reading.Programs.{head_at, function_of, function_at, next_function}
use Rattle.wap_grammar.specs.reading.Programs.{program_by, program_at}
use Rattle.wap_grammar.proofs.Guards.{Guard, IsRest, Forks, Walks, sooner, gives, stops, by_first}
use Rattle.wap_grammar.proofs.Guards.{choose, next, then, tells, expects, closes, names, many}
use Rattle.wap_grammar.proofs.Places.{parts_listed, parts_block}

-- ---- what a program is made of

abbrev pub Made : Type 0
Made = List Use × List Function

abbrev pub ended : List ℕ → Made × List Lexeme → Result Program ParseFault
ended src x = program_by src x.0.0 x.0.1 x.1

module _ (src : List ℕ) (whole : List Lexeme) where
  abbrev pub parts_at : Statements → Reading Made
  parts_at statement = items_at (next_use src) whole >>= λ us.
      told (λ fs. (us.0, fs)) (items_at (next_function src statement) us.1)

  by_functions : (us : List Use) (fs : Reading (List Function)) →
      (fs >>= λ fs. program_by src us fs.0 fs.1)
      ≡ (told {B = Made} (λ fs. (us, fs)) fs >>= ended src)
  by_functions us (Ok fs) = refl
  by_functions us (Err e) = refl

  by_uses : (uses : Reading (List Use)) (rest : List Lexeme → Reading (List Function)) →
      (uses >>= λ us. rest us.1 >>= λ fs. program_by src us.0 fs.0 fs.1)
      ≡ ((uses >>= λ us. told {B = Made} (λ fs. (us.0, fs)) (rest us.1)) >>= ended src)
  by_uses (Ok us) rest = by_functions us.0 (rest us.1)
  by_uses (Err e) rest = refl

  pub program_parts : (statement : Statements) →
      program_at src statement whole ≡ (parts_at statement >>= ended src)
  unfolding program_at
  program_parts statement = by_uses (items_at (next_use src) whole) (items_at
      (next_function src statement))

module _ (src : List ℕ) (whole : List Lexeme) (limit : ℕ) where
  abbrev Parts : {A : Type 0} → ℕ → (Guard → List Lexeme → Reading A) → Type 0
  Parts most r = Walks src whole limit most r

  -- ---- pragmas

  parts_text : {most : ℕ} → Parts most (λ g. text_at src)
  unfolding text_at
  parts_text = by_first span_of (λ span. choose (λ c. is_text (word_of c))
      (next (gives (text_of src span))) stops)

  parts_signed : {most : ℕ} (s : Sign) → Parts most (λ g. signed_at src s)
  unfolding signed_at
  parts_signed s = choose _ (next (tells Some parts_text)) (gives None)

  parts_access : {most : ℕ} → Parts most (λ g. access_at src)
  unfolding access_at
  parts_access = then (parts_signed signs.Domain) (λ d. then (parts_signed signs.Path) (by_both d))
    where
      by_both : {most : ℕ} (d p : Option (List ℕ)) → Parts most (λ g. access_by src d p)
      by_both None None = stops
      by_both (Some d) None = gives (Some d, None)
      by_both None (Some p) = gives (None, Some p)
      by_both (Some d) (Some p) = gives (Some d, Some p)

  parts_who : {most : ℕ} (word : Span) → Parts most (λ g. who_at src word)
  unfolding who_at
  parts_who word = then parts_access (λ who. by_first span_of (λ span. closes signs.Semicolon
      (gives (pragma.Access who.0 who.1 (from_to word span)))))

  parts_ended : {B : Type 0} {most : ℕ} (make : List ℕ × List ℕ × Option (List ℕ) → B) →
      Parts most (λ g c. told make (property_at src c >>= closed src signs.Semicolon))
  unfolding property_at scheme_at
  parts_ended make = tells make (closes signs.Semicolon (then parts_text (λ n. then parts_text (λ d.
      tells (λ s. (n, d, s)) (choose _ (tells Some parts_text) (gives None))))))

  parts_use : {most : ℕ} (word : Span) → Parts most (λ g. use_at src word)
  unfolding use_at url_at meta_at
  parts_use word = choose _
      (next (then names (λ u. tells (pragma.Url u) (closes signs.Semicolon parts_text))))
      (choose _ (next (parts_who word)) (sooner (expects signs.Meta
      (choose _ (next (parts_ended note_of))
      (choose _ (next (sooner (expects signs.Equiv (parts_ended note_of))))
      (sooner (expects signs.User (sooner (expects signs.Agent (parts_ended agent_of))))))))))

  parts_next_use : {most : ℕ} → Parts most (λ g. next_use src)
  unfolding next_use
  parts_next_use = by_first span_of (λ span. choose (λ c. is_sign signs.Use (word_of c))
      (next (tells Some (parts_use span))) (gives None))

  -- ---- functions

  parts_parameters : {most : ℕ} → Parts most (λ g. parameters_at src)
  unfolding parameters_at
  parts_parameters = choose _ (next (gives []))
      (closes signs.Close (parts_listed src whole limit names))

  parts_head : {most : ℕ} → Parts most (λ g. head_at src)
  unfolding head_at
  parts_head = choose _ (next (sooner (expects signs.Function (gives true))))
      (sooner (expects signs.Function (gives false)))

  parts_tail : {A : Type 0} {most : ℕ} (x : A) → Parts most (λ g c. Ok (x, tail_at c))
  parts_tail {most = most} x = by_first (λ c. is_sign signs.Semicolon (word_of c)) by_sign where
    by_sign : (b : Bool) → Parts most (λ g c. Ok (x, cond b (after c) c))
    by_sign true = next (gives x)
    by_sign false = gives x

  module _ (statement : Guard → Statements) (most : ℕ)
      (one : Parts most (λ g. statement g)) where
    parts_function : Parts (suc most) (λ g. function_at src (statement g))
    unfolding function_at
    parts_function = then parts_head (λ out. then names (λ f. expects signs.Open
        (then parts_parameters (λ ps. sooner (expects signs.OpenBlock
        (then (parts_block src whole limit statement most one)
        (λ ss. parts_tail (function_of out f ps ss))))))))

    parts_next_function : Parts (suc most) (λ g. next_function src (statement g))
    unfolding next_function
    parts_next_function = record { forks = at } where
      at : (c : List Lexeme) → IsRest src whole limit c → length c < suc most →
          Forks src whole limit (length c) (λ g. next_function src (statement g) c)
      at [] = none.forks [] where
        none : Parts {A = Option Function} (suc most) (λ g c. Ok (None, c))
        none = gives None
      at (l ∷ x) = some.forks (l ∷ x) where
        some : Parts (suc most) (λ g c. told Some (function_at src (statement g) c))
        some = tells Some parts_function

    -- ---- programs

    parts_made : Parts (suc most) (λ g c. items_at (next_use src) c >>= λ us.
        told {B = Made} (λ fs. (us.0, fs)) (items_at (next_function src (statement g)) us.1))
    parts_made = then (many parts_next_use)
        (λ us. tells (λ fs. (us, fs)) (many parts_next_function))

  pub splits_parts : (statement : Guard → Statements) → Parts (length whole) (λ g. statement g) →
      Forks src whole limit (length whole) (λ g. parts_at src whole (statement g))
  splits_parts statement one = (parts_made statement (length whole) one).forks whole
      (record { before = []; is = refl }) (omega arith)
