-- What is called is read as it is spelled.
use Rattle.std.proofs.Common.{◌≡◌, ℕ, false, List, refl, inl, inr}
use Rattle.wap_grammar.specs.declared.program.program.Id.{Id}
use Rattle.wap_grammar.specs.declared.callee.Callee.{Callee}
use Rattle.wap_grammar.specs.declared.callee.Callee.TheVariants as callee
use Rattle.wap_grammar.specs.declared.lexeme.Lexeme.{Lexeme}
use Rattle.wap_grammar.specs.declared.word.Word.TheVariants as word
use Rattle.wap_grammar.specs.declared.word.Sign.TheVariants as signs
use Rattle.wap_grammar.specs.Lexemes.{is_sign}
use Rattle.wap_grammar.specs.Values.{id_of}
use Rattle.wap_grammar.specs.Spellings.{Spelling}
use Rattle.wap_grammar.specs.Programs.{IsParameter, parameter}
use Rattle.wap_grammar.specs.Expressions.{IsCallee, local, external, library}
use Rattle.wap_grammar.specs.reading.TokenReading.{word_of}
use Rattle.wap_grammar.specs.reading.Expressions.{callee_after, callee_at}
use Rattle.wap_grammar.proofs.Items.{Reads, Implies}
use Rattle.wap_grammar.proofs.Productions.{Given, given, Made, made, Turn, turn, Behind, behind}
use Rattle.wap_grammar.proofs.Productions.{Either, is_a, mapped, bars_behind, bars_either}
use Rattle.wap_grammar.proofs.Productions.{bars_given, reads_given, reads_made, reads_then}
use Rattle.wap_grammar.proofs.Productions.{reads_either, reads_name}

module _ (src : List ℕ) where
  -- neither # nor . follows
  abbrev pub NoPart : List Lexeme → Type 0
  NoPart a = (is_sign signs.Hash (word_of a) ≡ false) × (is_sign signs.Dot (word_of a) ≡ false)

  -- what follows the first name
  abbrev After : Id → Spelling Callee
  After id = Either (Behind (word.Sign signs.Hash) (Made (callee.External id) (IsParameter src)))
      (Either (Behind (word.Sign signs.Dot) (Made (callee.Library id) (IsParameter src)))
      (Given (callee.Local id)))

  reads_after : (id : Id) → Reads (After id) NoPart (callee_after src id)
  unfolding callee_after
  reads_after id = reads_either (is_sign signs.Hash) (is_a signs.Hash refl)
      (reads_made (callee.External id) (reads_name src))
      (reads_either (is_sign signs.Dot) (is_a signs.Dot refl)
      (reads_made (callee.Library id) (reads_name src)) (reads_given (callee.Local id))
      (bars_given (λ b over. over.1))) (bars_either (bars_behind refl) (bars_given (λ b over.
      over.0)))

  pub reads_callee : Reads (IsCallee src) NoPart (callee_at src)
  unfolding callee_at
  reads_callee = mapped (reads_then (reads_name src) reads_after) from to where
    from : Implies (Turn (IsParameter src) After) (IsCallee src)
    from a f b (turn a' c b' id f' (parameter v x)
        (inl (behind hash d b2 f2 (made d' b3 id2 (parameter w y))))) = external v hash w y
    from a f b (turn a' c b' id f' (parameter v x)
        (inr (inl (behind dot d b2 f2 (made d' b3 id2 (parameter w y)))))) = library v dot w y
    from a f b (turn a' c b' id f' (parameter v x) (inr (inr (given d)))) = local v x

    to : Implies (IsCallee src) (Turn (IsParameter src) After)
    to a f b (local v x) = turn a b b (id_of src v) f (parameter v b) (inr (inr (given b)))
    to a f b (external v hash w x) = turn a _ b (id_of src v) f (parameter v _)
        (inl (behind hash _ b f (made _ b _ (parameter w b))))
    to a f b (library v dot w x) = turn a _ b (id_of src v) f (parameter v _)
        (inr (inl (behind dot _ b f (made _ b _ (parameter w b)))))
