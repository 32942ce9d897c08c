-- Cards are passed by their hashes: another hash is that of another id.
use Rattle.std.proofs.Common.{◌≡◌, ◌≢◌, ℕ, zero, suc, false, List, [], ◌∷◌, map, Option, Some, None}
use Rattle.std.proofs.Common.{inl, inr, refl, ap, ◌∙◌}
use Rattle.std.specs.Prelude.{slice_get}
use Rattle.std.specs.Option.{option_and_then}
use Rattle.std.specs.Cmp.Lexicographic.{bytes_decides}
use Rattle.std.proofs.lemmas.Bool.{cases_Bool}
use Rattle.wap_base.proofs.Choices.{some_same}
use Rattle.wap_base.specs.Texts.{is_same_text}
use Rattle.wap_tokens.specs.declared.markup.deck.Node.{Node}
use Rattle.wap_tokens.specs.markup.Cards.{id_of}
use Rattle.wap_tokens.specs.markup.Trees.{is_text}
use Rattle.wap_deck.specs.good.inside.Hashes.{hash_of, hash_if, id_hash}

module _ (id : List ℕ) where
  -- an id of another hash is another
  other_id : (found : Option (List ℕ)) → hash_if found ≢ hash_of id → is_text id found ≡ false
  other_id None other = refl
  other_id (Some text) other = elim (cases_Bool (is_same_text text id)) [
    | inl same ↦ absurd (other (ap hash_of ((bytes_decides text id).0 same)))
    | inr apart ↦ apart
  ]

  -- that of the card of a number
  pub other_card : (cards : List Node) (number hash : ℕ)
      → Some hash ≡ slice_get (map id_hash cards) number → hash ≢ hash_of id
      → is_text id (option_and_then id_of (slice_get cards number)) ≡ false
  other_card [] number hash is other = refl
  other_card (card ∷ cards) zero hash is other =
      other_id (id_of card) (λ same. other (some_same hash (id_hash card) is ∙ same))
  other_card (card ∷ cards) (suc number) hash is other = other_card cards number hash is other
