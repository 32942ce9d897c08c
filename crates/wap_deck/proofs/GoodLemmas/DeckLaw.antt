-- A deck is read from the bytes that spell its document.
use Rattle.std.proofs.Common.{◌≡◌, ◌≢◌, ℕ, suc, ◌+◌, ◌-◌, ◌^◌, ◌<◌, ◌≤◌, List, [], ◌∷◌}
use Rattle.std.proofs.Common.{◌++◌, length, take, drop, Some, Result, Ok, Err, refl}
use Rattle.std.proofs.Common.{sym, ap, subst, ◌∙◌, append_assoc, arith}
use Rattle.std.proofs.lemmas.List.{append-nil, take_at, drop_at, drop-drop, length-append}
use Rattle.wap_base.specs.Numbers.{mb_at, mb_spelling}
use Rattle.wap_base.specs.declared.number.ReadFault.{ReadFault}
use Rattle.wap_base.proofs.NumberLaws.{mb_again}
use Rattle.wap_base.proofs.NumberSpelling.{IsShortest-mb_spelling}
use Rattle.wap_tokens.specs.declared.markup.document.TheConstants.{LEVEL_LIMIT}
use Rattle.wap_tokens.specs.declared.markup.document.Document.{Document}
use Rattle.wap_tokens.specs.declared.markup.deck.Deck.{Deck}
use Rattle.wap_tokens.specs.declared.markup.deck.Node.{Node}
use Rattle.wap_tokens.specs.declared.markup.name.Tag.TheVariants as tags
use Rattle.wap_tokens.specs.markup.Documents.{IsDocument}
use Rattle.wap_tokens.specs.markup.Grammar.{table_size}
use Rattle.wap_tokens.specs.markup.Good.{IsGood}
use Rattle.wap_tokens.specs.markup.Normal.{IsNormal}
use Rattle.wap_tokens.specs.markup.Writing.{items_kids, node_kids, element_of, document_of}
use Rattle.wap_wbxml.specs.spelling.Names.{table_of, with_element, names_of}
use Rattle.wap_wbxml.specs.spelling.Spelling.{header_spelling, root_spelling, spelling}
use Rattle.wap_wbxml.specs.spelling.Spelling.{element_spelling, first_pages, canon}
use Rattle.wap_wbxml.specs.spelling.Spellable.{IsSpellable, HasTexts}
use Rattle.wap_deck.specs.good.inside.Nodes.{node_at}
use Rattle.wap_wbxml.specs.spelling.Characters.{OfNode}
use Rattle.wap_deck.specs.good.inside.Header.{HasTable}
use Rattle.wap_deck.specs.good.inside.KeptBytes.{table_in, deck_in, IsHeld}
use Rattle.wap_wbxml.proofs.SpellingLemmas.Growing.{grows_same}
use Rattle.wap_wbxml.proofs.SpellingLemmas.Tables.{length-table}
use Rattle.wap_deck.proofs.GoodLemmas.Opening.{seen}
use Rattle.wap_deck.proofs.GoodLemmas.NodeLaw.{node_bytes, node_read, IsGoodElement, IsGoodNode}
use Rattle.wap_wbxml.proofs.SpellingLemmas.DeckLaws.{deck_fits}
use Rattle.wap_deck.proofs.GoodLemmas.FlatLaw.{root_flat}
use Rattle.wap_deck.proofs.GoodLemmas.GoodLaw.{root_good}

pub root_known : (deck : Deck) → IsGood deck → deck.root.tag ≢ tags.Other
root_known deck good = λ other. let root = good.root in cc

abbrev first_of : Result (ℕ × ℕ) ReadFault → ℕ
first_of (Ok read) = read.0
first_of (Err fault) = 0

abbrev next_of : Result (ℕ × ℕ) ReadFault → ℕ
next_of (Ok read) = read.1
next_of (Err fault) = 0

same_pair : (a b c d : ℕ) → ◌≡◌ {A = Result (ℕ × ℕ) ReadFault} (Ok (a, b)) (Ok (c, d))
    → (a ≡ c) × (b ≡ d)
same_pair a b c d e = (ap first_of e, ap next_of e)

module _ (deck : Deck) (good : IsGood deck) (normal : IsNormal deck)
    (of : OfNode LEVEL_LIMIT deck.root) (spellable : IsSpellable (document_of deck)) where
  abbrev names : List (List ℕ)
  names = names_of (document_of deck)

  size : table_size names < 2 ^ 32
  size = spellable.names

  abbrev root_bytes : List ℕ
  root_bytes = node_bytes names size LEVEL_LIMIT deck.root

  levels_are : suc (LEVEL_LIMIT - 1) ≡ LEVEL_LIMIT
  levels_are = omega arith

  root_is_good : IsGoodElement names size (IsGoodNode names size (LEVEL_LIMIT - 1)) deck.root
  root_is_good =
      let kids = items_kids (node_kids (LEVEL_LIMIT - 1)) deck.root.kids in
      root_good names size (LEVEL_LIMIT - 1) deck.root
      (root_known deck good) normal.attributes normal.content
      (subst (λ (l : ℕ). OfNode l deck.root) (sym levels_are) of)
      (grows_same (with_element (suc (LEVEL_LIMIT - 1)) [] (element_of deck.root kids)))

  root_written : root_spelling names (document_of deck).root ≡ root_bytes
  root_written =
      let element =
      element_of deck.root (items_kids (node_kids (LEVEL_LIMIT - 1)) deck.root.kids) in
      let P : ℕ → Type 0 =
      λ l. (element_spelling names l element first_pages).0 ≡ node_bytes names size l deck.root in
      subst P levels_are
      (ap (λ (w : List ℕ × _). w.0) (root_flat names size (LEVEL_LIMIT - 1) deck.root root_is_good))

  root_node : IsGoodNode names size LEVEL_LIMIT deck.root
  unfolding IsGoodNode
  root_node = subst (λ (l : ℕ). IsGoodNode names size l deck.root) levels_are root_is_good

  root_read : node_at (table_of names) LEVEL_LIMIT root_bytes ≡ Some (deck.root, [])
  root_read =
      ap (node_at (table_of names) LEVEL_LIMIT) (sym (append-nil root_bytes))
      ∙ node_read names size LEVEL_LIMIT deck.root [] root_node

  -- ---- where the table and the root are

  abbrev table : List ℕ
  table = table_of names

  abbrev count_bytes : List ℕ
  count_bytes = mb_spelling (length table)

  written : spelling (document_of deck)
      ≡ (3 ∷ 10 ∷ 106 ∷ []) ++ (count_bytes ++ (table ++ root_bytes))
  unfolding spelling
  written =
      ap (λ (l : List ℕ). header_spelling 10 names ++ l) root_written
      ∙ ap (λ (l : List ℕ). 3 ∷ 10 ∷ 106 ∷ l) (append_assoc count_bytes table root_bytes)

  table_small : length table < 2 ^ 32
  table_small = let len = length-table names in let small = size in omega arith

  counted : (bytes : List ℕ) → bytes ≡ (3 ∷ 10 ∷ 106 ∷ []) ++ (count_bytes ++ (table ++ root_bytes))
      → mb_at bytes 3 ≡ Ok (length table, 3 + length count_bytes)
  counted bytes are = mb_again bytes 3 (length table) (3 + length count_bytes) (record {
    bytes = count_bytes;
    rest = table ++ root_bytes;
    split = ap (drop 3) are;
    number_is = (IsShortest-mb_spelling (length table) table_small).spells;
    next_is = refl;
  })

  -- all of them follow the header
  pub has_table : (bytes : List ℕ) → bytes ≡ spelling (document_of deck) → HasTable bytes
  has_table bytes are =
      let spelled = are ∙ written in
      let len = ap length spelled in
      let header = length-append (3 ∷ 10 ∷ 106 ∷ []) (count_bytes ++ (table ++ root_bytes)) in
      let counts = length-append count_bytes (table ++ root_bytes) in
      let tables = length-append table root_bytes in
      record {
        count = length table;
        table = 3 + length count_bytes;
        counted = counted bytes spelled;
        behind = omega arith;
        within = omega arith;
      }

  module _ (bytes : List ℕ) (at root : ℕ) (are : bytes ≡ spelling (document_of deck))
      (ordered : at ≤ root) (found : mb_at bytes 3 ≡ Ok (root - at, at)) where
    places : (root - at ≡ length table) × (at ≡ 3 + length count_bytes)
    places =
        same_pair (root - at) at (length table) (3 + length count_bytes)
        (sym found ∙ counted bytes (are ∙ written))

    behind_count : drop at bytes ≡ table ++ root_bytes
    behind_count =
        ap (λ (n : ℕ). drop n bytes) places.1 ∙ sym (drop-drop (length count_bytes) 3 bytes)
        ∙ ap (λ (l : List ℕ). drop (length count_bytes) (drop 3 l)) (are ∙ written)
        ∙ drop_at count_bytes (table ++ root_bytes) (length count_bytes) refl

    table_there : table_in at root bytes ≡ table
    table_there =
        ap (λ (n : ℕ). take n (drop at bytes)) places.0 ∙ ap (take (length table)) behind_count
        ∙ take_at table root_bytes (length table) refl

    root_there : drop root bytes ≡ root_bytes
    root_there =
        let e : root ≡ at + length table = let p = places.0 in omega arith in
        ap (λ (n : ℕ). drop n bytes) e ∙ sym (drop-drop (length table) at bytes)
        ∙ ap (drop (length table)) behind_count ∙ drop_at table root_bytes (length table) refl

    front_read : node_at (table_in at root bytes) LEVEL_LIMIT (drop root bytes)
        ≡ Some (deck.root, [])
    front_read =
        ap (λ (t : List ℕ). node_at t LEVEL_LIMIT (drop root bytes)) table_there
        ∙ ap (node_at table LEVEL_LIMIT) root_there ∙ root_read

    pub deck_seen : deck_in (table_in at root bytes) root bytes ≡ deck
    unfolding deck_in
    deck_seen =
        ap (λ (n : Node). let d : Deck = record { root = n } in d)
        (seen (table_in at root bytes) LEVEL_LIMIT (drop root bytes) deck.root [] front_read)

    pub held : root ≤ length bytes → IsHeld (table_in at root bytes) root bytes
    held within = record {
      within = within;
      read = record { node = deck.root; rest = []; read = front_read };
      spelled = are ∙ ap (λ (d : Deck). spelling (document_of d)) (sym deck_seen);
      good = subst IsGood (sym deck_seen) good;
      normal = subst IsNormal (sym deck_seen) normal;
      of = subst (λ (d : Deck). OfNode LEVEL_LIMIT d.root) (sym deck_seen) of;
    }

-- the bytes of a deck that is held spell its document, by the laws of spellings
pub held_document : ((deck : Deck) → IsNormal deck → deck.root.tag ≢ tags.Other
    → IsSpellable (document_of deck))
    → ((d : Document) → IsSpellable d → HasTexts d → IsDocument (spelling d) (canon d))
    → (table : List ℕ) (root : ℕ) (bytes : List ℕ) → IsHeld table root bytes
    → IsDocument bytes (document_of (deck_in table root bytes))
held_document spellable read table root bytes held =
    let deck : Deck = deck_in table root bytes in
    let known = root_known deck held.good in
    subst (λ (l : List ℕ). IsDocument l (document_of deck)) (sym held.spelled)
    (read (document_of deck) (spellable deck held.normal known)
    (deck_fits deck held.normal known held.of))
