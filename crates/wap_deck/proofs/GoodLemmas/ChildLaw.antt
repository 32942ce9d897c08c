-- The next child, as it is read.
use Rattle.std.proofs.Common.{◌≡◌, ℕ, true, false, List, [], ◌∷◌, Option}
use Rattle.std.proofs.Common.{Some, None, refl, sym, ap, ◌∙◌}
use Rattle.std.specs.Prelude.{is_some, drop}
use Rattle.wap_base.specs.declared.name.Part.{Part}
use Rattle.wap_tokens.specs.declared.markup.deck.Node.{Node}
use Rattle.wap_tokens.specs.declared.markup.deck.Item.{Item}
use Rattle.wap_tokens.specs.declared.markup.deck.Item.TheVariants as item
use Rattle.wap_deck.specs.good.Readers.{◌>>=◌, IsBehind, Ends, Leaves, is_end, all_of}
use Rattle.wap_deck.specs.good.Texts.{part_at, part_end, value_at, behind_value, AreParts}
use Rattle.wap_deck.specs.good.inside.Nodes.{item_by, node_at, item_at, front_node, IsRead}
use Rattle.wap_deck.proofs.GoodLemmas.Runs.{turn, all_on, all_end}
use Rattle.wap_deck.proofs.GoodLemmas.Taking.{part_takes, item_takes}
use Rattle.wap_deck.proofs.GoodLemmas.Seen.{read_front}
use Rattle.wap_deck.proofs.GoodLemmas.Ending.{behind_on, part_followed, end_behind, ends_on}
use Rattle.wap_deck.proofs.GoodLemmas.Ending.{ends_here, ends_some, end_no_part, no_node_at}
use Rattle.wap_deck.proofs.GoodLemmas.Ending.{nothing_read, item_lists, text_followed}
use Rattle.wap_deck.proofs.GoodLemmas.Ending.{node_followed}

pub part_behind : (bytes : List ℕ) (part : Part) (rest end : List ℕ)
    → part_at bytes ≡ Some (part, rest) → IsBehind end rest → IsBehind end (drop 1 bytes)
part_behind bytes part rest end e is =
    behind_on end rest (drop 1 bytes) is
    (end_behind bytes rest (part_followed bytes (part, rest) e))

module _ (table : List ℕ) (levels : ℕ) (bytes : List ℕ) where
  pub none_read : is_end bytes ≡ true → item_at table levels bytes ≡ None
  none_read e = nothing_read (item_at table levels) (item_lists table levels) bytes e

  is_text : is_some (part_at bytes) ≡ true
      → item_at table levels bytes ≡ Some (item.Text (value_at [] bytes), behind_value bytes)
  unfolding item_by
  is_text some = rw some refl

  is_node : is_some (part_at bytes) ≡ false
      → item_at table levels bytes ≡ (node_at table levels bytes >>= λ x. Some (item.Node x.0, x.1))
  unfolding item_by
  is_node none = rw none refl

  module _ (ends : Ends (item_at table levels) bytes) where
    pub text_read : (part : Part) (rest end : List ℕ) → part_at bytes ≡ Some (part, rest)
        → (part_end (behind_value rest) ≡ None → end ≡ behind_value rest)
        → item_at table levels bytes ≡ Some (item.Text (value_at [] bytes), end)
    text_read part rest end e exact =
        let some : is_some (part_at bytes) ≡ true = ap is_some e in
        let text = is_text some in
        let follows =
        text_followed table levels bytes (item.Text (value_at [] bytes))
        (behind_value bytes) text some ends in
        let same : behind_value rest ≡ behind_value bytes =
        turn part_at part_takes bytes part rest (behind_value bytes) e refl in
        let is : end ≡ behind_value bytes = exact (ap part_end same ∙ follows.1) ∙ same in
        text ∙ ap (λ (l : List ℕ). Some (item.Text (value_at [] bytes), l)) (sym is)

    unmarked : (o : Option (List ℕ)) → part_end bytes ≡ o → part_at bytes ≡ None
        → part_end bytes ≡ None
    unfolding item_by
    unmarked None is none = is
    unmarked (Some end) is none =
        let nothing : item_at table levels bytes ≡ None =
        rw (none, no_node_at table levels bytes end is) refl in
        end_no_part bytes
        (ends_here (item_at table levels) (item_lists table levels) bytes nothing ends)

    -- each mark of a part begins one
    marks_told : (o : Option (Part × List ℕ)) → part_at bytes ≡ o → AreParts bytes
    marks_told (Some x) e =
        let some : is_some (part_at bytes) ≡ true = ap is_some e in
        (text_followed table levels bytes (item.Text (value_at [] bytes)) (behind_value bytes)
        (is_text some) some ends).1
    marks_told None e =
        let here : behind_value bytes ≡ bytes =
        ap (λ (r : List Part × List ℕ). r.1) (all_end part_at bytes e) in
        ap part_end here ∙ unmarked (part_end bytes) refl e

    pub are_parts : AreParts bytes
    are_parts = marks_told (part_at bytes) refl

    module _ (none : part_at bytes ≡ None) (more : is_end bytes ≡ false) where
      abbrev there : (x : Item × List ℕ) × (item_at table levels bytes ≡ Some x)
      there = ends_some (item_at table levels) (item_lists table levels) bytes ends more

      abbrev node : (n : Node) × (node_at table levels bytes ≡ Some (n, there.0.1))
      node = node_followed table levels bytes there.0.0 there.0.1 there.1 (ap is_some none)

      abbrev pub node_there : IsRead table levels bytes
      node_there = record { node = node.0; rest = there.0.1; read = node.1 }

      pub node_read : (rest : List ℕ) → Leaves (node_at table levels) bytes rest
          → item_at table levels bytes ≡ Some (item.Node (front_node table levels bytes), rest)
      node_read rest leaves =
          let same : rest ≡ there.0.1 = leaves node.0 there.0.1 node.1 in
          is_node (ap is_some none)
          ∙ ap (λ (o : Option (Node × List ℕ)). o >>= λ x. Some (item.Node x.0, x.1))
          (read_front table levels bytes node_there)
          ∙ ap (λ (l : List ℕ). Some (item.Node (front_node table levels bytes), l)) (sym same)

-- ---- the children that are left

module _ (table : List ℕ) (levels : ℕ) (bytes : List ℕ) where
  pub child_on : (one : Item) (rest : List ℕ) → item_at table levels bytes ≡ Some (one, rest)
      → (all_of (item_at table levels) bytes).0 ≡ one ∷ (all_of (item_at table levels) rest).0
  child_on one rest e =
      ap (λ (r : List Item × List ℕ). r.0)
      (all_on (item_at table levels) (item_takes table levels) bytes one rest e)

  pub child_end : item_at table levels bytes ≡ None → (all_of (item_at table levels) bytes).0 ≡ []
  child_end e = ap (λ (r : List Item × List ℕ). r.0) (all_end (item_at table levels) bytes e)

  pub children_end : (one : Item) (rest : List ℕ) → item_at table levels bytes ≡ Some (one, rest)
      → Ends (item_at table levels) bytes → Ends (item_at table levels) rest
  children_end one rest e ends =
      ends_on (item_at table levels) (item_lists table levels) bytes one rest e ends
