-- What the parts of a view are seen as.
use Rattle.std.proofs.Common.{◌≡◌, ℕ, ◌-◌, ◌≤◌, Bool, true, false, List, ◌∷◌}
use Rattle.std.proofs.Common.{length, Some, None, sym, ap, subst, ◌∙◌, arith}
use Rattle.std.specs.Prelude.{if◌then◌else◌, ◌%◌, find}
use Rattle.std.specs.Option.{option_map}
use Rattle.wap_base.proofs.Choices.{some_same}
use Rattle.wap_base.specs.declared.name.Part.{Part}
use Rattle.wap_tokens.specs.declared.markup.deck.Node.{Node}
use Rattle.wap_tokens.specs.declared.markup.name.AttrName.{AttrName}
use Rattle.wap_tokens.specs.markup.Tables.{tag_of, is_same_attr}
use Rattle.wap_tokens.specs.markup.Trees.{value_of}
use Rattle.wap_tokens.specs.markup.Codes.{has_attributes, has_content}
use Rattle.wap_deck.specs.good.Readers.{first_of, all_of, Ends}
use Rattle.wap_deck.specs.good.inside.Nodes.{attr_at, node_at, item_at, front_node}
use Rattle.wap_deck.specs.good.inside.Nodes.{IsRead, attrs_begin, IsContent}
use Rattle.wap_deck.specs.good.inside.Starts.{value_in}
use Rattle.wap_deck.specs.good.inside.Notes.{LacksName}
use Rattle.wap_deck.proofs.GoodLemmas.Runs.{all_on, all_end, all_few}
use Rattle.wap_deck.proofs.GoodLemmas.Taking.{attr_takes, item_takes}
use Rattle.wap_deck.proofs.GoodLemmas.Ending.{attr_lists, item_lists, closed_ends}
use Rattle.wap_deck.proofs.GoodLemmas.Opening.{Opened, opened_front, seen, attrs_from}
use Rattle.wap_deck.proofs.GoodLemmas.Opening.{attrs_there, attrs_are, kids_from, kids_there}
use Rattle.wap_deck.proofs.GoodLemmas.Opening.{kids_are}

-- ---- a view

module _ (table : List ℕ) (levels : ℕ) (bytes : List ℕ) (is : IsRead table levels bytes) where
  abbrev front : Opened table levels bytes (front_node table levels bytes)
  front = opened_front table levels bytes is

  pub some_first : first_of bytes ≡ None → ⊥
  some_first e = let first = front.first in cc

  attrs_is : (begin : List ℕ) → attrs_begin bytes ≡ Some begin
      → begin ≡ attrs_from table levels bytes (front_node table levels bytes) front
  attrs_is begin e =
      some_same begin _
      (sym e ∙ attrs_there table levels bytes (front_node table levels bytes) front)

  pub attrs_end : (begin : List ℕ) → attrs_begin bytes ≡ Some begin → Ends (attr_at table) begin
  attrs_end begin e =
      subst (Ends (attr_at table)) (sym (attrs_is begin e))
      (closed_ends (attr_at table) (attr_lists table)
      (has_attributes front.mark) front.behind front.attrs front.attrs_read)

  module _ (begin : List ℕ) (content : IsContent bytes begin) where
    kids_is : begin ≡ kids_from table levels bytes (front_node table levels bytes) front
    kids_is = content table _ (kids_there table levels bytes (front_node table levels bytes) front)

    pub kids_end : Ends (item_at table (levels - 1)) begin
    kids_end =
        subst (Ends (item_at table (levels - 1))) (sym kids_is)
        (closed_ends (item_at table (levels - 1)) (item_lists table (levels - 1))
        (has_content front.mark) front.attrs.1 front.kids front.kids_read)

  module _ (now : Node) (view_is : front_node table levels bytes ≡ now) where
    pub tag_seen : (mark : ℕ) (behind : List ℕ) → first_of bytes ≡ Some (mark, behind)
        → tag_of 0 (mark % 64) ≡ Some now.tag
    tag_seen mark behind e =
        let same = some_same (mark, behind) (front.mark, front.behind) (sym e ∙ front.first) in
        ap (λ (x : ℕ × List ℕ). tag_of 0 (x.0 % 64)) same ∙ front.tagged
        ∙ ap (λ (n : Node). Some n.tag) (sym front.is ∙ view_is)

    pub attrs_seen : (begin : List ℕ) → attrs_begin bytes ≡ Some begin
        → (all_of (attr_at table) begin).0 ≡ now.attrs
    attrs_seen begin e =
        ap (λ (b : List ℕ). (all_of (attr_at table) b).0) (attrs_is begin e)
        ∙ sym (attrs_are table levels bytes (front_node table levels bytes) front)
        ∙ ap (λ (n : Node). n.attrs) view_is

    -- a node that has no attribute of a name has no value of it
    pub no_such_value : (name : AttrName) → LacksName bytes name → None ≡ value_of name now
    no_such_value name lacks =
        let there = attrs_there table levels bytes (front_node table levels bytes) front in
        sym (lacks table _ there (attrs_end _ there))
        ∙ ap (λ (attrs : List (AttrName × List Part)). value_in name attrs) (attrs_seen _ there)

    pub kids_seen : (begin : List ℕ) → IsContent bytes begin
        → (all_of (item_at table (levels - 1)) begin).0 ≡ now.kids
    kids_seen begin content =
        ap (λ (b : List ℕ). (all_of (item_at table (levels - 1)) b).0) (kids_is begin content)
        ∙ sym (kids_are table levels bytes (front_node table levels bytes) front)
        ∙ ap (λ (n : Node). n.kids) view_is

    pub few_kids : (begin : List ℕ) → IsContent bytes begin → length now.kids ≤ length begin
    few_kids begin content =
        let same = ap length (kids_seen begin content) in
        let few = all_few (item_at table (levels - 1)) (item_takes table (levels - 1)) begin in
        omega arith

-- ---- what is read is seen

pub read_front : (table : List ℕ) (levels : ℕ) (bytes : List ℕ) (is : IsRead table levels bytes)
    → node_at table levels bytes ≡ Some (front_node table levels bytes, is.rest)
read_front table levels bytes is =
    is.read
    ∙ ap (λ (n : Node). Some (n, is.rest)) (sym (seen table levels bytes is.node is.rest is.read))

-- ---- attributes

module _ (table : List ℕ) (name : AttrName) (bytes : List ℕ) (found : AttrName) (parts : List Part)
    (behind : List ℕ) (e : attr_at table bytes ≡ Some ((found, parts), behind)) where
  value_on : value_in name (all_of (attr_at table) bytes).0
      ≡ value_in name ((found, parts) ∷ (all_of (attr_at table) behind).0)
  value_on =
      ap (λ (r : List (AttrName × List Part) × List ℕ). value_in name r.0)
      (all_on (attr_at table) (attr_takes table) bytes (found, parts) behind e)

  pub value_here : is_same_attr found name ≡ true
      → value_in name (all_of (attr_at table) bytes).0 ≡ Some parts
  value_here same =
      value_on ∙ ap (λ (b : Bool).
      option_map (λ (a : AttrName × List Part). a.1) (if b then Some (found, parts) else
      find (λ a. is_same_attr a.0 name) (all_of (attr_at table) behind).0)) same

  pub value_behind : is_same_attr found name ≡ false
      → value_in name (all_of (attr_at table) bytes).0
      ≡ value_in name (all_of (attr_at table) behind).0
  value_behind other =
      value_on ∙ ap (λ (b : Bool).
      option_map (λ (a : AttrName × List Part). a.1) (if b then Some (found, parts) else
      find (λ a. is_same_attr a.0 name) (all_of (attr_at table) behind).0)) other

pub value_end : (table : List ℕ) (name : AttrName) (bytes : List ℕ) → attr_at table bytes ≡ None
    → value_in name (all_of (attr_at table) bytes).0 ≡ None
value_end table name bytes e =
    ap (λ (r : List (AttrName × List Part) × List ℕ). value_in name r.0)
    (all_end (attr_at table) bytes e)
