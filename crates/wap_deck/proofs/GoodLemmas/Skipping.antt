-- What follows an item, with no look at what it is.
use Rattle.std.proofs.Common.{◌≡◌, ℕ, Bool, true, false, List, [], Option, Some, None, refl}
use Rattle.std.specs.Prelude.{is_some, if◌then◌else◌}
use Rattle.wap_tokens.specs.declared.markup.deck.Node.{Node}
use Rattle.wap_tokens.specs.declared.markup.deck.Item.TheVariants as item
use Rattle.wap_deck.specs.good.Readers.{Reader, ◌>>=◌, rest_of}
use Rattle.wap_deck.specs.good.Texts.{part_at, value_at, behind_value}
use Rattle.wap_deck.specs.good.inside.Nodes.{item_by}

pub item_by_rest : (inner : Reader Node) (bytes : List ℕ)
    → rest_of (item_by inner bytes)
    ≡ (if is_some (part_at bytes) then Some (behind_value bytes) else rest_of (inner bytes))
unfolding item_by
item_by_rest inner bytes = chosen (is_some (part_at bytes))
  where
    last : (o : Option (Node × List ℕ)) → rest_of (o >>= λ x. Some (item.Node x.0, x.1)) ≡ rest_of o
    last (Some x) = refl
    last None = refl

    chosen : (b : Bool)
        → rest_of (if b then Some (item.Text (value_at [] bytes), behind_value bytes) else
        (inner bytes >>= λ x. Some (item.Node x.0, x.1)))
        ≡ (if b then Some (behind_value bytes) else rest_of (inner bytes))
    chosen true = refl
    chosen false = last (inner bytes)
