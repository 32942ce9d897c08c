-- The decks of a made folder are such as documents mean.
use Rattle.std.proofs.Common.{◌≡◌, ◌≢◌, ℕ, suc, ◌-◌, List, [], ◌∷◌, ◌++◌, refl, sym, subst, ap, ap₂}
use Rattle.std.specs.Prelude.{codes}
use Rattle.wap_base.specs.declared.name.Part.TheVariants.{Lit}
use Rattle.wap_tokens.specs.declared.markup.document.TheConstants.{LEVEL_LIMIT}
use Rattle.wap_tokens.specs.declared.markup.name.Tag.TheVariants as tags
use Rattle.wap_tokens.specs.declared.markup.name.AttrName.TheVariants as attr
use Rattle.wap_tokens.specs.declared.markup.deck.Node.{Node}
use Rattle.wap_tokens.specs.declared.markup.deck.Item.{Item, out-Item}
use Rattle.wap_tokens.specs.declared.markup.deck.Item.TheVariants.{outs-Text, outs-Node}
use Rattle.wap_tokens.specs.declared.markup.deck.Item.TheVariants as item
use Rattle.wap_tokens.specs.markup.Trees.{ItemLevel}
use Rattle.wap_tokens.specs.markup.Decks.{Mark, part, node, items_of}
use Rattle.wap_tokens.specs.markup.Normal.{IsNormal, IsContent, IsValue, IsNode, IsItem}
use Rattle.wap_tokens.specs.markup.Normal.{marks_in, marks_of}
use Rattle.wap_make.specs.Folders.{literal, call_of, title_of, shown_of, deck_of}

-- ---- content of no, one and two items

-- no item
none_is : (inner : Node → Type 0) → IsContent inner []
none_is inner = record { each = tt; together = refl }

-- the marks of one item and of two
marks_one : (one : Item) (marks : List Mark) → marks_in (out-Item one) ≡ marks
    → marks_of (one ∷ []) ≡ marks ++ []
marks_one one marks is = ap (λ (l : List Mark). l ++ []) is

marks_two : (one two : Item) (marks others : List Mark) → marks_in (out-Item one) ≡ marks
    → marks_in (out-Item two) ≡ others → marks_of (one ∷ two ∷ []) ≡ marks ++ (others ++ [])
marks_two one two marks others is are =
    ap₂ (λ (l m : List Mark). l ++ (m ++ [])) is are

-- the mark of a node, and that of a text
node_marks : (one : Node) → marks_in (out-Item (item.Node one)) ≡ node one ∷ []
node_marks one = ap marks_in (outs-Node one)

text_marks : (text : List ℕ) → marks_in (out-Item (item.Text (literal text))) ≡ part (Lit text) ∷ []
text_marks text = ap marks_in (outs-Text (literal text))

-- a node, and a text, as items
node_is : (inner : Node → Type 0) (one : Node) → inner one → IsItem inner (out-Item (item.Node one))
node_is inner one is = subst (λ (level : ItemLevel). IsItem inner level) (sym (outs-Node one)) is

text_is : (inner : Node → Type 0) (text : List ℕ) → text ≢ []
    → IsItem inner (out-Item (item.Text (literal text)))
text_is inner text full =
    subst (λ (level : ItemLevel). IsItem inner level) (sym (outs-Text (literal text))) (full, tt)

-- one node, one text, and two nodes as content
one_node : (inner : Node → Type 0) (one : Node) → inner one → IsContent inner (item.Node one ∷ [])
one_node inner one is = record {
  each = (node_is inner one is, tt);
  together = ap items_of (marks_one (item.Node one) (node one ∷ []) (node_marks one));
}

one_text : (inner : Node → Type 0) (text : List ℕ) → text ≢ []
    → IsContent inner (item.Text (literal text) ∷ [])
one_text inner text full = record {
  each = (text_is inner text full, tt);
  together =
      ap items_of (marks_one (item.Text (literal text)) (part (Lit text) ∷ []) (text_marks text));
}

two_nodes : (inner : Node → Type 0) (one two : Node) → inner one → inner two
    → IsContent inner (item.Node one ∷ item.Node two ∷ [])
two_nodes inner one two is are = record {
  each = (node_is inner one is, (node_is inner two are, tt));
  together = ap items_of (marks_two (item.Node one) (item.Node two) (node one ∷ []) (node two ∷ [])
      (node_marks one) (node_marks two));
}

-- ---- each element

-- one literal with a character is a value
value : (text : List ℕ) → text ≢ [] → IsValue (literal text)
value text full = record { each = (full, tt); together = refl }

module _ (n k : ℕ) where
  abbrev go_node : Node
  go_node = record { tag = tags.Go; attrs = (attr.Href, literal (call_of n k)) ∷ []; kids = [] }

  -- what each element holds is such as documents mean
  go_is : (levels : ℕ) → IsNode (suc levels) go_node
  go_is levels = record {
    known = λ e. absurd cc;
    attributes = (value (call_of n k) (λ e. absurd cc), tt);
    content = none_is (IsNode levels);
  }

  abbrev do_node : Node
  do_node = record {
    tag = tags.Do;
    attrs = (attr.«Type», literal (codes "ok")) ∷ [];
    kids = item.Node go_node ∷ [];
  }

  do_is : (levels : ℕ) → IsNode (suc (suc levels)) do_node
  do_is levels = record {
    known = λ e. absurd cc;
    attributes = (value (codes "ok") (λ e. absurd cc), tt);
    content = one_node (IsNode (suc levels)) go_node (go_is levels);
  }

  abbrev paragraph_node : Node
  paragraph_node =
      record { tag = tags.P; attrs = []; kids = item.Text (literal (shown_of n k)) ∷ [] }

  paragraph_is : (levels : ℕ) → IsNode (suc levels) paragraph_node
  paragraph_is levels = record {
    known = λ e. absurd cc;
    attributes = tt;
    content = one_text (IsNode levels) (shown_of n k) (λ e. absurd cc);
  }

  abbrev card_node : Node
  card_node = record {
    tag = tags.Card;
    attrs = (attr.Id, literal (codes "c")) ∷ (attr.Title, literal (title_of k)) ∷ [];
    kids = item.Node do_node ∷ item.Node paragraph_node ∷ [];
  }

  card_is : (levels : ℕ) → IsNode (suc (suc (suc levels))) card_node
  card_is levels = record {
    known = λ e. absurd cc;
    attributes = (
      value (codes "c") (λ e. absurd cc),
      (value (title_of k) (λ e. absurd cc), tt),
    );
    content = two_nodes (IsNode (suc (suc levels))) do_node paragraph_node (do_is levels)
        (paragraph_is (suc levels));
  }

  -- the root is known
  pub root_known : (deck_of n k).root.tag ≢ tags.Other
  root_known e = absurd cc

  -- and so the deck is one that a document means
  pub made_is_normal : IsNormal (deck_of n k)
  made_is_normal = record {
    attributes = tt;
    content = one_node (IsNode (LEVEL_LIMIT - 1)) card_node (card_is 60);
  }
