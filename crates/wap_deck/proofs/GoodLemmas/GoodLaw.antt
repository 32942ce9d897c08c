-- Normal nodes whose texts are of characters, and whose names are among those of the table.
use Rattle.std.proofs.Common.{◌≢◌, ℕ, zero, suc, ◌^◌, ◌<◌, List, []}
use Rattle.std.proofs.Common.{◌∷◌, map, subst}
use Rattle.std.specs.List.{fold, AllByRecursion}
use Rattle.std.proofs.lemmas.Grind.{fold-append}
use Rattle.wap_base.specs.declared.name.Part.{Part}
use Rattle.wap_tokens.specs.declared.markup.document.Kid.{Kid}
use Rattle.wap_tokens.specs.declared.markup.document.Kid.TheVariants as kid
use Rattle.wap_tokens.specs.declared.markup.document.Token.{Token}
use Rattle.wap_tokens.specs.declared.markup.document.Token.TheVariants.{Code, Literal}
use Rattle.wap_tokens.specs.declared.markup.deck.Node.{Node}
use Rattle.wap_tokens.specs.declared.markup.deck.Item.{Item, out-Item}
use Rattle.wap_tokens.specs.declared.markup.deck.Item.TheOpen.{Item-F}
use Rattle.wap_tokens.specs.declared.markup.name.Tag.TheVariants as tags
use Rattle.wap_tokens.specs.declared.markup.name.AttrName.{AttrName}
use Rattle.wap_tokens.specs.markup.Grammar.{with_name, table_size}
use Rattle.wap_tokens.specs.markup.Trees.{ItemLevel}
use Rattle.wap_tokens.specs.markup.Normal.{IsAttribute, IsItem, IsContent, IsNode}
use Rattle.wap_tokens.specs.markup.Writing.{attr_of, kids_from, item_kids}
use Rattle.wap_tokens.specs.markup.Writing.{items_kids, node_kids, element_of}
use Rattle.wap_wbxml.specs.spelling.Names.{KidLevel, with_token, with_attr}
use Rattle.wap_wbxml.specs.spelling.Names.{with_opened, with_kid, with_element}
use Rattle.wap_wbxml.specs.spelling.Characters.{OfAttr, OfItem, OfOpened, OfNode}
use Rattle.wap_wbxml.proofs.SpellingLemmas.Growing.{Grows, grows_on, grows-has, with_name-has}
use Rattle.wap_wbxml.proofs.SpellingLemmas.Growing.{grows-with_attr, grows-fold, grows-with_kid}
use Rattle.wap_wbxml.proofs.SpellingLemmas.Growing.{grows-with_element}
use Rattle.wap_deck.proofs.GoodLemmas.Contents.{Shape, Shapes, shapes}
use Rattle.wap_deck.proofs.GoodLemmas.AttrLaw.{IsNamed, IsGoodAttr}
use Rattle.wap_deck.proofs.GoodLemmas.NodeLaw.{IsBefore, AreItems, IsGoodElement, IsGoodNode}

module _ (all : List (List ℕ)) (size : table_size all < 2 ^ 32) where
  token_named : (token : Token) (names : List (List ℕ)) → Grows (with_token names token) all
      → IsNamed all token
  token_named (Code code) names grown = tt
  token_named (Literal name) names grown =
      grows-has (with_name names name) all name grown (with_name-has names name)

  attrs_good : (attrs : List (AttrName × List Part)) (names : List (List ℕ))
      → AllByRecursion IsAttribute attrs → AllByRecursion OfAttr attrs
      → Grows (fold with_attr names (map attr_of attrs)) all
      → AllByRecursion (IsGoodAttr all size) attrs
  attrs_good [] names are of grown = tt
  attrs_good (one ∷ attrs) names are of grown = (
    record {
      normal = are.0;
      of = of.0;
      named =
          token_named (attr_of one).start names (grows_on (grows-fold with_attr grows-with_attr
          (with_attr names (attr_of one)) (map attr_of attrs)) grown);
    },
    attrs_good attrs (with_attr names (attr_of one)) are.1 of.1 grown,
  )

  abbrev step : ℕ → List (List ℕ) → Kid → List (List ℕ)
  step levels = with_kid (with_element levels)

  abbrev step_grows : (levels : ℕ) (names : List (List ℕ)) (one : Kid)
      → Grows names (with_kid (with_element levels) names one)
  step_grows levels = grows-with_kid (with_element levels) (grows-with_element levels)

  module _ (levels : ℕ)
      (good : (one : Node) (names : List (List ℕ)) → IsNode levels one → OfNode levels one
      → Grows (fold (with_kid (with_element levels)) names (node_kids levels one)) all
      → IsGoodNode all size levels one) where
    level_good : (level : ItemLevel) (items : List Item) (names : List (List ℕ))
        → IsItem (IsNode levels) level → OfItem (OfNode levels) level → Shape level items
        → Grows (fold (with_kid (with_element levels)) names (kids_from (node_kids levels) level))
        all
        → IsBefore (IsGoodNode all size levels) level items
    level_good (Item-F.Text parts) items names is of shape grown =
        (shape.0, record { each = is; together = shape.1 }, of, shape.2)
    level_good (Item-F.Node one) items names is of shape grown = good one names is of grown

    items_good : (items : List Item) (names : List (List ℕ))
        → AllByRecursion (λ one. IsItem (IsNode levels) (out-Item one)) items
        → AllByRecursion (OfOpened (OfNode levels)) items → Shapes items
        → Grows (fold (with_kid (with_element levels)) names (items_kids (node_kids levels) items))
        all
        → AreItems (IsGoodNode all size levels) items
    items_good [] names is of shaped grown = tt
    items_good (first ∷ items) names is of shaped grown =
        let here = item_kids (node_kids levels) first in
        let others = items_kids (node_kids levels) items in
        let after = fold (with_kid (with_element levels)) names here in
        let more : Grows (fold (with_kid (with_element levels)) after others) all =
        subst (λ (n : List (List ℕ)). Grows n all)
        (fold-append (with_kid (with_element levels)) names here others) grown in (
          level_good (out-Item first) items names is.0 of.0 shaped.0 (grows_on
              (grows-fold (with_kid (with_element levels)) (step_grows levels) after others) more),
          items_good items after is.1 of.1 shaped.1 more,
        )

  element_good : (levels : ℕ)
      → ((one : Node) (names : List (List ℕ)) → IsNode levels one → OfNode levels one
      → Grows (fold (with_kid (with_element levels)) names (node_kids levels one)) all
      → IsGoodNode all size levels one)
      → (one : Node) (names : List (List ℕ)) → one.tag ≢ tags.Other
      → AllByRecursion IsAttribute one.attrs → IsContent (IsNode levels) one.kids
      → OfNode (suc levels) one
      → Grows (with_element (suc levels) names
      (element_of one (items_kids (node_kids levels) one.kids))) all
      → IsGoodElement all size (IsGoodNode all size levels) one
  unfolding OfNode with_element
  element_good levels good one names known attrs content of grown =
      let kids = items_kids (node_kids levels) one.kids in
      let named = fold with_attr names (map attr_of one.attrs) in
      record {
        known = known;
        attrs =
            attrs_good one.attrs names attrs of.attrs (grows_on
            (grows-fold (with_kid (with_element levels)) (step_grows levels) named kids) grown);
        kids =
            items_good levels good one.kids named content.each of.kids
            (shapes one.kids content.together) grown;
      }

  node_good : (levels : ℕ) (one : Node) (names : List (List ℕ)) → IsNode levels one
      → OfNode levels one
      → Grows (fold (with_kid (with_element levels)) names (node_kids levels one)) all
      → IsGoodNode all size levels one
  unfolding IsGoodNode
  node_good zero one names is of grown = absurd is
  node_good (suc levels) one names is of grown =
      let element = element_of one (items_kids (node_kids levels) one.kids) in
      element_good levels (node_good levels) one names is.known is.attributes is.content of
      (subst (λ (l : KidLevel). Grows (with_opened (with_element (suc levels)) names l) all)
      (kid.outs-Element element) grown)

  pub root_good : (levels : ℕ) (one : Node) → one.tag ≢ tags.Other
      → AllByRecursion IsAttribute one.attrs → IsContent (IsNode levels) one.kids
      → OfNode (suc levels) one
      → Grows
      (with_element (suc levels) [] (element_of one (items_kids (node_kids levels) one.kids))) all
      → IsGoodElement all size (IsGoodNode all size levels) one
  root_good levels one known attrs content of grown =
      element_good levels (node_good levels) one [] known attrs content of grown
