-- The attributes that have a form in elements of a tag.
use Rattle.std.proofs.Common.{◌≡◌, ◌≢◌, Bool, true, false, cond, ◌&&◌, ◌||◌, not, List, [], ◌∷◌}
use Rattle.std.proofs.Common.{map, filter, refl, ap}
use Rattle.std.specs.List.{list_all}
use Rattle.wap_tokens.specs.declared.markup.deck.Node.{Node}
use Rattle.wap_tokens.specs.declared.markup.name.AttrName.{AttrName}
use Rattle.wap_tokens.specs.declared.markup.name.Tag.{Tag}
use Rattle.wap_tokens.specs.declared.markup.name.Tag.TheVariants as tags
use Rattle.wap_tokens.specs.markup.Tables.{is_same_tag}
use Rattle.wap_tokens.specs.markup.Good.{Form, all_have, forms, has_forms}
use Rattle.wap_deckcheck.specs.Forms.{forms_of}

-- none in the others
pub other_tags : (tag : Tag) → tag ≢ tags.Go → tag ≢ tags.P → tag ≢ tags.Card → tag ≢ tags.Do
    → tag ≢ tags.Onevent → tag ≢ tags.Input → tag ≢ tags.Timer → tag ≢ tags.Select
    → forms_of tag ≡ []
other_tags tags.Go a b c d e f g h = absurd (a refl)
other_tags tags.P a b c d e f g h = absurd (b refl)
other_tags tags.Card a b c d e f g h = absurd (c refl)
other_tags tags.Do a b c d e f g h = absurd (d refl)
other_tags tags.Onevent a b c d e f g h = absurd (e refl)
other_tags tags.Input a b c d e f g h = absurd (f refl)
other_tags tags.Timer a b c d e f g h = absurd (g refl)
other_tags tags.Select a b c d e f g h = absurd (h refl)
other_tags tag a b c d e f g h = refl

-- values have their forms where those of its element's forms do
pub has_forms_by : (node : Node)
    → has_forms node ≡ list_all (λ (form : AttrName × Form). all_have form.0 form.1 node)
    (forms_of node.tag)
has_forms_by node = among forms where
  among : (some : List (Tag × AttrName × Form))
      → list_all (λ form. not (is_same_tag node.tag form.0) || all_have form.1 form.2 node) some
      ≡ list_all (λ (form : AttrName × Form). all_have form.0 form.1 node)
      (map (λ form. (form.1, form.2)) (filter (λ form. is_same_tag node.tag form.0) some))
  among [] = refl
  among (form ∷ some) = by_tag (is_same_tag node.tag form.0) (among some) where
    by_tag : (same : Bool)
        → list_all (λ form. not (is_same_tag node.tag form.0) || all_have form.1 form.2 node) some
        ≡ list_all (λ (form : AttrName × Form). all_have form.0 form.1 node)
        (map (λ form. (form.1, form.2)) (filter (λ form. is_same_tag node.tag form.0) some))
        → ((not same || all_have form.1 form.2 node)
        && list_all (λ form. not (is_same_tag node.tag form.0) || all_have form.1 form.2 node) some)
        ≡ list_all (λ (form : AttrName × Form). all_have form.0 form.1 node)
        (map (λ form. (form.1, form.2))
        (cond same (form ∷ filter (λ form. is_same_tag node.tag form.0) some)
        (filter (λ form. is_same_tag node.tag form.0) some)))
    by_tag true e = ap (λ (b : Bool). all_have form.1 form.2 node && b) e
    by_tag false e = e
