-- What a builder makes of the next part of some content.
use Rattle.std.proofs.Common.{◌≡◌, ℕ, List, Bool, true, Ok, Err, refl, ap, ◌∙◌}
use Rattle.wap_base.specs.Outcome.{◌>>=◌}
use Rattle.wap_tokens.specs.declared.markup.document.Attr.{Attr}
use Rattle.wap_tokens.specs.declared.markup.document.Element.{Element}
use Rattle.wap_tokens.specs.declared.markup.document.Kid.TheVariants as kid
use Rattle.wap_tokens.specs.declared.markup.mark.Lead.{Lead}
use Rattle.wap_tokens.specs.declared.markup.mark.Leaf.{Leaf}
use Rattle.wap_tokens.specs.declared.markup.mark.Leaf.TheVariants as leaf
use Rattle.wap_tokens.specs.declared.markup.mark.LeafMark.{LeafMark}
use Rattle.wap_tokens.specs.declared.markup.mark.ContentMark.{ContentMark}
use Rattle.wap_tokens.specs.declared.markup.mark.ContentMark.TheVariants as content
use Rattle.wap_tokens.specs.markup.Codes.{content_mark}
use Rattle.wap_tokens.specs.markup.Grammar.{State, on_tag_page, kid_of, of_kid}
use Rattle.wap_wbxml.specs.Places.{Input}
use Rattle.wap_wbxml.specs.reading.ByteReading.{Reading, told, some}
use Rattle.wap_wbxml.specs.reading.Fronts.{lead_at}
use Rattle.wap_wbxml.specs.reading.BodyReading.{leaf_at, instruction_at, kid_from, next_kid}
use Rattle.wap_wbxml.specs.reading.BodyReading.{element_at}
use Rattle.wap_wbxml.specs.reading.Gathering.{read_as, with_next}
use Rattle.wap_wbxml.specs.reading.Making.{Makes, attribute_made, level_added, element_added}
use Rattle.wap_wbxml.specs.reading.Making.{kid_added}

module _ {T A R C N W : Type 0} (makes : Makes T A R C N W) (levels : ℕ) (known : C) where
  -- a part that is added
  abbrev with_part : C → Bool × C
  with_part content = (true, content)

  -- a string, a character, a reference, an extension or opaque data
  leaf_added : (leaf : Leaf)
      → kid_added makes levels known (kid_of leaf) ≡ makes.leaf_added known leaf
  leaf_added (leaf.Str text) =
      ap (level_added makes (element_added makes levels) known) (kid.outs-Str text)
  leaf_added (leaf.Entity number) =
      ap (level_added makes (element_added makes levels) known) (kid.outs-Entity number)
  leaf_added (leaf.Var name conv) =
      ap (level_added makes (element_added makes levels) known) (kid.outs-Var name conv)
  leaf_added (leaf.Ext number) =
      ap (level_added makes (element_added makes levels) known) (kid.outs-Ext number)
  leaf_added (leaf.Opaque bytes) =
      ap (level_added makes (element_added makes levels) known) (kid.outs-Opaque bytes)

  -- an element that is the next part
  next_element : (read : Reading (Element × State))
      → read_as (with_next (kid_added makes levels) known)
      (told (λ x. some (of_kid kid.Element x)) read)
      ≡ read_as with_part (read_as (element_added makes levels known) read)
  next_element (Ok x) =
      ap (λ (content : C). Ok (((true, content), x.0.1), x.1))
      (ap (level_added makes (element_added makes levels) known) (kid.outs-Element x.0.0))
  next_element (Err fault) = refl

  -- a processing instruction that is
  next_instruction : (read : Reading (Attr × State))
      → read_as (with_next (kid_added makes levels) known)
      (told (λ x. some (of_kid kid.Pi x)) read)
      ≡ read_as with_part (read_as (makes.instruction_added known)
      (read_as (attribute_made makes) read))
  next_instruction (Ok x) =
      ap (λ (content : C). Ok (((true, content), x.0.1), x.1))
      (ap (level_added makes (element_added makes levels) known) (kid.outs-Pi x.0.0))
  next_instruction (Err fault) = refl

  -- content with a leaf, and the state after it
  abbrev pub with_leaf : State → Leaf → (Bool × C) × State
  with_leaf after leaf = ((true, makes.leaf_added known leaf), after)

  -- a leaf that is
  next_leaf : (after : State) (read : Reading Leaf)
      → read_as (with_next (kid_added makes levels) known)
      (told (λ leaf. some (kid_of leaf, after)) read)
      ≡ told (with_leaf after) read
  next_leaf after (Ok x) =
      ap (λ (content : C). Ok (((true, content), after), x.1)) (leaf_added x.0)
  next_leaf after (Err fault) = refl

  module _ (input : Input) (before : State) (lead : Lead) (bytes rest : List ℕ) where
    -- what the next part of content adds
    abbrev next_read : Reading ((Bool × C) × State)
    next_read =
        read_as (with_next (kid_added makes levels) known)
        (next_kid input (element_at input levels) before bytes)

    -- by what its byte says
    marked : (mark : ContentMark) → lead_at input.total before.tag_page bytes ≡ Ok (lead, rest)
        → content_mark lead ≡ mark → next_read ≡ read_as (with_next (kid_added makes levels) known)
        (kid_from input (element_at input levels) before lead mark rest)
    unfolding next_kid
    marked mark led is =
        ap (λ (lead : Reading Lead). read_as (with_next (kid_added makes levels) known)
        (lead >>= λ lead.
        kid_from input (element_at input levels) before lead.0 (content_mark lead.0) lead.1)) led
        ∙ ap (λ (mark : ContentMark). read_as (with_next (kid_added makes levels) known)
        (kid_from input (element_at input levels) before lead mark rest)) is

    -- an element
    pub element_next : lead_at input.total before.tag_page bytes ≡ Ok (lead, rest)
        → content_mark lead ≡ content.Element → next_read ≡ read_as with_part
        (read_as (element_added makes levels known) (element_at input levels before lead rest))
    element_next led is =
        marked content.Element led is ∙ next_element (element_at input levels before lead rest)

    -- a processing instruction
    pub instruction_next : lead_at input.total before.tag_page bytes ≡ Ok (lead, rest)
        → content_mark lead ≡ content.Pi → next_read ≡ read_as with_part
        (read_as (makes.instruction_added known)
        (read_as (attribute_made makes) (instruction_at input before rest)))
    instruction_next led is =
        marked content.Pi led is ∙ next_instruction (instruction_at input before rest)

    -- a leaf
    pub leaf_next : (mark : LeafMark) → lead_at input.total before.tag_page bytes ≡ Ok (lead, rest)
        → content_mark lead ≡ content.Leaf mark
        → next_read ≡ told (with_leaf (on_tag_page lead.page before)) (leaf_at input mark rest)
    leaf_next mark led is =
        marked (content.Leaf mark) led is
        ∙ next_leaf (on_tag_page lead.page before) (leaf_at input mark rest)
