-- What may stand in each element of a good deck (WAP-191, section 11), once more beside the
-- program's table, so that no rule changes unseen. The profile is wider than the document type of
-- WML 1.3, and this project's own: `pre` may hold what `p` may; em, strong, b, i, u, big and small
-- may hold fields and fieldsets too, and td these and tables; alt and src of img, content of meta
-- and columns of table may be absent.
use Rattle.std.specs.Prelude.{Bool, true, false, List, [], ◌∷◌}
use Rattle.wap_tokens.specs.declared.markup.name.Tag.{Tag}
use Rattle.wap_tokens.specs.declared.markup.name.Tag.TheVariants as tag
use Rattle.wap_tokens.specs.declared.markup.name.AttrName.{AttrName}
use Rattle.wap_tokens.specs.declared.markup.name.AttrName.TheVariants as attr
use Rattle.wap_tokens.specs.markup.Good.{Rule}

-- ---- groups of elements

-- what a text may hold beside its characters
abbrev pub flow : List Tag
flow =
    tag.Em ∷ tag.Strong ∷ tag.B ∷ tag.I ∷ tag.U ∷ tag.Big ∷ tag.Small ∷ tag.Br ∷ tag.Img ∷
    tag.Anchor ∷ tag.A ∷ tag.Table ∷ tag.Input ∷ tag.Select ∷ tag.Fieldset ∷ []

-- what a do and an event may have
abbrev pub tasks : List Tag
tasks = tag.Go ∷ tag.Prev ∷ tag.Noop ∷ tag.Refresh ∷ []

-- what a link may have
abbrev pub link_tasks : List Tag
link_tasks = tag.Go ∷ tag.Prev ∷ tag.Refresh ∷ []

-- what a link shows beside its text
abbrev pub images : List Tag
images = tag.Br ∷ tag.Img ∷ []

-- what a card shows, and its dos
abbrev pub blocks : List Tag
blocks = tag.Do ∷ tag.P ∷ tag.Pre ∷ []

-- what may be chosen
abbrev pub options : List Tag
options = tag.Optgroup ∷ tag.Option ∷ []

-- what a head has
abbrev pub metas : List Tag
metas = tag.Access ∷ tag.Meta ∷ []

-- what a go sends and sets
abbrev pub fields : List Tag
fields = tag.Postfield ∷ tag.Setvar ∷ []

-- a group of one element
abbrev pub only : Tag → List Tag
only one = one ∷ []

-- ---- the rules

-- groups in this order, or in any
abbrev pub ordered : Bool
ordered = true

-- groups in any order
abbrev pub any_order : Bool
any_order = false

-- texts may stand in it, or no texts
abbrev pub texts : Bool
texts = true

-- no texts may stand in it
abbrev pub no_texts : Bool
no_texts = false

-- an element and its rule: the groups of elements that may stand in it, whether in this order, and
-- whether texts may; groups of which one element at most may; elements of which one at least has
-- to; and the attributes that it has to have
abbrev pub rule : Tag → List (List Tag) → Bool → Bool → List (List Tag) → List Tag → List AttrName
    → Tag × Rule
rule element groups in_order text once needs attributes = (
  element,
  record {
    groups = groups;
    in_order = in_order;
    text = text;
    once = once;
    needs = needs;
    attributes = attributes;
  },
)

-- the rules of all elements, which are those of the table
abbrev pub profile : List (Tag × Rule)
profile =
    rule tag.Wml (only tag.Head ∷ only tag.Template ∷ only tag.Card ∷ [])
    ordered no_texts (only tag.Head ∷ only tag.Template ∷ []) [] [] ∷
    rule tag.Head (metas ∷ []) any_order no_texts [] metas [] ∷
    rule tag.Template (only tag.Do ∷ only tag.Onevent ∷ []) any_order no_texts [] [] [] ∷
    rule tag.Card (only tag.Onevent ∷ only tag.Timer ∷ blocks ∷ [])
    ordered no_texts (only tag.Timer ∷ []) [] [] ∷
    rule tag.Do (tasks ∷ []) any_order no_texts (tasks ∷ []) tasks (attr.Type ∷ []) ∷
    rule tag.Onevent (tasks ∷ []) any_order no_texts (tasks ∷ []) tasks (attr.Type ∷ []) ∷
    rule tag.Go (fields ∷ []) any_order no_texts [] [] (attr.Href ∷ []) ∷
    rule tag.Prev (only tag.Setvar ∷ []) any_order no_texts [] [] [] ∷
    rule tag.Refresh (only tag.Setvar ∷ []) any_order no_texts [] [] [] ∷
    rule tag.P (flow ∷ only tag.Do ∷ []) any_order texts [] [] [] ∷
    rule tag.Pre (flow ∷ only tag.Do ∷ []) any_order texts [] [] [] ∷
    rule tag.Fieldset (flow ∷ only tag.Do ∷ []) any_order texts [] [] [] ∷
    rule tag.Em (flow ∷ []) any_order texts [] [] [] ∷
    rule tag.Strong (flow ∷ []) any_order texts [] [] [] ∷
    rule tag.B (flow ∷ []) any_order texts [] [] [] ∷
    rule tag.I (flow ∷ []) any_order texts [] [] [] ∷
    rule tag.U (flow ∷ []) any_order texts [] [] [] ∷
    rule tag.Big (flow ∷ []) any_order texts [] [] [] ∷
    rule tag.Small (flow ∷ []) any_order texts [] [] [] ∷
    rule tag.Td (flow ∷ []) any_order texts [] [] [] ∷
    rule tag.A (images ∷ []) any_order texts [] [] (attr.Href ∷ []) ∷
    rule tag.Anchor (images ∷ link_tasks ∷ []) any_order texts (link_tasks ∷ []) link_tasks [] ∷
    rule tag.Table (only tag.Tr ∷ []) any_order no_texts [] (only tag.Tr) [] ∷
    rule tag.Tr (only tag.Td ∷ []) any_order no_texts [] (only tag.Td) [] ∷
    rule tag.Select (options ∷ []) any_order no_texts [] options [] ∷
    rule tag.Optgroup (options ∷ []) any_order no_texts [] options [] ∷
    rule tag.Option (only tag.Onevent ∷ []) any_order texts [] [] [] ∷
    rule tag.Postfield [] any_order no_texts [] [] (attr.Name ∷ attr.Value ∷ []) ∷
    rule tag.Setvar [] any_order no_texts [] [] (attr.Name ∷ attr.Value ∷ []) ∷
    rule tag.Input [] any_order no_texts [] [] (attr.Name ∷ []) ∷
    rule tag.Timer [] any_order no_texts [] [] (attr.Value ∷ []) ∷
    rule tag.Access [] any_order no_texts [] [] [] ∷
    rule tag.Meta [] any_order no_texts [] [] [] ∷
    rule tag.Noop [] any_order no_texts [] [] [] ∷
    rule tag.Br [] any_order no_texts [] [] [] ∷
    rule tag.Img [] any_order no_texts [] [] [] ∷
    []
