-- What the reading of a node, of a list and of a text says of what it begins with.
use Rattle.std.proofs.Common.{◌≡◌, ℕ, zero, suc, ◌-◌, Bool, true, false, List, []}
use Rattle.std.proofs.Common.{Option, Some, refl, sym, ap, subst, ◌∙◌, arith}
use Rattle.std.specs.Prelude.{if◌then◌else◌, ◌%◌}
use Rattle.wap_base.proofs.Options.{bound}
use Rattle.wap_base.proofs.Choices.{some_same}
use Rattle.wap_base.specs.declared.name.Part.{Part}
use Rattle.wap_tokens.specs.declared.markup.codes.TheConstants.{END}
use Rattle.wap_tokens.specs.declared.markup.deck.Node.{Node}
use Rattle.wap_tokens.specs.declared.markup.deck.Item.{Item}
use Rattle.wap_tokens.specs.declared.markup.name.Tag.{Tag}
use Rattle.wap_tokens.specs.declared.markup.name.AttrName.{AttrName}
use Rattle.wap_tokens.specs.markup.Codes.{has_attributes, has_content}
use Rattle.wap_tokens.specs.markup.Tables.{tag_of}
use Rattle.wap_deck.specs.good.Readers.{Reader, ◌>>=◌, rest_of, first_of}
use Rattle.wap_deck.specs.good.Readers.{after, all_of, closed, closed_if}
use Rattle.wap_deck.specs.good.inside.Nodes.{attr_at, node, node_by, node_at, item_at, node_or}
use Rattle.wap_deck.specs.good.inside.Nodes.{front_node, IsRead, attrs_begin, kids_begin}

-- ---- the parts of a node

pub record Opened (table : List ℕ) (levels : ℕ) (bytes : List ℕ) (found : Node) : Type 0 where
  pub mark : ℕ
  pub behind : List ℕ
  pub tag : Tag
  pub attrs : List (AttrName × List Part) × List ℕ
  pub kids : List Item × List ℕ
  pub first : first_of bytes ≡ Some (mark, behind)
  pub tagged : tag_of 0 (mark % 64) ≡ Some tag
  pub attrs_read : closed_if (has_attributes mark) (attr_at table) behind ≡ Some attrs
  pub kids_read : closed_if (has_content mark) (item_at table (levels - 1)) attrs.1 ≡ Some kids
  pub is : found ≡ node tag attrs.0 kids.0

opened_by : (table : List ℕ) (levels : ℕ) (bytes : List ℕ) (found : Node) (rest : List ℕ)
    → node_by table (item_at table (levels - 1)) bytes ≡ Some (found, rest)
    → Opened table levels bytes found
unfolding node_by
opened_by table levels bytes found rest e =
    let a = bound (first_of bytes) _ (found, rest) e in
    let b = bound (tag_of 0 (a.0.0 % 64)) _ (found, rest) a.2 in
    let c =
    bound (closed_if (has_attributes a.0.0) (attr_at table) a.0.1) _ (found, rest) b.2 in
    let d =
    bound (closed_if (has_content a.0.0) (item_at table (levels - 1)) c.0.1) _
    (found, rest) c.2 in
    record {
      mark = a.0.0;
      behind = a.0.1;
      tag = b.0;
      attrs = c.0;
      kids = d.0;
      first = a.1;
      tagged = b.1;
      attrs_read = c.1;
      kids_read = d.1;
      is =
          ap (λ (x : Node × List ℕ). x.0)
          (sym (some_same (node b.0 c.0.0 d.0.0, d.0.1) (found, rest) d.2));
    }

pub opened : (table : List ℕ) (levels : ℕ) (bytes : List ℕ) (found : Node) (rest : List ℕ)
    → node_at table levels bytes ≡ Some (found, rest) → Opened table levels bytes found
unfolding node_at
opened table zero bytes found rest e = absurd cc
opened table (suc levels) bytes found rest e =
    let same : levels ≡ suc levels - 1 = omega arith in
    opened_by table (suc levels) bytes found rest
    (ap (λ (n : ℕ). node_by table (item_at table n) bytes) (sym same) ∙ e)

-- front_node is the node that is read
pub seen : (table : List ℕ) (levels : ℕ) (bytes : List ℕ) (found : Node) (rest : List ℕ)
    → node_at table levels bytes ≡ Some (found, rest) → front_node table levels bytes ≡ found
unfolding front_node
seen table levels bytes found rest e = ap node_or e

pub opened_front : (table : List ℕ) (levels : ℕ) (bytes : List ℕ) → IsRead table levels bytes
    → Opened table levels bytes (front_node table levels bytes)
opened_front table levels bytes is =
    let P : Node → Type 0 = Opened table levels bytes in
    subst P (sym (seen table levels bytes is.node is.rest is.read))
    (opened table levels bytes is.node is.rest is.read)

-- a list of no bytes
pub all_nothing : {A : Type 0} (next : Reader A) → all_of next [] ≡ ([], [])
unfolding all_of
all_nothing next = refl

pub closed_all : {A : Type 0} (has : Bool) (next : Reader A) (bytes : List ℕ) (x : List A × List ℕ)
    → closed_if has next bytes ≡ Some x → x.0 ≡ (all_of next (if has then bytes else [])).0
unfolding closed_if closed all_of
closed_all {A = A} true next bytes x e =
    let a = bound (after END (all_of next bytes).1) _ x e in
    ap (λ (r : List A × List ℕ). r.0) (sym (some_same ((all_of next bytes).0, a.0) x a.2))
closed_all {A = A} false next bytes x e =
    ap (λ (r : List A × List ℕ). r.0) (sym (some_same ([], bytes) x e))

-- where the attributes and the content of a node begin, and what they are
module _ (table : List ℕ) (levels : ℕ) (bytes : List ℕ) (found : Node)
    (o : Opened table levels bytes found) where
  abbrev pub attrs_from : List ℕ
  attrs_from = if has_attributes o.mark then o.behind else []

  abbrev pub kids_from : List ℕ
  kids_from = if has_content o.mark then o.attrs.1 else []

  pub attrs_there : attrs_begin bytes ≡ Some attrs_from
  unfolding attrs_begin
  attrs_there =
      ap (λ (x : Option (ℕ × List ℕ)).
      x >>= λ y. Some (if has_attributes y.0 then y.1 else [])) o.first

  pub attrs_are : found.attrs ≡ (all_of (attr_at table) attrs_from).0
  attrs_are =
      ap (λ (n : Node). n.attrs) o.is
      ∙ closed_all (has_attributes o.mark) (attr_at table) o.behind o.attrs o.attrs_read

  pub kids_there : kids_begin table bytes ≡ Some kids_from
  unfolding kids_begin
  kids_there =
      ap (λ (x : Option (ℕ × List ℕ)). x >>= λ y. rest_of (closed_if (has_attributes y.0)
      (attr_at table) y.1) >>= λ rest. Some (if has_content y.0 then rest else [])) o.first
      ∙ ap (λ (x : Option (List (AttrName × List Part) × List ℕ)).
      rest_of x >>= λ rest. Some (if has_content o.mark then rest else [])) o.attrs_read

  pub kids_are : found.kids ≡ (all_of (item_at table (levels - 1)) kids_from).0
  kids_are =
      ap (λ (n : Node). n.kids) o.is
      ∙ closed_all (has_content o.mark) (item_at table (levels - 1)) o.attrs.1 o.kids o.kids_read
