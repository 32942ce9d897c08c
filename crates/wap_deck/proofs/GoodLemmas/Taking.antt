-- Each reader takes a byte or more.
use Rattle.std.proofs.Common.{◌≡◌, ℕ, zero, suc, ◌<◌, ◌≤◌, Bool, true, false, List, []}
use Rattle.std.proofs.Common.{◌∷◌, length, take, drop, Option, Some, None, Result, Ok}
use Rattle.std.proofs.Common.{Err, refl, ap, length-drop, arith}
use Rattle.std.specs.Prelude.{is_some, if◌then◌else◌, ◌==◌, ◌%◌}
use Rattle.wap_base.specs.Numbers.{mb_at}
use Rattle.wap_base.specs.declared.number.ReadFault.{ReadFault}
use Rattle.wap_base.specs.declared.name.Conv.{Conv}
use Rattle.wap_base.specs.declared.name.Conv.TheVariants.{Escape, Unescape, Plain}
use Rattle.wap_base.specs.declared.name.Part.{Part}
use Rattle.wap_base.specs.declared.name.Part.TheVariants.{Lit}
use Rattle.wap_tokens.specs.declared.markup.codes.TheConstants.{END, LITERAL, ENTITY, STR_I}
use Rattle.wap_tokens.specs.declared.markup.codes.TheConstants.{EXT_I_0, EXT_I_1, EXT_I_2}
use Rattle.wap_tokens.specs.declared.markup.deck.Node.{Node}
use Rattle.wap_tokens.specs.declared.markup.deck.Item.{Item}
use Rattle.wap_tokens.specs.declared.markup.deck.Item.TheVariants as item
use Rattle.wap_tokens.specs.declared.markup.name.Tag.{Tag}
use Rattle.wap_tokens.specs.markup.Codes.{has_attributes, has_content}
use Rattle.wap_tokens.specs.markup.Strings.{string_from}
use Rattle.wap_tokens.specs.markup.Tables.{tag_of, attr_start, attr_named}
use Rattle.wap_deck.specs.good.Readers.{Reader, ◌>>=◌, first_of, after, number_from, number_at}
use Rattle.wap_deck.specs.good.Readers.{zero_place, ended_at, all_of, closed, closed_if}
use Rattle.wap_deck.specs.good.Texts.{string_part, name_part, string_at, reference_at, character_at}
use Rattle.wap_deck.specs.good.Texts.{part_from, part_at, value_at, behind_value}
use Rattle.wap_deck.specs.good.inside.Nodes.{named_at, start_at, attr_at, node}
use Rattle.wap_deck.specs.good.inside.Nodes.{node_by, item_by, node_at, item_at}
use Rattle.wap_deck.proofs.GoodLemmas.Runs.{Each, each_bind, Fewer, Takes, fewer, all_on, all_left}

pub each_if : {A : Type 0} (P : A → Type 0) (b : Bool) (x y : Option A) → Each P x → Each P y
    → Each P (if b then x else y)
each_if P true x y first second = first
each_if P false x y first second = second

-- what is asked of the value alone
each_more : {A B : Type 0} (n : ℕ) (o : Option A) (make : A → B) (rest : List ℕ) → length rest < n
    → Each (Fewer n) (o >>= λ a. Some (make a, rest))
each_more n (Some a) make rest less = less
each_more n None make rest less = tt

-- ---- one byte, a number, and a string up to a 0

pub first_fewer : (bytes : List ℕ) → Each (Fewer (length bytes)) (first_of bytes)
first_fewer [] = tt
first_fewer (byte ∷ rest) = omega arith

pub after_fewer : (byte : ℕ) (bytes : List ℕ)
    → Each (λ (rest : List ℕ). length rest < length bytes) (after byte bytes)
after_fewer byte [] = tt
after_fewer byte (first ∷ rest) =
    each_if (λ (l : List ℕ). length l < length (first ∷ rest)) (first == byte) (Some rest) None
    (omega arith) tt

pub ended_fewer : (bytes : List ℕ) → Each (Fewer (length bytes)) (ended_at bytes)
unfolding ended_at
ended_fewer bytes =
    each_bind (λ (rest : List ℕ). length rest < length (drop (zero_place bytes) bytes))
    (Fewer (length bytes)) (after 0 (drop (zero_place bytes) bytes))
    (λ rest. Some (take (zero_place bytes) bytes, rest))
    (after_fewer 0 (drop (zero_place bytes) bytes))
    (λ rest less. let len = length-drop (zero_place bytes) bytes in omega arith)

number_left : (bytes : List ℕ) (n : ℕ) → length bytes < n → (r : Result (ℕ × ℕ) ReadFault)
    → Each (Fewer n) (number_from bytes r)
number_left bytes n less (Ok read) = let len = length-drop read.1 bytes in omega arith
number_left bytes n less (Err fault) = tt

pub number_fewer : (bytes : List ℕ) (n : ℕ) → length bytes < n → Each (Fewer n) (number_at bytes)
unfolding number_at
number_fewer bytes n less = number_left bytes n less (mb_at bytes 0)

-- ---- parts

string_fewer : (rest : List ℕ) (n : ℕ) → length rest < n → Each (Fewer n) (string_at rest)
unfolding string_at
string_fewer rest n less =
    each_bind (Fewer (length rest)) (Fewer n) (ended_at rest)
    (λ x. string_part x.0 >>= λ part. Some (part, x.1)) (ended_fewer rest)
    (λ x h. each_more n (string_part x.0) (λ part. part) x.1 (omega arith))

reference_fewer : (conv : Conv) (rest : List ℕ) (n : ℕ) → length rest < n
    → Each (Fewer n) (reference_at conv rest)
unfolding reference_at
reference_fewer conv rest n less =
    each_bind (Fewer (length rest)) (Fewer n) (ended_at rest)
    (λ x. name_part conv x.0 >>= λ part. Some (part, x.1)) (ended_fewer rest)
    (λ x h. each_more n (name_part conv x.0) (λ part. part) x.1 (omega arith))

character_fewer : (rest : List ℕ) (n : ℕ) → length rest < n → Each (Fewer n) (character_at rest)
unfolding character_at
character_fewer rest n less =
    each_bind (λ (behind : List ℕ). length behind < length rest) (Fewer n) (after 0 rest)
    (λ behind. Some (Lit (0 ∷ []), behind)) (after_fewer 0 rest) (λ behind h. omega arith)

from_fewer : (first : ℕ) (rest : List ℕ) (n : ℕ) → length rest < n
    → Each (Fewer n) (part_from first rest)
from_fewer first rest n less =
    let P : Part × List ℕ → Type 0 = Fewer n in
    each_if P (first == STR_I) _ _ (string_fewer rest n less)
    (each_if P (first == ENTITY) _ _ (character_fewer rest n less)
    (each_if P (first == EXT_I_0) _ _ (reference_fewer Escape rest n less)
    (each_if P (first == EXT_I_1) _ _ (reference_fewer Unescape rest n less)
    (each_if P (first == EXT_I_2) _ _ (reference_fewer Plain rest n less) tt))))

pub part_takes : Takes part_at
unfolding part_at
part_takes = record {
  each =
      λ bytes. each_bind (Fewer (length bytes)) (Fewer (length bytes)) (first_of bytes) (λ x.
      part_from x.0 x.1) (first_fewer bytes) (λ x less. from_fewer x.0 x.1 (length bytes) less);
}

pub value_left : (bytes : List ℕ) → length (behind_value bytes) ≤ length bytes
value_left bytes = all_left part_at part_takes bytes

-- a text of a part or more
value_fewer : (bytes : List ℕ) (o : Option (Part × List ℕ)) → part_at bytes ≡ o → is_some o ≡ true
    → length (behind_value bytes) < length bytes
value_fewer bytes (Some x) e some =
    let step =
    ap (λ (r : List Part × List ℕ). length r.1) (all_on part_at part_takes bytes x.0 x.1 e) in
    let less = fewer part_at part_takes bytes x.0 x.1 e in
    let left = all_left part_at part_takes x.1 in
    omega arith
value_fewer bytes None e some = absurd cc

-- ---- attributes

named_fewer : (table rest : List ℕ) (n : ℕ) → length rest < n → Each (Fewer n) (named_at table rest)
unfolding named_at
named_fewer table rest n less =
    each_bind (Fewer n) (Fewer n) (number_at rest) _ (number_fewer rest n less)
    (λ x h. each_more n (attr_named (string_from table x.0)) (λ attr. (attr, [])) x.1 h)

start_takes : (table bytes : List ℕ) → Each (Fewer (length bytes)) (start_at table bytes)
unfolding start_at
start_takes table bytes =
    each_bind (Fewer (length bytes)) (Fewer (length bytes)) (first_of bytes) _ (first_fewer bytes)
    (λ x less.
    each_if (Fewer (length bytes)) (x.0 == LITERAL) _ _ (named_fewer table x.1 (length bytes) less)
    (each_more (length bytes) (attr_start 0 x.0) (λ start. start) x.1 less))

pub attr_takes : (table : List ℕ) → Takes (attr_at table)
unfolding attr_at
attr_takes table = record {
  each =
      λ bytes. each_bind (Fewer (length bytes)) (Fewer (length bytes)) (start_at table bytes) _
      (start_takes table bytes) (λ x less. let left = value_left x.1 in omega arith);
}

-- ---- lists up to an end

pub closed_fewer : {A : Type 0} (next : Reader A) → Takes next → (bytes : List ℕ)
    → Each (Fewer (length bytes)) (closed next bytes)
unfolding closed
closed_fewer next takes bytes =
    each_bind (λ (rest : List ℕ). length rest < length (all_of next bytes).1) (Fewer (length bytes))
    (after END (all_of next bytes).1) (λ rest. Some ((all_of next bytes).0, rest))
    (after_fewer END (all_of next bytes).1)
    (λ rest less. let left = all_left next takes bytes in omega arith)

pub closed_if_left : {A : Type 0} (has : Bool) (next : Reader A) → Takes next
    → (bytes : List ℕ) (n : ℕ) → length bytes < n → Each (Fewer n) (closed_if has next bytes)
unfolding closed_if
closed_if_left {A = A} true next takes bytes n less =
    each_weaker (closed next bytes) (closed_fewer next takes bytes)
  where
    each_weaker : (o : Option (List A × List ℕ)) → Each (Fewer (length bytes)) o → Each (Fewer n) o
    each_weaker (Some x) h = omega arith
    each_weaker None h = tt
closed_if_left false next takes bytes n less = less

-- ---- nodes and items

node_fewer : (table : List ℕ) (kid : Reader Item) → Takes kid
    → (n mark : ℕ) (rest : List ℕ) → length rest < n → (o : Option Tag) →
    Each (Fewer n) (o >>= λ tag. closed_if (has_attributes mark) (attr_at table) rest >>= λ attrs.
    closed_if (has_content mark) kid attrs.1 >>= λ kids. Some (node tag attrs.0 kids.0, kids.1))
node_fewer table kid takes n mark rest less (Some tag) =
    let P : Node × List ℕ → Type 0 = Fewer n in
    each_bind (Fewer n) P (closed_if (has_attributes mark) (attr_at table) rest) _
    (closed_if_left (has_attributes mark) (attr_at table) (attr_takes table) rest n less)
    (λ attrs fewer_left.
    each_bind (Fewer n) P (closed_if (has_content mark) kid attrs.1) _
    (closed_if_left (has_content mark) kid takes attrs.1 n fewer_left) (λ kids h. h))
node_fewer table kid takes n mark rest less None = tt

pub node_by_takes : (table : List ℕ) (kid : Reader Item) → Takes kid → Takes (node_by table kid)
unfolding node_by
node_by_takes table kid takes = record {
  each = λ bytes.
      each_bind (Fewer (length bytes)) (Fewer (length bytes)) (first_of bytes) _ (first_fewer bytes)
      (λ x less. node_fewer table kid takes (length bytes) x.0 x.1 less (tag_of 0 (x.0 % 64)));
}

pub item_by_takes : (inner : Reader Node) → Takes inner → Takes (item_by inner)
unfolding item_by
item_by_takes inner takes = record { each = λ bytes. one bytes (is_some (part_at bytes)) refl }
  where
    one : (bytes : List ℕ) (b : Bool) → is_some (part_at bytes) ≡ b → Each (Fewer (length bytes))
        (if b then Some (item.Text (value_at [] bytes), behind_value bytes) else
        (inner bytes >>= λ x. Some (item.Node x.0, x.1)))
    one bytes true e = value_fewer bytes (part_at bytes) refl e
    one bytes false e =
        each_bind (Fewer (length bytes)) (Fewer (length bytes)) (inner bytes)
        (λ x. Some (item.Node x.0, x.1)) (takes.each bytes) (λ x h. h)

pub node_takes : (table : List ℕ) (levels : ℕ) → Takes (node_at table levels)
unfolding node_at
node_takes table zero = record { each = λ bytes. tt }
node_takes table (suc levels) = record {
  each =
      (node_by_takes table (item_by (node_at table levels))
      (item_by_takes (node_at table levels) (node_takes table levels))).each;
}

pub item_takes : (table : List ℕ) (levels : ℕ) → Takes (item_at table levels)
item_takes table levels = item_by_takes (node_at table levels) (node_takes table levels)
