-- What follows a part is told by its mark, and no such mark begins an attribute or a node, or is
-- an end.
use Rattle.std.proofs.Common.{◌≡◌, ℕ, zero, suc, ◌-◌, ◌<◌, ◌≤◌, Bool, true, false, List, [], ◌∷◌}
use Rattle.std.proofs.Common.{◌++◌, length, take, drop, Option, Some, None, Result, Ok, Err, refl}
use Rattle.std.proofs.Common.{sym, ap, subst, ◌∙◌, append_assoc, eq-eqb, arith}
use Rattle.wap_base.proofs.Options.{bound}
use Rattle.wap_base.specs.Numbers.{mb_at}
use Rattle.wap_base.specs.declared.number.ReadFault.{ReadFault}
use Rattle.wap_tokens.specs.markup.Strings.{string_from}
use Rattle.std.specs.Prelude.{is_some, if◌then◌else◌, ◌==◌, ◌%◌}
use Rattle.std.proofs.lemmas.Bool.{eqb-true}
use Rattle.std.proofs.lemmas.List.{append-nil, length-append, drop_at}
use Rattle.wap_base.proofs.Choices.{some_same}
use Rattle.wap_base.specs.declared.name.Conv.{Conv}
use Rattle.wap_base.specs.declared.name.Conv.TheVariants.{Escape, Unescape, Plain}
use Rattle.wap_base.specs.declared.name.Part.{Part}
use Rattle.wap_base.specs.declared.name.Part.TheVariants.{Lit}
use Rattle.wap_tokens.specs.declared.markup.codes.TheConstants.{END, LITERAL, ENTITY, STR_I}
use Rattle.wap_tokens.specs.declared.markup.codes.TheConstants.{EXT_I_0, EXT_I_1, EXT_I_2}
use Rattle.wap_tokens.specs.declared.markup.deck.Node.{Node}
use Rattle.wap_tokens.specs.declared.markup.deck.Item.{Item}
use Rattle.wap_tokens.specs.declared.markup.deck.Item.TheVariants as item
use Rattle.wap_tokens.specs.declared.markup.name.AttrName.{AttrName}
use Rattle.wap_tokens.specs.markup.Codes.{has_attributes, has_content}
use Rattle.wap_tokens.specs.markup.Tables.{Start, tag_of, attr_start, attr_named, tag_rows}
use Rattle.wap_tokens.specs.markup.Tables.{start_rows}
use Rattle.wap_deck.specs.good.Readers.{Reader, ◌>>=◌, first_of, after, number_from, number_at}
use Rattle.wap_deck.specs.good.Readers.{ended_at}
use Rattle.wap_deck.specs.good.Readers.{behind_zero, zero_place, IsBehind, run_step, run_at, all_of}
use Rattle.wap_deck.specs.good.Readers.{closed, closed_if, is_end, Ends, Leaves, rest_of}
use Rattle.wap_deck.specs.good.Texts.{string_at, reference_at, character_at, string_part}
use Rattle.wap_deck.specs.good.Texts.{name_part, part_from, part_at, part_end_from}
use Rattle.wap_deck.specs.good.Texts.{part_end, value_at, behind_value}
use Rattle.wap_deck.specs.good.inside.Nodes.{named_at, start_at, attr_at, node, node_by, item_by}
use Rattle.wap_deck.specs.good.inside.Nodes.{node_at, item_at, kids_begin, IsContent}
use Rattle.wap_deck.proofs.GoodLemmas.Runs.{Takes, fewer, all_on, all_end, turn, closed_rest}
use Rattle.wap_deck.proofs.GoodLemmas.Runs.{rest_some}
use Rattle.wap_deck.proofs.GoodLemmas.Opening.{all_nothing}
use Rattle.wap_deck.proofs.GoodLemmas.Skipping.{item_by_rest}
use Rattle.wap_deck.proofs.GoodLemmas.Taking.{part_takes, attr_takes, item_takes}

-- ---- bytes after others

-- all bytes end with all of them
pub behind_all : (bytes : List ℕ) → IsBehind bytes bytes
behind_all bytes = record { front = []; split = refl }

-- what is behind those behind others is behind these
pub behind_on : (rest middle bytes : List ℕ) → IsBehind rest middle → IsBehind middle bytes
    → IsBehind rest bytes
behind_on rest middle bytes one two = record {
  front = two.front ++ one.front;
  split =
      two.split ∙ ap (λ (l : List ℕ). two.front ++ l) one.split
      ∙ sym (append_assoc two.front one.front rest);
}

-- bytes are the first of them, and those after these
take_drop : (n : ℕ) (bytes : List ℕ) → bytes ≡ take n bytes ++ drop n bytes
take_drop zero [] = refl
take_drop (suc n) [] = refl
take_drop zero (byte ∷ bytes) = refl
take_drop (suc n) (byte ∷ bytes) = ap (λ (l : List ℕ). byte ∷ l) (take_drop n bytes)

-- what is left after the first bytes is behind all
pub behind_drop : (n : ℕ) (bytes : List ℕ) → IsBehind (drop n bytes) bytes
behind_drop n bytes = record { front = take n bytes; split = take_drop n bytes }

-- bytes whose first is read are it and the others
pub first_is : (bytes : List ℕ) (mark : ℕ) (rest : List ℕ) → first_of bytes ≡ Some (mark, rest)
    → bytes ≡ mark ∷ rest
first_is [] mark rest e = absurd cc
first_is (byte ∷ bytes) mark rest e =
    ap (λ (x : ℕ × List ℕ). x.0 ∷ x.1) (some_same (byte, bytes) (mark, rest) e)

-- those after the first are behind all
pub behind_first : (bytes : List ℕ) (mark : ℕ) (rest : List ℕ) → first_of bytes ≡ Some (mark, rest)
    → IsBehind rest bytes
behind_first bytes mark rest e = record { front = mark ∷ []; split = first_is bytes mark rest e }

-- those behind others are no more
pub behind_left : (rest bytes : List ℕ) → IsBehind rest bytes → length rest ≤ length bytes
behind_left rest bytes is =
    let all = ap length is.split in
    let sum = length-append is.front rest in
    omega arith

-- they stand as many bytes before the end as they are
pub behind_place : (rest bytes : List ℕ) → IsBehind rest bytes
    → drop (length bytes - length rest) bytes ≡ rest
behind_place rest bytes is =
    let all = ap length is.split in
    let sum = length-append is.front rest in
    let place : length bytes - length rest ≡ length is.front = omega arith in
    ap (λ (n : ℕ). drop n bytes) place ∙ ap (drop (length is.front)) is.split
    ∙ drop_at is.front rest (length is.front) refl

-- ---- parts

-- what a mark tells, where a reading succeeds
abbrev Tells : Option (Part × List ℕ) → Option (List ℕ) → Type 0
Tells (Some read) end = end ≡ Some read.1
Tells None end = Unit {0}

-- of two readings the one that is chosen is told, where each is
tells_if : (b : Bool) (x y : Option (Part × List ℕ)) (s t : Option (List ℕ)) → Tells x s → Tells y t
    → Tells (if b then x else y) (if b then s else t)
tells_if true x y s t one two = one
tells_if false x y s t one two = two

-- after a byte that is read stand all but the first
after_is : (byte : ℕ) (bytes rest : List ℕ) → after byte bytes ≡ Some rest → rest ≡ drop 1 bytes
after_is byte [] rest e = absurd cc
after_is byte (first ∷ bytes) rest e = chosen (first == byte) e
  where
    chosen : (b : Bool) → (if b then Some bytes else None) ≡ Some rest → rest ≡ bytes
    chosen true e = sym (some_same bytes rest e)
    chosen false e = absurd cc

-- after a string stand the bytes behind its 0
ended_is : (bytes : List ℕ) (x : List ℕ × List ℕ) → ended_at bytes ≡ Some x
    → x.1 ≡ behind_zero bytes
unfolding ended_at
ended_is bytes x e =
    let a = bound (after 0 (drop (zero_place bytes) bytes)) _ x e in
    sym (ap (λ (y : List ℕ × List ℕ). y.1) (some_same (take (zero_place bytes) bytes, a.0) x a.2))
    ∙ after_is 0 (drop (zero_place bytes) bytes) a.0 a.1

-- a reading is told where all that it reads leaves these bytes
told : (o : Option (Part × List ℕ)) (end : List ℕ) → ((x : Part × List ℕ) → o ≡ Some x → end ≡ x.1)
    → Tells o (Some end)
told (Some x) end are = ap Some (are x refl)
told None end are = tt

-- after a string in place stand the bytes behind its 0
string_told : (rest : List ℕ) → Tells (string_at rest) (Some (behind_zero rest))
unfolding string_at
string_told rest = told (string_at rest) (behind_zero rest) (λ x e.
    let a = bound (ended_at rest) _ x e in
    let b = bound (string_part a.0.0) _ x a.2 in
    sym (ended_is rest a.0 a.1) ∙ ap (λ (y : Part × List ℕ). y.1) (some_same (b.0, a.0.1) x b.2))

-- and so they do after a reference
reference_told : (conv : Conv) (rest : List ℕ)
    → Tells (reference_at conv rest) (Some (behind_zero rest))
unfolding reference_at
reference_told conv rest = told (reference_at conv rest) (behind_zero rest) (λ x e.
    let a = bound (ended_at rest) _ x e in
    let b = bound (name_part conv a.0.0) _ x a.2 in
    sym (ended_is rest a.0 a.1) ∙ ap (λ (y : Part × List ℕ). y.1) (some_same (b.0, a.0.1) x b.2))

-- after a character stands what follows its number, of one byte
character_told : (rest : List ℕ) → Tells (character_at rest) (Some (drop 1 rest))
unfolding character_at
character_told [] = tt
character_told (number ∷ rest) = either (number == 0)
  where
    either : (b : Bool)
        → Tells ((if b then Some rest else None) >>= λ rest. Some (Lit (0 ∷ []), rest)) (Some rest)
    either true = refl
    either false = tt

-- what follows a part is told by its mark
from_told : (mark : ℕ) (rest : List ℕ) → Tells (part_from mark rest) (part_end_from mark rest)
from_told mark rest =
    tells_if (mark == STR_I) _ _ _ _ (string_told rest)
    (tells_if (mark == ENTITY) _ _ _ _ (character_told rest)
    (tells_if (mark == EXT_I_0) _ _ _ _ (reference_told Escape rest)
    (tells_if (mark == EXT_I_1) _ _ _ _ (reference_told Unescape rest)
    (tells_if (mark == EXT_I_2) _ _ _ _ (reference_told Plain rest) tt))))

-- what is told of a reading that succeeds is what follows
told_some : (o : Option (Part × List ℕ)) (end : Option (List ℕ)) (x : Part × List ℕ) → Tells o end
    → o ≡ Some x → end ≡ Some x.1
told_some (Some y) end x tells e = tells ∙ ap (λ (z : Part × List ℕ). Some z.1) (some_same y x e)
told_some None end x tells e = absurd cc

-- what follows a part is told by its bytes
part_told : (bytes : List ℕ) → Tells (part_at bytes) (part_end bytes)
unfolding part_at part_end
part_told [] = tt
part_told (mark ∷ rest) = from_told mark rest

-- a part that is read is followed by what its mark tells
pub part_followed : (bytes : List ℕ) (x : Part × List ℕ) → part_at bytes ≡ Some x
    → part_end bytes ≡ Some x.1
part_followed bytes x e = told_some (part_at bytes) (part_end bytes) x (part_told bytes) e

-- a reading of which nothing is told fails
told_none : (o : Option (Part × List ℕ)) (end : Option (List ℕ)) → Tells o end
    → end ≡ None → o ≡ None
told_none (Some x) end tells e = absurd cc
told_none None end tells e = refl

-- where no mark of a part stands, none is read
pub no_part : (bytes : List ℕ) → part_end bytes ≡ None → part_at bytes ≡ None
no_part bytes e = told_none (part_at bytes) (part_end bytes) (part_told bytes) e

-- ---- marks

-- what holds of a mark holds of another that is the same, and else is left to show
chosen : (P : ℕ → Type 0) (mark known : ℕ) → P known → (b : Bool) → (mark == known) ≡ b
    → (b ≡ false → P mark) → P mark
chosen P mark known here true e more = subst P (sym (eqb-true mark known e)) here
chosen P mark known here false e more = more refl

-- what holds of each mark of a part holds of a mark that tells what follows it
marked : (P : ℕ → Type 0) (mark : ℕ) (rest end : List ℕ) → part_end_from mark rest ≡ Some end
    → P STR_I → P ENTITY → P EXT_I_0 → P EXT_I_1 → P EXT_I_2 → P mark
marked P mark rest end e a b c d f =
    chosen P mark STR_I a (mark == STR_I) refl (λ n1.
    chosen P mark ENTITY b (mark == ENTITY) refl (λ n2.
    chosen P mark EXT_I_0 c (mark == EXT_I_0) refl (λ n3.
    chosen P mark EXT_I_1 d (mark == EXT_I_1) refl (λ n4.
    chosen P mark EXT_I_2 f (mark == EXT_I_2) refl (λ n5.
    let none : part_end_from mark rest ≡ None = rw (n1, n2, n3, n4, n5) refl in
    absurd (cc))))))

-- no mark of a part starts an attribute
pub no_start : (table bytes end : List ℕ) → part_end bytes ≡ Some end → attr_at table bytes ≡ None
unfolding part_end attr_at start_at attr_start start_rows
no_start table [] end e = absurd cc
no_start table (mark ∷ rest) end e =
    marked (λ (m : ℕ). attr_at table (m ∷ rest) ≡ None) mark rest end e refl refl refl refl refl

-- no mark of a part begins a node
pub no_node : (table : List ℕ) (kid : Reader Item) (bytes end : List ℕ) → part_end bytes ≡ Some end
    → node_by table kid bytes ≡ None
unfolding part_end node_by tag_of tag_rows
no_node table kid [] end e = absurd cc
no_node table kid (mark ∷ rest) end e =
    marked (λ (m : ℕ). node_by table kid (m ∷ rest) ≡ None) mark rest end e refl refl refl refl refl

-- ---- a turn over parts

-- something holds of an end, where there is one
abbrev Each : (List ℕ → Type 0) → Option (List ℕ) → Type 0
Each P (Some x) = P x
Each P None = Unit {0}

-- of two ends the one that is chosen has what each has
each_choice : (P : List ℕ → Type 0) (b : Bool) (x y : Option (List ℕ)) → Each P x → Each P y
    → Each P (if b then x else y)
each_choice P true x y one two = one
each_choice P false x y one two = two

-- what follows the first 0 is behind all
behind_is_zero : (rest : List ℕ) → IsBehind (behind_zero rest) rest
behind_is_zero rest =
    behind_on (behind_zero rest) (drop (zero_place rest) rest) rest
    (behind_drop 1 (drop (zero_place rest) rest)) (behind_drop (zero_place rest) rest)

-- what a mark tells is behind the bytes after it
from_behind : (mark : ℕ) (rest : List ℕ)
    → Each (λ (end : List ℕ). IsBehind end rest) (part_end_from mark rest)
from_behind mark rest =
    let P : List ℕ → Type 0 = λ end. IsBehind end rest in
    let zero = behind_is_zero rest in
    each_choice P (mark == STR_I) _ _ zero
    (each_choice P (mark == ENTITY) _ _ (behind_drop 1 rest)
    (each_choice P (mark == EXT_I_0) _ _ zero
    (each_choice P (mark == EXT_I_1) _ _ zero
    (each_choice P (mark == EXT_I_2) _ _ zero tt))))

-- what follows a part is behind all but its mark
pub end_behind : (bytes end : List ℕ) → part_end bytes ≡ Some end → IsBehind end (drop 1 bytes)
unfolding part_end
end_behind [] end e = absurd cc
end_behind (mark ∷ rest) end e =
    let P : Option (List ℕ) → Type 0 = Each (λ (end : List ℕ). IsBehind end rest) in
    subst P e (from_behind mark rest)

-- and it is shorter
pub end_shorter : (bytes end : List ℕ) → part_end bytes ≡ Some end → length end < length bytes
unfolding part_end
end_shorter [] end e = absurd cc
end_shorter (mark ∷ rest) end e =
    let P : Option (List ℕ) → Type 0 = Each (λ (end : List ℕ). IsBehind end rest) in
    let left = behind_left end rest (subst P e (from_behind mark rest)) in
    omega arith

-- what is behind all but the first is behind all
pub drop_behind : (rest bytes : List ℕ) → IsBehind rest (drop 1 bytes) → IsBehind rest bytes
drop_behind rest bytes is = behind_on rest (drop 1 bytes) bytes is (behind_drop 1 bytes)

-- the parts of a value go on after its first part up to the same end
pub value_on : (rest behind end : List ℕ) → part_end rest ≡ Some behind → part_end end ≡ None
    → behind_value rest ≡ end → behind_value behind ≡ end
value_on rest behind end e none so = turned (part_at rest) refl
  where
    turned : (o : Option (Part × List ℕ)) → part_at rest ≡ o → behind_value behind ≡ end
    turned (Some x) is =
        let same : behind ≡ x.1 = some_same behind x.1 (sym e ∙ part_followed rest x is) in
        ap behind_value same ∙ turn part_at part_takes rest x.0 x.1 end is so
    turned None is =
        let here : behind_value rest ≡ rest =
        ap (λ (r : List Part × List ℕ). r.1) (all_end part_at rest is) in
        let nothing : part_end rest ≡ None = ap part_end (sym here ∙ so) ∙ none in
        absurd cc

-- they end where no mark of a part stands
pub value_done : (rest end : List ℕ) → part_end rest ≡ None → behind_value rest ≡ end → rest ≡ end
value_done rest end e so =
    sym (ap (λ (r : List Part × List ℕ). r.1) (all_end part_at rest (no_part rest e))) ∙ so

-- ---- lists of attributes and of items, up to an end

-- an end is no mark of a part
pub end_no_part : (bytes : List ℕ) → is_end bytes ≡ true → part_end bytes ≡ None
unfolding part_end
end_no_part [] e = refl
end_no_part (mark ∷ rest) e =
    let P : ℕ → Type 0 = λ m. part_end_from m rest ≡ None in
    subst P (sym (eqb-true mark END e)) refl

-- nor does it start an attribute
end_no_attr : (table rest : List ℕ) → attr_at table (END ∷ rest) ≡ None
unfolding attr_at start_at attr_start start_rows
end_no_attr table rest = refl

-- nor begin a node
end_no_node : (table : List ℕ) (levels : ℕ) (rest : List ℕ)
    → node_at table levels (END ∷ rest) ≡ None
unfolding node_at node_by tag_of tag_rows
end_no_node table zero rest = refl
end_no_node table (suc levels) rest = refl

-- nor an item
end_no_item : (table : List ℕ) (levels : ℕ) (rest : List ℕ)
    → item_at table levels (END ∷ rest) ≡ None
unfolding item_by
end_no_item table levels rest =
    let none : is_some (part_at (END ∷ rest)) ≡ false =
    ap is_some (no_part (END ∷ rest) (end_no_part (END ∷ rest) refl)) in
    rw (none, end_no_node table levels rest) refl

-- no mark of a part begins a node of any levels
pub no_node_at : (table : List ℕ) (levels : ℕ) (bytes end : List ℕ) → part_end bytes ≡ Some end
    → node_at table levels bytes ≡ None
unfolding node_at
no_node_at table zero bytes end e = refl
no_node_at table (suc levels) bytes end e = no_node table (item_at table levels) bytes end e

-- what follows the end of a list
abbrev pub Closes : {A : Type 0} → Reader A → List ℕ → List ℕ → Type 0
Closes next bytes end = after END (all_of next bytes).1 ≡ Some end

-- a reader that reads nothing at an end
pub record Lists {A : Type 0} (next : Reader A) : Type 0 where
  pub takes : Takes next
  pub stops : (rest : List ℕ) → next (END ∷ rest) ≡ None

-- attributes are read up to an end
pub attr_lists : (table : List ℕ) → Lists (attr_at table)
attr_lists table = record { takes = attr_takes table; stops = end_no_attr table }

-- and so are items
pub item_lists : (table : List ℕ) (levels : ℕ) → Lists (item_at table levels)
item_lists table levels =
    record { takes = item_takes table levels; stops = end_no_item table levels }

module _ {A : Type 0} (next : Reader A) (lists : Lists next) where
  -- after its first value a list has the same end
  pub ends_on : (bytes : List ℕ) (a : A) (rest : List ℕ) → next bytes ≡ Some (a, rest)
      → Ends next bytes → Ends next rest
  ends_on bytes a rest e ends =
      sym (ap (λ (r : List A × List ℕ). is_end r.1) (all_on next lists.takes bytes a rest e)) ∙ ends

  -- where nothing is read, a list that ends is at its end
  pub ends_here : (bytes : List ℕ) → next bytes ≡ None → Ends next bytes → is_end bytes ≡ true
  ends_here bytes e ends =
      sym (ap (λ (r : List A × List ℕ). is_end r.1) (all_end next bytes e)) ∙ ends

  -- before its end a list has a value
  pub ends_some : (bytes : List ℕ) → Ends next bytes → is_end bytes ≡ false
      → (x : A × List ℕ) × (next bytes ≡ Some x)
  ends_some bytes ends more = there (next bytes) refl
    where
      there : (o : Option (A × List ℕ)) → next bytes ≡ o → (x : A × List ℕ) × (next bytes ≡ Some x)
      there (Some x) e = (x, e)
      there None e = let over = ends_here bytes e ends in absurd (cc)

  -- at an end nothing is read
  pub nothing_read : (bytes : List ℕ) → is_end bytes ≡ true → next bytes ≡ None
  nothing_read [] e = unread (next []) refl
    where
      unread : (o : Option (A × List ℕ)) → next [] ≡ o → o ≡ None
      unread (Some x) is = let less = fewer next lists.takes [] x.0 x.1 is in absurd (omega arith)
      unread None is = refl
  nothing_read (mark ∷ rest) e =
      let P : ℕ → Type 0 = λ m. next (m ∷ rest) ≡ None in
      subst P (sym (eqb-true mark END e)) (lists.stops rest)

  -- bytes after an end stand at an end
  after_ends : (bytes end : List ℕ) → after END bytes ≡ Some end → is_end bytes ≡ true
  after_ends [] end e = refl
  after_ends (mark ∷ rest) end e = told_end (mark == END) e
    where
      told_end : (b : Bool) → (if b then Some rest else None) ≡ Some end → b ≡ true
      told_end true e = refl
      told_end false e = absurd cc

  -- a list that is closed ends
  pub closes_ends : (bytes end : List ℕ) → Closes next bytes end → Ends next bytes
  closes_ends bytes end e = after_ends (all_of next bytes).1 end e

  -- what follows a closed list follows its end
  pub closes : (bytes : List ℕ) (x : List A × List ℕ) → closed next bytes ≡ Some x
      → Closes next bytes x.1
  closes bytes x e = sym (closed_rest next bytes) ∙ ap rest_of e

  -- after its first value a list is closed by the same end
  pub closes_on : (bytes : List ℕ) (a : A) (rest end : List ℕ) → next bytes ≡ Some (a, rest)
      → Closes next bytes end → Closes next rest end
  closes_on bytes a rest end e so =
      sym (ap (λ (r : List A × List ℕ). after END r.1) (all_on next lists.takes bytes a rest e))
      ∙ so

  -- and so it is after a turn that leaves what follows the value
  pub closes_turn : (bytes behind end : List ℕ) → is_end bytes ≡ false
      → (Ends next bytes → Leaves next bytes behind) → Closes next bytes end
      → Closes next behind end
  closes_turn bytes behind end more leaves so =
      let ends = closes_ends bytes end so in
      let there = ends_some bytes ends more in
      let same : behind ≡ there.0.1 = leaves ends there.0.0 there.0.1 there.1 in
      ap (λ (l : List ℕ). after END (all_of next l).1) same
      ∙ closes_on bytes there.0.0 there.0.1 end there.1 so

  -- at an end the list is closed there
  pub closes_done : (bytes end : List ℕ) → is_end bytes ≡ true → Closes next bytes end
      → after END bytes ≡ Some end
  closes_done bytes end e so =
      sym (ap (λ (r : List A × List ℕ). after END r.1) (all_end next bytes (nothing_read bytes e)))
      ∙ so

  -- a list ends where there is one, and nothing does where there is none
  pub closed_ends : (has : Bool) (bytes : List ℕ) (x : List A × List ℕ)
      → closed_if has next bytes ≡ Some x → Ends next (if has then bytes else [])
  unfolding closed_if
  closed_ends true bytes x e = closes_ends bytes x.1 (closes bytes x e)
  closed_ends false bytes x e = ap (λ (r : List A × List ℕ). is_end r.1) (all_nothing next)

-- no part follows an attribute
pub attr_followed : (table bytes : List ℕ) (a : AttrName × List Part) (rest : List ℕ)
    → attr_at table bytes ≡ Some (a, rest) → Ends (attr_at table) bytes → part_end rest ≡ None
attr_followed table bytes a rest e ends = told_marks (part_end rest) refl
  where
    told_marks : (o : Option (List ℕ)) → part_end rest ≡ o → o ≡ None
    told_marks None is = refl
    told_marks (Some end) is =
        let over =
        ends_here (attr_at table) (attr_lists table) rest (no_start table rest end is)
        (ends_on (attr_at table) (attr_lists table) bytes a rest e ends) in
        let none = end_no_part rest over in
        absurd (cc)

-- all parts of a value are read
none_left : (bytes : List ℕ) (o : Option (Part × List ℕ)) → part_at bytes ≡ o → length bytes ≤ 0
    → part_at bytes ≡ None
none_left bytes (Some x) is few =
    let less = fewer part_at part_takes bytes x.0 x.1 is in
    absurd (omega arith)
none_left bytes None is few = is

-- after a part as many are read as are left, and then none
stopped_step : (n : ℕ) (bytes : List ℕ) (o : Option (Part × List ℕ)) → part_at bytes ≡ o
    → length bytes ≤ suc n
    → ((rest : List ℕ) → length rest ≤ n → part_at (run_at part_at n rest).1 ≡ None)
    → part_at (run_step (run_at part_at n) bytes o).1 ≡ None
stopped_step n bytes (Some x) is few more =
    let less = fewer part_at part_takes bytes x.0 x.1 is in
    more x.1 (omega arith)
stopped_step n bytes None is few more = is

-- no part is left after as many as there are bytes
stopped : (n : ℕ) (bytes : List ℕ) → length bytes ≤ n → part_at (run_at part_at n bytes).1 ≡ None
stopped zero bytes few = none_left bytes (part_at bytes) refl few
stopped (suc n) bytes few = stopped_step n bytes (part_at bytes) refl few (stopped n)

-- no part follows a value
pub value_stops : (bytes : List ℕ) → part_at (behind_value bytes) ≡ None
unfolding all_of
value_stops bytes = stopped (length bytes) bytes (omega arith)

module _ (table : List ℕ) (levels : ℕ) (bytes : List ℕ) (a : Item) (rest : List ℕ)
    (e : item_at table levels bytes ≡ Some (a, rest)) where
  -- a mark of a part begins a text, and no other
  pub item_marked : is_some (part_at bytes) ≡ is_some (part_end bytes)
  unfolding item_by
  item_marked = both (part_at bytes) (part_end bytes) refl refl
    where
      both : (o : Option (Part × List ℕ)) (end : Option (List ℕ)) → part_at bytes ≡ o
          → part_end bytes ≡ end → is_some o ≡ is_some end
      both (Some x) (Some end) is marks = refl
      both (Some x) None is marks = let so = part_followed bytes x is in absurd (cc)
      both None (Some end) is marks =
          let nothing : item_at table levels bytes ≡ None =
          rw (is, no_node_at table levels bytes end marks) refl in
          absurd (cc)
      both None None is marks = refl

  -- no part follows a text
  pub text_followed : is_some (part_at bytes) ≡ true → Ends (item_at table levels) bytes
      → (rest ≡ behind_value bytes) × (part_end (behind_value bytes) ≡ None)
  unfolding item_by
  text_followed some ends = (same, told_marks (part_end (behind_value bytes)) refl)
    where
      same : rest ≡ behind_value bytes
      same =
          let text : item_at table levels bytes
          ≡ Some (item.Text (value_at [] bytes), behind_value bytes) = rw some refl in
          ap (λ (x : Item × List ℕ). x.1)
          (some_same (a, rest) (item.Text (value_at [] bytes), behind_value bytes) (sym e ∙ text))

      told_marks : (o : Option (List ℕ)) → part_end (behind_value bytes) ≡ o → o ≡ None
      told_marks None is = refl
      told_marks (Some end) is =
          let nothing : item_at table levels (behind_value bytes) ≡ None =
          rw (value_stops bytes, no_node_at table levels (behind_value bytes) end is) refl in
          let on : Ends (item_at table levels) (behind_value bytes) =
          subst (Ends (item_at table levels)) same
          (ends_on (item_at table levels) (item_lists table levels) bytes a rest e ends) in
          let none =
          end_no_part (behind_value bytes) (ends_here (item_at table levels)
          (item_lists table levels) (behind_value bytes) nothing on) in
          absurd (cc)

  -- what is no text is a node, and the same follows it
  pub node_followed : is_some (part_at bytes) ≡ false
      → (n : Node) × (node_at table levels bytes ≡ Some (n, rest))
  node_followed none =
      let same : rest_of (node_at table levels bytes) ≡ Some rest =
      sym (item_by_rest (node_at table levels) bytes ∙ ap (λ (b : Bool).
      if b then Some (behind_value bytes) else rest_of (node_at table levels bytes)) none)
      ∙ ap rest_of e in
      rest_some (node_at table levels bytes) rest same

-- ---- the parts of a node, and what follows it

-- the parts of a node that is read: its mark, its attributes and its content
pub record Parts (table : List ℕ) (levels : ℕ) (bytes rest : List ℕ) : Type 0 where
  pub some : 0 < levels
  pub mark : ℕ
  pub behind : List ℕ
  pub attrs : List (AttrName × List Part) × List ℕ
  pub kids : List Item × List ℕ
  pub first : first_of bytes ≡ Some (mark, behind)
  pub attrs_read : closed_if (has_attributes mark) (attr_at table) behind ≡ Some attrs
  pub kids_read : closed_if (has_content mark) (item_at table (levels - 1)) attrs.1 ≡ Some kids
  pub is : rest ≡ kids.1

-- a node that is read has these parts
parts_by : (table : List ℕ) (levels : ℕ) (bytes : List ℕ) (found : Node) (rest : List ℕ)
    → 0 < levels → node_by table (item_at table (levels - 1)) bytes ≡ Some (found, rest)
    → Parts table levels bytes rest
unfolding node_by
parts_by table levels bytes found rest some e =
    let a = bound (first_of bytes) _ (found, rest) e in
    let b = bound (tag_of 0 (a.0.0 % 64)) _ (found, rest) a.2 in
    let c =
    bound (closed_if (has_attributes a.0.0) (attr_at table) a.0.1) _ (found, rest) b.2 in
    let d =
    bound (closed_if (has_content a.0.0) (item_at table (levels - 1)) c.0.1) _
    (found, rest) c.2 in
    record {
      some = some;
      mark = a.0.0;
      behind = a.0.1;
      attrs = c.0;
      kids = d.0;
      first = a.1;
      attrs_read = c.1;
      kids_read = d.1;
      is =
          ap (λ (x : Node × List ℕ). x.1)
          (sym (some_same (node b.0 c.0.0 d.0.0, d.0.1) (found, rest) d.2));
    }

-- and so does a node of any levels
pub node_parts : (table : List ℕ) (levels : ℕ) (bytes : List ℕ) (found : Node) (rest : List ℕ)
    → node_at table levels bytes ≡ Some (found, rest) → Parts table levels bytes rest
unfolding node_at
node_parts table zero bytes found rest e = absurd cc
node_parts table (suc levels) bytes found rest e =
    let same : levels ≡ suc levels - 1 = omega arith in
    parts_by table (suc levels) bytes found rest (omega arith)
    (ap (λ (n : ℕ). node_by table (item_at table n) bytes) (sym same) ∙ e)

-- ---- loops

-- each turn of a loop leaves fewer bytes
pub rest_shorter : (bytes rest : List ℕ) → is_end bytes ≡ false → IsBehind rest (drop 1 bytes)
    → length rest < length bytes
rest_shorter [] rest more is = absurd cc
rest_shorter (mark ∷ bytes) rest more is = let left = behind_left rest bytes is in omega arith

-- at an end the rest is after its byte
pub done_first : (bytes end : List ℕ) → after END bytes ≡ Some end → drop 1 bytes ≡ end
done_first bytes end e = sym (after_is END bytes end e)

module _ {A : Type 0} (next : Reader A) (lists : Lists next) where
  -- what a loop leaves, whose turns keep the end
  pub closed_leaves : (bytes rest : List ℕ)
      → ((end : List ℕ) → Closes next bytes end → Closes next rest end) → is_end rest ≡ true
      → Leaves (closed next) bytes (drop 1 rest)
  closed_leaves bytes rest keeps over = λ a behind e.
      done_first rest behind (closes_done next lists rest behind over
      (keeps behind (closes next lists bytes (a, behind) e)))

-- ---- what follows items and nodes

-- what follows a text follows the item
pub item_text : (table : List ℕ) (levels : ℕ) (bytes end rest : List ℕ) → part_end bytes ≡ Some end
    → Ends (item_at table levels) bytes
    → (part_end (behind_value end) ≡ None → rest ≡ behind_value end)
    → Leaves (item_at table levels) bytes rest
item_text table levels bytes end rest e ends exact = λ a behind read.
    let some : is_some (part_at bytes) ≡ true =
    item_marked table levels bytes a behind read ∙ ap is_some e in
    let follows = text_followed table levels bytes a behind read some ends in
    let same : behind_value end ≡ behind_value bytes =
    value_on bytes end (behind_value bytes) e follows.1 refl in
    exact (ap part_end same ∙ follows.1) ∙ same ∙ sym follows.0

-- what follows a node follows the item
pub item_node : (table : List ℕ) (levels : ℕ) (bytes rest : List ℕ) → part_end bytes ≡ None
    → Leaves (node_at table levels) bytes rest → Leaves (item_at table levels) bytes rest
item_node table levels bytes rest e exact = λ a behind read.
    let none : is_some (part_at bytes) ≡ false = ap is_some (no_part bytes e) in
    let node = node_followed table levels bytes a behind read none in
    exact node.0 behind node.1

-- what follows the attributes and the content of a node follows the node
pub node_leaves : (table : List ℕ) (levels : ℕ) (bytes : List ℕ) (mark : ℕ)
    (behind head rest : List ℕ) → first_of bytes ≡ Some (mark, behind)
    → Leaves (closed_if (has_attributes mark) (attr_at table)) behind head
    → (0 < levels → Leaves (closed_if (has_content mark) (item_at table (levels - 1))) head rest)
    → Leaves (node_at table levels) bytes rest
node_leaves table levels bytes mark behind head rest e attrs kids = λ a after_node read.
    let parts = node_parts table levels bytes a after_node read in
    let same = some_same (parts.mark, parts.behind) (mark, behind) (sym parts.first ∙ e) in
    let marks : parts.mark ≡ mark = ap (λ (x : ℕ × List ℕ). x.0) same in
    let behinds : parts.behind ≡ behind = ap (λ (x : ℕ × List ℕ). x.1) same in
    let attrs_read : closed_if (has_attributes mark) (attr_at table) behind ≡ Some parts.attrs =
    ap (λ (x : ℕ × List ℕ). closed_if (has_attributes x.0) (attr_at table) x.1) (sym same)
    ∙ parts.attrs_read in
    let there : head ≡ parts.attrs.1 = attrs parts.attrs.0 parts.attrs.1 attrs_read in
    let kids_read : closed_if (has_content mark) (item_at table (levels - 1)) head
    ≡ Some parts.kids =
    ap (λ (m : ℕ). closed_if (has_content m) (item_at table (levels - 1)) head) (sym marks)
    ∙ ap (closed_if (has_content parts.mark) (item_at table (levels - 1))) there
    ∙ parts.kids_read in
    kids parts.some parts.kids.0 parts.kids.1 kids_read ∙ sym parts.is

-- where no byte is left, no node is read
pub none_leaves : (table : List ℕ) (levels : ℕ) (bytes rest : List ℕ) → first_of bytes ≡ None
    → Leaves (node_at table levels) bytes rest
none_leaves table levels bytes rest e = λ a behind read.
    let parts = node_parts table levels bytes a behind read in
    let first = parts.first in
    absurd (cc)

-- a list that is there leaves what it leaves closed
pub list_leaves : {A : Type 0} (has : Bool) (next : Reader A) (bytes rest : List ℕ) → has ≡ true
    → Leaves (closed next) bytes rest → Leaves (closed_if has next) bytes rest
unfolding closed_if
list_leaves true next bytes rest is exact = exact
list_leaves false next bytes rest is exact = absurd cc

-- a list that is not there leaves all
pub no_list_leaves : {A : Type 0} (has : Bool) (next : Reader A) (bytes : List ℕ) → has ≡ false
    → Leaves (closed_if has next) bytes bytes
unfolding closed_if
no_list_leaves {A = A} false next bytes is =
    λ a behind read. ap (λ (x : List A × List ℕ). x.1) (some_same ([], bytes) (a, behind) read)
no_list_leaves true next bytes is = absurd cc

-- an attribute is read by its start and its value
pub attr_read : (table bytes : List ℕ) (attr : AttrName) (begun value : List ℕ)
    → start_at table bytes ≡ Some ((attr, begun), value)
    → attr_at table bytes ≡ Some ((attr, value_at begun value), behind_value value)
unfolding attr_at
attr_read table bytes attr begun value e = rw e refl

-- without a start there is no attribute
pub no_attr : (table bytes : List ℕ) → start_at table bytes ≡ None → attr_at table bytes ≡ None
unfolding attr_at
no_attr table bytes e = rw e refl

-- ---- what follows numbers and attributes

-- what follows a number is behind it, however it was read
number_by : (bytes : List ℕ) (n : ℕ) (rest : List ℕ) (read : Result (ℕ × ℕ) ReadFault)
    → number_from bytes read ≡ Some (n, rest) → IsBehind rest bytes
number_by bytes n rest (Ok read) e =
    subst (λ (l : List ℕ). IsBehind l bytes) (ap (λ (x : ℕ × List ℕ). x.1)
    (some_same (read.0, drop read.1 bytes) (n, rest) e)) (behind_drop read.1 bytes)
number_by bytes n rest (Err fault) e = absurd cc

-- what follows a number is behind it
pub number_behind : (bytes : List ℕ) (n : ℕ) (rest : List ℕ) → number_at bytes ≡ Some (n, rest)
    → IsBehind rest bytes
unfolding number_at
number_behind bytes n rest e = number_by bytes n rest (mb_at bytes 0) e

-- where the rest of a value begins
abbrev pub IsValueIn : List ℕ → List ℕ → List ℕ → Type 0
IsValueIn table bytes value = (x : Start × List ℕ) → start_at table bytes ≡ Some x → value ≡ x.1

-- the value after a start by name follows the number of its index
named_number : (table bytes : List ℕ) (x : Start × List ℕ) → named_at table bytes ≡ Some x
    → (n : ℕ × List ℕ) × (number_at bytes ≡ Some n) × (n.1 ≡ x.1)
unfolding named_at
named_number table bytes x e =
    let a = bound (number_at bytes) _ x e in
    let b = bound (attr_named (string_from table a.0.0)) _ x a.2 in
    (a.0, a.1, ap (λ (y : Start × List ℕ). y.1) (some_same ((b.0, []), a.0.1) x b.2))

-- where a name starts an attribute, its value follows the number
pub value_behind_number : (table : List ℕ) (mark : ℕ) (bytes value : List ℕ) → mark ≡ LITERAL
    → Leaves number_at bytes value → IsValueIn table (mark ∷ bytes) value
unfolding start_at
value_behind_number table mark bytes value is leaves = λ x e. by_mark x (mark == LITERAL) refl e
  where
    by_mark : (x : Start × List ℕ) (b : Bool) → (mark == LITERAL) ≡ b
        → (if b then named_at table bytes else (attr_start 0 mark >>= λ start. Some (start, bytes)))
        ≡ Some x
        → value ≡ x.1
    by_mark x true at e =
        let read = named_number table bytes x e in
        leaves read.0.0 read.0.1 read.1 ∙ read.2
    by_mark x false at e = let same = eq-eqb mark LITERAL is in absurd (cc)

-- where a code does, its value follows the mark
pub value_behind_mark : (table : List ℕ) (mark : ℕ) (bytes : List ℕ) → (mark ≡ LITERAL → ⊥)
    → IsValueIn table (mark ∷ bytes) bytes
unfolding start_at
value_behind_mark table mark bytes isnt = λ x e. by_mark x (mark == LITERAL) refl e
  where
    by_mark : (x : Start × List ℕ) (b : Bool) → (mark == LITERAL) ≡ b
        → (if b then named_at table bytes else (attr_start 0 mark >>= λ start. Some (start, bytes)))
        ≡ Some x
        → bytes ≡ x.1
    by_mark x true at e = absurd (isnt (eqb-true mark LITERAL at))
    by_mark x false at e =
        let a = bound (attr_start 0 mark) _ x e in
        ap (λ (y : Start × List ℕ). y.1) (some_same (a.0, bytes) x a.2)

-- an attribute that is read has a start, and ends where its value does
attr_start_of : (table bytes : List ℕ) (a : AttrName × List Part) (behind : List ℕ)
    → attr_at table bytes ≡ Some (a, behind)
    → (x : Start × List ℕ) × (start_at table bytes ≡ Some x) × (behind_value x.1 ≡ behind)
unfolding attr_at
attr_start_of table bytes a behind e =
    let x = bound (start_at table bytes) _ (a, behind) e in (
      x.0,
      x.1,
      ap (λ (y : (AttrName × List Part) × List ℕ). y.1)
          (some_same ((x.0.0.0, value_at x.0.0.1 x.0.1), behind_value x.0.1) (a, behind) x.2),
    )

-- what follows its value follows an attribute
pub attr_leaves : (table bytes value rest : List ℕ) → IsValueIn table bytes value
    → (part_end (behind_value value) ≡ None → rest ≡ behind_value value)
    → Ends (attr_at table) bytes → Leaves (attr_at table) bytes rest
attr_leaves table bytes value rest there exact ends = λ a behind e.
    let start = attr_start_of table bytes a behind e in
    let same : behind_value value ≡ behind = ap behind_value (there start.0 start.1) ∙ start.2 in
    exact (ap part_end same ∙ attr_followed table bytes a behind e ends) ∙ same

-- what is left is told by the mark and the bytes after it
pub first_leaves : {A : Type 0} (next : Reader A) (bytes : List ℕ) (mark : ℕ) (behind rest : List ℕ)
    → first_of bytes ≡ Some (mark, behind)
    → (Ends next (mark ∷ behind) → Leaves next (mark ∷ behind) rest) → Ends next bytes
    → Leaves next bytes rest
first_leaves next bytes mark behind rest e leaves =
    let P : List ℕ → Type 0 = λ l. Ends next l → Leaves next l rest in
    subst P (sym (first_is bytes mark behind e)) leaves

-- what is behind the bytes after the first is behind all but the first
pub behind_of_first : (bytes : List ℕ) (mark : ℕ) (behind rest : List ℕ)
    → first_of bytes ≡ Some (mark, behind) → IsBehind rest behind → IsBehind rest (drop 1 bytes)
behind_of_first bytes mark behind rest e is =
    subst (λ (l : List ℕ). IsBehind rest (drop 1 l)) (sym (first_is bytes mark behind e)) is

-- ---- where the content of a node begins

-- where the content begins, by the mark of its node
content_by : (table bytes : List ℕ) (mark : ℕ) (rest begin : List ℕ)
    → first_of bytes ≡ Some (mark, rest) → kids_begin table bytes ≡ Some begin →
    (r : List ℕ) × (rest_of (closed_if (has_attributes mark) (attr_at table) rest) ≡ Some r)
    × (Some (if has_content mark then r else []) ≡ Some begin)
unfolding kids_begin
content_by table bytes mark rest begin first e =
    let here =
    ap (λ (o : Option (ℕ × List ℕ)). o >>= λ x. rest_of (closed_if (has_attributes x.0)
    (attr_at table) x.1) >>= λ r. Some (if has_content x.0 then r else [])) (sym first) ∙ e in
    bound (rest_of (closed_if (has_attributes mark) (attr_at table) rest))
    (λ r. Some (if has_content mark then r else [])) begin here

-- where there is content, it follows the attributes
pub content_there : (bytes : List ℕ) (mark : ℕ) (rest begin : List ℕ)
    → first_of bytes ≡ Some (mark, rest) → has_content mark ≡ true
    → ((table : List ℕ) → Leaves (closed_if (has_attributes mark) (attr_at table)) rest begin)
    → IsContent bytes begin
content_there bytes mark rest begin first has leaves = λ table there e.
    let r = content_by table bytes mark rest there first e in
    let read = rest_some (closed_if (has_attributes mark) (attr_at table) rest) r.0 r.1 in
    let same : r.0 ≡ there =
    some_same r.0 there (ap (λ (b : Bool). Some (if b then r.0 else [])) (sym has) ∙ r.2) in
    leaves table read.0 r.0 read.1 ∙ same

-- where there is none, nothing does
pub no_content_there : (bytes : List ℕ) (mark : ℕ) (rest : List ℕ)
    → first_of bytes ≡ Some (mark, rest) → has_content mark ≡ false → IsContent bytes []
no_content_there bytes mark rest first has = λ table there e.
    let r = content_by table bytes mark rest there first e in
    some_same [] there (ap (λ (b : Bool). Some (if b then r.0 else [])) (sym has) ∙ r.2)

-- where no byte is left, there is no node whose content begins
pub nothing_there : (bytes begin : List ℕ) → first_of bytes ≡ None → IsContent bytes begin
unfolding kids_begin
nothing_there bytes begin first = λ table there e.
    let none =
    ap (λ (o : Option (ℕ × List ℕ)). o >>= λ x. rest_of (closed_if (has_attributes x.0)
    (attr_at table) x.1) >>= λ r. Some (if has_content x.0 then r else [])) (sym first) ∙ e in
    absurd (cc)

-- nothing is behind all bytes
pub behind_nothing : (bytes : List ℕ) → IsBehind [] bytes
behind_nothing bytes = record { front = bytes; split = sym (append-nil bytes) }
