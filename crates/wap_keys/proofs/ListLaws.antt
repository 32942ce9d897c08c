-- Lists of keys, by keys and what stands between lists of them.
use Rattle.std.proofs.Common.{◌≡◌, ◌≢◌, ℕ, ◌+◌, ◌≤◌, Bool, true, false, cond, List, [], ◌∷◌, ◌++◌}
use Rattle.std.proofs.Common.{Option, Some, None, Result, Ok, Err, take, refl, sym, ap, subst, ◌∙◌}
use Rattle.std.proofs.Common.{append-nil, arith}
use Rattle.std.specs.Prelude.{◌||◌, nat_lt, length, IsErr, ◌<◌}
use Rattle.std.specs.List.{AllByRecursion}
use Rattle.std.specs.Bool.{Decides}
use Rattle.std.specs.Str.{bytes_eq}
use Rattle.std.proofs.lemmas.Slice.Eq.{bytes_eq-Decides}
use Rattle.wap_base.specs.declared.fault.NoMemory.{NoMemory}
use Rattle.wap_base.specs.declared.key.Key.{Key}
use Rattle.wap_devices.specs.Sources.{SourceSeen}
use Rattle.wap_keys.specs.declared.limits.TheConstants.{KEYS_LIMIT, LINE_LIMIT}
use Rattle.wap_keys.specs.declared.fault.KeyFault.{KeyFault}
use Rattle.wap_keys.specs.declared.fault.KeyFault.TheVariants.{TooLong}
use Rattle.wap_keys.specs.declared.ending.Ending.{Ending}
use Rattle.wap_keys.specs.declared.ending.Ending.TheVariants.{End, BadKey, TooManyKeys, ReadFault}
use Rattle.wap_keys.specs.Lines.{Line, KeysOf, Keys, lines_of, content, content_key, is_end}
use Rattle.wap_keys.specs.Lines.{line_says, key_before, said_from, said_at, said_of, keys_of}
use Rattle.wap_keys.specs.Read.{ReadsToBy, GivesSomeBy, EndsBy}
use Rattle.wap_keys.specs.declared.lists.item.Item.{Item}
use Rattle.wap_keys.specs.declared.lists.item.Item.TheVariants as item
use Rattle.wap_keys.specs.lists.Lists.{divider, item_of, content_item, all_of, lists_by, lists_in}
use Rattle.wap_keys.specs.lists.Lists.{lists_at, lists_of, HasNoDivider, one_list}
use Rattle.wap_keys.specs.lists.Read.{AreRead, ReadsLists}
use Rattle.wap_keys.proofs.WholeLaws.{said_known}

-- ---- without a line between two lists what lines say as lists is what they say as keys

-- a test of what is not so fails
fails : {P : Type 0} (test : Bool) → Decides test P → (P → ⊥) → test ≡ false
fails true so other = absurd (other (so.0 refl))
fails false so other = refl

-- a line that is no divider says what it says as a key line
chosen : (long whole divides : Bool) (key : Result (Option Key) KeyFault) → divides ≡ false
    → cond long (Err TooLong)
    (cond whole (cond divides (Ok (Some item.Divider)) (item_of key)) (Ok None))
    ≡ item_of (cond long (Err TooLong) (cond whole key (Ok None)))
chosen true whole divides key is = refl
chosen false true divides key is =
    ap (λ (b : Bool). cond b (Ok (Some item.Divider)) (item_of key)) is
chosen false false divides key is = refl

-- it stands before one list as before the keys of that list
before : (number : ℕ) (key : Result (Option Key) KeyFault) (said : KeysOf Item) (keys : Keys)
    → lists_in said ≡ one_list keys
    → lists_in (key_before number (item_of key) said) ≡ one_list (key_before number key keys)
before number (Ok None) said keys is = is
before number (Ok (Some key)) said keys is =
    ap (λ lists. record { first = key ∷ lists.first; others = lists.others; ending = lists.ending })
    is
before number (Err fault) said keys is = refl

-- lines without a divider are one list
from : (ending : Ending) (number : ℕ) (lines : List Line)
    → AllByRecursion (λ (line : Line). content line ≢ divider) lines
    → lists_in (said_from content_item ending number lines)
    ≡ one_list (said_from content_key ending number lines)
from ending number [] all = refl
from ending number (line ∷ lines) (other, all) =
    ap (λ said.
    lists_in (key_before number said (said_from content_item ending (number + 1) lines)))
    (chosen (nat_lt LINE_LIMIT (length line.bytes)) (line.ended || is_end ending)
    (bytes_eq (content line) divider) (content_key (content line))
    (fails (bytes_eq (content line) divider) (bytes_eq-Decides (content line) divider) other))
    ∙ before number (line_says content_key ending line)
    (said_from content_item ending (number + 1) lines)
    (said_from content_key ending (number + 1) lines) (from ending (number + 1) lines all)

-- and so is a source
pub one_list_of : (bytes : List ℕ) → HasNoDivider bytes → lists_of bytes ≡ one_list (keys_of bytes)
unfolding lists_of said_of said_at
one_list_of bytes =
    from (cond (nat_lt KEYS_LIMIT (length bytes)) TooManyKeys End) 1
    (lines_of (take KEYS_LIMIT bytes))

-- ---- lists and the items that follow

-- these items make whole lists, and one that goes on with those that follow
abbrev pub Parts : List Item → List (List Key) → List Key → Type 0
Parts items whole list =
    (rest : List Item) → all_of (lists_by (items ++ rest) End)
    ≡ whole ++ (list ++ (lists_by rest End).first) ∷ (lists_by rest End).others

-- none follows
pub all_parts : (items : List Item) (whole : List (List Key)) (list : List Key)
    → Parts items whole list → whole ++ list ∷ [] ≡ all_of (lists_by items End)
all_parts items whole list parts =
    ap (λ (l : List Key). whole ++ l ∷ []) (sym (append-nil list)) ∙ sym (parts [])
    ∙ ap (λ (l : List Item). all_of (lists_by l End)) (append-nil items)

-- ---- lists that were read

-- they end as what was said
ends_by : (items : List Item) (ending : Ending) → (lists_by items ending).ending ≡ ending
ends_by [] ending = refl
ends_by (item.Key key ∷ items) ending = ends_by items ending
ends_by (item.Divider ∷ items) ending = ends_by items ending

-- by bytes
at_ends : (ending : Ending) (bytes : List ℕ) (items : List Item) (by : Ending)
    → said_at content_item ending bytes ≡ record { keys = items; ending = by }
    → (lists_at ending bytes).ending ≡ by
unfolding lists_at
at_ends ending bytes items by is =
    ap (λ (said : KeysOf Item). (lists_in said).ending) is ∙ ends_by items by

of_is : (bytes : List ℕ) (items : List Item) (by : Ending)
    → said_of content_item bytes ≡ record { keys = items; ending = by }
    → lists_of bytes ≡ lists_by items by
unfolding lists_of
of_is bytes items by is = ap lists_in is

module _ {A : Type 0} (lists_in : A → List (List Key)) {start last : SourceSeen} where
  -- these are the lists of what was said
  pub lists_read : (items : List Item) (ending : Ending) (lists : A)
      → ReadsToBy content_item start last items ending
      → (ending ≡ End → lists_in lists ≡ all_of (lists_by items End))
      → (ending ≢ End → lists_in lists ≡ [])
      → (ending ≡ ReadFault → start.faults < last.faults)
      → (ending ≢ ReadFault → last.faults ≡ start.faults) → start.faults ≤ last.faults
      → ReadsLists {A = A} lists_in start last (Ok (lists, ending))
  lists_read items ending lists (taken, so) all none failed steady counts =
      let ends_as : (by : Ending) → ending ≡ by → EndsBy content_item start last taken items by =
      λ by is. subst (EndsBy content_item start last taken items) is so.ends in
      let read : AreRead start last (lists_in lists) ending = record {
        ending_is = λ no_fault bytes may.
            ap (λ lists. lists.ending) (of_is bytes items ending (said_known so no_fault bytes may))
            ∙ ends_by items ending;
        all = λ is bytes may.
            ap all_of (of_is bytes items ending
            (said_known so (λ fault. end_no_fault (sym is ∙ fault)) bytes may)
            ∙ ap (lists_by items) is) ∙ sym (all is);
        none_left = λ is. (ends_as End is).0;
        none = none;
        too_many = λ is. (taken, (ends_as TooManyKeys is).0, so.given.takes);
        prompt = record {
          earlier = so.just.earlier;
          between = so.just.between;
          some = so.just.before;
          unrefused = at_ends ReadFault so.just.earlier so.just.said ReadFault so.just.says;
          piece = so.just.piece;
          last = so.just.last;
        };
        failed = failed;
        given = λ is.
            let ends = at_ends ReadFault taken items ReadFault (ends_as ReadFault is).1 in
            (taken, so.given.takes, ends);
        steady = steady;
        of_line = λ line is. (ends_as (BadKey line _) is).0 refl;
      } in
      record {
        read = read;
        unread = tt;
        few = (taken, so.given.few, so.given.takes);
        counts = counts;
        end_once = so.given.end_once;
      }
    where
      end_no_fault : End ≡ ReadFault → ⊥
      end_no_fault e = cc

  -- or memory ran out
  pub gives_up : (result : Result (A × Ending) NoMemory) → IsErr result
      → GivesSomeBy content_item start last → last.faults ≡ start.faults
      → ReadsLists {A = A} lists_in start last result
  gives_up (Ok read) failed given steady = absurd cc
  gives_up (Err fault) failed (taken, keys, given) steady = record {
    read = tt;
    unread = steady;
    few = (taken, given.few, given.takes);
    counts = omega (arith, steady);
    end_once = given.end_once;
  }
