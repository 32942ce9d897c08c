-- What a walk from child to child finds.
use Rattle.std.proofs.Common.{◌≡◌, ◌≢◌, ℕ, zero, suc, ◌+◌, ◌-◌, ◌<◌, Bool, List, [], ◌∷◌, ◌++◌}
use Rattle.std.proofs.Common.{length, get_or, take, drop, add-one, drop-cons, Option, Some, None}
use Rattle.std.proofs.Common.{Result, Ok, Err, refl, sym, ap, subst, ◌∙◌, append_assoc, arith}
use Rattle.std.specs.Prelude.{OnOk}
use Rattle.std.specs.List.{filter_map, flat_map, cons_option, list_all}
use Rattle.std.proofs.Math.Seq.{take-suc}
use Rattle.wap_tokens.specs.declared.markup.deck.Item.TheVariants.{outs-Node}
use Rattle.wap_tokens.specs.declared.markup.deck.Item.TheVariants as item
use Rattle.wap_deckcheck.specs.declared.walk.Walk.{Walk}
use Rattle.wap_deckcheck.specs.Reached.{HasReached}
use Rattle.std.specs.Option.{option_and_then, option_to_list}
use Rattle.std.proofs.lemmas.Grind.{flat_map-append}
use Rattle.std.proofs.lemmas.List.Elements.{filter_map-append}
use Rattle.std.proofs.lemmas.List.{append-nil}
use Rattle.wap_tokens.specs.declared.markup.deck.Node.{Node}
use Rattle.wap_tokens.specs.declared.markup.deck.Item.{Item, out-Item}
use Rattle.wap_tokens.specs.declared.markup.deck.Item.TheOpen.{Item-F}
use Rattle.wap_tokens.specs.markup.Trees.{node_from, node_of}
use Rattle.wap_tokens.specs.markup.Good.{Rule, rule_of, nodes_in, place_in, is_not_behind, tags_of}
use Rattle.wap_deckcheck.specs.declared.fault.DeckFault.{DeckFault}
use Rattle.wap_deckcheck.specs.declared.fault.DeckFault.TheVariants as fault
use Rattle.wap_deckcheck.specs.Places.{own_id, ids_among, own_name, names_among}
use Rattle.wap_deckcheck.specs.Places.{Place, Level, inner_places, path_behind}
use Rattle.wap_deckcheck.specs.Places.{items_places, names_level, node_places}
use Rattle.wap_deckcheck.specs.Faults.{is_misplaced, is_taken, fault_if, own_faults}
use Rattle.wap_deckcheck.specs.Faults.{node_faults, faults_at, first_fault, Judges}
use Rattle.wap_deckcheck.specs.inside.Walks.{judged, inner_faults, item_faults}

-- ---- faults

pub first_stays : (some more : List DeckFault) (told : DeckFault) → first_fault some ≡ Some told →
    first_fault (some ++ more) ≡ Some told
first_stays [] more told is = absurd (cc is)
first_stays (first ∷ some) more told is = is

module _ (level : Level) (others : List (List ℕ)) (path : List ℕ) where
  pub inner_split : (found : Option Node) →
      node_faults path others (option_and_then level.own found) found
      ++ judged (inner_places level others path found)
      ≡ inner_faults level.own level.inner others path found
  inner_split None = refl
  inner_split (Some node) =
      append_assoc (own_faults path node)
      (fault_if (is_taken others (level.own node)) (fault.DuplicateId path))
      (judged (level.inner (others ++ option_to_list (level.own node)) path node))

module _ (level : Level) (path : List ℕ) (rule : Rule) (earlier : List Item) (item : Item)
    (items : List Item) where
  pub one_step : judged (items_places level path rule earlier (item ∷ items)) ≡
      item_faults level.own level.inner (level.others earlier)
      (path_behind path earlier) rule earlier item
      ++ judged (items_places level path rule (earlier ++ item ∷ []) items)
  one_step =
      let here = path_behind path earlier in
      let inner : List Place = inner_places level (level.others earlier) here (node_of item) in
      let rest : List Place = items_places level path rule (earlier ++ item ∷ []) items in
      let child : List DeckFault = fault_if (is_misplaced rule earlier item) (fault.Child here) in
      let own : List DeckFault =
      node_faults here (level.others earlier) (option_and_then level.own (node_of item))
      (node_of item) in
      ap (λ (some : List DeckFault). (child ++ own) ++ some) (flat_map-append faults_at inner rest)
      ∙ sym (append_assoc (child ++ own) (judged inner) (judged rest)) ∙
      ap (λ (some : List DeckFault). some ++ judged rest)
      (append_assoc child own (judged inner) ∙ ap (λ (some : List DeckFault). child ++ some)
      (inner_split level (level.others earlier) here (node_of item)))

-- ---- levels

pub deeper : (levels : ℕ) (apart : Bool) (names : List (List ℕ)) (path : List ℕ)
    (node : Node) → 0 < levels →
    node_places levels apart names path node
    ≡ items_places (names_level (node_places (levels - 1) apart) apart levels names) path
    (rule_of node.tag) [] node.kids
unfolding node_places
deeper levels apart names path node some =
    let e : suc (levels - 1) ≡ levels = omega arith in
    let P : ℕ → Type 0 =
    λ all. node_places all apart names path node ≡ items_places (names_level
    (node_places (levels - 1) apart) apart all names) path (rule_of node.tag) [] node.kids in
    subst P e refl

pub no_deeper : (apart : Bool) (names : List (List ℕ)) (path : List ℕ) (node : Node) →
    judged (node_places 0 apart names path node) ≡ []
unfolding node_places
no_deeper apart names path node = refl

-- ---- names

pub names-append : (apart : Bool) (levels : ℕ) (items more : List Item) →
    names_among apart levels (items ++ more)
    ≡ names_among apart levels items ++ names_among apart levels more
names-append apart zero items more = refl
names-append apart (suc levels) items more =
    let below : Node → List Node = λ node. node ∷ nodes_in levels node.kids in
    ap (λ nodes. filter_map (own_name apart) (flat_map below nodes))
    (filter_map-append node_of items more) ∙
    ap (filter_map (own_name apart))
    (flat_map-append below (filter_map node_of items) (filter_map node_of more)) ∙
    filter_map-append (own_name apart) (flat_map below (filter_map node_of items))
    (flat_map below (filter_map node_of more))

pub cons_to_list : (found : Option (List ℕ)) (rest : List (List ℕ)) →
    cons_option found rest ≡ option_to_list found ++ rest
cons_to_list None rest = refl
cons_to_list (Some name) rest = refl

pub names_in_node : (apart : Bool) (levels : ℕ) (item : Item) (node : Node) →
    out-Item item ≡ Item-F.Node node →
    names_among apart (suc levels) (item ∷ [])
    ≡ option_to_list (own_name apart node) ++ names_among apart levels node.kids
names_in_node apart levels item node is =
    let below : Node → List Node = λ one. one ∷ nodes_in levels one.kids in
    ap
    (λ level. filter_map (own_name apart) (flat_map below (cons_option (node_from level) []))) is ∙
    cons_to_list (own_name apart node)
    (filter_map (own_name apart) (nodes_in levels node.kids ++ [])) ∙
    ap (λ nodes. option_to_list (own_name apart node) ++ filter_map (own_name apart) nodes)
    (append-nil (nodes_in levels node.kids))

pub ids-append : (items more : List Item) →
    ids_among (items ++ more) ≡ ids_among items ++ ids_among more
ids-append items more =
    ap (filter_map own_id) (filter_map-append node_of items more)
    ∙ filter_map-append own_id (filter_map node_of items) (filter_map node_of more)

pub names_none : (apart : Bool) (levels : ℕ) → names_among apart levels [] ≡ []
names_none apart zero = refl
names_none apart (suc levels) = refl

-- ---- exits

pub exits : {X : Type 0} (r : Result X DeckFault) (told : DeckFault) (whole : List DeckFault) →
    r ≡ Err told → (told ≢ fault.NoMemory → first_fault whole ≡ Some told) → Judges r whole
exits {X} r told whole is judges =
    let J : Result X DeckFault → Type 0 = λ r. Judges r whole in
    subst J (sym is) judges

pub exits_own : {X : Type 0} (own : Node → Option (List ℕ))
    (inner : List (List ℕ) → List ℕ → Node → List Place) (others : List (List ℕ)) (path : List ℕ)
    (it : Item) (node : Node) (r : Result X DeckFault) (told : DeckFault) →
    it ≡ item.Node node → r ≡ Err told →
    (told ≢ fault.NoMemory → first_fault (own_faults path node) ≡ Some told) →
    Judges r (inner_faults own inner others path (node_of it))
exits_own own inner others path it node r told is err judges =
    exits r told (inner_faults own inner others path (node_of it)) err
    (λ other.
    ap (λ found. first_fault (inner_faults own inner others path found))
    (ap node_of is ∙ ap node_from (outs-Node node)) ∙
    first_stays (own_faults path node) (fault_if (is_taken others (own node)) (fault.DuplicateId
    path) ++ judged (inner (others ++ option_to_list (own node)) path node)) told (judges other))

-- ---- what a walk has after a node

pub walked_node : {X : Type 0} (apart : Bool) (levels : ℕ) (it : Item) (node : Node)
    (r : Result X DeckFault) (walk taken new : Walk) (own : Option (List ℕ)) →
    it ≡ item.Node node → own ≡ own_name apart node →
    taken ≡ record walk { names = walk.names ++ option_to_list own } →
    OnOk r (new ≡ record taken { names = taken.names ++ names_among apart levels node.kids }) →
    OnOk r (new ≡ record walk { names = walk.names ++ names_among apart (suc levels) (it ∷ []) })
walked_node apart levels it node (Err told) walk taken new own is named took so = tt
walked_node apart levels it node (Ok x) walk taken new own is named took so =
    let below : List (List ℕ) = names_among apart levels node.kids in
    let all : names_among apart (suc levels) (it ∷ [])
    ≡ option_to_list (own_name apart node) ++ below =
    names_in_node apart levels it node (ap out-Item is ∙ outs-Node node) in
    so ∙ ap (λ (walk : Walk). record walk { names = walk.names ++ below }) took ∙
    ap (λ names. record walk { names = names }) (append_assoc walk.names (option_to_list own) below
    ∙ ap (λ own. walk.names ++ (option_to_list own ++ below)) named
    ∙ ap (λ names. walk.names ++ names) (sym all))

-- ---- turns

module _ (kids : List Item) (n : ℕ) (item : Item) (within : n < length kids)
    (is : item ≡ get_or kids n item) where
  pub next_left : drop n kids ≡ item ∷ drop (n + 1) kids
  next_left = rw (add-one, drop-cons kids n item) (ap (λ first. first ∷ drop (suc n) kids) (sym is))

  pub next_before : take (n + 1) kids ≡ take n kids ++ item ∷ []
  next_before =
      rw add-one (take-suc kids n item within) ∙ ap (λ last. take n kids ++ last ∷ []) (sym is)

  pub turn : (level : Level) (path : List ℕ) (rule : Rule) →
      judged (items_places level path rule (take n kids) (drop n kids)) ≡
      item_faults level.own level.inner (level.others (take n kids))
      (path_behind path (take n kids)) rule (take n kids) item
      ++ judged (items_places level path rule (take (n + 1) kids) (drop (n + 1) kids))
  turn level path rule =
      ap (λ left. judged (items_places level path rule (take n kids) left)) next_left
      ∙ one_step level path rule (take n kids) item (drop (n + 1) kids) ∙
      ap (λ earlier. item_faults level.own level.inner (level.others (take n kids))
      (path_behind path (take n kids)) rule (take n kids) item
      ++ judged (items_places level path rule earlier (drop (n + 1) kids))) (sym next_before)

  -- a fault of the next child is the first of those that are left
  pub turn_faulty : (level : Level) (path at : List ℕ) (others : List (List ℕ)) (rule : Rule)
      (whole : List DeckFault) (told : DeckFault) → at ≡ path →
      others ≡ level.others (take n kids) →
      judged (items_places level path rule (take n kids) (drop n kids)) ≡ whole →
      first_fault (item_faults level.own level.inner others (path_behind at (take n kids)) rule
      (take n kids) item) ≡ Some told → first_fault whole ≡ Some told
  turn_faulty level path at others rule whole told same_path same_others so found =
      sym (ap first_fault so) ∙ ap first_fault (turn level path rule) ∙
      first_stays (item_faults level.own level.inner (level.others (take n kids))
      (path_behind path (take n kids)) rule (take n kids) item)
      (judged (items_places level path rule (take (n + 1) kids) (drop (n + 1) kids))) told
      (ap (λ others. first_fault (item_faults level.own level.inner others
      (path_behind path (take n kids)) rule (take n kids) item)) (sym same_others) ∙
      ap (λ path. first_fault (item_faults level.own level.inner others
      (path_behind path (take n kids)) rule (take n kids) item)) (sym same_path) ∙ found)

  pub turn_faultless : (level : Level) (path at : List ℕ) (others : List (List ℕ)) (rule : Rule)
      (whole : List DeckFault) → at ≡ path → others ≡ level.others (take n kids) →
      judged (items_places level path rule (take n kids) (drop n kids)) ≡ whole →
      item_faults level.own level.inner others (path_behind at (take n kids)) rule
      (take n kids) item
      ≡ [] →
      judged (items_places level path rule (take (n + 1) kids) (drop (n + 1) kids)) ≡ whole
  turn_faultless level path at others rule whole same_path same_others so none =
      ap (λ some.
      some ++ judged (items_places level path rule (take (n + 1) kids) (drop (n + 1) kids)))
      (sym (ap (λ others. item_faults level.own level.inner others
      (path_behind path (take n kids)) rule (take n kids) item) (sym same_others) ∙
      ap (λ path. item_faults level.own level.inner others (path_behind path (take n kids)) rule
      (take n kids) item) (sym same_path) ∙ none)) ∙
      sym (turn level path rule) ∙ so

  pub turn_reached : (rule : Rule) (reached : ℕ) →
      HasReached rule (take n kids ++ item ∷ []) reached →
      HasReached rule (take (n + 1) kids) reached
  turn_reached rule reached has place =
      ap (λ items.
      list_all (λ first. is_not_behind (place_in rule.groups first) (Some place)) (tags_of items))
      next_before
      ∙ has place

  pub turn_names : (apart : Bool) (levels : ℕ) (names before : List (List ℕ)) → 0 < levels →
      before ≡ names ++ names_among apart levels (take n kids) →
      before ++ names_among apart (suc (levels - 1)) (item ∷ [])
      ≡ names ++ names_among apart levels (take (n + 1) kids)
  turn_names apart levels names before some so =
      let e : suc (levels - 1) ≡ levels = omega arith in
      ap (λ l. before ++ names_among apart l (item ∷ [])) e
      ∙ ap (λ before. before ++ names_among apart levels (item ∷ [])) so ∙
      append_assoc names (names_among apart levels (take n kids))
      (names_among apart levels (item ∷ [])) ∙
      ap (λ more. names ++ more) (sym (names-append apart levels (take n kids) (item ∷ []))
      ∙ ap (names_among apart levels) (sym next_before))

  pub turn_ids : (before : List (List ℕ)) → before ≡ ids_among (take n kids) →
      before ++ ids_among (item ∷ []) ≡ ids_among (take (n + 1) kids)
  turn_ids before so =
      ap (λ before. before ++ ids_among (item ∷ [])) so ∙ sym (ids-append (take n kids) (item ∷ []))
      ∙ ap ids_among (sym next_before)
