-- A text that is put into a sink piece by piece, and one text after another.
use Rattle.std.proofs.Common.{◌≡◌, ℕ, ◌+◌, ◌<◌, ◌≤◌, List, [], ◌∷◌, ◌++◌, length, take, drop}
use Rattle.std.proofs.Common.{get_or, Result, Ok, Err, refl, sym, ap, ◌∙◌, subst}
use Rattle.std.proofs.Common.{append_assoc, arith}
use Rattle.std.specs.List.{flat_map}
use Rattle.std.proofs.lemmas.List.{length-take, append-nil, nil_from_length, take_more}
use Rattle.std.proofs.lemmas.List.{take-append-drop, take_all}
use Rattle.std.specs.Prelude.{IsErr, true, false, ◌==◌}
use Rattle.std.proofs.lemmas.Bool.{eqb-true}
use Rattle.wap_devices.specs.Transfer.{Appends, AppendsPrefix}
use Rattle.wap_devices.specs.Sinks.{SinkSeen, Writes, Puts}
use Rattle.wap_devices.specs.declared.fault.Failed.{Failed}
use Rattle.wap_devices.proofs.Transfers.{Appends-then, Appends-nil}

-- so far this prefix of a text was put
pub record HasPut (prefix : List ℕ) (before after : SinkSeen) : Type 0 where
  pub taken : Appends before.taken after.taken prefix
  pub untouched : prefix ≡ [] → after ≡ before
  pub faults : after.faults ≡ before.faults

-- the first of two texts is empty where both are together
pub first_nil : (x y : List ℕ) → x ++ y ≡ [] → x ≡ []
first_nil [] y e = refl
first_nil (c ∷ x) y e = absurd cc

-- and so is the second
pub second_nil : (x y : List ℕ) → x ++ y ≡ [] → y ≡ []
second_nil [] y e = e
second_nil (c ∷ x) y e = absurd cc

-- a text is tested for being empty by its length
pub some_from_length : (x : List ℕ) → false ≡ (length x == 0) → 0 < length x
some_from_length [] test = absurd cc
some_from_length (c ∷ x) test = omega arith

-- and one that is empty
pub none_from_length : (x : List ℕ) → true ≡ (length x == 0) → x ≡ []
none_from_length x test = nil_from_length x (eqb-true (length x) 0 (sym test))

-- a write that took nothing moved nothing
pub unmoved_by_none : (rest : List ℕ) (before after : SinkSeen) → Writes rest before after (Ok 0)
    → after.taken ≡ before.taken
unmoved_by_none rest before after wrote = wrote.bytes ∙ sym (Appends-nil before.taken)

-- before anything is put
pub has_put_nothing : (sink : SinkSeen) → HasPut [] sink sink
has_put_nothing sink = record {
  taken = Appends-nil sink.taken;
  untouched = λ _. refl;
  faults = refl;
}

-- a write took some bytes more
pub has_put_more : (prefix rest : List ℕ) (a b c : SinkSeen) (count : ℕ) → HasPut prefix a b
    → Writes rest b c (Ok count) → (count ≡ 0 → ⊥) → HasPut (prefix ++ take count rest) a c
has_put_more prefix rest a b c count put wrote some = record {
  taken =
      Appends-then a.taken b.taken c.taken prefix (take count rest) put.taken wrote.bytes;
  untouched = λ none.
      let empty : length (take count rest)
      ≡ 0 = ap length (second_nil prefix (take count rest) none) in
      absurd (some (omega (arith, empty, length-take count rest, wrote.within)));
  faults = wrote.steady (omega (arith, some)) ∙ put.faults;
}

-- a text that was put to its end
pub puts_whole : {A : Type 0} (prefix rest : List ℕ) (a b : SinkSeen) (done : A)
    → HasPut prefix a b → (text : List ℕ) → text ≡ prefix ++ rest → rest ≡ []
    → Puts text a b (Ok done)
puts_whole prefix rest a b done put text is none =
    let same : text ≡ prefix = is ∙ ap (λ (l : List ℕ). prefix ++ l) none ∙ append-nil prefix in
    record {
      whole = subst (λ (l : List ℕ). Appends a.taken b.taken l) (sym same) put.taken;
      prefix = tt;
      untouched = λ nothing. put.untouched (sym same ∙ nothing);
      counts = omega (arith, put.faults);
      failed = tt;
      steady = put.faults;
    }

-- a text of which a write failed that had taken nothing
pub puts_stopped : {A : Type 0} (prefix rest : List ℕ) (a b c : SinkSeen)
    → HasPut prefix a b → 0 < length rest → c.taken ≡ b.taken
    → b.faults ≤ c.faults → b.faults < c.faults
    → (text : List ℕ) → text ≡ prefix ++ rest → (result : Result A Failed) → IsErr result
    → Puts text a c result
puts_stopped prefix rest a b c put some unmoved counts rose text is (Ok done) failed = absurd cc
puts_stopped prefix rest a b c put some unmoved counts rose text is (Err fault) failed = record {
  whole = tt;
  prefix = (prefix, rest, is, unmoved ∙ put.taken);
  untouched = λ none.
      absurd (omega (arith, some, ap length (second_nil prefix rest (sym is ∙ none))));
  counts = omega (arith, put.faults, counts);
  failed = subst (λ count. count < c.faults) put.faults rose;
  steady = tt;
}

-- ---- one text after another

-- a prefix of a text is one of a longer text
pub prefix_longer : (before after : List ℕ) (text more : List ℕ)
    → AppendsPrefix before after text → AppendsPrefix before after (text ++ more)
prefix_longer before after text more is =
    (is.0, is.1 ++ more, ap (λ (l : List ℕ). l ++ more) is.2 ∙ append_assoc is.0 is.1 more, is.3)

-- a whole text, and a prefix of what follows
pub prefix_then : (before between after : List ℕ) (text more : List ℕ)
    → Appends before between text → AppendsPrefix between after more
    → AppendsPrefix before after (text ++ more)
prefix_then before between after text more whole is = (
  text ++ is.0,
  is.1,
  ap (λ (l : List ℕ). text ++ l) is.2 ∙ sym (append_assoc text is.0 is.1),
  Appends-then before between after text is.0 whole is.3,
)

-- the first text was put whole, and then the second or a prefix of it
pub puts_then : {A B : Type 0} {done : A} (x y : List ℕ) (a b c : SinkSeen) → Puts x a b (Ok done)
    → (result : Result B Failed) → Puts y b c result → Puts (x ++ y) a c result
puts_then x y a b c first (Ok value) second = record {
  whole = Appends-then a.taken b.taken c.taken x y first.whole second.whole;
  prefix = tt;
  untouched = λ none. second.untouched (second_nil x y none) ∙ first.untouched (first_nil x y none);
  counts = omega (arith, first.counts, second.counts);
  failed = tt;
  steady = second.steady ∙ first.steady;
}
puts_then x y a b c first (Err fault) second = record {
  whole = tt;
  prefix = prefix_then a.taken b.taken c.taken x y first.whole second.prefix;
  untouched = λ none. second.untouched (second_nil x y none) ∙ first.untouched (first_nil x y none);
  counts = omega (arith, first.counts, second.counts);
  failed = subst (λ count. count < c.faults) first.steady second.failed;
  steady = tt;
}

-- the first text was not put whole, so the second was not begun
pub puts_fails : {A B : Type 0} {fault : Failed} (x y : List ℕ) (a b : SinkSeen)
    → Puts {A = A} x a b (Err fault) → (result : Result B Failed) → IsErr result
    → Puts (x ++ y) a b result
puts_fails x y a b first (Ok value) failed = absurd cc
puts_fails x y a b first (Err other) failed = record {
  whole = tt;
  prefix = prefix_longer a.taken b.taken x y first.prefix;
  untouched = λ none. first.untouched (first_nil x y none);
  counts = first.counts;
  failed = first.failed;
  steady = tt;
}

-- ---- the texts of a list, one after another

-- the texts of a list and one thing more
pub flat_map-push : {X : Type 0} (f : X → List ℕ) (xs : List X) (x : X)
    → flat_map f (xs ++ x ∷ []) ≡ flat_map f xs ++ f x
flat_map-push f [] x = append-nil (f x)
flat_map-push f (y ∷ xs) x =
    ap (λ (l : List ℕ). f y ++ l) (flat_map-push f xs x)
    ∙ sym (append_assoc (f y) (flat_map f xs) (f x))

-- the texts of two lists
pub flat_map-append : {X : Type 0} (f : X → List ℕ) (xs ys : List X)
    → flat_map f (xs ++ ys) ≡ flat_map f xs ++ flat_map f ys
flat_map-append f [] ys = refl
flat_map-append f (x ∷ xs) ys =
    ap (λ (l : List ℕ). f x ++ l) (flat_map-append f xs ys)
    ∙ sym (append_assoc (f x) (flat_map f xs) (flat_map f ys))

module _ {X : Type 0} (f : X → List ℕ) (xs : List X) (i : ℕ) (d : X) (within : i < length xs) where
  -- the texts of one thing more
  pub one_more : flat_map f (take (i + 1) xs) ≡ flat_map f (take i xs) ++ f (get_or xs i d)
  one_more = ap (flat_map f) (take_more xs i d within) ∙ flat_map-push f (take i xs) (get_or xs i d)

  -- and those of the others after them
  pub with_rest : (flat_map f (take i xs) ++ f (get_or xs i d)) ++ flat_map f (drop (i + 1) xs)
      ≡ flat_map f xs
  with_rest = ap (λ (l : List ℕ). l ++ flat_map f (drop (i + 1) xs)) (sym one_more)
      ∙ sym (flat_map-append f (take (i + 1) xs) (drop (i + 1) xs))
      ∙ ap (flat_map f) (take-append-drop (i + 1) xs)

-- the texts of the first things of a list were put, and then that of the next
pub puts_next : {X A : Type 0} {done : A} (f : X → List ℕ) (xs : List X) (i : ℕ) (d : X)
    → i < length xs
    → (a b c : SinkSeen) → HasPut (flat_map f (take i xs)) a b
    → Puts (f (get_or xs i d)) b c (Ok done) → HasPut (flat_map f (take (i + 1) xs)) a c
puts_next f xs i d within a b c put next = record {
  taken =
      subst (Appends a.taken c.taken) (sym (one_more f xs i d within))
      (Appends-then a.taken b.taken c.taken (flat_map f (take i xs)) (f (get_or xs i d))
      put.taken next.whole);
  untouched = λ none.
      let both = sym (one_more f xs i d within) ∙ none in
      next.untouched (second_nil (flat_map f (take i xs)) (f (get_or xs i d)) both)
      ∙ put.untouched (first_nil (flat_map f (take i xs)) (f (get_or xs i d)) both);
  faults = next.steady ∙ put.faults;
}

-- or that of the next was not put whole
pub puts_next_fails : {X A B : Type 0} {fault : Failed} (f : X → List ℕ) (xs : List X) (i : ℕ)
    (d : X)
    → i < length xs → (a b c : SinkSeen) → HasPut (flat_map f (take i xs)) a b
    → Puts {A = A} (f (get_or xs i d)) b c (Err fault) → (result : Result B Failed)
    → IsErr result → Puts (flat_map f xs) a c result
puts_next_fails {fault = fault} f xs i d within a b c put next result failed =
    let earlier = flat_map f (take i xs) in
    let one = f (get_or xs i d) in
    let nothing : Unit {0} = tt in
    let done : Puts earlier a b (Ok nothing) =
    puts_whole earlier [] a b nothing put earlier (sym (append-nil earlier)) refl in
    subst (λ (text : List ℕ). Puts text a c result) (with_rest f xs i d within)
    (puts_fails (earlier ++ one) (flat_map f (drop (i + 1) xs)) a c
    (puts_then earlier one a b c done (Err fault) next) result failed)

-- the texts of all things of a list were put
pub puts_all : {X A : Type 0} (f : X → List ℕ) (xs : List X) (i : ℕ) → length xs ≤ i
    → (a b : SinkSeen) (done : A) → HasPut (flat_map f (take i xs)) a b
    → Puts (flat_map f xs) a b (Ok done)
puts_all f xs i all a b done put =
    let whole : flat_map f xs ≡ flat_map f (take i xs) ++ [] =
    ap (flat_map f) (sym (take_all i xs all)) ∙ sym (append-nil (flat_map f (take i xs))) in
    puts_whole (flat_map f (take i xs)) [] a b done put (flat_map f xs) whole refl
