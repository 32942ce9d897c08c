-- Places of names and constants, as they are looked up.
use Rattle.std.proofs.Common.{◌≡◌, ℕ, suc, ◌+◌, ◌≤◌, Bool, true, false, cond, not, ltb, List, []}
use Rattle.std.proofs.Common.{◌∷◌, length, map, Option, Some, None, refl, arith, unwrap_or, ap₂}
use Rattle.std.proofs.Common.{◌||◌, ◌++◌, ltb-false}
use Rattle.std.specs.List.{position, position_or_len, list_any}
use Rattle.std.proofs.lemmas.List.{map-append}
use Rattle.indexmap.specs.IndexSet.{insert_key}
use Rattle.std.specs.Map.{lookup}
use Rattle.std.proofs.lemmas.List.Sums.{prefix_len-le-length}
use Rattle.wap_base.specs.Texts.{is_same_text}
use Rattle.wap_meaning.specs.Names.{url_of}
use Rattle.wap_meaning.specs.coding.Constants.{same_literal, place_in, is_in, with_literal}
use Rattle.wap_codegen.specs.contracts.pool.content.ContentPartialEq.TheImpl.{eq-value}
use Rattle.wap_codegen.specs.declared.pool.content.Content.{Content}
use Rattle.wap_codegen.specs.declared.pool.content.Content.TheVariants as content
use Rattle.wap_codegen.specs.pool.inside.Contents.{literal_of}

by_test : (test : Bool) (place count : ℕ) → ltb place count ≡ test → place ≤ count
    → unwrap_or (cond test (Some place) None) count ≡ place
by_test true place count is few = refl
by_test false place count is few = let past = ltb-false place count is in omega arith

-- the place that is found, or that after the last
pub found : {X : Type 0} (p : X → Bool) (xs : List X)
    → unwrap_or (position p xs) (length xs) ≡ position_or_len p xs
found p xs = by_test (ltb (position_or_len p xs) (length xs)) (position_or_len p xs) (length xs)
    refl (prefix_len-le-length (λ x. not (p x)) xs)

one_more : (a b : Bool) (m n : ℕ) → a ≡ b → m ≡ n
    → cond (not a) (1 + m) 0 ≡ cond b 0 (suc n)
one_more true true m n same is = refl
one_more false false m n same is = let next : 1 + m ≡ suc n = omega arith in next
one_more true false m n same is = absurd (cc same)
one_more false true m n same is = absurd (cc same)

-- the place of a constant among others
pub placed_in : (eq : Content → Content → Bool)
    → ((a b : Content) → eq a b ≡ same_literal (literal_of a) (literal_of b))
    → (content : Content) (pool : List Content)
    → position_or_len (eq content) pool ≡ place_in (literal_of content) (map literal_of pool)
placed_in eq same content [] = refl
placed_in eq same content (x ∷ pool) =
    one_more (eq content x) (same_literal (literal_of content) (literal_of x))
    (position_or_len (eq content) pool) (place_in (literal_of content) (map literal_of pool))
    (same content x) (placed_in eq same content pool)

-- constants are the same where their literals are
pub same_content : (a b : Content)
    → eq-value.it a b ≡ same_literal (literal_of a) (literal_of b)
same_content (content.Integer m) (content.Integer n) = refl
same_content (content.Integer m) (content.Text t) = refl
same_content (content.Text s) (content.Integer n) = refl
same_content (content.Text s) (content.Text t) = refl

-- a constant is among others where its literal is
among : (eq : Content → Content → Bool)
    → ((a b : Content) → eq a b ≡ same_literal (literal_of a) (literal_of b))
    → (content : Content) (pool : List Content)
    → list_any (eq content) pool ≡ is_in (literal_of content) (map literal_of pool)
among eq same content [] = refl
among eq same content (x ∷ pool) = ap₂ (λ a b. a || b) (same content x) (among eq same content pool)

chosen : (a b : Bool) (content : Content) (pool : List Content) → a ≡ b
    → map literal_of (cond a pool (pool ++ content ∷ []))
    ≡ cond b (map literal_of pool) (map literal_of pool ++ literal_of content ∷ [])
chosen true true content pool same = refl
chosen false false content pool same = map-append literal_of pool (content ∷ [])
chosen true false content pool same = absurd (cc same)
chosen false true content pool same = absurd (cc same)

-- a constant that is added, if it isn't there yet
pub added_to : (eq : Content → Content → Bool)
    → ((a b : Content) → eq a b ≡ same_literal (literal_of a) (literal_of b))
    → (content : Content) (pool : List Content)
    → map literal_of (insert_key eq pool content)
    ≡ with_literal (map literal_of pool) (literal_of content)
added_to eq same content pool =
    chosen (list_any (eq content) pool) (is_in (literal_of content) (map literal_of pool)) content
    pool (among eq same content pool)

or_empty : (test : Bool) (url found rest : List ℕ) (some : Option (List ℕ))
    → unwrap_or some [] ≡ rest
    → unwrap_or (cond test (Some url) some) [] ≡ cond test url rest
or_empty true url found rest some is = refl
or_empty false url found rest some is = is

-- the URL of a name
pub urled : (name : List ℕ) (urls : List (List ℕ × List ℕ))
    → unwrap_or (lookup (is_same_text name) urls) [] ≡ url_of name urls
urled name [] = refl
urled name (pair ∷ urls) =
    or_empty (is_same_text name pair.0) pair.1 [] (url_of name urls)
    (lookup (is_same_text name) urls) (urled name urls)
