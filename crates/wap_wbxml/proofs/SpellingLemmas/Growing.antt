-- Names that come after others.
use Rattle.std.proofs.Common.{◌≡◌, ℕ, zero, suc, ◌≤◌, Bool, true, false, cond, List, []}
use Rattle.std.proofs.Common.{◌∷◌, ◌++◌, refl, sym, ap, ◌∙◌, append_assoc, arith}
use Rattle.std.specs.Prelude.{◌||◌}
use Rattle.std.specs.List.{fold, list_any}
use Rattle.std.proofs.lemmas.Bool.{or_left, or_right}
use Rattle.std.proofs.lemmas.List.{append-nil}
use Rattle.std.proofs.lemmas.List.Folds.{list_any-append}
use Rattle.std.proofs.lemmas.Cmp.{nat_list_eq_equiv}
use Rattle.wap_base.specs.Texts.{is_same_text}
use Rattle.wap_tokens.specs.declared.markup.document.Element.{Element}
use Rattle.wap_tokens.specs.declared.markup.document.Attr.{Attr}
use Rattle.wap_tokens.specs.declared.markup.document.Token.{Token}
use Rattle.wap_tokens.specs.declared.markup.document.Token.TheVariants.{Code, Literal}
use Rattle.wap_tokens.specs.declared.markup.document.Kid.{Kid, out-Kid}
use Rattle.wap_tokens.specs.declared.markup.document.Kid.TheOpen.{Kid-F}
use Rattle.wap_tokens.specs.markup.Grammar.{with_name, table_size}
use Rattle.wap_wbxml.specs.spelling.Names.{Naming, KidLevel, with_token, with_attr}
use Rattle.wap_wbxml.specs.spelling.Names.{with_opened, with_kid, with_element}

-- the same names, and more after them
pub record Grows (names others : List (List ℕ)) : Type 0 where
  pub more : List (List ℕ)
  pub are : others ≡ names ++ more

pub grows_same : (names : List (List ℕ)) → Grows names names
grows_same names = record { more = []; are = sym (append-nil names) }

pub grows_on : {a b c : List (List ℕ)} → Grows a b → Grows b c → Grows a c
grows_on {a = a} one two = record {
  more = one.more ++ two.more;
  are =
      two.are ∙ ap (λ (l : List (List ℕ)). l ++ two.more) one.are
      ∙ append_assoc a one.more two.more;
}

size_append : (names more : List (List ℕ)) → table_size names ≤ table_size (names ++ more)
unfolding table_size
size_append [] more = omega arith
size_append (name ∷ names) more = let rest = size_append names more in omega arith

pub grows-size : (names others : List (List ℕ)) → Grows names others
    → table_size names ≤ table_size others
grows-size names others grown =
    let within = size_append names grown.more in
    let same = ap table_size grown.are in
    omega arith

pub grows-has : (names others : List (List ℕ)) (name : List ℕ) → Grows names others
    → list_any (is_same_text name) names ≡ true → list_any (is_same_text name) others ≡ true
grows-has names others name grown among =
    ap (list_any (is_same_text name)) grown.are
    ∙ list_any-append (is_same_text name) names grown.more
    ∙ or_left (list_any (is_same_text name) names) (list_any (is_same_text name) grown.more) among

-- ---- a name more

-- the names stay, and have the name, or it stands after them
record Added (names : List (List ℕ)) (name : List ℕ) (others : List (List ℕ)) : Type 0 where
  grown : Grows names others
  among : list_any (is_same_text name) others ≡ true

added_by : (names : List (List ℕ)) (name : List ℕ) (b : Bool)
    → list_any (is_same_text name) names ≡ b
    → Added names name (cond b names (names ++ name ∷ []))
added_by names name true e = record { grown = grows_same names; among = e }
added_by names name false e = record {
  grown = record { more = name ∷ []; are = refl };
  among =
      list_any-append (is_same_text name) names (name ∷ [])
      ∙ or_right (list_any (is_same_text name) names) (is_same_text name name || false)
      (or_left (is_same_text name name) false (nat_list_eq_equiv.refl name));
}

pub grows-with_name : (names : List (List ℕ)) (name : List ℕ) → Grows names (with_name names name)
grows-with_name names name = (added_by names name (list_any (is_same_text name) names) refl).grown

pub with_name-has : (names : List (List ℕ)) (name : List ℕ)
    → list_any (is_same_text name) (with_name names name) ≡ true
with_name-has names name = (added_by names name (list_any (is_same_text name) names) refl).among

-- ---- the names of parts of documents

pub grows-with_token : (names : List (List ℕ)) (token : Token)
    → Grows names (with_token names token)
grows-with_token names (Code code) = grows_same names
grows-with_token names (Literal name) = grows-with_name names name

pub grows-with_attr : (names : List (List ℕ)) (attr : Attr) → Grows names (with_attr names attr)
grows-with_attr names attr = grows-with_token names attr.start

pub grows-fold : {A : Type 0} (step : List (List ℕ) → A → List (List ℕ))
    → ((names : List (List ℕ)) (x : A) → Grows names (step names x))
    → (names : List (List ℕ)) (xs : List A) → Grows names (fold step names xs)
grows-fold step one names [] = grows_same names
grows-fold step one names (x ∷ xs) = grows_on (one names x) (grows-fold step one (step names x) xs)

abbrev pub AllGrow : Naming → Type 0
AllGrow naming = (names : List (List ℕ)) (element : Element) → Grows names (naming names element)

grows_opened : (inner : Naming) → AllGrow inner → (names : List (List ℕ)) (kid : KidLevel)
    → Grows names (with_opened inner names kid)
grows_opened inner grow names (Kid-F.Element element) = grow names element
grows_opened inner grow names (Kid-F.Pi attr) = grows-with_attr names attr
grows_opened inner grow names _ = grows_same names

pub grows-with_kid : (inner : Naming) → AllGrow inner → (names : List (List ℕ)) (kid : Kid)
    → Grows names (with_kid inner names kid)
grows-with_kid inner grow names kid = grows_opened inner grow names (out-Kid kid)

pub grows-with_element : (levels : ℕ) → AllGrow (with_element levels)
unfolding with_element
grows-with_element zero names element = grows_same names
grows-with_element (suc levels) names element =
    let tagged = with_token names element.tag in
    let attributes = fold with_attr tagged element.attrs in
    grows_on (grows-with_token names element.tag)
    (grows_on (grows-fold with_attr grows-with_attr tagged element.attrs)
    (grows-fold (with_kid (with_element levels))
    (grows-with_kid (with_element levels) (grows-with_element levels)) attributes element.kids))
