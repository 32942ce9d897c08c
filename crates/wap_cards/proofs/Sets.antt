-- Texts that are looked for by their order.
use Rattle.std.proofs.Common.{◌≡◌, ℕ, Bool, true, false, List, [], ◌∷◌, refl, sym, ap, ap₂, ◌∙◌}
use Rattle.std.specs.Prelude.{◌||◌}
use Rattle.std.specs.List.{list_any}
use Rattle.std.specs.BTreeMap.{is_at}
use Rattle.std.specs.BTreeSet.{insert_key}
use Rattle.std.specs.Ordering.{is_eq, match_ordering}
use Rattle.std.specs.declared.cmp.Ordering.{Ordering}
use Rattle.std.specs.declared.cmp.Ordering.TheVariants.{Less, Equal, Greater}
use Rattle.std.specs.Cmp.Lexicographic.{texts_ties, bytes_decides}
use Rattle.wap_base.specs.Texts.{is_same_text, text_cmp}

pub found_by_order : (text : List ℕ) (texts : List (List ℕ))
    → list_any (is_at (text_cmp text)) texts ≡ list_any (is_same_text text) texts
found_by_order text [] = refl
found_by_order text (one ∷ texts) =
    ap₂ (λ (a b : Bool). a || b) (sym (texts_ties text one)) (found_by_order text texts)

twice : (a b : Bool) → (a || b) ≡ (a || (a || b))
twice true b = refl
twice false b = refl

swapped : (a b c : Bool) → (a || (b || c)) ≡ (b || (a || c))
swapped true true c = refl
swapped true false c = refl
swapped false b c = refl

module _ (one text : List ℕ) where
  abbrev finds : List (List ℕ) → Bool
  finds = list_any (is_same_text one)

  pub found_after : (texts : List (List ℕ))
      → list_any (is_same_text one) (insert_key text_cmp texts text)
      ≡ (is_same_text one text || list_any (is_same_text one) texts)
  found_after [] = refl
  found_after (next ∷ texts) = by (text_cmp text next) refl (found_after texts)
    where
      by : (order : Ordering) → text_cmp text next ≡ order
          → finds (insert_key text_cmp texts text) ≡ (is_same_text one text || finds texts)
          → finds (match_ordering order (text ∷ next ∷ texts) (next ∷ texts)
          (next ∷ insert_key text_cmp texts text))
          ≡ (is_same_text one text || (is_same_text one next || finds texts))
      by Less is rest = refl
      by Equal is rest =
          let same : text ≡ next =
          (bytes_decides text next).0 (texts_ties text next ∙ ap is_eq is) in
          twice (is_same_text one next) (finds texts) ∙ ap
          (λ (t : List ℕ). is_same_text one t || (is_same_text one next || finds texts)) (sym same)
      by Greater is rest =
          ap (λ (b : Bool). is_same_text one next || b) rest
          ∙ swapped (is_same_text one next) (is_same_text one text) (finds texts)
