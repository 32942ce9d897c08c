-- What a choice says, option by option.
use Rattle.std.proofs.Common.{◌≡◌, ℕ, zero, suc, ◌+◌, ◌<◌, min, Bool, true, false, List, [], ◌∷◌}
use Rattle.std.proofs.Common.{◌++◌, length, take, get_or, map, refl, sym, ap, ◌∙◌, arith}
use Rattle.std.specs.List.{items_where_true}
use Rattle.std.proofs.lemmas.List.{take_more, length-take-le}
use Rattle.std.specs.Fmt.{decimal}
use Rattle.std.proofs.lemmas.List.FromFn.{map-range_with_len_more}
use Rattle.wap_cardrules.specs.Selects.{numbers}
use Rattle.wap_cards.specs.inputs.inside.Marking.{text_if}

-- mapped and chosen is chosen and mapped
pub map_chosen : {X Y : Type 0} (f : X → Y) (choice : List Bool) (xs : List X)
    → map f (items_where_true choice xs) ≡ items_where_true choice (map f xs)
map_chosen f [] xs = refl
map_chosen f (b ∷ choice) [] = refl
map_chosen f (true ∷ choice) (x ∷ xs) = ap (λ rest. f x ∷ rest) (map_chosen f choice xs)
map_chosen f (false ∷ choice) (x ∷ xs) = map_chosen f choice xs

-- one more option
pub chosen_more : (choice : List Bool) (texts : List (List ℕ)) (b : Bool) (text : List ℕ)
    → length choice ≡ length texts
    → items_where_true (choice ++ b ∷ []) (texts ++ text ∷ [])
    ≡ items_where_true choice texts ++ text_if b text
chosen_more [] [] true text same = refl
chosen_more [] [] false text same = refl
chosen_more [] (x ∷ texts) b text same = absurd (omega arith)
chosen_more (c ∷ choice) [] b text same = absurd (omega arith)
chosen_more (true ∷ choice) (x ∷ texts) b text same =
    ap (λ rest. x ∷ rest) (chosen_more choice texts b text (omega arith))
chosen_more (false ∷ choice) (x ∷ texts) b text same = chosen_more choice texts b text (omega arith)

pub chosen_next : (choice : List Bool) (texts : List (List ℕ)) (i : ℕ) (text : List ℕ)
    → i < length choice → i < length texts → text ≡ get_or texts i text
    → items_where_true (take (i + 1) choice) (take (i + 1) texts)
    ≡ items_where_true (take i choice) (take i texts) ++ text_if (get_or choice i false) text
chosen_next choice texts i text within there at =
    let same : length (take i choice) ≡ length (take i texts) =
    omega (arith, length-take-le i choice (omega arith), length-take-le i texts (omega arith)) in
    ap (λ (bs : List Bool). items_where_true bs (take (i + 1) texts))
    (take_more choice i false within)
    ∙ ap (items_where_true (take i choice ++ get_or choice i false ∷ []))
    (take_more texts i text there ∙ ap (λ (x : List ℕ). take i texts ++ x ∷ []) (sym at))
    ∙ chosen_more (take i choice) (take i texts) (get_or choice i false) text same

pub chosen_all : {X : Type 0} (choice : List Bool) (xs : List X) (n : ℕ)
    → n ≡ min (length choice) (length xs)
    → items_where_true (take n choice) (take n xs) ≡ items_where_true choice xs
chosen_all [] xs zero is = refl
chosen_all [] xs (suc n) is = absurd (omega arith)
chosen_all (b ∷ choice) [] zero is = refl
chosen_all (b ∷ choice) [] (suc n) is = absurd (omega arith)
chosen_all (b ∷ choice) (x ∷ xs) zero is = absurd (omega arith)
chosen_all (true ∷ choice) (x ∷ xs) (suc n) is =
    ap (λ rest. x ∷ rest) (chosen_all choice xs n (omega arith))
chosen_all (false ∷ choice) (x ∷ xs) (suc n) is = chosen_all choice xs n (omega arith)

pub decimals_more : (n : ℕ)
    → map decimal (numbers (n + 1)) ≡ map decimal (numbers n) ++ decimal (n + 1) ∷ []
decimals_more n = map-range_with_len_more decimal 1 n (n + 1) (omega arith)
