use Rattle.std.proofs.Common.{◌∙◌, ℕ, List, [], ◌∷◌, ◌++◌, sym, ap₂, arith}
use Rattle.std.proofs.lemmas.List.FromFn.{map-range_with_len_more}
use Rattle.wap_make.specs.Folders.{deck_page}
use Rattle.wap_make.proofs.folder.folder_of.Goals as goal

pub loop-k-preserved : goal.loop-k-preserved
loop-k-preserved c =
    let k = c.loop-k.k in
    c.in_ok-push.ensures.items
    ∙ ap₂ (λ (pages : List (List ℕ × List ℕ)) (page : List ℕ × List ℕ). pages ++ page ∷ [])
    c.loop-k.invariant c.in_ok-deck_page.ensures
    ∙ sym (map-range_with_len_more (deck_page c.args.n) 0 k k (omega arith))
