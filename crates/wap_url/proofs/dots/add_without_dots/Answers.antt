use Rattle.std.proofs.Common.{◌≡◌, ◌++◌, List, ℕ, Bor, map, ap, ◌∙◌, OnOk, subst}
use Rattle.std.specs.Str.{chars}
use Rattle.wap_url.specs.Segments.{path_of}
use Rattle.wap_url.proofs.JoinLaws.{chars-without, map-now}
use Rattle.wap_url.proofs.dots.add_without_dots.Goals as goal

pub returns : goal.returns
returns c =
    let P : List (List ℕ) → Type 0 =
    λ ss. OnOk c.add_joined.result (c.add_joined.new.out ≡ c.args.out.now ++ path_of ss) in
    subst P (ap (map (λ (s : Bor (List ℕ)). chars s.now)) c.deref.ensures.value
    ∙ map-now c.in_ok-kept.kept.items ∙ ap (map chars) c.in_ok-kept.ensures
    ∙ chars-without c.args.path.now c.utf8.path) c.add_joined.ensures
