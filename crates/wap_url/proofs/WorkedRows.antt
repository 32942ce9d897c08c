-- The definitions at examples.
use Rattle.std.proofs.Common.{◌≡◌, ℕ, List, [], refl, Ok, Err}
use Rattle.std.specs.Prelude.{Result, codes}
use Rattle.wap_url.specs.declared.url.Url.{Url}
use Rattle.wap_url.specs.declared.fault.UrlFault.{UrlFault}
use Rattle.wap_url.specs.declared.fault.UrlFault.TheVariants.{BadChar}
use Rattle.wap_url.specs.Calculation.{url_at}
use Rattle.wap_url.specs.Printing.{printed}
use Rattle.wap_url.specs.Joining.{joined}
use Rattle.wap_url.specs.Relative.{relative_form}

abbrev on_ok : (Url → List ℕ) → Result Url UrlFault → List ℕ
on_ok f (Ok u) = f u
on_ok f (Err e) = []

abbrev join_texts : List ℕ → List ℕ → List ℕ
join_texts base r = on_ok (λ b. on_ok (λ u. printed (joined b u)) (url_at r)) (url_at base)

abbrev relative_texts : List ℕ → List ℕ → List ℕ
relative_texts base r = on_ok (λ b. on_ok (λ u. relative_form b u) (url_at r)) (url_at base)

abbrev base : List ℕ
base = codes "http://h/a/b/c?q"

row_up : join_texts base (codes "../d") ≡ codes "http://h/a/d"
row_up = refl

row_query : join_texts base (codes "?x") ≡ codes "http://h/a/b/?x"
row_query = refl

row_fragment : join_texts base (codes "#f") ≡ codes "http://h/a/b/c?q#f"
row_fragment = refl

row_host : join_texts base (codes "//k") ≡ codes "http://k/"
row_host = refl

row_root : join_texts base (codes "/../z") ≡ codes "http://h/z"
row_root = refl

row_same_folder : relative_texts base (codes "http://h/a/b/z") ≡ codes "z"
row_same_folder = refl

row_other_folder : relative_texts base (codes "http://h/y") ≡ codes "/y"
row_other_folder = refl

row_blank : url_at (codes "http://a b") ≡ Err (BadChar 8)
row_blank = refl
