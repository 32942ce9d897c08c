-- Names of attributes, by their bytes.
use Rattle.std.proofs.Common.{◌≡◌, ℕ, Bool, true, List, map, refl}
use Rattle.std.specs.List.{list_all}
use Rattle.std.specs.Map.{lookup}
use Rattle.std.specs.Bool.{Decides, one_answer}
use Rattle.std.specs.Str.{bytes_eq}
use Rattle.std.specs.Cmp.Lexicographic.{bytes_decides}
use Rattle.std.proofs.lemmas.Slice.Eq.{bytes_eq-Decides}
use Rattle.wap_base.specs.Texts.{is_same_text}
use Rattle.wap_tokens.specs.markup.Tables.{name_rows, attr_by_name, attr_named}
use Rattle.wap_tokens.proofs.Found.{lookup_alike}

abbrev any_name : List ℕ → Bool
any_name name = true

alike : (name known : List ℕ) → bytes_eq name known ≡ is_same_text name known
alike name known =
    let by_bytes : Decides (bytes_eq name known) (name ≡ known) = bytes_eq-Decides name known in
    let by_text : Decides (is_same_text name known) (name ≡ known) = bytes_decides name known in
    one_answer (bytes_eq name known) (is_same_text name known) by_bytes by_text

all_any : list_all (λ row. any_name row.0) (map attr_by_name name_rows) ≡ true
unfolding name_rows
all_any = refl

pub by_bytes : (name : List ℕ)
    → lookup (bytes_eq name) (map attr_by_name name_rows) ≡ attr_named name
unfolding attr_named
by_bytes name =
    lookup_alike any_name (bytes_eq name) (is_same_text name) (map attr_by_name name_rows)
    (λ known t. alike name known) all_any
