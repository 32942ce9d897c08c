use Rattle.std.proofs.Common.{◌∙◌, ap, List, ℕ, map}
use Rattle.std.specs.Prelude.{encode_utf8_all}
use Rattle.std.specs.Map.{lookup}
use Rattle.wap_unit.specs.Libraries.{by_name, library, lib_named}
use Rattle.wap_asm.specs.Columns.{has_names}
use Rattle.wap_asm.proofs.library.lib_named.Goals as goal

pub returns : goal.returns
unfolding lib_named
returns c =
    c.named_in.ensures
    ∙ ap (λ (n : List ℕ). lookup (has_names n c.as_str-2.result.now) (map by_name library))
    c.as_str.ensures.bytes
    ∙ ap (λ (n : List ℕ).
    lookup (has_names (encode_utf8_all c.args.library.now) n) (map by_name library))
    c.as_str-2.ensures.bytes
