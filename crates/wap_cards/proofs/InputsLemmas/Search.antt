-- The search of a select.
use Rattle.std.proofs.Common.{◌≡◌, Option, Some, None, unwrap_or, refl}
use Rattle.std.specs.Option.{option_or}
use Rattle.wap_cardrules.specs.Selects.{Choice}

pub search_of : (a b c d : Option Choice) (first : Choice)
    → unwrap_or (option_or a (option_or b (option_or c d))) first
    ≡ unwrap_or (option_or (option_or a b) (option_or c d)) first
search_of None b c d first = refl
search_of (Some a) b c d first = refl
