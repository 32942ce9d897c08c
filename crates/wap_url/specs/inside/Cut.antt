-- Where a part of a URL ends (RFC 2396, appendix B).
use Rattle.std.specs.Prelude.{ℕ, Bool}
use Rattle.wap_url.specs.declared.cut.Cut.{Cut}
use Rattle.wap_url.specs.declared.cut.Cut.TheVariants.{Fragment, Scheme, Authority, Colon, Question}
use Rattle.wap_url.specs.Characters.{is_colon, is_question, ends_scheme, ends_authority}
use Rattle.wap_url.specs.Calculation.{is_stop}

abbrev pub stops : Cut → ℕ → Bool
stops Fragment = is_stop
stops Scheme = ends_scheme
stops Authority = ends_authority
stops Colon = is_colon
stops Question = is_question
