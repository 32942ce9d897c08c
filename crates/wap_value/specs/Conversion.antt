-- What a value becomes where an operator wants an Integer, a Boolean or a String (WAP-193,
-- "Automatic Data Type Conversion Rules"). `None`: there is no such conversion.
use Rattle.std.specs.Prelude.{ℕ, Bool, true, false, not, List, ℤ, pos}
use Rattle.std.specs.Prelude.{codes, Option, Some, None, if◌then◌else◌}
use Rattle.std.specs.Ordering.{int_eq}
use Rattle.std.specs.Fmt.{signed_decimal}
use Rattle.wap_base.specs.Texts.{is_empty}
use Rattle.wap_value.specs.declared.value.Value.{Value}
use Rattle.wap_value.specs.declared.value.Value.TheVariants.{Int, Bool as Boolean, Str, Invalid}
use Rattle.wap_value.specs.Numeral.{integer_of_text}

-- the Integer that a value becomes; of a Boolean 1 or 0
abbrev pub integer_of : Value → Option ℤ
integer_of (Int z) = Some z
integer_of (Boolean b) = Some (if b then pos 1 else pos 0)
integer_of (Str text) = integer_of_text text
integer_of Invalid = None

-- the Boolean that a value becomes: false for 0 and for the empty String
abbrev pub boolean_of : Value → Option Bool
boolean_of (Int z) = Some (not (int_eq z (pos 0)))
boolean_of (Boolean b) = Some b
boolean_of (Str text) = Some (not (is_empty text))
boolean_of Invalid = None

-- the String that a value becomes
abbrev pub text_of : Value → Option (List ℕ)
text_of (Int z) = Some (signed_decimal z)
text_of (Boolean b) = Some (if b then codes "true" else codes "false")
text_of (Str text) = Some text
text_of Invalid = None

-- the value of a result that is an Integer, and invalid where there is none
abbrev pub integer_value : Option ℤ → Value
integer_value (Some z) = Int z
integer_value None = Invalid

-- the value of a result that is a Boolean, and invalid where there is none
abbrev pub boolean_value : Option Bool → Value
boolean_value (Some b) = Boolean b
boolean_value None = Invalid

-- the value of a result that is a String, and invalid where there is none
abbrev pub text_value : Option (List ℕ) → Value
text_value (Some text) = Str text
text_value None = Invalid
