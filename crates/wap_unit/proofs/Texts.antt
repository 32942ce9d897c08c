-- What is read of a text in UTF-8.
use Rattle.std.proofs.Common.{◌≡◌, ℕ, Bool, cond, List, Ok, Err, sym, ap, ◌∙◌}
use Rattle.std.specs.Str.{IsUtf8, chars}
use Rattle.std.proofs.lemmas.Str.{is_utf8-from_IsUtf8}
use Rattle.wap_base.proofs.CharsetLaws.{is_utf8-no}
use Rattle.wap_unit.specs.declared.fault.UnitFault.TheVariants as fault
use Rattle.wap_unit.specs.reading.UnitReading.{utf8_text}

pub text_found : (at : ℕ) (content text : List ℕ) → IsUtf8 content → text ≡ chars content
    → utf8_text at content ≡ Ok text
unfolding utf8_text
text_found at content text utf8 is =
    ap (λ (b : Bool). cond b (Ok (chars content)) (Err (fault.Text at)))
    (is_utf8-from_IsUtf8 content utf8)
    ∙ ap Ok (sym is)

pub text_missed : (at : ℕ) (content : List ℕ) → ¬ (IsUtf8 content)
    → utf8_text at content ≡ Err (fault.Text at)
unfolding utf8_text
text_missed at content none =
    ap (λ (b : Bool). cond b (Ok (chars content)) (Err (fault.Text at))) (is_utf8-no content none)
