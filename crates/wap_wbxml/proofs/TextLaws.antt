-- Texts by their bytes.
use Rattle.std.proofs.Common.{◌≡◌, ℕ, ◌<◌, Bool, true, cond, List, [], ◌∷◌, Some}
use Rattle.std.proofs.Common.{None, refl, sym, ap, ◌∙◌, ltb-true, lt-ltb, ◌&&◌, inl, inr}
use Rattle.std.proofs.lemmas.Bool.{and_parts}
use Rattle.std.specs.List.{list_all, AllByRecursion}
use Rattle.std.specs.Str.{is_utf8, chars, IsUtf8, all_scalars}
use Rattle.std.specs.Prelude.{encode_utf8_all}
use Rattle.std.proofs.lemmas.Str.{IsUtf8-from_is_utf8, is_utf8-from_IsUtf8}
use Rattle.std.proofs.lemmas.Str.{scalars-chars, encodes-chars, chars_from_encodes}
use Rattle.wap_base.proofs.Choices.{chosen, some_same}
use Rattle.wap_base.specs.declared.charset.Charset.{Charset}
use Rattle.wap_base.specs.declared.charset.Charset.TheVariants.{Ascii, Latin1, Utf8}
use Rattle.wap_tokens.specs.markup.Charsets.{IsText}
use Rattle.wap_base.specs.Charsets.{is_ascii, text_in}

all_ascii : (bytes : List ℕ) → list_all is_ascii bytes ≡ true
    → AllByRecursion (λ byte. byte < 128) bytes
all_ascii [] e = tt
all_ascii (byte ∷ bytes) e =
    let parts = and_parts (is_ascii byte) (list_all is_ascii bytes) e in
    (ltb-true byte 128 parts.0, all_ascii bytes parts.1)

ascii_all : (bytes : List ℕ) → AllByRecursion (λ byte. byte < 128) bytes
    → list_all is_ascii bytes ≡ true
ascii_all [] all = refl
ascii_all (byte ∷ bytes) all =
    ap (λ (b : Bool). b && list_all is_ascii bytes) (lt-ltb byte 128 all.0) ∙ ascii_all bytes all.1

pub text_takes : (charset : Charset) (bytes text : List ℕ) → text_in charset bytes ≡ Some text
    → IsText charset bytes text
text_takes Ascii bytes text e =
    elim (chosen (list_all is_ascii bytes) (Some bytes) None (Some text) e) [
      | inl t ↦ (all_ascii bytes t.0, sym (some_same bytes text t.1))
      | inr f ↦ absurd cc
    ]
text_takes Latin1 bytes text e = sym (some_same bytes text e)
text_takes Utf8 bytes text e =
    elim (chosen (is_utf8 bytes) (Some (chars bytes)) None (Some text) e) [
      | inl t ↦
          let is = IsUtf8-from_is_utf8 bytes t.0 in
          let same = some_same (chars bytes) text t.1 in (
            ap all_scalars (sym same) ∙ scalars-chars bytes is,
            ap encode_utf8_all (sym same) ∙ encodes-chars bytes is,
          )
      | inr f ↦ absurd cc
    ]

pub text_again : (charset : Charset) (bytes text : List ℕ) → IsText charset bytes text
    → text_in charset bytes ≡ Some text
text_again Ascii bytes text is =
    ap (λ (b : Bool). cond b (Some bytes) None) (ascii_all bytes is.0) ∙ ap Some (sym is.1)
text_again Latin1 bytes text is = ap Some (sym is)
text_again Utf8 bytes text is =
    let utf8 : IsUtf8 bytes = (text, (is.0, is.1)) in
    ap (λ (b : Bool). cond b (Some (chars bytes)) None) (is_utf8-from_IsUtf8 bytes utf8)
    ∙ ap Some (sym (chars_from_encodes text bytes utf8 is.1))
