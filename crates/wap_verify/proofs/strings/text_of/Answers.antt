use Rattle.std.proofs.Common.{◌≡◌, true, subst}
use Rattle.std.proofs.lemmas.Str.{IsUtf8-from_is_utf8}
use Rattle.wap_base.specs.declared.charset.Charset.{Charset}
use Rattle.wap_base.specs.Charsets.{is_text}
use Rattle.wap_verify.proofs.strings.text_of.Goals as goal

pub unreachable-requires : goal.unreachable-requires
unreachable-requires c =
    c.in-Err.ensures.cases.0 (IsUtf8-from_is_utf8 c.args.bytes.now
    (subst (λ (s : Charset). is_text s c.args.bytes.now ≡ true) c.in-Utf8.is c.requires))
