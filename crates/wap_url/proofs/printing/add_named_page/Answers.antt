use Rattle.std.proofs.Common.{◌≡◌, ap, sym, ◌∙◌, ◌++◌, append_assoc, codes, true, false}
use Rattle.std.specs.Str.{chars}
use Rattle.wap_url.specs.Printing.{ends_in_slash}
use Rattle.wap_url.proofs.PrintLaws.{ends-encodes, page_named, page_plain, chars-index}
use Rattle.wap_url.proofs.printing.add_named_page.Goals as goal

pub returns-in_ok-add-2 : goal.returns-in_ok-add-2
returns-in_ok-add-2 c =
    let slash : ends_in_slash c.args.path.now ≡ true =
    sym (ends-encodes c.args.path.now)
    ∙ ap ends_in_slash (sym (c.as_bytes.ensures.value ∙ c.as_str-2.ensures.bytes))
    ∙ sym c.is_folder.ensures ∙ c.if-is_folder.true in
    c.in_ok-add-2.ensures.ok
    ∙ ap (λ name. name ++ chars (codes "index.wmlc"))
    (c.in_ok-add.ensures.ok ∙ ap (λ p. c.args.name.now ++ p) c.as_str.ensures.characters)
    ∙ append_assoc c.args.name.now c.args.path.now (chars (codes "index.wmlc"))
    ∙ ap (λ p. c.args.name.now ++ p)
    (ap (λ page. c.args.path.now ++ page) chars-index ∙ sym (page_named c.args.path.now slash))

pub returns-else-is_folder : goal.returns-else-is_folder
returns-else-is_folder c =
    let slash : ends_in_slash c.args.path.now ≡ false =
    sym (ends-encodes c.args.path.now)
    ∙ ap ends_in_slash (sym (c.as_bytes.ensures.value ∙ c.as_str-2.ensures.bytes))
    ∙ sym c.is_folder.ensures ∙ c.if-is_folder.false in
    c.in_ok-add.ensures.ok ∙ ap (λ p. c.args.name.now ++ p)
    (c.as_str.ensures.characters ∙ sym (page_plain c.args.path.now slash))
