use Rattle.std.proofs.Common.{sym, ap, ◌∙◌, subst}
use Rattle.std.specs.Option.{option_copied}
use Rattle.wap_devices.specs.Pages.{IsPage}
use Rattle.wap_devices.proofs.StoreLaws.{page_named-small}
use Rattle.wap_devices.proofs.store.answer.Goals as goal

pub returns-clause-small : goal.returns-clause-small
returns-clause-small c =
    let found = sym c.find.ensures ∙ ap option_copied c.in-Some.is in
    let small =
    page_named-small c.args.name.now c.in-Some.bytes.now c.args.pages.now c.requires found in
    subst IsPage (sym (c.in_ok-of.ensures ∙ c.as_slice.ensures)) small
