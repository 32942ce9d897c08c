use Rattle.std.proofs.Common.{◌++◌, ◌∷◌, [], ap, sym, ◌∙◌, append-nil, append_assoc}
use Rattle.std.specs.Str.{chars}
use Rattle.wap_url.specs.Segments.{segments, all_but_last}
use Rattle.wap_url.specs.inside.Segments.{folder_of}
use Rattle.wap_url.proofs.JoinLaws.{folder_of_bytes, no_folder_of_bytes}
use Rattle.wap_url.proofs.joining.add_folder.Goals as goal

pub returns-in_ok-push : goal.returns-in_ok-push
returns-in_ok-push c =
    let folder =
    folder_of_bytes c.as_str.result.now
    (c.in-Some.folder, c.in-Some.field-0-1) c.as_str.utf8 c.in-Some.ensures.cases in
    c.in_ok-push.ensures.ok
    ∙ ap (λ out. out ++ 47 ∷ []) c.in_ok-add.ensures.ok
    ∙ append_assoc c.args.out.now (chars c.in-Some.folder.now) (47 ∷ [])
    ∙ ap (λ tail. c.args.out.now ++ tail)
    (sym folder ∙ ap (λ path. folder_of (all_but_last (segments path))) c.as_str.ensures.characters)

pub returns-in_default : goal.returns-in_default
returns-in_default c =
    let none = no_folder_of_bytes c.as_str.result.now c.as_str.utf8 c.in_default.ensures.cases in
    sym (append-nil c.args.out.now) ∙ ap (λ tail. c.args.out.now ++ tail)
    (sym none ∙ ap (λ path. folder_of (all_but_last (segments path))) c.as_str.ensures.characters)
