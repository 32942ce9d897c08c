use Rattle.std.proofs.Common.{ap₂, ◌∙◌}
use Rattle.wap_url.specs.Relative.{same_folder}
use Rattle.wap_url.proofs.RelationLaws.{same_folders, same_folder-encodes}
use Rattle.wap_url.proofs.relation.is_same_folder.Goals as goal

pub returns : goal.returns
returns c =
    c.is_same.ensures
    ∙ same_folders c.as_str.result.now c.as_str-2.result.now c.folder_of.result c.folder_of-2.result
    c.folder_of.ensures c.folder_of-2.ensures
    ∙ ap₂ same_folder c.as_str.ensures.bytes c.as_str-2.ensures.bytes
    ∙ same_folder-encodes c.args.base.now c.args.path.now
