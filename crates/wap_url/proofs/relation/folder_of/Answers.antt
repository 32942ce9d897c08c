use Rattle.wap_url.proofs.RelationLaws.{folder_segments, no_folder}
use Rattle.wap_url.proofs.relation.folder_of.Goals as goal

pub returns-in_err-folder : goal.returns-in_err-folder
returns-in_err-folder c =
    rw c.from_residual.ensures (no_folder c.args.path.now c.in_err-folder.ensures.cases)

pub returns : goal.returns
returns c =
    folder_segments c.args.path.now
    (c.in_ok-folder.folder, c.in_ok-folder.field-0-1) c.in_ok-folder.ensures.cases
