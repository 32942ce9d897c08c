use Rattle.std.proofs.Common.{◌++◌, ap, ap₂, sym, ◌∙◌}
use Rattle.std.proofs.lemmas.Bool.{cond-false}
use Rattle.wap_url.specs.Characters.{is_slash}
use Rattle.wap_base.specs.Cuts.{begins_with}
use Rattle.wap_url.specs.Segments.{segments, path_of}
use Rattle.wap_url.specs.Joining.{lead_segments}
use Rattle.wap_url.proofs.JoinLaws.{path-lead}
use Rattle.wap_url.proofs.joining.merged_path.Goals as goal

pub returns : goal.returns
returns c =
    c.in_ok-add.ensures.ok
    ∙ ap₂ (λ a b. a ++ b) (c.in_ok-add_lead.ensures ∙ ap (λ start.
    start ++ Rattle.wap_url.specs.inside.Segments.folder_of (lead_segments c.args.base.now))
    c.new-path.ensures) c.as_str.ensures.characters
    ∙ sym (path-lead (lead_segments c.args.base.now) c.args.reference.now.path)
    ∙ sym (cond-false (begins_with is_slash c.args.reference.now.path) c.args.reference.now.path
    (path_of (lead_segments c.args.base.now ++ segments c.args.reference.now.path))
    (sym c.begins_at_root.ensures ∙ c.if-begins_at_root.false))
