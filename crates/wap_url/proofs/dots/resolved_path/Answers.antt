use Rattle.std.proofs.Common.{◌++◌, ◌∷◌, [], ap, ap₂, sym, ◌∙◌, Some, None, lit<}
use Rattle.std.specs.Str.{chars}
use Rattle.std.proofs.lemmas.Str.Pattern.{strip_prefix_char}
use Rattle.wap_url.specs.Segments.{segments, path_of}
use Rattle.wap_url.specs.Joining.{without_dots, resolved_path}
use Rattle.wap_url.proofs.JoinLaws.{resolved_at_root, resolved_elsewhere}
use Rattle.wap_url.proofs.JoinLaws.{root_of_bytes, no_root_of_bytes}
use Rattle.wap_url.proofs.dots.resolved_path.Goals as goal

pub returns-in-Some : goal.returns-in-Some
returns-in-Some c =
    let cut =
    strip_prefix_char 47 c.as_str.result.now
    (Some c.in-Some.rest) c.in-Some.ensures.cases (lit< tt) in
    let path =
    sym c.as_str.ensures.characters
    ∙ root_of_bytes c.as_str.result.now c.in-Some.rest.now c.as_str.utf8 cut in
    c.in_ok-add_without_dots.ensures
    ∙ ap (λ start. start ++ path_of (without_dots (segments (chars c.in-Some.rest.now))))
    (c.in_ok-push.ensures.ok ∙ ap (λ start. start ++ 47 ∷ []) c.new-resolved.ensures)
    ∙ sym (ap resolved_path path ∙ resolved_at_root (chars c.in-Some.rest.now))

pub returns : goal.returns
returns c =
    let none = strip_prefix_char 47 c.as_str.result.now None c.in_default.ensures.cases (lit< tt) in
    c.in_ok-add_without_dots-2.ensures
    ∙ ap₂ (λ start path. start ++ path_of (without_dots (segments path)))
    c.new-resolved.ensures c.as_str-2.ensures.characters
    ∙ sym (resolved_elsewhere c.args.path.now
    (no_root_of_bytes c.as_str.result.now c.args.path.now c.as_str.ensures.bytes none))
