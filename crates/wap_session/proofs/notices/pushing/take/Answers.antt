use Rattle.std.proofs.Common.{ap, sym, ◌∙◌, ◌∷◌, [], List, ℕ, Bool, cond}
use Rattle.wap_world.specs.inboxes.Notices.{notice_line}
use Rattle.wap_session.proofs.NoticesLemmas.Noticing.{notice_if}
use Rattle.wap_session.proofs.notices.pushing.take.Goals as goal

pub returns-in-Ok-true-clause-lines : goal.returns-in-Ok-true-clause-lines
returns-in-Ok-true-clause-lines c =
    let line = notice_line c.args.pushed ∷ [] in
    c.in_ok-lines.ensures
    ∙ ap (λ (line : List ℕ). line ∷ []) c.in_ok-notice_line.ensures
    ∙ sym (notice_if c.args.inbox.now c.args.pushed c.in-Ok-true.field-0
    (c.in-Ok-true.ensures.alert c.args.inbox.now c.requires.own)
    ∙ ap (λ (b : Bool). cond b line []) c.in-Ok-true.field-0-test)

pub returns-in-Ok-true-clause-taken : goal.returns-in-Ok-true-clause-taken
returns-in-Ok-true-clause-taken c =
    c.in-Ok-true.ensures.taken c.args.inbox.now c.requires.own

pub returns-in-Ok-false-clause-lines : goal.returns-in-Ok-false-clause-lines
returns-in-Ok-false-clause-lines c =
    let line = notice_line c.args.pushed ∷ [] in
    c.new.ensures
    ∙ sym (notice_if c.args.inbox.now c.args.pushed c.in-Ok-false.field-0
    (c.in-Ok-false.ensures.alert c.args.inbox.now c.requires.own)
    ∙ ap (λ (b : Bool). cond b line []) c.in-Ok-false.field-0-test)

pub returns-in-Ok-false-clause-taken : goal.returns-in-Ok-false-clause-taken
returns-in-Ok-false-clause-taken c =
    c.in-Ok-false.ensures.taken c.args.inbox.now c.requires.own
