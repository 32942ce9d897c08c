use Rattle.std.proofs.Common.{ℕ, List, Err, ap, subst, ◌∙◌}
use Rattle.wap_pages.specs.declared.fault.PageErr.{PageErr}
use Rattle.wap_pages.specs.Judged.{page_of_bytes, Refuses}
use Rattle.wap_pages.proofs.Fetching.{found_right, refused_right, missing_right}
use Rattle.wap_pages.proofs.cached.fetch.Goals as goal

pub returns-in-Ok-clause-found : goal.returns-in-Ok-clause-found
returns-in-Ok-clause-found g c =
    found_right (g.S.Store.seen c.fetch.new.self).known c.args.name.now c.in-Ok-Found.bytes
    c.in-Ok.page
    (rw c.in-Ok-Found.field-0-is at c.in-Ok-Found.ensures.found)
    (c.in-Ok.ensures.page ∙ ap (page_of_bytes c.args.name.now) c.as_slice.ensures)

pub returns-in-Err-Refused-clause-found : goal.returns-in-Err-Refused-clause-found
returns-in-Err-Refused-clause-found g c =
    refused_right (g.S.Store.seen c.fetch.new.self).known c.args.name.now c.in-Ok-Found.bytes
    c.in-Err-Refused.field-0-0
    (rw c.in-Ok-Found.field-0-is at c.in-Ok-Found.ensures.found)
    (subst (λ (bytes : List ℕ). Refuses c.args.name.now bytes c.in-Err-Refused.field-0-0)
    c.as_slice.ensures
    (c.in-Err-Refused.ensures.refused c.in-Err-Refused.field-0-0
    (ap (λ (e : PageErr). Err e) c.in-Err-Refused.field-0-is)))

pub returns-in-Ok-Missing-clause-found : goal.returns-in-Ok-Missing-clause-found
returns-in-Ok-Missing-clause-found g c =
    missing_right (g.S.Store.seen c.fetch.new.self).known c.args.name.now
    (rw c.in-Ok-Missing.field-0-is at c.in-Ok-Missing.ensures.found)
