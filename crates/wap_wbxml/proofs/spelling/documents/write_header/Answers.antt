use Rattle.std.proofs.lemmas.Result.{on_err_weaker}
use Rattle.std.proofs.Transfers.{starts_with_of_append, starts_with_trans}
use Rattle.wap_wbxml.proofs.spelling.documents.write_header.Goals as goal

pub returns-clause-left : goal.returns-clause-left
returns-clause-left c =
    let old = c.args.bytes.now in
    let one = c.push.new.self in
    let two = c.write_mb.new.out in
    let three = c.write_mb-2.new.out in
    let first = starts_with_of_append one old _ c.in_ok-push.ensures.ok in
    let second = starts_with_of_append two one _ c.in_ok-write_mb.ensures.ok in
    let third = starts_with_of_append three two _ c.in_ok-write_mb-2.ensures.ok in
    let between = starts_with_trans two one old second first in
    let before = starts_with_trans three two old third between in
    on_err_weaker c.add_sized.result
    (λ begun. starts_with_trans c.add_sized.new.bytes three old begun before)
    c.add_sized.ensures.left
