use Rattle.std.proofs.Common.{◌-◌, ◌<◌, ap, ◌∙◌, sym, List, arith}
use Rattle.wap_tokens.specs.declared.markup.document.Attr.{Attr}
use Rattle.wap_tokens.specs.declared.markup.document.Kid.{Kid}
use Rattle.wap_wbxml.specs.spelling.Writings.{Writing, plain, ◌⨾◌, ended, on_tag_page}
use Rattle.wap_wbxml.specs.spelling.Spelling.{bits, tag_spelling, attr_spelling}
use Rattle.wap_wbxml.specs.spelling.Spelling.{kid_spelling, element_spelling}
use Rattle.wap_wbxml.specs.spelling.Written.{written}
use Rattle.wap_wbxml.proofs.SpellingLemmas.Levels.{deeper}
use Rattle.wap_wbxml.proofs.SpellingLemmas.Appending.{in_turn, each_none, each_step, ended_none}
use Rattle.wap_wbxml.proofs.SpellingLemmas.Appending.{ended_some}
use Rattle.wap_wbxml.proofs.spelling.elements.+elements.Goals as goal

pub write_element-returns : goal.write_element-returns
write_element-returns t c =
    let element = c.args.element.now in
    let names = c.args.table.now in
    let inner = element_spelling names (c.args.levels - 1) in
    let tag = plain (tag_spelling names (bits element) element.tag) in
    let attributes = ended (attr_spelling names) element.attrs in
    let content = ended (kid_spelling names inner) element.kids in
    let some : 0 < c.args.levels = (let not_zero = c.if-levels-eq0.false in omega arith) in
    let three =
    in_turn attributes content c.write_tag.new.output c.write_attributes.new.output
    c.write_kids.new.output
    (c.in_ok-write_attributes.ensures
    ∙ ap (λ (l : List Attr). written (ended (attr_spelling names) l) c.write_tag.new.output)
    c.as_slice.ensures)
    (c.in_ok-write_kids.ensures
    ∙ ap (λ (l : List Kid). written (ended (kid_spelling names inner) l)
    c.write_attributes.new.output) c.as_slice-2.ensures) in
    let two =
    in_turn tag
    (attributes ⨾ content) c.go_to_tag_page.new.self c.write_tag.new.output c.write_kids.new.output
    c.in_ok-write_tag.ensures three in
    in_turn (on_tag_page element.page)
    (tag ⨾ attributes ⨾ content) c.args.output.now c.go_to_tag_page.new.self c.write_kids.new.output
    c.in_ok-go_to_tag_page.ensures.ok two
    ∙ ap (λ (w : Writing). written w c.args.output.now)
    (sym (deeper names c.args.levels element some))

pub write_kids-loop-kid-init : goal.write_kids-loop-kid-init
write_kids-loop-kid-init t c =
    each_none (kid_spelling c.args.table.now (element_spelling c.args.table.now c.args.levels))
    c.args.output.now

pub write_kids-loop-kid-preserved : goal.write_kids-loop-kid-preserved
write_kids-loop-kid-preserved t c =
    each_step (kid_spelling c.args.table.now (element_spelling c.args.table.now c.args.levels))
    c.args.kids.now
    c.args.output.now c.loop-kid.kid-index c.kid-item.result c.loop-kid.output
    c.write_kid.new.output
    c.loop-kid-test.true c.kid-item.is c.loop-kid.invariant c.in_ok-write_kid.ensures

pub write_kids-returns-then-is_empty : goal.write_kids-returns-then-is_empty
write_kids-returns-then-is_empty t c =
    ended_none (kid_spelling c.args.table.now (element_spelling c.args.table.now c.args.levels))
    c.args.kids.now
    c.args.output.now c.loop-kid.kid-index c.loop-kid.output c.if-is_empty.ensures
    c.loop-kid.invariant

pub write_kids-returns : goal.write_kids-returns
write_kids-returns t c =
    ended_some (kid_spelling c.args.table.now (element_spelling c.args.table.now c.args.levels))
    c.args.kids.now
    c.args.output.now c.loop-kid.kid-index c.loop-kid.output c.push.new.self c.loop-kid-test.false
    c.if-is_empty.ensures c.loop-kid.invariant c.in_ok-push.ensures.ok
