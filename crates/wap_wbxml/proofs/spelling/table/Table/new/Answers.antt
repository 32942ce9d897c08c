use Rattle.std.proofs.Common.{◌≡◌, ◌+◌, ◌^◌, ◌<◌, ◌≤◌, rules, ℕ, List, ◌∷◌, ◌++◌, []}
use Rattle.std.proofs.Common.{length, take, get_or, sym, ap, ◌∙◌, arith}
use Rattle.std.proofs.lemmas.List.{take_more, take_all}
use Rattle.wap_wbxml.specs.spelling.Names.{string, table_of}
use Rattle.wap_wbxml.specs.spelling.inside.Places.{places_from}
use Rattle.wap_wbxml.proofs.SpellingLemmas.Tables.{length-table, size_within, table_one_more}
use Rattle.wap_wbxml.proofs.SpellingLemmas.Tables.{places_one_more}
use Rattle.wap_wbxml.proofs.spelling.table.Table.new.Goals as goal

pub loop-name-init : goal.loop-name-init
unfolding table_of
loop-name-init c = (c.new-bytes.ensures, c.new-places.ensures.items)

pub overflow_cast-len : goal.overflow_cast-len
overflow_cast-len c =
    let done = take c.loop-name.name-index c.args.names.keys in
    let are : length c.loop-name.bytes ≡ length (table_of done) =
    ap length c.loop-name.invariant.0 in
    let size = length-table done in
    let within = size_within c.args.names.keys c.loop-name.name-index in
    let small : c.len.result < 2 ^ 32 = omega arith in
    search rules

pub loop-name-preserved : goal.loop-name-preserved
loop-name-preserved c =
    let names = c.args.names.keys in
    let done = take c.loop-name.name-index names in
    let name = c.name-item.result in
    let keys = c.as_slice-name-items.ensures.keys in
    let within : c.loop-name.name-index < length names = rw keys at c.loop-name-test.true in
    let item : name ≡ get_or names c.loop-name.name-index name =
    c.name-item.is ∙ ap (λ (l : List (List ℕ)). get_or l c.loop-name.name-index name) keys in
    let more : done ++ name ∷ [] ≡ take (c.loop-name.name-index + 1) names =
    ap (λ (n : List ℕ). done ++ n ∷ []) item
    ∙ sym (take_more names c.loop-name.name-index name within) in
    let place : c.len.result ≡ 0 + length (table_of done) =
    (let are : length c.loop-name.bytes ≡ length (table_of done) =
    ap length c.loop-name.invariant.0 in omega arith) in (
      c.in_ok-add_string.ensures.ok ∙ ap (λ (l : List ℕ). l ++ string name) c.loop-name.invariant.0
          ∙ table_one_more done name ∙ ap table_of more,
      c.in_ok-push.ensures.items
          ∙ ap (λ (l : List ℕ). l ++ c.len.result ∷ []) c.loop-name.invariant.1
          ∙ ap (λ (n : ℕ). places_from 0 done ++ n ∷ []) place
          ∙ places_one_more 0 done name ∙ ap (places_from 0) more,
    )

pub invariant_of-result : goal.invariant_of-result
invariant_of-result c =
    let names = c.args.names.keys in
    let over : length names ≤ c.loop-name.name-index =
    rw c.as_slice-name-items.ensures.keys at c.loop-name-test.false in
    let whole : take c.loop-name.name-index names ≡ names =
    take_all c.loop-name.name-index names over in
    let bytes : c.loop-name.bytes ≡ table_of names = c.loop-name.invariant.0 ∙ ap table_of whole in
    let len : length c.loop-name.bytes ≡ length (table_of names) = ap length bytes in
    let size = length-table names in
    record {
      bytes_are = bytes;
      places_are = c.loop-name.invariant.1 ∙ ap (places_from 0) whole;
      fits = omega arith;
    }
