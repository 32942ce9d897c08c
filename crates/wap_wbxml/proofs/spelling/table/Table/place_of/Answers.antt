use Rattle.std.proofs.Common.{◌≡◌, ◌+◌, ℕ, List, length, get_or, take, sym, ap, ◌∙◌, arith}
use Rattle.wap_wbxml.specs.spelling.Names.{table_of, place_of}
use Rattle.wap_wbxml.proofs.SpellingLemmas.Tables.{length-places, place_at, place_found}
use Rattle.wap_wbxml.proofs.SpellingLemmas.Tables.{place_missing}
use Rattle.wap_wbxml.proofs.spelling.table.Table.place_of.Goals as goal

pub index-requires : goal.index-requires
index-requires c =
    let places = ap length c.self.invariant.places_are in
    let count = length-places 0 c.self.inside.names.keys in
    omega (arith, c.in-Some.ensures.within)

pub returns-in-Some : goal.returns-in-Some
returns-in-Some c =
    let names = c.self.inside.names.keys in
    let place = place_at 0 names c.in-Some.index c.index.result.now c.in-Some.ensures.within in
    let before = length (table_of (take c.in-Some.index names)) in
    let same : 0 + before ≡ before = omega arith in
    c.index.ensures
    ∙ ap (λ (l : List ℕ). get_or l c.in-Some.index c.index.result.now) c.self.invariant.places_are
    ∙ place ∙ same ∙ sym (place_found names c.args.name.now c.in-Some.index c.in-Some.ensures.index)
    ∙ ap (λ (l : List (List ℕ)). place_of l c.args.name.now) c.self.view_is

pub returns-in-None : goal.returns-in-None
returns-in-None c =
    let names = c.self.inside.names.keys in
    c.len.ensures ∙ ap length c.self.invariant.bytes_are
    ∙ sym (place_missing names c.args.name.now c.in-None.ensures.index)
    ∙ ap (λ (l : List (List ℕ)). place_of l c.args.name.now) c.self.view_is
