use Rattle.std.proofs.Common.{rules, ◌≡◌, ◌∙◌, ◌∷◌, [], IfOk, subst, sym, ap, map, arith}
use Rattle.wap_devices.specs.Pages.{IsSmall}
use Rattle.wap_devices.specs.Stores.{StoreSeen, Fetches, Agrees, Told, told}
use Rattle.wap_devices.proofs.Telling.{told_page, page_right}
use Rattle.wap_system.specs.Inside.{IsInside}
use Rattle.wap_system.proofs.folder.FolderStoreStore.fetch.Goals as goal

pub returns-in-Ok-clause-outside : goal.returns-in-Ok-clause-outside
returns-in-Ok-clause-outside g c =
    λ outside. c.page-answer.ensures.outside (λ inside.
    outside (subst IsInside c.as_str-2.ensures.bytes inside))

pub returns-in_default-clause-outside : goal.returns-in_default-clause-outside
returns-in_default-clause-outside g c =
    λ outside. c.page-answer.ensures.outside (λ inside.
    outside (subst IsInside c.as_str-2.ensures.bytes inside))

pub returns-in-Ok-clause-fetches : goal.returns-in-Ok-clause-fetches
returns-in-Ok-clause-fetches g c =
    let name = c.args.name.now in
    let found = c.in-Ok.found in
    let earlier = c.self.inside.answers.items in
    let lists = map (λ names. names.items) c.self.inside.lists.items in
    let known_is : Told earlier lists ≡ c.args.self.now.known =
    ap (λ (s : StoreSeen). s.known) c.self.view_is in
    let steady : c.add_if.new.self ≡ c.args.self.now.faults = search rules in
    let after : StoreSeen = record {
      known = Told c.and-self-inside.result.items lists;
      faults = c.add_if.new.self;
      fetches = c.add.new.self;
      listings = c.self.inside.listings;
    } in
    subst (λ r. Fetches name c.args.self.now after r) (sym c.in-Ok.is) (record {
      told =
          ap (λ l. Told l lists) c.and-self-inside.ensures ∙ told_page earlier lists (name, found)
          ∙ ap (λ k. told k ((name, found) ∷ []) []) known_is;
      found = λ pages agrees.
          page_right earlier lists name found pages
          (subst (λ l. Agrees (Told l lists) pages) c.and-self-inside.ensures agrees);
      small = subst (λ r. IfOk r IsSmall) c.in-Ok.is c.page-answer.ensures.small;
      fetches = search rules;
      listings = search rules;
      asked = record {
        untold = tt;
        counts = omega (arith, steady);
        failed = λ no. absurd cc;
        steady = steady;
      };
    })
