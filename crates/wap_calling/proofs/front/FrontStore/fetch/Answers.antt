use Rattle.std.proofs.Common.{rules, ◌≡◌, ◌∙◌, ◌∷◌, [], IfOk, subst, sym, ap, arith}
use Rattle.wap_devices.specs.Pages.{IsSmall}
use Rattle.wap_devices.specs.Stores.{StoreSeen, Fetches, Agrees, Told, told}
use Rattle.wap_devices.proofs.Telling.{told_page, page_right}
use Rattle.wap_calling.specs.Calling.{seen_before}
use Rattle.wap_calling.proofs.front.FrontStore.fetch.Goals as goal

pub returns-in-Ok-clause-fetches : goal.returns-in-Ok-clause-fetches
returns-in-Ok-clause-fetches g c =
    let name = c.args.name.now in
    let found = c.in-Ok.found in
    let earlier = c.self.inside.answers.items in
    let known_is : Told earlier [] ≡ Told c.args.self.now.answers [] =
    ap (λ s. (seen_before s).known) c.self.view_is in
    let steady : c.add_if.new.self ≡ c.args.self.now.faults = search rules in
    let after : StoreSeen = record {
      known = Told c.and-self-inside.result.items [];
      faults = c.add_if.new.self;
      fetches = c.add.new.self;
      listings = c.self.inside.listings;
    } in
    subst (λ r. Fetches name (seen_before c.args.self.now) after r) (sym c.in-Ok.is) (record {
      told =
          ap (λ l. Told l []) c.and-self-inside.ensures ∙ told_page earlier [] (name, found)
          ∙ ap (λ k. told k ((name, found) ∷ []) []) known_is;
      found = λ pages agrees.
          page_right earlier [] name found pages
          (subst (λ l. Agrees (Told l []) pages) c.and-self-inside.ensures agrees);
      small = subst (λ r. IfOk r IsSmall) c.in-Ok.is c.answer-answer.ensures.small;
      fetches = search rules;
      listings = search rules;
      asked = record {
        untold = tt;
        counts = omega (arith, steady);
        failed = λ no. absurd cc;
        steady = steady;
      };
    })
