use Rattle.std.proofs.Common.{rules, ◌≡◌, ◌∙◌, ◌∷◌, [], IfOk, subst, sym, ap, map, arith}
use Rattle.wap_base.specs.Texts.{AreAscending}
use Rattle.wap_devices.specs.Stores.{StoreSeen, Lists, Agrees, Told, told}
use Rattle.wap_devices.proofs.Telling.{told_names, names_right, map-push}
use Rattle.wap_system.proofs.folder.FolderStoreStore.list.Goals as goal

pub returns-in-Ok-clause-lists : goal.returns-in-Ok-clause-lists
returns-in-Ok-clause-lists g c =
    let found = c.in-Ok.names in
    let answers = c.self.inside.answers.items in
    let earlier = map (λ names. names.items) c.self.inside.lists.items in
    let known_is : Told answers earlier ≡ c.args.self.now.known =
    ap (λ (s : StoreSeen). s.known) c.self.view_is in
    let steady : c.add_if.new.self ≡ c.args.self.now.faults = search rules in
    let lists_are = ap (map (λ names. names.items)) c.and-self-inside.ensures
    ∙ map-push (λ names. names.items) c.self.inside.lists.items found in
    let after : StoreSeen = record {
      known = Told answers (map (λ names. names.items) c.and-self-inside.result.items);
      faults = c.add_if.new.self;
      fetches = c.self.inside.fetches;
      listings = c.add.new.self;
    } in
    subst (λ r. Lists (λ names. names.items) c.args.self.now after r) (sym c.in-Ok.is) (record {
      told =
          ap (λ l. Told answers l) lists_are ∙ told_names answers earlier found.items
          ∙ ap (λ k. told k [] (found.items ∷ [])) known_is;
      names = λ pages agrees.
          names_right answers earlier found.items pages
          (subst (λ l. Agrees (Told answers l) pages) lists_are agrees);
      ascending = subst (λ r. IfOk r (λ names. AreAscending names.items)) c.in-Ok.is
          c.names-answer.ensures;
      fetches = search rules;
      listings = search rules;
      asked = record {
        untold = tt;
        counts = omega (arith, steady);
        failed = λ no. absurd cc;
        steady = steady;
      };
    })
