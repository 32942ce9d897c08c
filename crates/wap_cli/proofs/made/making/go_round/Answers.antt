use Rattle.std.proofs.Common.{◌∷◌, ◌-◌, ℕ, length, replicate, sym, ap, ◌∙◌}
use Rattle.wap_base.specs.Contents.{names_of}
use Rattle.wap_base.specs.declared.key.Key.TheVariants.{Open}
use Rattle.wap_cli.specs.made.Making.{first_url, onward}
use Rattle.wap_cli.proofs.MadeLemmas.Touring.{is_tour}
use Rattle.wap_cli.proofs.made.making.go_round.Goals as goal

pub returns : goal.returns
returns c =
    let many = sym c.deref-2.ensures.len ∙ ap length c.deref-2.ensures.value in
    is_tour c.args.n c.in_ok-folder.folder.items c.in_ok-names.names.items c.deref-2.result.now
    c.in_ok-keys.keys.items c.deref-3.result.now _ _ _ _ c.in_ok-folder.ensures
    (c.in_ok-names.ensures ∙ ap names_of c.deref.ensures.value) c.deref-2.ensures.value
    (c.in_ok-keys.ensures ∙ ap (λ (count : ℕ). Open first_url ∷ replicate count onward)
    (c.saturating_sub.ensures ∙ ap (λ (count : ℕ). count - 1) (c.len.ensures ∙ many)))
    c.deref-3.ensures.value c.in_ok-pages.ensures c.in_ok-accepted.ensures.stays
    c.in_ok-played.ensures.stays (c.len-2.ensures ∙ many) c.in_ok-accepted.ensures.count
    c.in_ok-played.ensures.played
