use Rattle.wap_mend.proofs.Suiting.{added_kept}
use Rattle.wap_mend.proofs.kept.Attributes.add.Goals as goal

pub invariant_of-self : goal.invariant_of-self
invariant_of-self c =
    added_kept c.add.result c.self.inside.tag c.args.self.now c.self.inside.rows c.add.new.self
    c.args.attribute c.self.view_is c.add.ensures.ok c.add.ensures.err c.self.invariant
    c.requires.fits c.requires.suits c.requires.free
