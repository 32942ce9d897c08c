use Rattle.wap_codegen.proofs.EmissionLemmas.Branching.{exit_outside}
use Rattle.wap_codegen.proofs.emission.statements.add_exit.Goals as goal

pub returns-else-inside : goal.returns-else-inside
returns-else-inside c =
    exit_outside c.args.inside c.args.label c.args.forms.now.items c.add_plain.new.forms.items
    c.add_plain.result c.if-inside.false c.add_plain.ensures
