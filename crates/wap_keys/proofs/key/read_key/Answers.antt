use Rattle.wap_keys.proofs.SpellLaws.{found_of, only_of, refused_of, first_of}
use Rattle.wap_keys.proofs.key.read_key.Goals as goal

pub returns-clause-found : goal.returns-clause-found
returns-clause-found c = found_of c.read_line.result c.args.line.now c.read_line.ensures

pub returns-clause-only : goal.returns-clause-only
returns-clause-only c = only_of c.read_line.result c.args.line.now c.read_line.ensures

pub returns-clause-refused : goal.returns-clause-refused
returns-clause-refused c = refused_of c.read_line.result c.args.line.now c.read_line.ensures

pub returns-clause-first : goal.returns-clause-first
returns-clause-first c = first_of c.read_line.result c.args.line.now c.read_line.ensures
