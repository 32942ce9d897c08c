use Rattle.wap_unit.specs.Libraries.{lib_args}
use Rattle.wap_asm.proofs.library.args_of.Goals as goal

pub returns : goal.returns
unfolding lib_args
returns c = c.args_in.ensures
