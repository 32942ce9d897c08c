use Rattle.wap_compiled_laws.proofs.Sources.{forms}
use Rattle.wap_compiled_laws.proofs.forms_may_be_placed.Goals as goal

pub returns : goal.returns
returns c = forms
