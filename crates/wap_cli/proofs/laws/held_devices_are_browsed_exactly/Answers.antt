use Rattle.wap_cli.proofs.InMemory.{held_are_browsed}
use Rattle.wap_cli.proofs.laws.held_devices_are_browsed_exactly.Goals as goal

pub returns : goal.returns
returns c = held_are_browsed
