use Rattle.wap_machine.proofs.Doing.{room_given}
use Rattle.wap_machine.proofs.acting.give.Goals as goal

pub push-requires : goal.push-requires
push-requires c =
    room_given c.args.frame.now.function c.args.place c.args.frame.now.variables
    c.args.frame.now.operands c.args.value c.requires.stands
