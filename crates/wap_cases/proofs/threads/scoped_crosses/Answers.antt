use denote.Param.Send.{sendable}
use Rattle.wap_cases.proofs.Crossing as crossing
use Rattle.wap_cases.proofs.threads.scoped_crosses.Goals as goal

pub crosses-requires-send-T : goal.crosses-requires-send-T
crosses-requires-send-T c κs = search (crossing.scoped_send, sendable)

pub crosses-requires-sync-T : goal.crosses-requires-sync-T
crosses-requires-sync-T c κs = search (crossing.scoped_sync, sendable)
