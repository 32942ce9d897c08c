use denote.Param.Send.{sendable}
use Rattle.std.proofs.Crossing.{crosses}
use Rattle.wap_cases.proofs.Histories.{history_send, history_sync}
use Rattle.wap_cases.proofs.threads.base_crosses.Goals as goal

pub crosses-requires-7-send-T : goal.crosses-requires-7-send-T
crosses-requires-7-send-T c κs = search (history_send, crosses, sendable) depth 60 fits 20000

pub crosses-requires-7-sync-T : goal.crosses-requires-7-sync-T
crosses-requires-7-sync-T c κs = search (history_sync, crosses, sendable) depth 60 fits 20000

pub crosses-requires-8-send-T : goal.crosses-requires-8-send-T
crosses-requires-8-send-T c κs = search (history_send, crosses, sendable) depth 60 fits 20000

pub crosses-requires-8-sync-T : goal.crosses-requires-8-sync-T
crosses-requires-8-sync-T c κs = search (history_sync, crosses, sendable) depth 60 fits 20000

pub crosses-requires-9-send-T : goal.crosses-requires-9-send-T
crosses-requires-9-send-T c κs = search (history_send, crosses, sendable) depth 60 fits 20000

pub crosses-requires-9-sync-T : goal.crosses-requires-9-sync-T
crosses-requires-9-sync-T c κs = search (history_sync, crosses, sendable) depth 60 fits 20000
