use denote.Param.Send.{sendable}
use Rattle.wap_cases.proofs.Crossing as crossing
use Rattle.wap_cases.proofs.threads.programs_cross.Goals as goal

pub crosses-requires-send-T : goal.crosses-requires-send-T
crosses-requires-send-T c κs = search (crossing.stmt_fields_send, sendable)

pub crosses-requires-sync-T : goal.crosses-requires-sync-T
crosses-requires-sync-T c κs = search (crossing.stmt_fields_sync, sendable)

pub crosses-requires-2-send-T : goal.crosses-requires-2-send-T
crosses-requires-2-send-T c κs = search (crossing.function_fields_send, sendable)

pub crosses-requires-2-sync-T : goal.crosses-requires-2-sync-T
crosses-requires-2-sync-T c κs = search (crossing.function_fields_sync, sendable)

pub crosses-requires-3-send-T : goal.crosses-requires-3-send-T
crosses-requires-3-send-T c κs = search (crossing.program_fields_send, sendable)

pub crosses-requires-3-sync-T : goal.crosses-requires-3-sync-T
crosses-requires-3-sync-T c κs = search (crossing.program_fields_sync, sendable)
