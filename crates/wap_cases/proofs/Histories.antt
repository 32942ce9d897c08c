-- Histories may be sent to threads and shared by them: they hold nothing.
use denote.Exit.{Exit, unchanged, leaves, hidden, under}
use denote.RattleType.{RattleType}
use denote.Struct.Struct.{exits_of}
use denote.Struct.Owning.{shape, fields, to}
use denote.Param.Send.{IsSend, IsSync, Quiet, AllSend, owning_send, struct_send, whole-keyless}
use denote.Param.Send.{sendable}
use Rattle.std.proofs.Crossing.{crosses}
use Rattle.wap_devices.specs.contracts.history.History as History

-- what is left of a value, where nothing is left that names a thread
quiet : {D X : Type 0} (to : D → X) (e : Exit X) → Quiet e → Quiet (hidden (under to e))
quiet to unchanged q = λ x w. tt
quiet to (leaves L l S s r₀) q = λ d. q (to d)

module _ (T : RattleType) where
  pub history_send : IsSend (History.the_row T)
  history_send =
      let O = History.the_type T in
      let all : AllSend (fields O) = (search (crosses, sendable), tt) in
      owning_send O all (λ d. tt)
      (λ k. quiet (to O) (exits_of k (fields O)) ((struct_send (shape O) all).leaving k))

  pub history_sync : IsSync (History.the_row T)
  history_sync =
      record { shared = λ d b o κ q. whole-keyless _ _ history_send.owned q d b o }
