-- Why a call that asks for pages gives up, by the store's fault. This project's own.
use Rattle.wap_devices.specs.declared.store.StoreErr.{StoreErr}
use Rattle.wap_devices.specs.declared.store.StoreErr.TheVariants as store
use Rattle.wap_base.specs.declared.fault.RunErr.{RunErr}
use Rattle.wap_base.specs.declared.fault.RunErr.TheVariants as run

-- the store's fault as that of the call
abbrev pub run_fault : StoreErr → RunErr
run_fault store.Failed = run.Store
run_fault store.NoMemory = run.NoMemory
