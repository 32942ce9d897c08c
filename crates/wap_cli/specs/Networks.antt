-- What sessions get from outside: pages, and pushed bytes by how they are read. This project's own.
use Rattle.std.specs.Prelude.{ℕ, List, Result}
use Rattle.wap_push.specs.declared.indication.Indication.{Indication}
use Rattle.wap_push.specs.declared.fault.PushFault.{PushFault}
use Rattle.wap_push.specs.Pushes.{push_at}
use Rattle.wap_world.specs.Sites.{Site}
use Rattle.wap_world.specs.scripting.UnitSites.{Pages}
use Rattle.wap_context.specs.Sites.{site_of}

-- a site, and what pushed bytes are read as: an indication, or none for a fault
pub record Network : Type 0 where
  pub site : Site
  pub push : List ℕ → Result Indication PushFault

-- a site, where pushed bytes are read by calculation
abbrev pub over : Site → Network
over site = record { site = site; push = push_at }

-- the same of pages whose scripts are units
abbrev pub network_of : Pages → Network
network_of pages = over (site_of pages)
