-- What a session is begun with. This project's own.
use Rattle.wap_world.specs.Sessions.{Begun}
use Rattle.wap_cli.specs.declared.browse.beginning.Beginning.{Beginning}

-- a session that begins with this
abbrev pub begun_with : Beginning → Begun
begun_with one =
    record { url = one.url; seed = one.seed; budget = one.budget; limits = one.limits }
