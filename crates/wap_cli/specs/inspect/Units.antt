-- What the commands on a compiled unit write. This project's own.
use Rattle.std.specs.Prelude.{◌≡◌, ℕ, List, length, ◌++◌, codes, decimal}
use Rattle.wap_unit.specs.declared.unit.Unit.{Unit}
use Rattle.wap_unit.specs.Units.{IsUnit}
use Rattle.wap_verify.specs.Sound.{IsVerified}
use Rattle.wap_dis.specs.Listing.{listing}

-- the line of a unit that may be run
abbrev pub unit_line : Unit → List ℕ
unit_line unit = codes "ok unit functions=" ++ (decimal (length unit.functions) ++ codes "\n")

-- the bytes are a unit that may be run, and this is its line
abbrev pub IsVerifyLine : List ℕ → List ℕ → Type 0
IsVerifyLine bytes line =
    (unit : Unit) × IsUnit bytes unit × IsVerified unit × (line ≡ unit_line unit)

-- the bytes are a unit, and this is its listing
abbrev pub IsListing : List ℕ → List ℕ → Type 0
IsListing bytes text = (unit : Unit) × IsUnit bytes unit × (text ≡ listing unit)
