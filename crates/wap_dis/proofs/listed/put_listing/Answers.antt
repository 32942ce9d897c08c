use Rattle.std.proofs.Common.{List, ℕ, ◌++◌, subst}
use Rattle.std.specs.List.{flat_map, enumerate_from}
use Rattle.wap_unit.specs.declared.unit.Constant.{Constant}
use Rattle.wap_unit.specs.declared.unit.Pragma.{Pragma}
use Rattle.wap_dis.specs.Listing.{unit_line, constant_line, pragma_line, function_lines, listing}
use Rattle.wap_dis.specs.inside.Gathering.{Gathers}
use Rattle.wap_dis.specs.inside.Gathered.{state}
use Rattle.wap_dis.proofs.Putting.{gathers_then}
use Rattle.wap_dis.proofs.listed.put_listing.Goals as goal

pub returns : goal.returns
unfolding listing
returns g c =
    let seen = g.O.Sink.seen in
    let unit = c.args.unit.now in
    let last = c.put_functions in
    let constants : List ℕ = flat_map constant_line (enumerate_from 0 unit.constants) in
    let pragmas : List ℕ = flat_map pragma_line (enumerate_from 0 unit.pragmas) in
    let functions : List ℕ = flat_map (function_lines unit) (enumerate_from 0 unit.functions) in
    gathers_then (seen c.args.out.now) (seen c.put_unit_line.new.out) (seen last.new.out)
    (state c.args.held.now) (state c.put_unit_line.new.held) (state last.new.held) (unit_line unit)
    (constants ++ (pragmas ++ functions)) c.put_unit_line.ensures
    (gathers_then (seen c.put_unit_line.new.out) (seen c.put_constants.new.out)
    (seen last.new.out)
    (state c.put_unit_line.new.held) (state c.put_constants.new.held)
    (state last.new.held) constants (pragmas ++ functions)
    (subst (λ (l : List Constant). Gathers (seen c.put_unit_line.new.out)
    (seen c.put_constants.new.out)
    (state c.put_unit_line.new.held) (state c.put_constants.new.held)
    (flat_map constant_line (enumerate_from 0 l))) c.as_slice.ensures c.put_constants.ensures)
    (gathers_then (seen c.put_constants.new.out) (seen c.put_pragmas.new.out)
    (seen last.new.out)
    (state c.put_constants.new.held) (state c.put_pragmas.new.held)
    (state last.new.held) pragmas functions
    (subst (λ (l : List Pragma). Gathers (seen c.put_constants.new.out)
    (seen c.put_pragmas.new.out)
    (state c.put_constants.new.held) (state c.put_pragmas.new.held)
    (flat_map pragma_line (enumerate_from 0 l))) c.as_slice-2.ensures c.put_pragmas.ensures)
    last.ensures))
