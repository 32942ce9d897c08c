use Rattle.std.proofs.Common.{◌≡◌, take, map}
use Rattle.wap_meaning.specs.coding.Constants.{constant_for}
use Rattle.wap_codegen.specs.pool.inside.Contents.{literal_of}
use Rattle.wap_codegen.proofs.pool.constants.constants_of.Given as goal

-- so many constants are made
abbrev pub invariant-loop-content : goal.invariant-loop-content
invariant-loop-content l =
    l.constants
    ≡ map (λ content. constant_for (literal_of content)) (take l.content-index l.contents)
