use Rattle.std.proofs.Common.{◌≡◌, ◌≤◌, ◌+◌, ◌-◌}
use Rattle.wap_keys.specs.declared.limits.TheConstants.{KEYS_LIMIT}
use Rattle.wap_keys.specs.KeyReaders.{room}
use Rattle.wap_keys.specs.inside.Taking.{Keeps}
use Rattle.wap_keys.proofs.reader.Reader.step.Given as goal

-- all that was read before the call is read now, no room was gained, and the source didn't fail
abbrev pub invariant-loop-self : goal.invariant-loop-self
invariant-loop-self g l = record {
  keeps : Keeps g.T.Says.meaning (g.I.Source.seen l.fn.source) (g.I.Source.seen l.source) l.fn.self
      l.self;
  few : room l.self ≤ room l.fn.self;
  steady : (g.I.Source.seen l.source).faults ≡ (g.I.Source.seen l.fn.source).faults;
}

-- each line takes some bytes, and each piece some of what may be read yet
abbrev pub decreases-loop-self : goal.decreases-loop-self
decreases-loop-self g l = room l.self + (KEYS_LIMIT - l.self.count)
