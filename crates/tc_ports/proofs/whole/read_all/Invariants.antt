-- What was read so far is the front of what was left, within the limit, and no read has failed.
use Rattle.std.proofs.Common.{◌≡◌, ◌≤◌, ◌+◌, ◌-◌, vec_len}
use Rattle.tc_ports.proofs.SoFar.{SoFar}
use Rattle.tc_ports.proofs.whole.read_all.Given as goal

abbrev pub invariant-loop-all : goal.invariant-loop-all
invariant-loop-all g l = record {
  so_far : SoFar (g.S.Source.seen l.initial.source).left (g.S.Source.seen l.source).left l.all.items;
  reads : (g.S.Source.seen l.source).reads ≤ (g.S.Source.seen l.initial.source).reads + vec_len l.all;
  within : vec_len l.all ≤ l.limit;
  count : (g.S.Source.seen l.source).faults ≡ (g.S.Source.seen l.initial.source).faults;
}

abbrev pub decreases-loop-all : goal.decreases-loop-all
decreases-loop-all g l = l.limit + 1 - vec_len l.all
