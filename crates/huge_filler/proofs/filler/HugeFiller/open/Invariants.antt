use Rattle.std.proofs.Common.{◌≡◌, ◌+◌, replicate, None}
use Rattle.huge_filler.proofs.Common.{key_of, Lists}
use Rattle.huge_filler.proofs.filler.HugeFiller.open.Given as goal

abbrev pub invariant-loop-place : goal.invariant-loop-place
invariant-loop-place l = record {
  keys : Lists key_of (replicate l.place None) l.index.keys;
  room : l.index.spare + l.place ≡ l.huge;
}
