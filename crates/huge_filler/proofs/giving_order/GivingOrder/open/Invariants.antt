use Rattle.std.proofs.Common.{◌≡◌, ◌+◌, replicate, None}
use Rattle.huge_filler.proofs.Common.{giver_of, Lists}
use Rattle.huge_filler.proofs.giving_order.GivingOrder.open.Given as goal

abbrev pub invariant-loop-place : goal.invariant-loop-place
invariant-loop-place l = record {
  rows : l.rows.items ≡ replicate l.place None;
  told : l.told.items ≡ replicate l.place None;
  givers : Lists giver_of l.told.items l.list.keys;
  room : l.list.spare + l.place ≡ l.huge;
}
