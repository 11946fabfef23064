use Rattle.std.proofs.Common.{◌≡◌, ◌+◌, ◌-◌, ◌≤◌, length, vec_len, vec_capacity}
use Rattle.merge_journal.proofs.Twos.{LeadsOn}
use Rattle.merge_journal.proofs.halves.merge_two.Given as goal

abbrev pub invariant-loop-i : goal.invariant-loop-i
invariant-loop-i l = record {
  low : l.i ≤ length l.first;
  low' : l.j ≤ length l.second;
  leads : LeadsOn l.first l.second l.merged.items l.i l.j;
  counted : vec_len l.merged ≡ l.i + l.j;
  room : length l.first + length l.second ≤ vec_capacity l.merged;
}

abbrev pub decreases-loop-i : goal.decreases-loop-i
decreases-loop-i l = (length l.first - l.i) + (length l.second - l.j)
