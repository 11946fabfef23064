use Rattle.std.proofs.Common.{◌≡◌, ◌+◌, ◌-◌, ◌≤◌, length, take, vec_capacity}
use Rattle.tc_model.specs.Run.{run}
use Rattle.tc_model.specs.Replays.{IsAt}
use Rattle.tc_model.specs.Serial.{followed}
use Rattle.tc_model.proofs.replay.Replay.follow_staying.Given as goal

-- the picks so far were followed; the thread stands at its part, and there is room for the picks that are left
abbrev pub invariant-loop-next : goal.invariant-loop-next
invariant-loop-next g l = record {
  machine : l.self.machine ≡ l.fn.self.machine;
  limit : l.self.limit ≡ l.fn.self.limit;
  order : l.self.order.items ≡ followed (g.M.Machine.rules l.fn.self.machine) l.fn.self.limit l.fn.self.order.items (take l.next l.picks);
  at : IsAt (g.M.Machine.rules l.self.machine) (run (g.M.Machine.rules l.self.machine) l.self.order.items) l.fn.thread l.place;
  within : l.most ≤ length l.picks;
  left : length l.self.order.items + (l.most - l.next) ≤ l.self.limit;
  room : length l.self.order.items + (l.most - l.next) ≤ vec_capacity l.self.order;
  origin : g.W.Watch.origin l.watch ≡ g.W.Watch.origin l.fn.watch;
  watched : g.W.Watch.behind l.self.machine l.self.order.items l.watch;
}
