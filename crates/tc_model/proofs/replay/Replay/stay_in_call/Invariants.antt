use Rattle.std.proofs.Common.{◌≡◌, ℕ, ◌+◌, ◌-◌, ◌≤◌, length, vec_capacity}
use Rattle.tc_model.specs.Run.{run}
use Rattle.tc_model.specs.Replays.{done_in, IsAt}
use Rattle.tc_model.specs.Serial.{completed}
use Rattle.tc_model.proofs.replay.Replay.stay_in_call.Given as goal

-- as in the loop that ends a call; and the thread stands at its part, has ended no more calls, and there is room for the picks that are left
abbrev pub invariant-loop-pick : goal.invariant-loop-pick
invariant-loop-pick g l = record {
  machine : l.self.machine ≡ l.fn.self.machine;
  limit : l.self.limit ≡ l.fn.self.limit;
  kept : completed (g.M.Machine.rules l.fn.self.machine) (g.M.Serial.turns l.fn.self.machine) l.fn.self.limit l.self.order.items ≡ completed (g.M.Machine.rules l.fn.self.machine) (g.M.Serial.turns l.fn.self.machine) l.fn.self.limit l.fn.self.order.items;
  rises : (u : ℕ) → done_in (g.M.Machine.rules l.fn.self.machine) (run (g.M.Machine.rules l.fn.self.machine) l.fn.self.order.items) u ≤ done_in (g.M.Machine.rules l.fn.self.machine) (run (g.M.Machine.rules l.fn.self.machine) l.self.order.items) u;
  late : done_in (g.M.Machine.rules l.self.machine) (run (g.M.Machine.rules l.self.machine) l.self.order.items) l.fn.thread ≤ l.fn.before;
  longer : length l.fn.self.order.items ≤ length l.self.order.items;
  at : IsAt (g.M.Machine.rules l.self.machine) (run (g.M.Machine.rules l.self.machine) l.self.order.items) l.fn.thread l.place;
  left : length l.self.order.items + (l._pick-end - l._pick) ≤ l.self.limit;
  room : length l.self.order.items + (l._pick-end - l._pick) ≤ vec_capacity l.self.order;
  origin : g.W.Watch.origin l.watch ≡ g.W.Watch.origin l.fn.watch;
  watched : g.W.Watch.behind l.self.machine l.self.order.items l.watch;
}
