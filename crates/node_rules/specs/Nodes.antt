-- Memory nodes: the node of a thread, the node at which a call acts, and what each node is asked for.
use Rattle.std.specs.Prelude.{ℕ, ◌%◌, ◌==◌, List, [], ◌∷◌, map, filter, if◌then◌else◌}
use Rattle.tc_model.specs.declared.calls.Call.{Call}
use Rattle.tc_model.specs.declared.calls.Call.TheVariants.{Free}
use Rattle.tc_model.specs.declared.config.Config.{Config}
use Rattle.tc_model.specs.Input.{Asked, Input, ThreadCall}
use Rattle.tc_model.specs.Blocks.{allocates}

-- the node of a thread, for good, among so many: that of the CPU at which it begins
abbrev pub home : ℕ → Config → ℕ → ℕ
home nodes config t = t % config.cpus % nodes

-- the thread that allocates a label, among calls (0 where none does)
abbrev pub maker : ℕ → List ThreadCall → ℕ
maker label [] = 0
maker label (c ∷ cs) = if allocates label c.planned.call then c.thread.0 else maker label cs

module _ (nodes : ℕ) (asked : Asked) where
  -- the node at which a call acts: a free at that of its label's block, and any other at its thread's node
  abbrev pub acts_at : ℕ → Call → ℕ
  acts_at t (Free label) = home nodes asked.config (maker label.0 asked.calls)
  acts_at t other = home nodes asked.config t

  abbrev pub node_of : ThreadCall → ℕ
  node_of c = acts_at c.thread.0 c.planned.call

  -- what node k is asked for: the calls that act there, in their order, under the same limits
  abbrev pub asked_at : ℕ → Asked
  asked_at k = record { config = asked.config; calls = filter (λ (c : ThreadCall). node_of c == k) asked.calls }

  -- the nodes of a thread's calls, in their order
  abbrev pub route_of : ℕ → List ℕ
  route_of t = map node_of (filter (λ (c : ThreadCall). c.thread.0 == t) asked.calls)

-- under the class table
abbrev pub input_at : ℕ → Input → ℕ → Input
input_at nodes input k = record { rows = input.rows; asked = asked_at nodes input.asked k }
