-- The machine of memory nodes: at each one the allocator without caches, for the calls that act there.
use Rattle.std.specs.Prelude.{ℕ, ◌+◌, List, [], ◌++◌, length, map, fold}
use Rattle.std.specs.List.{range_with_len}
use Rattle.tc_model.specs.declared.answers.CallLine.{CallLine}
use Rattle.tc_model.specs.Calls.{calls_of}
use Rattle.tc_model.specs.Input.{Input}
use Rattle.tc_model.specs.Run.{Rules}
use Rattle.call_steps.specs.Local.{Local, Decided, told}
use Rattle.alloc_rules.specs.declared.part.Part.{Part}
use Rattle.alloc_rules.specs.Machine.{rules, first_of}
use Rattle.no_caches.specs.declared.front.NoPart.{NoPart}
use Rattle.no_caches.specs.declared.front.NoRow.{NoRow}
use Rattle.no_caches.specs.declared.front.NoSeat.{NoSeat}
use Rattle.no_caches.specs.NoCaches.{no_caches, about_none}
use Rattle.node_rules.specs.Nodes.{asked_at, route_of}
use Rattle.node_rules.specs.Beside.{Beside, beside}

-- a part of a node, and what a thread has at one
abbrev pub NodePart : Type 0
NodePart = Part NoPart

abbrev pub NodeLocal : Type 0
NodeLocal = Local NoSeat NoRow

-- a node has a shard for each class, its heap, its map and its names
abbrev pub width_of : Input → ℕ
width_of input = length input.rows + 3

module _ (nodes : ℕ) (input : Input) where
  -- the rules of node k
  abbrev pub rules_at : ℕ → Rules NodePart NodeLocal
  rules_at k = rules (no_caches input.rows) about_none (asked_at nodes input.asked k)

  -- a thread before its first act
  abbrev pub first_thread : ℕ → Beside NodeLocal
  first_thread t =
      record {
        here = map (λ k. first_of (no_caches input.rows) about_none (asked_at nodes input.asked k) t) (range_with_len 0 nodes);
        route = route_of nodes input.asked t;
        ended = 0;
        acts = 0;
        answers = [];
      }

  -- the parts of all nodes, one node behind the other
  abbrev pub first_parts : List NodePart
  first_parts = fold (λ parts k. parts ++ (rules_at k).parts) [] (range_with_len 0 nodes)

  abbrev pub numa_rules : Rules NodePart (Beside NodeLocal)
  numa_rules =
      beside (rules_at 0) (λ l. l.answers) (width_of input) input.asked.config.huge first_parts
      (map first_thread (range_with_len 0 input.asked.config.threads))

-- the calls of a run: those that the picks of an order decided, in their order, with addresses that go on from node to node
abbrev pub numa_calls : {L : Type 0} → List (Beside L) → List ℕ → List CallLine
numa_calls locals order = calls_of (λ l. l.answers) (λ (d : Decided). d.act) told locals order
