-- What the opening reads off the scripts: the node of each label, the node of each call, and how many labels a node has.
use Rattle.std.specs.Prelude.{ℕ, ◌==◌, max, List, [], ◌++◌, map, filter, fold, replicate, if◌then◌else◌, slice_set}
use Rattle.std.specs.List.{range_with_len, slice_index_or}
use Rattle.tc_model.specs.declared.calls.Call.{Call}
use Rattle.tc_model.specs.declared.calls.Call.TheVariants.{Malloc, Free, Release, Drain, Resize}
use Rattle.tc_model.specs.declared.calls.Planned.{Planned}
use Rattle.tc_model.specs.declared.config.Config.{Config}
use Rattle.tc_model.specs.Input.{label_end}
use Rattle.tc_machine.specs.Opening.{parts_at}
use Rattle.call_steps.specs.declared.setting.Setting.{Setting}
use Rattle.call_steps.specs.Local.{first_local}
use Rattle.alloc_rules.specs.Machine.{parts_of}
use Rattle.no_caches.specs.NoCaches.{no_caches, no_calls, no_seat, about_none}
use Rattle.node_rules.specs.Nodes.{home}
use Rattle.node_rules.specs.Beside.{Beside}
use Rattle.node_rules.specs.Numa.{NodePart, NodeLocal}
use Rattle.numa_heaps.specs.declared.nodes.NodeNo.{NodeNo}

-- the nodes of labels behind a call of a thread at this node: an allocation's label is there
abbrev pub owners_with : NodeNo → List NodeNo → Call → List NodeNo
owners_with here owners (Malloc label size) = slice_set owners label.0 here
owners_with here owners (Free label) = owners
owners_with here owners (Release pages) = owners
owners_with here owners (Drain cpu) = owners
owners_with here owners (Resize cpu class cap) = owners

abbrev pub owners_behind : NodeNo → List NodeNo → List Planned → List NodeNo
owners_behind here owners calls = fold (λ os (p : Planned). owners_with here os p.call) owners calls

-- the node of a call of a thread at this node
abbrev pub node_by : NodeNo → List NodeNo → Call → NodeNo
node_by here owners (Malloc label size) = here
node_by here owners (Free label) = slice_index_or owners label.0 here
node_by here owners (Release pages) = here
node_by here owners (Drain cpu) = here
node_by here owners (Resize cpu class cap) = here

-- those of a script, and its calls at node k
abbrev pub route_by : NodeNo → List NodeNo → List Planned → List NodeNo
route_by here owners calls = map (λ (p : Planned). node_by here owners p.call) calls

abbrev pub calls_by : NodeNo → List NodeNo → ℕ → List Planned → List Planned
calls_by here owners k calls = filter (λ (p : Planned). (node_by here owners p.call).0 == k) calls

-- the greatest label plus one that a script allocates, or 0
abbrev pub end_of : List Planned → ℕ
end_of calls = fold (λ most (p : Planned). max most (label_end p.call)) 0 calls

-- the same of a thread at this node, where that is node k
abbrev pub end_at : ℕ → ℕ → List Planned → ℕ
end_at here k calls = if here == k then end_of calls else 0

abbrev pub home_no : ℕ → Config → ℕ → NodeNo
home_no nodes config t = record { 0 = home nodes config t }

-- by the script of each thread:
module _ (nodes : ℕ) (config : Config) (script : ℕ → List Planned) where
  -- the nodes of so many labels, behind the scripts of the first threads
  abbrev pub owners_of : ℕ → ℕ → List NodeNo
  owners_of labels threads =
      fold (λ os t. owners_behind (home_no nodes config t) os (script t)) (replicate labels (record { 0 = 0 })) (range_with_len 0 threads)

  -- the greatest label plus one that the first threads allocate at node k, or 0
  abbrev pub labels_by : ℕ → ℕ → ℕ
  labels_by k threads = fold (λ most t. max most (end_at (home nodes config t) k (script t))) 0 (range_with_len 0 threads)

module _ (setting : Setting) (nodes : ℕ) where
  -- what a thread has at the first nodes
  abbrev pub local_by : ℕ → List NodeNo → List Planned → ℕ → NodeLocal
  local_by t owners calls k =
      first_local (no_calls setting.table) (record { 0 = t }) no_seat (calls_by (home_no nodes setting.config t) owners k calls)

  abbrev pub locals_by : ℕ → List NodeNo → List Planned → ℕ → List NodeLocal
  locals_by t owners calls n = map (local_by t owners calls) (range_with_len 0 n)

  -- a thread
  abbrev pub thread_by : ℕ → List NodeNo → List Planned → Beside NodeLocal
  thread_by t owners calls =
      record {
        here = locals_by t owners calls nodes;
        route = map (λ (n : NodeNo). n.0) (route_by (home_no nodes setting.config t) owners calls);
        ended = 0;
        acts = 0;
        answers = [];
      }

-- the parts of the first nodes, each with so many labels
module _ (setting : Setting) (labels : ℕ → ℕ) where
  abbrev pub parts_with : List NodePart → ℕ → List NodePart
  parts_with parts k = parts ++ parts_of 0 (parts_at (no_caches setting.table) about_none setting.config (labels k))

  abbrev pub parts_by : ℕ → List NodePart
  parts_by n = fold parts_with [] (range_with_len 0 n)
