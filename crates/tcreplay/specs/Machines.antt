-- The machines on which traces are run: each is the allocator over what serves small objects.
use Rattle.std.specs.Prelude.{ℕ, Bool, true, List}
use Rattle.tc_model.specs.declared.answers.Finished.{Finished}
use Rattle.tc_model.specs.declared.calls.Call.{Call}
use Rattle.tc_model.specs.Input.{Input}
use Rattle.tc_model.specs.Run.{Rules}
use Rattle.cpu_rows.specs.Machine as cpus
use Rattle.cpu_rows.specs.PerCpu.{CpuLocal}
use Rattle.cpu_rows.specs.Switches.{SwitchesAreFew}
use Rattle.cpu_front.specs.Machine as cpu_machine
use Rattle.alloc_rules.specs.Inputs.{is_common}
use Rattle.thread_front.specs.Machine as thread_machine
use Rattle.node_rules.specs.Beside.{Beside}
use Rattle.node_rules.specs.Numa.{NodePart, NodeLocal, numa_rules}
use Rattle.numa_heaps.specs.Machine as node_machine
use Rattle.tcreplay.specs.Tasks.{Front, Cpus, Threads, Nodes}
use Rattle.tcreplay.specs.declared.task.Locks.{Locks}
use Rattle.tcreplay.specs.declared.task.Locks.TheVariants.{Parts}

-- A machine: its parts and its threads, its rules, the hugepages in which its blocks lie, the calls that it takes, what the
-- run of an order tells, its law for an order, and what holds besides of the picks that its running threads make.
pub record Machine : Type 1 where
  pub part : Type 0
  pub local : Type 0
  pub rules : Input → Rules part local
  pub arena : Input → ℕ
  pub takes : Call → Bool
  pub told : Input → List ℕ → Finished
  pub lawful : Input → List ℕ → Type 0
  pub made : Input → List ℕ → Type 0

-- the per-CPU caches, of whose running threads few switch in
abbrev pub per_cpu : Machine
per_cpu =
    record {
      part = cpus.Part;
      local = CpuLocal;
      rules = cpus.rules;
      arena = λ input. input.asked.config.huge;
      takes = λ call. true;
      told = cpu_machine.finished_in;
      lawful = cpu_machine.IsLawful;
      made = λ input picks. SwitchesAreFew (cpus.rules input) picks;
    }

-- the caches of threads
abbrev pub per_thread : Machine
per_thread =
    record {
      part = thread_machine.Part;
      local = thread_machine.CacheLocal;
      rules = thread_machine.rules;
      arena = λ input. input.asked.config.huge;
      takes = is_common;
      told = thread_machine.finished_in;
      lawful = thread_machine.IsLawful;
      made = λ input picks. Unit {0};
    }

-- so many memory nodes, each with a heap and shards of its own
abbrev pub per_node : ℕ → Machine
per_node nodes =
    record {
      part = NodePart;
      local = Beside NodeLocal;
      rules = numa_rules nodes;
      arena = node_machine.arena nodes;
      takes = is_common;
      told = node_machine.finished_in nodes;
      lawful = node_machine.IsLawful nodes;
      made = λ input picks. Unit {0};
    }

abbrev pub machine_of : Front → Machine
machine_of Cpus = per_cpu
machine_of Threads = per_thread
machine_of (Nodes nodes) = per_node nodes

-- the locks under which its threads run where these are asked for: one lock is known by the per-CPU caches alone
abbrev pub locks_for : Front → Locks → Locks
locks_for Cpus locks = locks
locks_for other locks = Parts
