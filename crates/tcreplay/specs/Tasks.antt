-- What a command comes to: a trace is replayed, or one is generated and replayed, or a journal of its calls is judged.
use Rattle.std.specs.Prelude.{ℕ, ◌≤◌, Bool, IfSome, List, Option, Some, None}
use Rattle.tcreplay.specs.declared.task.Locks.{Locks}

-- What serves small objects: slabs of CPUs or caches of threads before the shards, or the shards of a thread's memory node
-- alone, of so many nodes.
pub data Front : Type 0 where
  Cpus : Front
  Threads : Front
  Nodes : ℕ → Front

-- Which picks a replay makes before it goes on in trace order: none, those of an order file, or those of a running thread
-- for each thread of the trace, under such locks.
pub data Schedule : Type 0 where
  InTurn : Schedule
  ByFile : List ℕ → Schedule
  ByThreads : Locks → Schedule

abbrev pub file_of : Schedule → Option (List ℕ)
file_of (ByFile order) = Some order
file_of other = None

abbrev pub locks_in : Schedule → Option Locks
locks_in (ByThreads locks) = Some locks
locks_in other = None

-- the replay of a trace: what serves small objects, the file of the class table, which picks come first, whether the
-- rows are printed, and at each how many bytes of requests an allocation is sampled, if any is
pub record Replay : Type 0 where
  pub front : Front
  pub classes : List ℕ
  pub schedule : Schedule
  pub rows : Bool
  pub sample : Option ℕ

-- the generation of a trace: the file of the class table under which it is replayed, its seed, how many calls it has, and
-- of how many threads
pub record Workload : Type 0 where
  pub classes : List ℕ
  pub seed : ℕ
  pub calls : ℕ
  pub threads : ℕ

-- the audit of a journal: the file of the class table, and that of the journal
pub record Audit : Type 0 where
  pub classes : List ℕ
  pub journal : List ℕ

-- what a command comes to
pub data Task : Type 0 where
  ToReplay : Replay → Task
  ToGenerate : Workload → Task
  ToAudit : Audit → Task

-- the locks of the worker threads that are asked for, where any are
abbrev pub threads_in : Option Task → Option Locks
threads_in (Some (ToReplay replay)) = locks_in replay.schedule
threads_in other = None

-- the numbers of a workload are in their ranges
pub record IsWorkload (workload : Workload) : Type 0 where
  pub seed : workload.seed ≤ 2147483647
  pub some_calls : 1 ≤ workload.calls
  pub calls : workload.calls ≤ 500000
  pub some_threads : 1 ≤ workload.threads
  pub threads : workload.threads ≤ 64

-- and so is the step of a sampled profile
abbrev pub IsStep : ℕ → Type 0
IsStep step = (1 ≤ step) × (step ≤ 1073741824)

abbrev pub IsTask : Task → Type 0
IsTask (ToReplay replay) = IfSome replay.sample IsStep
IsTask (ToGenerate workload) = IsWorkload workload
IsTask (ToAudit audit) = Unit {0}
