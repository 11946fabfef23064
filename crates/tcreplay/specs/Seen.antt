-- Options and what a command comes to as the grammar has them: names are bytes.
use Rattle.std.specs.Prelude.{option_map}
use Rattle.tcreplay.specs.Words as words
use Rattle.tcreplay.specs.Tasks as tasks
use Rattle.numa_heaps.specs.declared.nodes.Nodes.{Nodes as Count}
use Rattle.tcreplay.specs.declared.machines.Front.{Front}
use Rattle.tcreplay.specs.declared.machines.Front.TheVariants.{Cpus, Threads, Nodes}
use Rattle.tcreplay.specs.declared.words.Options.{Options}
use Rattle.tcreplay.specs.declared.task.Replay.{Replay}
use Rattle.tcreplay.specs.declared.task.Workload.{Workload}
use Rattle.tcreplay.specs.declared.task.Audit.{Audit}
use Rattle.tcreplay.specs.declared.task.Task.{Task}
use Rattle.tcreplay.specs.declared.task.Task.TheVariants as task
use Rattle.tcreplay.specs.declared.task.Schedule.{Schedule}
use Rattle.tcreplay.specs.declared.task.Schedule.TheVariants.{InTurn, ByFile, ByThreads}

abbrev pub seen : Options → words.Options
seen o = record {
  classes = option_map (λ name. name.now) o.classes;
  nodes = option_map (λ (n : Count). n.count) o.nodes;
  order = option_map (λ name. name.now) o.order;
  locks = o.locks;
  workers = o.workers;
  rows = o.rows;
  sample = o.sample;
  seed = o.seed;
  calls = o.calls;
  threads = o.threads;
  journal = option_map (λ name. name.now) o.journal;
}

abbrev pub seen_front : Front → tasks.Front
seen_front Cpus = tasks.Cpus
seen_front Threads = tasks.Threads
seen_front (Nodes nodes) = tasks.Nodes nodes.count

abbrev pub seen_schedule : Schedule → tasks.Schedule
seen_schedule InTurn = tasks.InTurn
seen_schedule (ByFile order) = tasks.ByFile order.now
seen_schedule (ByThreads locks) = tasks.ByThreads locks

abbrev pub seen_replay : Replay → tasks.Replay
seen_replay r = record { front = seen_front r.front; classes = r.classes.now; schedule = seen_schedule r.schedule; rows = r.rows; sample = r.sample }

abbrev pub seen_workload : Workload → tasks.Workload
seen_workload r = record { classes = r.classes.now; seed = r.seed; calls = r.calls; threads = r.threads }

abbrev pub seen_audit : Audit → tasks.Audit
seen_audit a = record { classes = a.classes.now; journal = a.journal.now }

abbrev pub seen_task : Task → tasks.Task
seen_task (task.Replay replay) = tasks.ToReplay (seen_replay replay)
seen_task (task.Generate workload) = tasks.ToGenerate (seen_workload workload)
seen_task (task.Audit audit) = tasks.ToAudit (seen_audit audit)
