-- The grammar of the command line.
use Rattle.std.specs.Prelude.{ℕ, Bool, true, false, ◌==◌, List, [], ◌∷◌, Option, Some, None, if◌then◌else◌, option_map, option_and_then, unwrap_or, codes}
use Rattle.std.specs.Str.{bytes_eq}
use Rattle.trace_reader.specs.Words.{from_to}
use Rattle.trace_reader.specs.Form.{number_in}
use Rattle.tcreplay.specs.declared.task.Locks.{Locks}
use Rattle.tcreplay.specs.declared.task.Locks.TheVariants.{One, Parts}
use Rattle.tcreplay.specs.Tasks.{Front, Cpus, Threads, Nodes, Schedule, InTurn, ByFile, ByThreads, Task, ToReplay, ToGenerate, ToAudit}
use Rattle.tcreplay.specs.declared.words.Kind.{Kind}
use Rattle.tcreplay.specs.declared.words.Kind.TheVariants as kind
use Rattle.tcreplay.specs.declared.words.Flag.{Flag}
use Rattle.tcreplay.specs.declared.words.Flag.TheVariants as flag

-- a word that names a file isn't empty and doesn't begin as an option does
abbrev pub name_of : List ℕ → Option (List ℕ)
name_of [] = None
name_of (c ∷ cs) = if c == 45 then None else Some (c ∷ cs)

-- the words for the locks of workers
abbrev pub locks_of : List ℕ → Option Locks
locks_of word = if bytes_eq word (codes "one") then Some One else (if bytes_eq word (codes "parts") then Some Parts else None)

-- the commands
abbrev pub kind_of : List ℕ → Option Kind
kind_of word =
    if bytes_eq word (codes "serial") then Some kind.Serial
    else if bytes_eq word (codes "order") then Some kind.Order
    else if bytes_eq word (codes "workers") then Some kind.Workers
    else if bytes_eq word (codes "perthread") then Some kind.PerThread
    else if bytes_eq word (codes "numa") then Some kind.Numa
    else if bytes_eq word (codes "gen") then Some kind.Gen
    else if bytes_eq word (codes "audit") then Some kind.Audit
    else None

-- the options
abbrev pub flag_of : List ℕ → Option Flag
flag_of word =
    if bytes_eq word (codes "--classes") then Some flag.Classes
    else if bytes_eq word (codes "--nodes") then Some flag.Nodes
    else if bytes_eq word (codes "--order") then Some flag.Order
    else if bytes_eq word (codes "--locks") then Some flag.Locks
    else if bytes_eq word (codes "--workers") then Some flag.Workers
    else if bytes_eq word (codes "--rows") then Some flag.Rows
    else if bytes_eq word (codes "--sample") then Some flag.Sample
    else if bytes_eq word (codes "--seed") then Some flag.Seed
    else if bytes_eq word (codes "--calls") then Some flag.Calls
    else if bytes_eq word (codes "--threads") then Some flag.Threads
    else if bytes_eq word (codes "--journal") then Some flag.Journal
    else None

-- which options a command takes
abbrev pub takes : Kind → Flag → Bool
takes kind flag.Classes = true
takes kind.Numa flag.Nodes = true
takes kind.Order flag.Order = true
takes kind.PerThread flag.Order = true
takes kind.Numa flag.Order = true
takes kind.Workers flag.Locks = true
takes kind.PerThread flag.Workers = true
takes kind.Numa flag.Workers = true
takes kind.Serial flag.Rows = true
takes kind.Order flag.Rows = true
takes kind.Workers flag.Rows = true
takes kind.PerThread flag.Rows = true
takes kind.Numa flag.Rows = true
takes kind.Serial flag.Sample = true
takes kind.Order flag.Sample = true
takes kind.Workers flag.Sample = true
takes kind.Gen flag.Seed = true
takes kind.Gen flag.Calls = true
takes kind.Gen flag.Threads = true
takes kind.Audit flag.Journal = true
takes kind flag = false

-- the options that came so far
pub record Options : Type 0 where
  pub classes : Option (List ℕ)
  pub nodes : Option ℕ
  pub order : Option (List ℕ)
  pub locks : Option Locks
  pub workers : Bool
  pub rows : Bool
  pub sample : Option ℕ
  pub seed : Option ℕ
  pub calls : Option ℕ
  pub threads : Option ℕ
  pub journal : Option (List ℕ)

abbrev pub no_options : Options
no_options = record { classes = None; nodes = None; order = None; locks = None; workers = false; rows = false; sample = None; seed = None; calls = None; threads = None; journal = None }

-- an option comes once, with a value that is its own
abbrev pub once : {A : Type 0} → Option A → Option A → Option A
once None value = value
once (Some earlier) value = None

-- the options with one more, and its value
abbrev pub with_value : Options → Flag → List ℕ → Option Options
with_value so flag.Classes word = option_map (λ name. record so { classes = Some name }) (once so.classes (name_of word))
with_value so flag.Nodes word = option_map (λ n. record so { nodes = Some n }) (once so.nodes (number_in (from_to 1 8) word))
with_value so flag.Order word = option_map (λ name. record so { order = Some name }) (once so.order (name_of word))
with_value so flag.Locks word = option_map (λ locks. record so { locks = Some locks }) (once so.locks (locks_of word))
with_value so flag.Workers word = None
with_value so flag.Rows word = None
with_value so flag.Sample word = option_map (λ n. record so { sample = Some n }) (once so.sample (number_in (from_to 1 1073741824) word))
with_value so flag.Seed word = option_map (λ n. record so { seed = Some n }) (once so.seed (number_in (from_to 0 2147483647) word))
with_value so flag.Calls word = option_map (λ n. record so { calls = Some n }) (once so.calls (number_in (from_to 1 500000) word))
with_value so flag.Threads word = option_map (λ n. record so { threads = Some n }) (once so.threads (number_in (from_to 1 64) word))
with_value so flag.Journal word = option_map (λ name. record so { journal = Some name }) (once so.journal (name_of word))

-- the options with one more that has no value
abbrev pub with_switch : Options → Flag → Option Options
with_switch so flag.Workers = if so.workers then None else Some (record so { workers = true })
with_switch so flag.Rows = if so.rows then None else Some (record so { rows = true })
with_switch so flag = None

-- the option that a word names, where the command takes it
abbrev pub taken_flag : Kind → List ℕ → Option Flag
taken_flag kind word = option_and_then (λ flag. if takes kind flag then Some flag else None) (flag_of word)

-- whether a flag has no value
abbrev pub is_switch : Flag → Bool
is_switch flag.Workers = true
is_switch flag.Rows = true
is_switch flag = false

-- the options behind the command, in any sequence
abbrev pub options_of : Kind → Options → List (List ℕ) → Option Options
options_of kind so [] = Some so
options_of kind so (word ∷ []) = option_and_then (λ flag. if is_switch flag then with_switch so flag else None) (taken_flag kind word)
options_of kind so (word ∷ value ∷ words) =
    option_and_then (λ flag. if is_switch flag
    then option_and_then (λ more. options_of kind more (value ∷ words)) (with_switch so flag)
    else option_and_then (λ more. options_of kind more words) (with_value so flag value)) (taken_flag kind word)

-- the picks that come first on a machine that takes an order file or worker threads, and not both
abbrev pub schedule_by : Bool → Option (List ℕ) → Option Schedule
schedule_by false None = Some InTurn
schedule_by true None = Some (ByThreads Parts)
schedule_by false (Some order) = Some (ByFile order)
schedule_by true (Some order) = None

-- the replay of a command with its options
abbrev pub replay_with : Options → Front → List ℕ → Schedule → Task
replay_with so front classes schedule = ToReplay (record { front = front; classes = classes; schedule = schedule; rows = so.rows; sample = so.sample })

-- what a command with its options asks for, under a class table: all that it needs are there; the locks of workers are one
-- for each part, unless an option says it
abbrev pub task_under : Kind → Options → List ℕ → Option Task
task_under kind.Serial so classes = Some (replay_with so Cpus classes InTurn)
task_under kind.Order so classes = option_map (λ order. replay_with so Cpus classes (ByFile order)) so.order
task_under kind.Workers so classes = Some (replay_with so Cpus classes (ByThreads (unwrap_or so.locks Parts)))
task_under kind.PerThread so classes = option_map (replay_with so Threads classes) (schedule_by so.workers so.order)
task_under kind.Numa so classes = option_and_then (λ nodes. option_map (replay_with so (Nodes nodes) classes) (schedule_by so.workers so.order)) so.nodes
task_under kind.Gen so classes =
    option_and_then (λ seed. option_and_then (λ calls. option_map (λ threads. ToGenerate (record { classes = classes; seed = seed; calls = calls; threads = threads }))
    so.threads) so.calls) so.seed
task_under kind.Audit so classes = option_map (λ journal. ToAudit (record { classes = classes; journal = journal })) so.journal

-- what the words ask for, where they are in the grammar
abbrev pub task_by : List (List ℕ) → Option Task
task_by [] = None
task_by (word ∷ words) =
    option_and_then (λ kind. option_and_then (λ so. option_and_then (task_under kind so) so.classes) (options_of kind no_options words)) (kind_of word)
