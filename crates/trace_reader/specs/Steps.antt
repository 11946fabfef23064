-- The steps of the code that reads a trace, and what it keeps.
use Rattle.std.specs.Prelude.{ℕ, [], min, replicate, IfSome, ◌≡◌, ◌<◌, ◌≤◌, ◌&&◌, true, false, List, length, Option, Some, None, Err, if◌then◌else◌}
use Rattle.tc_model.specs.Limits.{most_cpus, most_threads}
use Rattle.tc_model.specs.Input.{ThreadCall, Asked}
use Rattle.trace_reader.specs.Limits.{most_lines, most_classes}
use Rattle.trace_reader.specs.declared.reader.Reader.{Reader}
use Rattle.trace_text.specs.Places.{LineLeft}
use Rattle.trace_reader.specs.declared.word.Word.{Word}
use Rattle.trace_reader.specs.declared.form.Form.{Form}
use Rattle.trace_reader.specs.declared.form.Form.TheVariants.{Head, Malloc, Free, Move, Release, Drain, Resize}
use Rattle.trace_reader.specs.declared.why.LineWhy.{LineWhy}
use Rattle.trace_reader.specs.declared.why.LineWhy.TheVariants as why
use Rattle.trace_reader.specs.declared.why.TraceFault.{TraceFault}
use Rattle.trace_reader.specs.declared.why.TraceFault.TheVariants as fault
use Rattle.trace_reader.specs.Words.{is_head}
use Rattle.std.specs.List.{slice_index_or}
use Rattle.trace_reader.specs.Valid.{IsConfig, IsMove, AreCalls}
use Rattle.trace_reader.specs.Labels.{is_allocated, is_freed}
use Rattle.trace_reader.specs.Kept.{IsKept, calls_of}
use Rattle.trace_reader.specs.Reading.{SoFar, Line, read_line, first_word, lacks_thread, lacks_cpu, lacks_class, label_used, label_unknown, label_freed}

-- the first rule on a form that it fails
abbrev pub broken_label : List ThreadCall → Form → Option LineWhy
broken_label calls form =
    if label_used calls form then Some why.LabelUsed
    else (if label_unknown calls form then Some why.LabelUnknown
    else (if label_freed calls form then Some why.LabelFreed else None))

abbrev pub broken : ℕ → Asked → Form → Option LineWhy
broken classes asked form =
    if lacks_thread asked form then Some why.Thread
    else (if lacks_cpu asked form then Some why.Cpu
    else (if lacks_class classes form then Some why.Class else broken_label asked.calls form))

-- what a reader has read so far
abbrev pub so_far : Reader → SoFar
so_far reader = record { asked = record { config = reader.config; calls = calls_of reader.calls }; late = reader.late; moves = reader.moves }

-- there are few threads and CPUs, there is room for each thread, and the index is right
pub record IsReading (reader : Reader) : Type 0 where
  pub threads : reader.config.threads ≤ most_threads
  pub cpus : reader.config.cpus ≤ most_cpus
  pub scripts : length reader.calls.scripts.items ≡ most_threads
  pub kept : IsKept reader.calls

-- a line behind what a reader has read so far
abbrev pub line_at : ℕ → Reader → LineLeft → Line
line_at classes reader line = record { classes = classes; before = so_far reader; number = line.line; fields = line.fields }

-- what is known of a line that passes the rules on its number and its word
pub record HasWord (line : Line) (w : Word) : Type 0 where
  pub few : line.number ≤ most_lines
  pub word : first_word line.fields ≡ Some w
  pub early : (line.before.late && is_head w) ≡ false

-- a form fails no rule: its thread, CPU and class are there, and its label may be used
abbrev pub Fits : ℕ → Asked → Form → Type 0
Fits classes asked (Head head value) = Unit {0}
Fits classes asked (Malloc thread label size) = (thread < asked.config.threads) × (is_allocated label asked.calls ≡ false)
Fits classes asked (Free thread label) = (thread < asked.config.threads) × (is_allocated label asked.calls ≡ true) × (is_freed label asked.calls ≡ false)
Fits classes asked (Move thread before cpu) = (thread < asked.config.threads) × (cpu < asked.config.cpus)
Fits classes asked (Release thread pages) = thread < asked.config.threads
Fits classes asked (Drain thread cpu) = (thread < asked.config.threads) × (cpu < asked.config.cpus)
Fits classes asked (Resize thread cpu class cap) = (thread < asked.config.threads) × (cpu < asked.config.cpus) × (class < min classes most_classes)

-- what was read so far is valid, each pending move too, and no call and no move stands before a head
pub record IsSoFar (classes : ℕ) (sofar : SoFar) : Type 0 where
  pub config : IsConfig sofar.asked.config
  pub calls : AreCalls classes sofar.asked.config sofar.asked.calls
  pub moves : (thread : ℕ) → IfSome (slice_index_or sofar.moves thread None) (IsMove sofar.asked.config)
  pub early : sofar.late ≡ false → (sofar.asked.calls ≡ []) × (sofar.moves ≡ replicate most_threads None)

-- a fault is want of memory, or what the definition says of the line
abbrev pub IsLineFault : Line → TraceFault → Type 0
IsLineFault line fault.Memory = Unit {0}
IsLineFault line (fault.BadLine at reason) = (at ≡ line.number) × (read_line line ≡ Err reason)
