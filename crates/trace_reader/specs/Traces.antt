-- What a trace that was read says, and why one is refused.
use Rattle.std.specs.Prelude.{ℕ, ◌≡◌, List, Err}
use Rattle.tc_model.specs.Input.{Asked, scripts_of, turns_of, labels_of}
use Rattle.trace_reader.specs.declared.trace.Trace.{Trace}
use Rattle.trace_reader.specs.declared.why.TraceFault.{TraceFault}
use Rattle.trace_reader.specs.declared.why.TraceFault.TheVariants.{BadLine, Memory}
use Rattle.trace_reader.specs.Reading.{asked_by}

-- the limits, each thread's script, the thread of each call and the greatest label plus one, or 0
abbrev pub trace_of : Asked → Trace
trace_of asked = record { config = asked.config; scripts = scripts_of asked; turns = turns_of asked; labels = labels_of asked }

-- a fault is want of memory, or the first bad line with the first rule that it fails
abbrev pub IsTraceFault : ℕ → List ℕ → TraceFault → Type 0
IsTraceFault classes text Memory = Unit {0}
IsTraceFault classes text (BadLine line why) = asked_by classes text ≡ Err (record { line = line; why = why })
