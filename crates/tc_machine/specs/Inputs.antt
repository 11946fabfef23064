-- The input of a run, from a class table and a trace that was read.
use Rattle.std.specs.Prelude.{◌≡◌, ℕ, ◌==◌, List, [], ◌∷◌, ◌++◌, drop, if◌then◌else◌}
use Rattle.std.specs.List.{slice_index_or}
use Rattle.tc_units.specs.declared.units.ThreadNo.{ThreadNo}
use Rattle.tc_units.specs.declared.spans.ClassRow.{ClassRow}
use Rattle.tc_model.specs.declared.calls.Planned.{Planned}
use Rattle.tc_model.specs.declared.calls.Script.{Script}
use Rattle.tc_model.specs.Input.{Input, Asked, ThreadCall}
use Rattle.tc_model.specs.declared.config.Config.{Config}
use Rattle.trace_reader.specs.declared.trace.Trace.{Trace}
use Rattle.trace_reader.specs.Traces.{trace_of}
use Rattle.trace_reader.specs.Valid.{IsAsked}
use Rattle.call_steps.specs.declared.setting.Setting.{Setting}

-- a trace is what the reader answers for what this asks, where there are so many size classes
pub record IsRead (classes : ℕ) (trace : Trace) (asked : Asked) : Type 0 where
  pub is : trace ≡ trace_of asked
  pub valid : IsAsked classes asked

-- the calls of a thread
abbrev pub script_at : List Script → ℕ → List Planned
script_at scripts t = (slice_index_or scripts t (record { calls = [] })).calls

-- The calls in trace order: at each turn, its thread makes the first call that is left to it.
abbrev pub next_call : ThreadNo → List Planned → List ThreadCall
next_call thread [] = []
next_call thread (p ∷ later) = (record { thread = thread; planned = p }) ∷ []

abbrev pub calls_by : List ThreadNo → (ℕ → List Planned) → List ThreadCall
calls_by [] left = []
calls_by (t ∷ turns) left = next_call t (left t.0) ++ calls_by turns (λ u. if u == t.0 then drop 1 (left u) else left u)

-- what a trace asks for under these heads, and the input under a class table
abbrev pub asked_under : Config → Trace → Asked
asked_under config trace = record { config = config; calls = calls_by trace.turns (script_at trace.scripts) }

abbrev pub input_under : Setting → Trace → Input
input_under setting trace = record { rows = setting.table; asked = asked_under setting.config trace }

-- under its own heads
abbrev pub asked_of : Trace → Asked
asked_of trace = asked_under trace.config trace

abbrev pub input_of : List ClassRow → Trace → Input
input_of rows trace = record { rows = rows; asked = asked_of trace }
