-- Which calls a run told of a thread.
use Rattle.std.specs.Prelude.{◌≡◌, ℕ, ◌<◌, ◌≤◌, ◌==◌, List, [], map, filter, take}
use Rattle.tc_model.specs.declared.calls.Call.{Call}
use Rattle.tc_model.specs.declared.calls.Planned.{Planned}
use Rattle.tc_model.specs.declared.answers.CallLine.{CallLine}
use Rattle.tc_model.specs.Input.{script_of, Asked}

-- the lines of a thread among call lines, in their order
abbrev pub lines_by : ℕ → List CallLine → List CallLine
lines_by t lines = filter (λ (c : CallLine). c.thread.0 == t) lines

-- the calls of a thread among call lines, in their order
abbrev pub told_of : ℕ → List CallLine → List Call
told_of t lines = map (λ (c : CallLine). c.call) (lines_by t lines)

-- the calls of a thread's script, in their order
abbrev pub calls_in : Asked → ℕ → List Call
calls_in asked t = map (λ (p : Planned). p.call) (script_of t asked.calls)

-- the calls of thread t among these lines, in their order, are the first n of its script
abbrev pub TellsFirst : Asked → ℕ → ℕ → List CallLine → Type 0
TellsFirst asked t n lines = told_of t lines ≡ take n (calls_in asked t)

-- the calls of thread t among these lines, in their order, are its whole script
abbrev pub TellsScript : Asked → ℕ → List CallLine → Type 0
TellsScript asked t lines = told_of t lines ≡ calls_in asked t

-- The lines tell the whole script of each thread, and nothing of a thread that isn't there.
pub record TellsScripts (asked : Asked) (lines : List CallLine) : Type 0 where
  pub each : (t : ℕ) → t < asked.config.threads → TellsScript asked t lines
  pub others : (t : ℕ) → asked.config.threads ≤ t → lines_by t lines ≡ []
