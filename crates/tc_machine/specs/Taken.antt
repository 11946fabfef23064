-- The first call of a trace that a machine doesn't take, by its line.
use Rattle.std.specs.Prelude.{ℕ, Bool, min, List, fold, Option, Some, None, if◌then◌else◌}
use Rattle.tc_model.specs.declared.calls.Call.{Call}
use Rattle.tc_model.specs.declared.calls.Planned.{Planned}
use Rattle.tc_model.specs.declared.calls.Script.{Script}

-- the lesser of two lines, where there are any
abbrev pub lesser : Option ℕ → Option ℕ → Option ℕ
lesser None other = other
lesser (Some line) None = Some line
lesser (Some line) (Some other) = Some (min line other)

-- the line of a call that isn't taken, and the least one in a script
abbrev pub refused_at : (Call → Bool) → Planned → Option ℕ
refused_at takes planned = if takes planned.call then None else Some planned.line

abbrev pub refused_in : (Call → Bool) → List Planned → Option ℕ
refused_in takes script = fold (λ least (p : Planned). lesser least (refused_at takes p)) None script

-- the least line of a call that isn't taken, of any thread
abbrev pub refused_line : (Call → Bool) → List Script → Option ℕ
refused_line takes scripts = fold (λ least (s : Script). lesser least (refused_in takes s.calls)) None scripts
