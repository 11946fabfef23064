-- The calls of a plan, by what it keeps of them.
use Rattle.std.specs.Prelude.{ℕ, ◌-◌, ◌≤◌, ◌==◌, List, map, length, All, Option, None, if◌then◌else◌, slice_get}
use Rattle.tc_model.specs.declared.calls.MoveTo.{MoveTo}
use Rattle.tc_model.specs.declared.calls.Planned.{Planned}
use Rattle.tc_model.specs.declared.plan.Entered.{Entered}

-- the move of a number, from 1; the number 0 is none's
abbrev pub move_of : List MoveTo → ℕ → Option MoveTo
move_of moves number = if number == 0 then None else slice_get moves (number - 1)

-- an entered call with its move
abbrev pub planned_of : List MoveTo → Entered → Planned
planned_of moves e = record { line = e.line; moved = move_of moves e.moved; call = e.call }

-- the calls of a plan
abbrev pub planned_by : List MoveTo → List Entered → List Planned
planned_by moves entered = map (planned_of moves) entered

-- each number is that of a move, or 0
abbrev pub AreNumbered : List MoveTo → List Entered → Type 0
AreNumbered moves entered = All (λ e. e.moved ≤ length moves) entered
