-- The inputs that the rules serve, whatever the front-end: every class table, and every trace that a reader takes.
use Rattle.std.specs.Prelude.{◌≡◌, ℕ, ◌<◌, Bool, true, false, if◌then◌else◌, List, length, sum_by, All, Option, Some, None}
use Rattle.tc_units.specs.declared.spans.ClassRow.{ClassRow}
use Rattle.tc_model.specs.declared.calls.Call.{Call}
use Rattle.tc_model.specs.declared.calls.Call.TheVariants.{Drain, Resize}
use Rattle.tc_model.specs.declared.calls.MoveTo.{MoveTo}
use Rattle.tc_model.specs.declared.calls.Planned.{Planned}
use Rattle.tc_model.specs.declared.config.Config.{Config}
use Rattle.tc_model.specs.Input.{Input, ThreadCall}
use Rattle.call_steps.specs.declared.setting.Setting.{Setting}
use Rattle.alloc_rules.specs.Valid.{IsValid}

-- the setting that an input names
abbrev pub setting_of : Input → Setting
setting_of input = record { table = input.rows; config = input.asked.config }

-- the limits that calls are within: the table's rows and so many CPUs
pub record Limits : Type 0 where
  pub rows : List ClassRow
  pub cpus : ℕ

abbrev pub limits_of : List ClassRow → Config → Limits
limits_of rows c = record { rows = rows; cpus = c.cpus }

-- the CPU of a move is there, and so are the CPU and the class of a call
abbrev pub IsMove : Limits → Option MoveTo → Type 0
IsMove m None = Unit {0}
IsMove m (Some move) = move.cpu.0 < m.cpus

abbrev pub IsCallThere : Limits → Call → Type 0
IsCallThere m (Drain c) = c.0 < m.cpus
IsCallThere m (Resize c class cap) = (c.0 < m.cpus) × (class.0 < length m.rows)
IsCallThere m call = Unit {0}

pub record IsPlanned (m : Limits) (p : Planned) : Type 0 where
  pub call : IsCallThere m p.call
  pub move : IsMove m p.moved

-- what a reader takes
abbrev pub IsValidInput : Input → Type 0
IsValidInput input = IsValid input.rows (IsPlanned (limits_of input.rows input.asked.config)) input.asked

-- the calls that every front-end takes: no drain and no resize
abbrev pub is_common : Call → Bool
is_common (Drain cpu) = false
is_common (Resize cpu class cap) = false
is_common call = true

-- whether each call of a script is one that a front-end takes, by what it says of each
abbrev pub AreTaken : (Call → Bool) → List Planned → Type 0
AreTaken takes script = All (λ (p : Planned). takes p.call ≡ true) script

-- how many calls of a trace it doesn't take
abbrev pub not_taken : (Call → Bool) → List ThreadCall → ℕ
not_taken takes calls = sum_by (λ (c : ThreadCall). if takes c.planned.call then 0 else 1) calls
