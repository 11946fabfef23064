-- That an input is valid has one proof at most, so that a machine can keep it.
use Rattle.std.proofs.Common.{List, Option, None, Some}
use Rattle.alloc_rules.proofs.Common.{ClassRow, Call, Malloc, Free, Drain, Resize, Planned, Input, ThreadCall, IsClassRow, AreRows, IsInOrder, IsCall}
use Rattle.alloc_rules.specs.Inputs.{IsCallThere, IsMove, IsPlanned, IsValidInput, Limits, limits_of}
use Rattle.std.specs.Coded.{le_prop}
use Rattle.std.proofs.Math.Nat.{ℕ_set}
use Rattle.tc_model.specs.declared.calls.MoveTo.{MoveTo}

order_prop : (earlier : List ThreadCall) (call : Call) → IsProp (IsInOrder earlier call)
order_prop earlier (Malloc label size) = hlevel (ℕ_set, le_prop)
order_prop earlier (Free label) = hlevel (ℕ_set, le_prop)
order_prop earlier call = hlevel

move_prop : (m : Limits) (moved : Option MoveTo) → IsProp (IsMove m moved)
move_prop m None = hlevel
move_prop m (Some move) = hlevel (le_prop)

there_prop : (m : Limits) (call : Call) → IsProp (IsCallThere m call)
there_prop m (Drain cpu) = hlevel (le_prop)
there_prop m (Resize cpu class n) = hlevel (le_prop)
there_prop m call = hlevel

planned_prop : (m : Limits) (p : Planned) → IsProp (IsPlanned m p)
planned_prop m p = hlevel (there_prop, move_prop)

call_prop : (input : Input) (earlier : List ThreadCall) (c : ThreadCall) → IsProp (IsCall input.rows (IsPlanned (limits_of input.rows input.asked.config)) input.asked earlier c)
call_prop input earlier c = hlevel (order_prop, planned_prop, le_prop)

row_prop : (row : ClassRow) → IsProp (IsClassRow row)
row_prop row = hlevel (le_prop)

rows_prop : (rows : List ClassRow) → IsProp (AreRows rows)
rows_prop rows = hlevel (row_prop, le_prop)

pub valid_prop : (input : Input) → IsProp (IsValidInput input)
valid_prop input = hlevel (call_prop, rows_prop, le_prop)
