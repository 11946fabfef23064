-- What the code that reads a trace keeps of its calls.
use Rattle.std.specs.Prelude.{ℕ, ◌≡◌, ◌-◌, ◌==◌, true, false, List, [], ◌∷◌, ◌++◌, length, map, reverse, take, if◌then◌else◌, None, fold, max}
use Rattle.std.specs.List.{slice_index_or}
use Rattle.tc_units.specs.declared.units.ThreadNo.{ThreadNo}
use Rattle.tc_model.specs.declared.calls.Call.{Call}
use Rattle.tc_model.specs.declared.calls.Call.TheVariants as call
use Rattle.tc_model.specs.declared.calls.Planned.{Planned}
use Rattle.tc_model.specs.Input.{ThreadCall, script_of, label_end}
use Rattle.trace_reader.specs.declared.calls.Calls.{Calls}
use Rattle.trace_reader.specs.declared.calls.LabelUse.{LabelUse}
use Rattle.trace_reader.specs.declared.calls.LabelUse.TheVariants.{New, Allocated, Freed}
use Rattle.trace_reader.specs.Labels.{is_allocated, is_freed}

-- the last call of a thread's calls, and the calls before it
abbrev pub last_of : List Planned → Planned
last_of calls = slice_index_or calls (length calls - 1) (record { line = 0; call = call.Release 0; moved = None })

abbrev pub all_but_last : List Planned → List Planned
all_but_last calls = take (length calls - 1) calls

-- the calls of all threads in trace order, from their threads, newest first, and each thread's calls
abbrev pub joined : List ThreadNo → (ℕ → List Planned) → List ThreadCall
joined [] scripts = []
joined (thread ∷ earlier) scripts = joined earlier (λ t. if t == thread.0 then all_but_last (scripts t) else scripts t) ++ record { thread = thread; planned = last_of (scripts thread.0) } ∷ []

-- a thread's calls so far, and all calls so far
abbrev pub script_at : Calls → ℕ → List Planned
script_at calls thread = slice_index_or calls.scripts.items thread []

abbrev pub calls_of : Calls → List ThreadCall
calls_of calls = joined (reverse calls.turns.items) (script_at calls)

-- what calls did with a label
abbrev pub label_use : List ThreadCall → ℕ → LabelUse
label_use calls label = if is_allocated label calls then (if is_freed label calls then Freed else Allocated) else New

-- what the index tells of a label
abbrev pub use_at : Calls → ℕ → LabelUse
use_at calls label = slice_index_or calls.uses.items label New

-- the greatest label of an allocation plus one, or 0
abbrev pub label_bound : List ThreadCall → ℕ
label_bound calls = fold (λ most (c : ThreadCall). max most (label_end c.planned.call)) 0 calls

-- the index tells what the calls did with each label, a freed label was allocated, and each thread's calls are its script
pub record IsKept (calls : Calls) : Type 0 where
  pub uses : (label : ℕ) → use_at calls label ≡ label_use (calls_of calls) label
  pub order : (label : ℕ) → is_freed label (calls_of calls) ≡ true → is_allocated label (calls_of calls) ≡ true
  pub labels : calls.labels ≡ label_bound (calls_of calls)
  pub scripts : (thread : ℕ) → script_at calls thread ≡ script_of thread (calls_of calls)
  pub turns : calls.turns.items ≡ map (λ (c : ThreadCall). c.thread) (calls_of calls)

-- a call may stand behind these: an allocation's label is new, and a free's label was allocated
abbrev pub MayFollow : List ThreadCall → Call → Type 0
MayFollow calls (call.Malloc label size) = is_allocated label.0 calls ≡ false
MayFollow calls (call.Free label) = is_allocated label.0 calls ≡ true
MayFollow calls (call.Release pages) = Unit {0}
MayFollow calls (call.Drain cpu) = Unit {0}
MayFollow calls (call.Resize cpu class cap) = Unit {0}

-- what a call makes of what was done with a label
abbrev pub marked : Call → ℕ → LabelUse → LabelUse
marked (call.Malloc l size) label was = if label == l.0 then Allocated else was
marked (call.Free l) label was = if label == l.0 then Freed else was
marked (call.Release pages) label was = was
marked (call.Drain cpu) label was = was
marked (call.Resize cpu class cap) label was = was
