-- What holds of each trace that is read.
use Rattle.std.specs.Prelude.{ℕ, ◌≡◌, ◌<◌, ◌≤◌, true, false, min, List, ◌∷◌, ◌++◌, length, IfSome}
use Rattle.tc_model.specs.declared.calls.Call.{Call}
use Rattle.tc_model.specs.declared.calls.Call.TheVariants.{Malloc, Free, Release, Drain, Resize}
use Rattle.tc_model.specs.declared.calls.MoveTo.{MoveTo}
use Rattle.tc_model.specs.declared.config.Config.{Config}
use Rattle.tc_model.specs.declared.config.Head.{Head}
use Rattle.tc_model.specs.Heads.{head_limit, IsValueOf}
use Rattle.tc_model.specs.Input.{ThreadCall, Asked}
use Rattle.trace_reader.specs.Limits.{most_lines, most_classes, most_labels, most_size, most_before, most_released, most_capacity}
use Rattle.trace_reader.specs.Labels.{is_allocated, is_freed}

-- each limit is in its head's range
abbrev pub IsConfig : Config → Type 0
IsConfig config = (head : Head) → IsValueOf head (head_limit head config)

-- a move is before an instruction that is numbered, to a CPU that is there
pub record IsMove (config : Config) (moved : MoveTo) : Type 0 where
  pub before : (1 ≤ moved.before) × (moved.before ≤ most_before)
  pub cpu : moved.cpu.0 < config.cpus

-- a call keeps the rules behind the calls before it: an allocation's label is new, and a free's label was allocated and
-- not freed; its CPU and its class are there, and its numbers are in their ranges
abbrev pub IsCall : ℕ → Config → List ThreadCall → Call → Type 0
IsCall classes config earlier (Malloc label size) = (label.0 < most_labels) × (size ≤ most_size) × (is_allocated label.0 earlier ≡ false)
IsCall classes config earlier (Free label) = (label.0 < most_labels) × (is_allocated label.0 earlier ≡ true) × (is_freed label.0 earlier ≡ false)
IsCall classes config earlier (Release pages) = pages ≤ most_released
IsCall classes config earlier (Drain cpu) = cpu.0 < config.cpus
IsCall classes config earlier (Resize cpu class cap) = (cpu.0 < config.cpus) × (class.0 < min classes most_classes) × (cap ≤ most_capacity)

pub record IsThreadCall (classes : ℕ) (config : Config) (earlier : List ThreadCall) (c : ThreadCall) : Type 0 where
  pub thread : c.thread.0 < config.threads
  pub call : IsCall classes config earlier c.planned.call
  pub moved : IfSome c.planned.moved (IsMove config)

-- each call keeps the rules behind the calls before it
abbrev pub AreCalls : ℕ → Config → List ThreadCall → Type 0
AreCalls classes config calls = (earlier : List ThreadCall) (c : ThreadCall) (later : List ThreadCall) → earlier ++ c ∷ later ≡ calls → IsThreadCall classes config earlier c

-- what a valid trace asks for
pub record IsAsked (classes : ℕ) (asked : Asked) : Type 0 where
  pub config : IsConfig asked.config
  pub calls : AreCalls classes asked.config asked.calls
  pub few : length asked.calls ≤ most_lines
