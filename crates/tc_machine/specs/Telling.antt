-- How the calls of a run are told: which of them a listener hears, and how far a thread has come in telling those that its
-- picks decided.
use Rattle.std.specs.Prelude.{◌≡◌, ℕ, ◌≤◌, ◌<◌, ◌==◌, Bool, false, List, ◌∷◌, ◌++◌, length, drop, filter, Option, None, Some, option_map, slice_get}
use Rattle.tc_model.specs.declared.answers.CallLine.{CallLine}
use Rattle.tc_model.specs.Limits.{most_picks}
use Rattle.tc_model.specs.Calls.{AreRising}
use Rattle.call_steps.specs.Local.{Decided}
use Rattle.tc_machine.specs.declared.telling.Mark.{Mark}

-- each of some calls may be heard behind those before it; no run has more calls than picks
abbrev pub HearsEach : (List CallLine → CallLine → Type 0) → List CallLine → Type 0
HearsEach may_hear calls = (earlier : List CallLine) (c : CallLine) (later : List CallLine) → earlier ++ c ∷ later ≡ calls → length earlier < most_picks → may_hear earlier c

-- the answers that a pick decided, by its number among the thread's picks
abbrev pub decided_at : ℕ → List Decided → List Decided
decided_at n answers = filter (λ (d : Decided). d.act == n) answers

-- the pick that decided the answer at a place
abbrev pub due_at : ℕ → List Decided → Option ℕ
due_at place answers = option_map (λ (d : Decided). d.act) (slice_get answers place)

-- whether a pick is the one that is due
abbrev pub decides_next : ℕ → Option ℕ → Bool
decides_next n None = false
decides_next n (Some due) = due == n

-- the mark of a thread before its first pick
abbrev pub first_mark : List Decided → Mark
first_mark answers = record { picks = 0; told = 0; due = due_at 0 answers }

-- all answers that later picks decided stand behind the place, in their order, and no pick decided more than one
pub record IsMark (answers : List Decided) (m : Mark) : Type 0 where
  pub within : m.told ≤ length answers
  pub few : m.told ≤ m.picks
  pub due : m.due ≡ due_at m.told answers
  pub behind : AreRising (λ (d : Decided). d.act) m.picks (drop m.told answers)
  pub later : (n : ℕ) → m.picks ≤ n → decided_at n answers ≡ decided_at n (drop m.told answers)
