-- The end of a whole run.
use Rattle.std.specs.Prelude.{◌≡◌, ◌≢◌, ℕ, List, length, All, Some, None, slice_get}
use Rattle.tc_model.specs.declared.board.Turn.{Turn}
use Rattle.tc_model.specs.declared.board.Turn.TheVariants.{Moved, NotYet, Held, Ended, Halted}
use Rattle.replay_workers.specs.Runs.{halt_among}
use Rattle.tc_model.specs.Run.{Rules, start, run}
use Rattle.tc_model.specs.Chains.{IsPolite}

-- the order is of polite picks that move, and these are the parts and locals of its run
pub record IsRun {P L : Type 0} (r : Rules P L) (parts : List P) (locals : List L) (order : List ℕ) : Type 0 where
  pub polite : IsPolite r (start r) order
  pub parts_are : parts ≡ (run r order).parts
  pub locals_are : locals ≡ (run r order).locals

-- what the last answer of a thread's worker says of its local: its script has ended, or it hasn't
abbrev pub Says : {P L : Type 0} → Rules P L → L → Turn → Type 0
Says r l Moved = Unit {0}
Says r l NotYet = Unit {0}
Says r l Held = Unit {0}
Says r l Ended = r.want l ≡ None
Says r l (Halted cause) = r.want l ≢ None

-- the last answers of the workers of these locals, one for each: where none was halted, each has ended
pub record AreLasts {P L : Type 0} (r : Rules P L) (locals : List L) (lasts : List Turn) : Type 0 where
  pub many : length lasts ≡ length locals
  pub says : (t : ℕ) (l : L) (last : Turn) → slice_get locals t ≡ Some l → slice_get lasts t ≡ Some last → Says r l last
  pub over : halt_among lasts ≡ None → All (λ last. last ≡ Ended) lasts
