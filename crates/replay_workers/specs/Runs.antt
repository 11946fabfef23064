-- What a worker did: turns of the board, one after another.
use Rattle.std.specs.Prelude.{◌≡◌, ◌≢◌, ℕ, map, zero, suc, ◌+◌, ◌⊎◌, ◌<◌, ◌≤◌, min, Bool, true, false, List, length, slice_index_or, Option, Some, None, if◌then◌else◌}
use Rattle.std.specs.List.{list_any}
use Rattle.tc_model.specs.declared.board.Halt.{Halt}
use Rattle.tc_model.specs.declared.board.Halt.TheVariants.{Memory, Full}
use Rattle.tc_model.specs.declared.board.Turn.{Turn}
use Rattle.tc_model.specs.declared.board.Turn.TheVariants.{Moved, NotYet, Held, Ended, Halted}
use Rattle.tc_model.specs.Turns.{is_halted}
use Rattle.tc_units.specs.declared.units.ThreadNo.{ThreadNo}
use Rattle.replay_workers.specs.declared.worker.Worker.{Worker}

-- after how many turns in a row that move nothing a worker's thread ends: some seconds of naps. It is more than none.
abbrev pub patience : ℕ
patience = 30000

-- the most microseconds of one nap of a worker that waits
abbrev pub most_nap : ℕ
most_nap = 100

-- whether a worker whose last turn had this answer takes no more
abbrev pub is_over : Turn → Bool
is_over Moved = false
is_over NotYet = false
is_over Held = false
is_over Ended = true
is_over (Halted cause) = true

-- n more, up to the greatest number
abbrev pub more : ℕ → ℕ → ℕ
more t zero = t
more t (suc n) = min (more t n + 1) 18446744073709551615

module _ {H : Type 0} (turns : H → Turn → H → Type 0) where
  -- n turns lead from a hand and an answer to a hand and an answer, and none comes after the end
  abbrev pub Turns : ℕ → H → Turn → H → Turn → Type 0
  Turns zero h l k m = (h ≡ k) × (l ≡ m)
  Turns (suc n) h l k m = (j : H) × (i : Turn) × Turns n h l j i × (is_over i ≡ false) × turns j m k

module _ {H : Type 0} (turns : H → Turn → H → Type 0) where
  -- the same, and none of them moved
  abbrev pub IdleTurns : ℕ → H → Turn → H → Turn → Type 0
  IdleTurns zero h l k m = (h ≡ k) × (l ≡ m)
  IdleTurns (suc n) h l k m = (j : H) × (i : Turn) × IdleTurns n h l j i × (is_over i ≡ false) × turns j m k × (m ≢ Moved)

  -- a worker came from one state to another by turns of which the last n moved nothing
  pub record Waited {B : Type 0} (n : ℕ) (a b : Worker B H) : Type 0 where
    pub before : ℕ
    pub hand : H
    pub last : Turn
    pub by_turns : Turns turns before a.hand a.last hand last
    pub idle : IdleTurns n hand last b.hand b.last

  -- it is over, or has waited for n turns at least
  abbrev pub GivesUpAfter : {B : Type 0} → ℕ → Worker B H → Worker B H → Type 0
  GivesUpAfter n a b = is_over b.last ≡ false → (m : ℕ) × (n ≤ m) × Waited m a b

module _ {B H : Type 0} (turns : H → Turn → H → Type 0) where
  -- one turn, and it didn't move
  abbrev pub TurnsInVain : Worker B H → Worker B H → Type 0
  TurnsInVain a b = turns a.hand b.last b.hand × (b.last ≢ Moved)

  -- if it wasn't over it took such a turn, and else it is the same
  pub record IsStill (a b : Worker B H) : Type 0 where
    pub turn : is_over a.last ≡ false → TurnsInVain a b
    pub none : is_over a.last ≡ true → a ≡ b

  -- so at each place below n
  abbrev pub StillBelow : ℕ → List (Worker B H) → List (Worker B H) → Type 0
  StillBelow n xs ys = (i : ℕ) (d : Worker B H) → i < n → IsStill (slice_index_or xs i d) (slice_index_or ys i d)

module _ {B H : Type 0} (turns : H → Turn → H → Type 0) (thread_of : H → ThreadNo) where
  -- a worker came from one state to another by turns for its own thread, each of them counted
  pub record Ran (a b : Worker B H) : Type 0 where
    pub count : ℕ
    pub by_turns : Turns turns count a.hand a.last b.hand b.last
    pub counted : b.turns ≡ more a.turns count
    pub thread : thread_of b.hand ≡ thread_of a.hand

module _ {B H : Type 0} (fits : H → Type 0) where
  -- unless it is halted, it may take a turn
  abbrev pub Stands : Worker B H → Type 0
  Stands w = is_halted w.last ≡ false → fits w.hand

  -- it took no turn yet, and may take one
  abbrev pub IsReady : Worker B H → Type 0
  IsReady w = (w.last ≡ NotYet) × fits w.hand

module _ {B H : Type 0} (turns : H → Turn → H → Type 0) (thread_of : H → ThreadNo) (fits : H → Type 0) where
  -- it ran by turns for its own thread until it was over or had waited for n turns at least
  abbrev pub HasRun : ℕ → Worker B H → Worker B H → Type 0
  HasRun n a b = Ran turns thread_of a b × Stands fits b × GivesUpAfter turns n a b

  -- at each place the second list's worker has so run from the first's
  abbrev pub RunEach : ℕ → List (Worker B H) → List (Worker B H) → Type 0
  RunEach n xs ys = (i : ℕ) (d : Worker B H) → i < length xs → HasRun n (slice_index_or xs i d) (slice_index_or ys i d)

  -- at each place below n, the second list's worker came from the first's
  abbrev pub RanBelow : ℕ → List (Worker B H) → List (Worker B H) → Type 0
  RanBelow n xs ys = (i : ℕ) (d : Worker B H) → i < n → Ran turns thread_of (slice_index_or xs i d) (slice_index_or ys i d) × Stands fits (slice_index_or ys i d)

module _ {B H : Type 0} where
  -- from the place n on, both are the same
  abbrev pub SameFrom : ℕ → List (Worker B H) → List (Worker B H) → Type 0
  SameFrom n xs ys = (i : ℕ) (d : Worker B H) → n ≤ i → slice_index_or xs i d ≡ slice_index_or ys i d

  -- each has ended, or one is halted
  abbrev pub Done : List (Worker B H) → Type 0
  Done xs = ((i : ℕ) (d : Worker B H) → i < length xs → (slice_index_or xs i d).last ≡ Ended) ⊎ ((i : ℕ) × (i < length xs) × ((d : Worker B H) → is_halted (slice_index_or xs i d).last ≡ true))

-- whether a turn was halted for a cause
abbrev pub is_halt_for : Halt → Turn → Bool
is_halt_for Memory (Halted Memory) = true
is_halt_for Full (Halted Full) = true
is_halt_for cause answer = false

-- whether one of these turns was halted for a cause
abbrev pub is_any_halted : Halt → List Turn → Bool
is_any_halted cause lasts = list_any (is_halt_for cause) lasts

-- why one of these turns was halted, where one was: want of memory comes before the limit
abbrev pub halt_among : List Turn → Option Halt
halt_among lasts = if is_any_halted Memory lasts then Some Memory else (if is_any_halted Full lasts then Some Full else None)

module _ {B H : Type 0} where
  -- the last answers of workers
  abbrev pub lasts_of : List (Worker B H) → List Turn
  lasts_of workers = map (λ (w : Worker B H). w.last) workers

  -- why workers were halted, where one was
  abbrev pub halt_of : List (Worker B H) → Option Halt
  halt_of workers = halt_among (lasts_of workers)
