-- What a call of `step` says, and a turn of a hand.
use Rattle.std.specs.Prelude.{◌≡◌, ℕ, zero, suc, ◌<◌, ◌≤◌, ◌⊎◌, [], ◌∷◌, length, Bool, true, false, Some, None, vec_len, vec_capacity}
use Rattle.atomic_table.specs.Seated.{TableId}
use Rattle.atomic_table.specs.declared.shared.Seat.{Seat}
use Rattle.tc_units.specs.declared.units.ThreadNo.{ThreadNo}
use Rattle.tc_model.specs.declared.board.Halt.{Halt}
use Rattle.tc_model.specs.declared.board.Halt.TheVariants.{Memory as MemoryHalt, Full as FullHalt}
use Rattle.tc_model.specs.declared.board.Turn.{Turn}
use Rattle.tc_model.specs.declared.board.Turn.TheVariants.{Moved as TurnMoved, NotYet as TurnNotYet, Held as TurnHeld, Ended as TurnEnded, Halted as TurnHalted}
use Rattle.tc_model.specs.Run.{Rules}
use Rattle.part_lock.specs.declared.view.Key.{Key}
use Rattle.part_lock.specs.declared.view.Stall.{Stall}
use Rattle.part_lock.specs.declared.view.Hold.{Hold}
use Rattle.part_lock.specs.declared.view.Stage.TheVariants.{Idle, Taken}
use Rattle.part_lock.specs.declared.view.Work.{Work}
use Rattle.part_lock.specs.declared.view.View.{View}
use Rattle.part_lock.specs.declared.view.View.TheVariants.{Works}
use Rattle.part_lock.specs.declared.view.Step.{Step}
use Rattle.part_lock.specs.declared.view.Step.TheVariants.{Moved, NotYet, Held, Full, Memory, Halted}
use Rattle.part_lock.specs.declared.view.Judged.{Judged}
use Rattle.part_lock.specs.declared.view.Judged.TheVariants.{Waits, Yields, NoRoom, Goes}
use Rattle.part_lock.specs.Lock.{Mine, part_no, hold, at_view, at_stage, saw, note, left, entered, Fresh}

abbrev pub halt_number : Halt → ℕ
halt_number FullHalt = 1
halt_number MemoryHalt = 2

-- the cause that an answer sets
abbrev pub cause_of : Step → ℕ
cause_of (Moved t) = 0
cause_of NotYet = 0
cause_of Held = 0
cause_of (Full t) = 1
cause_of Memory = 2
cause_of (Halted c) = 0

module _ {X P L : Type 0} where
  -- the seat is of that thread, holds nothing, has noted its cause if it has one, and names the local
  abbrev pub IsReady : Key X → ℕ → L → Work X P L → Mine X P L → Type 0
  IsReady key thread l w me = (me ≡ (Works w, [])) × (w.stage ≡ Idle) × (w.noted ≡ true) × (w.thread ≡ thread) × (w.local ≡ l) × (w.machine ≡ key.machine) × (w.events ≡ key.events)

  abbrev pub Ready : Key X → ℕ → L → Mine X P L → Type 0
  Ready key thread l me = (w : Work X P L) × IsReady key thread l w me

  -- the seat has met no cause yet, and has neither entries nor turns
  abbrev pub IsFresh : Mine X P L → Type 0
  IsFresh me = (w : Work X P L) × (me ≡ (Works w, [])) × (w.cause ≡ 0) × (w.made ≡ []) × (w.visits ≡ [])

  -- the seat holds the slot i alone, with the value x
  abbrev pub HoldsOnly : ℕ → Stall P → Mine X P L → Type 0
  HoldsOnly i x me = me.1 ≡ (i, x) ∷ []

  abbrev pub noted_after : ℕ → Mine X P L → Mine X P L
  noted_after zero me = me
  noted_after (suc n) me = (at_view note me.0, me.1)

  module _ (mach : X → Rules P L) (key : Key X) where
    abbrev pub Judges : P → L → ℕ → ℕ → Judged → Type 0
    Judges p l len room Waits = (mach key.machine).waits p l ≡ true
    Judges p l len room Yields = ((mach key.machine).waits p l ≡ false) × ((mach key.machine).yields p l ≡ false)
    Judges p l len room NoRoom = ((mach key.machine).waits p l ≡ false) × ((mach key.machine).yields p l ≡ true) × (room ≤ len)
    Judges p l len room Goes = ((mach key.machine).waits p l ≡ false) × ((mach key.machine).yields p l ≡ true) × (len < room)

    -- w, ready, has just taken the part, and found x
    abbrev pub InTurn : (X → P → L → Type 0) → ℕ → ℕ → L → Work X P L → Stall P → Mine X P L → Type 0
    InTurn fits thread part l w x me =
        (me ≡ (Works (at_stage (Taken (hold part x)) w), (part, x) ∷ [])) × IsReady key thread l w (Works w, []) × (w.cause ≡ 0)
        × ((mach key.machine).want l ≡ Some (part_no part)) × fits key.machine x.part l × Fresh w part (length x.entries.items)

    -- the same, and the part lies as y, with room for an entry, and goes on
    abbrev pub InPlace : (X → P → L → Type 0) → ℕ → ℕ → L → Work X P L → Stall P → Stall P → Mine X P L → Type 0
    InPlace fits thread part l w x y me =
        (me ≡ (Works (at_stage (Taken (hold part x)) w), (part, y) ∷ [])) × (y.entries.items ≡ x.entries.items) × (y.part ≡ x.part) × (vec_len y.entries < vec_capacity y.entries)
        × InTurn fits thread part l w x (Works (at_stage (Taken (hold part x)) w), (part, x) ∷ [])
        × ((mach key.machine).waits x.part l ≡ false) × ((mach key.machine).yields x.part l ≡ true)

    -- this part was wanted, and has no fewer entries than were found there before
    abbrev pub Turns : Work X P L → L → Hold P → Type 0
    Turns w l h = ((mach key.machine).want l ≡ Some (part_no h.slot)) × Fresh w h.slot (length h.found)

    abbrev pub Moves : Work X P L → L → L → Mine X P L → Hold P → ℕ → Type 0
    Moves w l l' me h t =
        Turns w l h × ((mach key.machine).waits h.part l ≡ false) × ((mach key.machine).yields h.part l ≡ true)
        × (l' ≡ ((mach key.machine).after h.part l).1) × (me ≡ (Works (entered h t l' w), [])) × (t < key.events)

    -- the turn ended without an entry, and the seat has this cause
    abbrev pub Leaves : Work X P L → L → L → Mine X P L → Hold P → ℕ → Bool → Type 0
    Leaves w l l' me h c noted = Turns w l h × (l' ≡ l) × (me ≡ (Works (left h c noted w), []))

    -- what the turn itself says
    abbrev pub Acts : Work X P L → L → L → Mine X P L → Hold P → Step → Type 0
    Acts w l l' me h (Moved t) = Moves w l l' me h t
    Acts w l l' me h NotYet = Leaves w l l' me h w.cause w.noted × ((mach key.machine).waits h.part l ≡ true)
    Acts w l l' me h Held = Leaves w l l' me h w.cause w.noted × ((mach key.machine).waits h.part l ≡ false) × ((mach key.machine).yields h.part l ≡ false)
    Acts w l l' me h (Full t) = Leaves w l l' me h 1 false × ((mach key.machine).waits h.part l ≡ false) × ((mach key.machine).yields h.part l ≡ true) × (key.events ≤ t)
    Acts w l l' me h Memory = Leaves w l l' me h 2 false × ((mach key.machine).waits h.part l ≡ false) × ((mach key.machine).yields h.part l ≡ true)
    Acts w l l' me h (Halted c) = ⊥

    -- what `step` says of the seat w and the local
    abbrev pub Tells : Work X P L → L → L → Mine X P L → Step → Type 0
    Tells w l l' me (Moved t) = (h : Hold P) × Moves w l l' me h t
    Tells w l l' me NotYet = (h : Hold P) × Leaves w l l' me h w.cause w.noted × ((mach key.machine).waits h.part l ≡ true)
    Tells w l l' me Held = (h : Hold P) × Leaves w l l' me h w.cause w.noted × ((mach key.machine).waits h.part l ≡ false) × ((mach key.machine).yields h.part l ≡ false)
    Tells w l l' me (Full t) = (h : Hold P) × Leaves w l l' me h 1 true × ((mach key.machine).waits h.part l ≡ false) × ((mach key.machine).yields h.part l ≡ true) × (key.events ≤ t)
    Tells w l l' me Memory = (h : Hold P) × Leaves w l l' me h 2 true × ((mach key.machine).waits h.part l ≡ false) × ((mach key.machine).yields h.part l ≡ true)
    Tells w l l' me (Halted c) = (l' ≡ l) × (me ≡ (Works (saw (halt_number c) w), []))

-- One turn of a hand
module _ {X P L : Type 0} where
  abbrev pub HandFits : TableId → Key X → Seat (Stall P) (View X P L) → L → ThreadNo → Type 0
  HandFits table key seat local thread = (seat.table_id ≡ table) × Ready key thread.0 local seat.me

  -- the answer that a turn makes of a step's
  abbrev pub Answers : (X → Rules P L) → Key X → Work X P L → L → L → Mine X P L → Turn → Type 0
  Answers mach key w l l' me TurnMoved = (t : ℕ) × Tells mach key w l l' me (Moved t)
  Answers mach key w l l' me TurnNotYet = Tells mach key w l l' me NotYet
  Answers mach key w l l' me TurnHeld = Tells mach key w l l' me Held
  Answers mach key w l l' me TurnEnded = ((mach key.machine).want l ≡ None) × (l' ≡ l) × (me ≡ (Works w, []))
  Answers mach key w l l' me (TurnHalted c) = ((c ≡ FullHalt) × (t : ℕ) × Tells mach key w l l' me (Full t))
      ⊎ (((c ≡ MemoryHalt) × Tells mach key w l l' me Memory) ⊎ ((i : ℕ) × ((mach key.machine).want l ≡ Some (part_no i))
      × Tells mach key w l l' me (Halted c)))

  abbrev pub HandTurns : (X → Rules P L) → Key X → Seat (Stall P) (View X P L) → L → ThreadNo → Turn → Seat (Stall P) (View X P L) → L → ThreadNo → Type 0
  HandTurns mach key seat local thread answer seat' local' thread' = (thread' ≡ thread) × (seat'.table_id ≡ seat.table_id)
      × Ready key thread.0 local' seat'.me × ((w : Work X P L) → IsReady key thread.0 local w seat.me → Answers mach key w local local' seat'.me answer)
