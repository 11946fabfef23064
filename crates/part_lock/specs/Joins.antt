-- The seats of workers, cut off the main one and joined to it again.
use Rattle.std.specs.Prelude.{◌≡◌, ℕ, zero, suc, List, [], ◌∷◌, ◌++◌, map}
use Rattle.tc_model.specs.declared.board.Turn.{Turn}
use Rattle.tc_model.specs.Run.{Rules}
use Rattle.atomic_table.specs.Seated.{TableId}
use Rattle.part_lock.specs.declared.view.Key.{Key}
use Rattle.part_lock.specs.declared.view.Lead.{Lead}
use Rattle.part_lock.specs.declared.view.Work.{Work}
use Rattle.part_lock.specs.declared.view.View.TheVariants.{Works}
use Rattle.part_lock.specs.declared.board.PartHand.{PartHand}
use Rattle.part_lock.specs.Lock.{Mine, IsMain}
use Rattle.part_lock.specs.Turns.{HandFits, HandTurns}

-- the numbers below n
abbrev pub numbers : ℕ → List ℕ
numbers zero = []
numbers (suc n) = numbers n ++ n ∷ []

module _ {X P L : Type 0} where
  -- the main seat where these threads have a seat, and none was joined
  abbrev pub lead_of : Key X → List ℕ → Lead X P L
  lead_of key threads = record { machine = key.machine; events = key.events; threads = threads; kept = [] }

  abbrev pub all_joined : Lead X P L → List (Work X P L) → Lead X P L
  all_joined m ws = record m { kept = m.kept ++ ws }

  -- what a seat knows that holds nothing
  abbrev pub at_rest : Work X P L → Mine X P L
  at_rest w = (Works w, [])

  -- The main seat keeps all that the seats of these hands knew, in their order: each one's thread and local, its entries, and the cause that it met.
  pub record IsJoined (key : Key X) (m : Lead X P L) (hands : List (PartHand X P L)) (me : Mine X P L) : Type 0 where
    pub works : List (Work X P L)
    pub main : IsMain key (all_joined m works) me
    pub views : map at_rest works ≡ map (λ (h : PartHand X P L). h.seat.me) hands
    pub threads : map (λ (w : Work X P L). w.thread) works ≡ map (λ (h : PartHand X P L). h.thread.0) hands
    pub locals : map (λ (w : Work X P L). w.local) works ≡ map (λ (h : PartHand X P L). h.local) hands

  -- what the main seat knows before and after the seats of these hands were joined, one after another
  abbrev pub JoinsAll : Key X → Mine X P L → List (PartHand X P L) → Mine X P L → Type 0
  JoinsAll key me hands me' = (m : Lead X P L) → IsMain key m me → IsJoined key m hands me'

  -- a hand that may take turns at the table, and one turn of it
  abbrev pub Fit : TableId → Key X → PartHand X P L → Type 0
  Fit table key h = HandFits table key h.seat h.local h.thread

  abbrev pub Turned : (X → Rules P L) → Key X → PartHand X P L → Turn → PartHand X P L → Type 0
  Turned mach key h answer k = HandTurns mach key h.seat h.local h.thread answer k.seat k.local k.thread
