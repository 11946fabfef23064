-- What the seat is after each step of a call, as a caller has it.
use Rattle.std.proofs.Common.{true, false, ◌≡◌, ◌≢◌, ℕ, ◌<◌, ◌≤◌, List, [], ◌∷◌, get_or, refl, sym, ap, ◌∙◌, subst, arith, vec_len, vec_capacity, Some}
use mathlib.Core.Option.{none}
use Rattle.atomic_table.specs.Table.{step}
use Rattle.part_lock.specs.declared.view.Key.{Key}
use Rattle.part_lock.specs.declared.view.Stall.{Stall}
use Rattle.part_lock.specs.declared.view.Hold.{Hold}
use Rattle.part_lock.specs.declared.view.Stage.TheVariants.{Idle, Taken, Drawn}
use Rattle.part_lock.specs.declared.view.Work.{Work}
use Rattle.part_lock.specs.declared.view.View.{View}
use Rattle.part_lock.specs.declared.view.View.TheVariants.{Works, Leads}
use Rattle.part_lock.specs.declared.view.Step.{Step}
use Rattle.part_lock.specs.declared.view.Step.TheVariants.{Moved, NotYet, Held, Full, Memory, Halted}
use Rattle.part_lock.specs.declared.view.Judged.TheVariants.{Goes}
use Rattle.std.specs.List.{slice_get}
use Rattle.part_lock.specs.declared.view.Lead.{Lead}
use Rattle.tc_model.specs.declared.machine.PartNo.{PartNo}
use Rattle.tc_model.specs.Run.{Rules}
use Rattle.part_lock.specs.Lock.{ticket_word, fresh_work, newcomer, Mine, part_no, hold, at_view, at_stage, saw, full, left, entered, Finds, Sees, Draws}
use Rattle.part_lock.specs.Turns.{HoldsOnly, noted_after, cause_of, IsReady, Judges, InTurn, InPlace, Acts, Tells, Ready, halt_number}

slot_same : {P : Type 0} (i : ℕ) (x y : Stall P) (c : List (ℕ × Stall P)) → c ≡ (i, x) ∷ [] → c ≡ (i, y) ∷ [] → x ≡ y
slot_same {P} i x y c a b = ap (λ (l : List (ℕ × Stall P)). (get_or l 0 (i, x)).1) (sym a ∙ b)

module _ {X P L : Type 0} where
  -- the value that is held was changed, and the view wasn't
  pub held_now : (part : ℕ) (v : View X P L) (x x' y : Stall P) (me me' : Mine X P L) → me ≡ (v, (part, x) ∷ [])
      → HoldsOnly part x' me → me' ≡ (me.0, (part, y) ∷ []) → (me' ≡ (v, (part, y) ∷ [])) × (x' ≡ x)
  held_now part v x x' y me me' is has next = (next ∙ ap (λ (z : Mine X P L). (z.0, (part, y) ∷ [])) is, slot_same part x' x me.1 has (ap (λ (z : Mine X P L). z.1) is))

  module _ (mach : X → Rules P L) (key : Key X) (fits : X → P → L → Type 0) (thread part : ℕ) (l : L) (w : Work X P L) (x : Stall P) where
    pub placed : (x' y : Stall P) (me me' : Mine X P L) → InTurn mach key fits thread part l w x me
        → HoldsOnly part x' me → me' ≡ (me.0, (part, y) ∷ []) → y.entries.items ≡ x'.entries.items → y.part ≡ x'.part
        → Judges mach key x'.part l (vec_len y.entries) (vec_capacity y.entries) Goes → InPlace mach key fits thread part l w x y me'
    placed x' y me me' t has next same same' j = grind (arith)

    pub drawn_now : (n found : ℕ) (y : Stall P) (me me' : Mine X P L) → InPlace mach key fits thread part l w x y me → Draws (step n ticket_word 1 0 none) me found me'
        → (found < key.events → me' ≡ (Works (at_stage (Drawn (hold part x) found) w), (part, y) ∷ []))
        × (key.events ≤ found → me' ≡ (Works (full (at_stage (Taken (hold part x)) w)), (part, y) ∷ []))
    drawn_now n found y me me' p d = grind (arith)

    -- after the draw of a ticket that is used, the part is held, and its act goes
    pub goes_on : (n found : ℕ) (y : Stall P) (me me' : Mine X P L) → InPlace mach key fits thread part l w x y me → Draws (step n ticket_word 1 0 none) me found me' → found < key.events
        → (z : Stall P) × HoldsOnly part z me' × (vec_len z.entries < vec_capacity z.entries) × fits key.machine z.part l × ((mach key.machine).waits z.part l ≡ false)
    goes_on n found y me me' p d low =
        let (_, _, same, room, turn, no_wait, _) = p in let (_, _, _, _, fit, _) = turn in
        (y, ap (λ (m : Mine X P L). m.1) ((drawn_now n found y me me' p d).0 low), room, rw same fit, rw same no_wait)

  module _ (mach : X → Rules P L) (key : Key X) (w : Work X P L) (l l' : L) where
    -- the whole answer
    pub told : (h : Hold P) (me me' : Mine X P L) (answer : Step) → Acts mach key w l l' me h answer → me' ≡ noted_after (cause_of answer) me → Tells mach key w l l' me' answer
    told h me me' (Moved t) a n = (h, (a.0, a.1, a.2, a.3, n ∙ a.4, a.5))
    told h me me' NotYet a n = (h, (a.0.0, a.0.1, n ∙ a.0.2), a.1)
    told h me me' Held a n = (h, (a.0.0, a.0.1, n ∙ a.0.2), a.1, a.2)
    told h me me' (Full t) a n = (h, (a.0.0, a.0.1, n ∙ ap (noted_after 1) a.0.2), a.1, a.2, a.3)
    told h me me' Memory a n = (h, (a.0.0, a.0.1, n ∙ ap (noted_after 2) a.0.2), a.1, a.2)
    told h me me' (Halted c) a n = absurd a

    -- a turn leaves the seat at rest, with the cause that its answer sets
    pub rests : (h : Hold P) (me : Mine X P L) (answer : Step) → Acts mach key w l l' me h answer
        → (u : Work X P L) × (me ≡ (Works u, [])) × (u.stage ≡ Idle) × (cause_of answer ≢ 0 → u.cause ≡ cause_of answer)
    rests h me (Moved t) a = (entered h t l' w, a.4, refl, (λ ne. absurd (ne refl)))
    rests h me NotYet a = (left h w.cause w.noted w, a.0.2, refl, (λ ne. absurd (ne refl)))
    rests h me Held a = (left h w.cause w.noted w, a.0.2, refl, (λ ne. absurd (ne refl)))
    rests h me (Full t) a = (left h 1 false w, a.0.2, refl, (λ _. refl))
    rests h me Memory a = (left h 2 false w, a.0.2, refl, (λ _. refl))
    rests h me (Halted c) a = absurd a

    -- after every answer the seat is ready again
    pub ready_again : (thread : ℕ) (me me' : Mine X P L) (answer : Step) → IsReady key thread l w me → Tells mach key w l l' me' answer → Ready key thread l' me'
    ready_again thread me me' (Moved t) r a = let (h, moves) = a in (entered h t l' w, (moves.4, refl, r.2, r.3, refl, r.5, r.6))
    ready_again thread me me' NotYet r a = let (h, leaves, _) = a in (left h w.cause w.noted w, (leaves.2, refl, r.2, r.3, r.4 ∙ sym leaves.1, r.5, r.6))
    ready_again thread me me' Held r a = let (h, leaves, _, _) = a in (left h w.cause w.noted w, (leaves.2, refl, r.2, r.3, r.4 ∙ sym leaves.1, r.5, r.6))
    ready_again thread me me' (Full t) r a = let (h, leaves, _, _, _) = a in (left h 1 true w, (leaves.2, refl, refl, r.3, r.4 ∙ sym leaves.1, r.5, r.6))
    ready_again thread me me' Memory r a = let (h, leaves, _, _) = a in (left h 2 true w, (leaves.2, refl, refl, r.3, r.4 ∙ sym leaves.1, r.5, r.6))
    ready_again thread me me' (Halted c) r a = (saw (halt_number c) w, (a.1, r.1, refl, r.3, r.4 ∙ sym a.0, r.5, r.6))

  -- after the load of a halt word that is 0
  module _ (mach : X → Rules P L) (n thread found : ℕ) (l : L) (key : Key X) (w : Work X P L) (me me' : Mine X P L)
      (zero_is : found ≡ 0) (r : IsReady key thread l w me) (see : Sees mach (step n 0 0 0 none) me found me') where
    pub seen_now : (me' ≡ (Works w, [])) × (w.cause ≡ 0)
    seen_now = grind (arith)

    pub in_turn : (fits : X → P → L → Type 0) (part : ℕ) (x : Stall P) (me'' : Mine X P L)
        → me'' ≡ (at_view (at_stage (Taken (hold part x))) me'.0, (part, x) ∷ []) → Finds mach fits part x me'.0
        → (mach key.machine).want l ≡ Some (part_no part) → InTurn mach key fits thread part l w x me''
    in_turn fits part x me'' next finds wish = grind (arith, seen_now)

  -- the seat of a thread that had none is ready, with the local of the machine's start
  pub newcomer_is : (mach : X → Rules P L) (key : Key X) (t : ℕ) (m : Lead X P L) (l : L) (v : View X P L) (me : Mine X P L)
      → v ≡ Leads m → m.machine ≡ key.machine → slice_get (mach key.machine).locals t ≡ Some l
      → me ≡ (newcomer mach t v, []) → me ≡ (Works (fresh_work t l m), [])
  newcomer_is mach key t m l v me is machine begins next = grind (arith)

  -- the part that a local wants is there, as a load of the halt word tells
  pub part_there : (mach : X → Rules P L) (n thread found : ℕ) (part : PartNo) (l : L) (key : Key X) (w : Work X P L) (me me' : Mine X P L) → IsReady key thread l w me
      → Sees mach (step n 0 0 0 none) me found me' → (mach key.machine).want l ≡ Some part → part.0 < n
  part_there mach n thread found part l key w me me' r see wish =
      let see' = subst (λ (z : Mine X P L). Sees mach (step n 0 0 0 none) z found me') r.0 see in let (_, _, _, _, local, machine, _) = r in
      see'.2.1 part.0 (rw (machine, local) wish)
