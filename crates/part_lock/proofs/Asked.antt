-- Each step keeps the rule, at a view that is known, as a caller has it.
use Rattle.std.proofs.Common.{inl, inr, refl, true, ◌≡◌, ℕ, ◌+◌, ◌%◌, ◌^◌, ◌<◌, ◌≤◌, eqb, max, [], ◌∷◌, ◌++◌, ◌∙◌, subst, arith, Some}
use Rattle.std.specs.List.{slice_get}
use mathlib.Core.Option.{none}
use prog.Atomic.{either}
use Rattle.atomic_table.specs.Table.{step, Allows, Splits, Joins}
use Rattle.tc_model.specs.Run.{Rules}
use Rattle.tc_model.specs.Sound.{IsSound}
use Rattle.tc_model.specs.Rises.{Has}
use Rattle.part_lock.specs.declared.view.Key.{Key}
use Rattle.part_lock.specs.declared.view.Stall.{Stall}
use Rattle.part_lock.specs.declared.view.Stage.TheVariants.{Idle, Taken, Drawn}
use Rattle.part_lock.specs.declared.view.Lead.{Lead}
use Rattle.part_lock.specs.declared.view.Work.{Work}
use Rattle.part_lock.specs.declared.view.View.{View}
use Rattle.part_lock.specs.declared.view.View.TheVariants.{Leads, Works, Spent}
use Rattle.part_lock.specs.Lock.{ticket_word, part_word, slot_of, full, hold, Mine, Kept, at_view, at_stage, Sees, Sets, Finds, Takes, Draws, Gives, Returns, Fails, seated, newcomer, joined}
use Rattle.part_lock.specs.Turns.{HoldsOnly, InTurn, InPlace}
use Rattle.part_lock.proofs.Steps.{held_now, drawn_now}
use Rattle.part_lock.proofs.Halting.{sees_halt, sets_halt}
use Rattle.part_lock.proofs.Taking.{takes_part}
use Rattle.part_lock.proofs.Drawing.{draws_ticket}
use Rattle.part_lock.proofs.Giving.{returns_part, fails_part, gives_part}
use Rattle.part_lock.proofs.Seating.{splits_seat, joins_seat}

-- the same at a view that is known, as a caller has them
module _ {X P L : Type 0} (mach : X → Rules P L) (key : Key X) (n id : ℕ) (me : Mine X P L) (w : Work X P L) where
  pub sees_as : (fits : X → P → L → Type 0) → IsSound (mach key.machine) (fits key.machine) → me ≡ (Works w, []) → w.stage ≡ Idle → w.noted ≡ true
      → Allows (Kept mach key) n id me 0 (λ y. y) (Sees mach (step n 0 0 0 none) me)
  sees_as fits lawful is idle noted = rw is (sees_halt mach fits key n id w lawful idle noted)

  pub sets_as : (c : ℕ) → me ≡ (Works w, []) → w.stage ≡ Idle → w.cause ≡ c → Allows (Kept mach key) n id me 0 (λ y. max y c) (Sets (step n 0 c 0 none) me)
  sets_as c is idle cause = rw (is, ← cause) (sets_halt mach key n id w idle)

-- the same for a turn that a worker has just begun
module _ {X P L : Type 0} (mach : X → Rules P L) (key key' : Key X) (fits : X → P → L → Type 0) (thread part : ℕ) (l : L) (w : Work X P L) (x : Stall P) (n id : ℕ) (me : Mine X P L) where
  module _ (x' y : Stall P) (me' : Mine X P L) (turn : InTurn mach key fits thread part l w x me) (has : HoldsOnly part x' me) (next : me' ≡ (me.0, (part, y) ∷ []))
      (entries : y.entries.items ≡ x'.entries.items) (same : y.part ≡ x'.part) where
    pub waits_as : Allows (Kept mach key') n id me' (part_word part) (λ _. 0) (λ _ m. Returns (step n (part_word part) 0 0 none) me' 0 m)
    waits_as =
        let u : Work X P L = at_stage (Taken (hold part x)) w in let now = held_now part (Works u) x x' y me me' turn.0 has next in
        rw now.0 (returns_part mach key' n id u (hold part x) y refl (rw now.1 at entries) (rw now.1 at same))

    pub lacks_as : Allows (Kept mach key') n id me' (part_word part) (λ _. 0) (λ _ m. Fails (step n (part_word part) 0 0 none) me' 0 m)
    lacks_as =
        let u : Work X P L = at_stage (Taken (hold part x)) w in let now = held_now part (Works u) x x' y me me' turn.0 has next in
        rw now.0 (fails_part mach key' n id u (hold part x) y (inl refl) turn.2 (rw now.1 at entries) (rw now.1 at same))

  module _ (y : Stall P) (place : InPlace mach key fits thread part l w x y me) where
    pub draw_in : Allows (Kept mach key') n id me ticket_word (λ y. (y + 1) % 2 ^ 64) (Draws (step n ticket_word 1 0 none) me)
    draw_in = let turn = place.4 in rw place.0 (draws_ticket mach key' n id (at_stage (Taken (hold part x)) w) (hold part x) ((part, y) ∷ []) refl turn.2)

    module _ (found : ℕ) (me' : Mine X P L) (drew : Draws (step n ticket_word 1 0 none) me found me') where
      pub full_in : key.events ≤ found → Allows (Kept mach key') n id me' (part_word part) (λ _. 0) (λ _ m. Returns (step n (part_word part) 0 0 none) me' 0 m)
      full_in high =
          let now = (drawn_now mach key fits thread part l w x n found y me me' place drew).1 high in
          rw now (returns_part mach key' n id (full (at_stage (Taken (hold part x)) w)) (hold part x) y refl place.1 place.2)

      module _ (x' z : Stall P) (me'' : Mine X P L) (low : found < key.events) (has : HoldsOnly part x' me') (next : me'' ≡ (me'.0, (part, z) ∷ [])) where
        pub fail_in : z.entries.items ≡ x'.entries.items → z.part ≡ x'.part → Allows (Kept mach key') n id me'' (part_word part) (λ _. 0) (λ _ m. Fails (step n (part_word part) 0 0 none) me'' 0 m)
        fail_in entries same =
            let u : Work X P L = at_stage (Drawn (hold part x) found) w in let turn = place.4 in
            let now = held_now part (Works u) y x' z me' me'' ((drawn_now mach key fits thread part l w x n found y me me' place drew).0 low) has next in
            rw now.0 (fails_part mach key' n id u (hold part x) z (inr (found, refl)) turn.2 (rw now.1 at entries ∙ place.1) (rw now.1 at same ∙ place.2))

        pub give_in : z.entries.items ≡ x'.entries.items ++ record { ticket = found; thread = record { 0 = thread } } ∷ [] → z.part ≡ ((mach key.machine).after x'.part l).0
            → Allows (Kept mach key') n id me'' (part_word part) (λ _. 0) (λ _ m. Gives mach (step n (part_word part) 0 0 none) me'' 0 m)
        give_in longer acted =
            let u : Work X P L = at_stage (Drawn (hold part x) found) w in
            let (_, entries, same, _, turn, no_wait, yield) = place in let (_, ready, _, wish, _, _) = turn in let (_, _, _, named, local, machine, _) = ready in
            let now = held_now part (Works u) y x' z me' me'' ((drawn_now mach key fits thread part l w x n found y me me' place drew).0 low) has next in
            rw now.0 (gives_part mach key' n id u (hold part x) z found refl (rw (named, ← entries) (rw now.1 at longer)) (rw (machine, local, ← same) (rw now.1 at acted))
            (rw (machine, local) wish) (rw (machine, local) no_wait) (rw (machine, local) yield))

module _ {X P L : Type 0} (mach : X → Rules P L) (fits : X → P → L → Type 0) (n i : ℕ) (me : Mine X P L) where
  pub takes_as : (key : Key X) (id thread : ℕ) → IsSound (mach key.machine) (fits key.machine)
      → ((w : Work X P L) × (me ≡ (Works w, [])) × (w.stage ≡ Idle) × (w.thread ≡ thread)) → i < n
      → Allows (Kept mach key) n id me (part_word i) (λ y. either (eqb y 0) (thread + 1) y) (Takes mach fits (step n (part_word i) 0 (thread + 1) none) me)
  takes_as key id thread lawful q near = rw (q.1, ← q.3) (takes_part mach fits key lawful n id i q.0 q.2 near)

  pub took : (b : ℕ) (me' : Mine X P L) (found : ℕ) → found ≡ 0 → me.1 ≡ [] → Takes mach fits (step n (part_word i) 0 b none) me found me'
      → (x : Stall P) × (me' ≡ (at_view (at_stage (Taken (hold i x))) me.0, (i, x) ∷ [])) × Finds mach fits i x me.0
  took b me' found zero_is bare t =
      let q = t.0 zero_is in let e : slot_of (part_word i) ≡ i = omega arith in
      (q.0, q.1 ∙ (λ j. (at_view (at_stage (Taken (hold (e j) q.0))) me.0, (e j, q.0) ∷ bare j)), subst (λ (z : ℕ). Finds mach fits z q.0 me.0) e q.2)

module _ {X P L : Type 0} (mach : X → Rules P L) (key : Key X) (id : ℕ) (v : View X P L) (m : Lead X P L) where
  pub splits_as : (t : ℕ) (l : L) → v ≡ Leads m → t < 256 → slice_get (mach m.machine).locals t ≡ Some l
      → (Has m.threads t → ⊥) → Splits (Kept mach key) id v (seated t v) (newcomer mach t v)
  splits_as t l is few begins unlisted = rw is (splits_seat mach key id m t l few begins unlisted)

  pub joins_as : (other : ℕ) (u : View X P L) (w : Work X P L) → v ≡ Leads m → u ≡ Works w → w.stage ≡ Idle → Joins (Kept mach key) id v other u (joined v u) Spent
  joins_as other u w is by idle = rw (is, by) (joins_seat mach key id m other w idle)
