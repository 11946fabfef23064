-- The standing of a thread changes, and no part does.
use Rattle.std.proofs.Common.{◌≡◌, ℕ, ◌≤◌, List, length, Option, sym, ap, ◌∙◌, subst, arith, slice_set}
use Rattle.cpu_rows.proofs.Common.{ClassRow, ThreadNo, Config, Begin, CpuPart, Regs, CpuOk, SeatOk, SeatKeeps, CpuSeat, CpuRow, IsAtBegin}
use Rattle.cpu_rows.proofs.Common.{thread_no, At, Standing, stand, CpuFrontPart, stopping_at, seat_at, RegsAt, IsSeated, CpuHolds, limits_of}
use Rattle.cpu_drain.specs.Seats as seats
use Rattle.cpu_rows.proofs.Lists.{Here, There, set_twice}

-- no act
pub same_keeps : (k i : ℕ) (t : ThreadNo) (p : CpuPart) (s : seats.Seat) → CpuOk k p → SeatOk i t p s → SeatKeeps k i t p s p s
same_keeps k i t p s part pair = record { part = part; both = pair; others = λ u v apart other. other; elsewhere = λ c q apart other. other }

module _ (rows : List ClassRow) (c : Config) where
  -- a seat is that of another standing
  pub seat_as : (i t : ℕ) (p : CpuPart) (g : Regs) (cpu : ℕ) (o : Option seats.Standing) (new : Standing CpuSeat CpuRow) → new.regs ≡ g
      → new.seat.cpu.0 ≡ cpu → stopping_at rows new.regs new.at ≡ o → SeatOk i (thread_no t) p (record { regs = g; cpu = cpu; standing = o }) → SeatOk i
      (thread_no t) p (seat_at rows new)
  seat_as i t p g cpu o new regs home stands ok = grind arith

  -- what holds stays, where it does of the thread and of each CPU with it
  pub changes : (n more t : ℕ) (ps : List CpuFrontPart) (us : List (Standing CpuSeat CpuRow)) (s new : Standing CpuSeat CpuRow) → n ≤ more
      → (IsSeated rows c t s → IsSeated rows c t new)
      → ((i : ℕ) (p : CpuPart) → IsSeated rows c t s → CpuOk (length rows) p → SeatOk i (thread_no t) p (seat_at rows s) → SeatOk i (thread_no t) p
      (seat_at rows new)) → CpuHolds rows c n ps (slice_set us t s) → CpuHolds rows c more ps (slice_set us t new)
  changes n more t ps us s new le sits agrees h =
      record {
        placed = h.placed;
        cpu_is_sound = h.cpu_is_sound;
        slab_is_of_heads = h.slab_is_of_heads;
        cache_has_room = h.cache_has_room;
        epoch_is_within_picks = λ i p at. let e = h.epoch_is_within_picks i p at in omega (arith, e, le);
        threads = λ u x at.
            elim (set_twice us t s new u x at) [
              | Here here is was ↦ subst (λ (j : ℕ). IsSeated rows c j x) (sym here) (subst (IsSeated rows c t) (sym is) (sits (h.threads t s was)))
              | There apart there ↦ h.threads u x there
            ];
        seats_agree = λ i u p x cpu at.
            elim (set_twice us t s new u x at) [
              | Here here is was ↦
                  grind (
                    arith,
                    agrees i p (h.threads t s was) (h.cpu_is_sound i p cpu) (h.seats_agree i t p s cpu was),
                    h.threads t s was,
                    h.cpu_is_sound i p cpu,
                    h.seats_agree i t p s cpu was,
                  )
              | There apart there ↦ h.seats_agree i u p x cpu there
            ];
      }

  -- registers of the same thread, with nothing loaded before and then
  pub record KeepsRegs (g new : Regs) : Type 0 where
    pub thread : new.thread ≡ g.thread
    pub loaded : new.loaded ≡ g.loaded
    pub ran : new.ran ≤ g.ran
    pub epoch : new.epoch ≡ g.epoch
    pub pc : g.pc ≡ Begin → new.pc ≡ Begin

  -- the thread comes elsewhere, and no sequence is under way
  pub record Comes (v : CpuSeat) (g new : Regs) (at to : At CpuRow) : Type 0 where
    pub begin : IsAtBegin g
    pub regs : IsAtBegin new → RegsAt (limits_of rows c) v new to
    pub stands : stopping_at rows new to ≡ stopping_at rows g at

  pub begins : (g new : Regs) → KeepsRegs g new → IsAtBegin g → IsAtBegin new
  begins g new keeps begin = record { pc = keeps.pc begin.pc; nothing = ap (λ b. b.items) keeps.loaded ∙ begin.nothing }

  pub comes : (n t : ℕ) (ps : List CpuFrontPart) (us : List (Standing CpuSeat CpuRow)) (v : CpuSeat) (g new : Regs) (count more : ℕ) (at to : At CpuRow)
      → count ≤ more → KeepsRegs g new → (RegsAt (limits_of rows c) v g at → Comes v g new at to)
      → CpuHolds rows c n ps (slice_set us t (stand v g count at)) → CpuHolds rows c n ps (slice_set us t (stand v new more to))
  comes n t ps us v g new count more at to le keeps come h =
      grind (arith, changes n n t ps us (stand v g count at) (stand v new more to), come, begins g new keeps, seat_as, same_keeps (length rows))
