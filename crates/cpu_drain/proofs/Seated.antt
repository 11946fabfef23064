-- Each act at a CPU keeps its pair and fits the others.
use Rattle.std.proofs.Common.{◌≡◌, ℕ, ◌+◌, ◌<◌, ◌≤◌, Bool, true, false, is_some, cond, [], length, Option, Some, None, refl, sym, ap, ◌∙◌, subst, arith}
use Rattle.std.proofs.lemmas.List.{length-set}
use Rattle.tc_units.specs.declared.units.ThreadNo.{ThreadNo}
use Rattle.tc_units.specs.Bag.{Contents}
use Rattle.tc_units.specs.declared.units.Addr.{Addr}
use Rattle.cpu_slab.specs.Slots.{SlabRow, CpuSlab, row_at}
use Rattle.cpu_slab.specs.Sound.{IsSoundSlab}
use Rattle.cpu_slab.proofs.SlabFacts.{row_same, row_sound, row_slots, used_same, sound_with, tops_same}
use Rattle.cpu_slab.proofs.GrowthFacts.{KeepsObjects}
use Rattle.rseq_core.specs.declared.sequence.Pc.TheVariants.{Begin}
use Rattle.rseq_core.specs.declared.regs.Regs.{Regs}
use Rattle.rseq_core.specs.declared.answers.Arrival.TheVariants as arrive
use Rattle.rseq_core.specs.declared.cpu_part.CpuPart.{CpuPart}
use Rattle.rseq_core.specs.Tables.{Cell, is_pop}
use Rattle.rseq_core.specs.Acts.{IsCurrent, dropped, runs, left, cpu_after, regs_after, instruction, with_cell}
use Rattle.rseq_core.proofs.CellKept.{CellOk, cell_ok, cell_rests}
use Rattle.cpu_drain.specs.Seats.{Standing, Seat, CpuOk, IsHeld, SeatOk, SeatKeeps, with_regs, AreSet}
use Rattle.cpu_drain.specs.Drains.{fenced}
use Rattle.cpu_drain.proofs.Steps.{Holds, IsStopping, some_is, agrees_begin, begin_nothing, begin_rests, agrees_at_rest, stage_kept}

one_runs : (o : Option ThreadNo) (t u : ThreadNo) → (u ≡ t → ⊥) → o ≡ Some t → o ≡ Some u → ⊥
one_runs o t u apart mine other = let same : u ≡ t = (cc) in apart same

-- a seat whose thread doesn't run there
away : (i : ℕ) (t : ThreadNo) (p : CpuPart) (s : Seat) → (p.running ≡ Some t → ⊥) → (p.stopper ≡ Some t → IsStopping i s.standing) → Holds i t p s.standing → SeatOk i t p s
away i t p s not stops stage =
    record { home = λ e. absurd (not e); behind = λ e. absurd (not e); agrees = λ e. absurd (not e.runs); rests = λ f e. absurd (not e.runs); stops = stops; stage = stage }

not_there : (i : ℕ) (t : ThreadNo) (c : ℕ) (q : CpuPart) (s : Seat) → s.cpu ≡ i → (c ≡ i → ⊥) → SeatOk c t q s → q.running ≡ Some t → ⊥
not_there i t c q s here apart pair runs = apart (sym (pair.home runs) ∙ here)

-- the same stopper, mark and rows
same_stage : (i : ℕ) (t : ThreadNo) (p p' : CpuPart) (o : Option Standing) → p'.stopper ≡ p.stopper → p'.fenced ≡ p.fenced → p'.slab ≡ p.slab → Holds i t p o → Holds i t p' o
same_stage i t p p' o stopper fenced slab has =
    stage_kept i t p p' o (λ e. stopper ∙ e) (λ e f. fenced ∙ f) (λ f k e. ap (λ (a : CpuSlab). (row_at a k).top) slab ∙ e) has

-- the same threads run, of the same epochs: a seat fits what the CPU says of its stopper now
stays : {i : ℕ} {t : ThreadNo} {p : CpuPart} {s : Seat} → SeatOk i t p s → (opened : Bool) (stopper : Option ThreadNo) (fenced : Bool) (o : Option Standing)
    → let p' : CpuPart = record p { is_open = opened; stopper = stopper; fenced = fenced } in
    (fenced ≡ true → p.fenced ≡ true) → (stopper ≡ Some t → IsStopping i o) → Holds i t p' o → SeatOk i t p' (record s { standing = o })
stays ok opened stopper fenced o marked stops stage = grind (arith, ok.agrees, ok.rests, marked)

-- Registers that are set agree with any CPU.
set_pair : (i : ℕ) (t : ThreadNo) (p : CpuPart) (s : Seat) (r : Regs) (o : Option Standing)
    → (p.running ≡ Some t → s.cpu ≡ i) → (p.running ≡ Some t → r.epoch ≤ p.epoch) → r.pc ≡ Begin → r.loaded.items ≡ []
    → (p.stopper ≡ Some t → IsStopping i o) → Holds i t p o → SeatOk i t p (record { regs = r; cpu = s.cpu; standing = o })
set_pair i t p s r o home behind pc nothing stops stage =
    record { home = home; behind = behind; agrees = λ e. agrees_begin (is_pop r.seq) (row_at p.slab r.class.0) r pc nothing; rests = λ f e. begin_rests r.pc pc; stops = stops; stage = stage }

-- After any act the call may set the registers of its thread for the next sequence.
pub then_set : {m i : ℕ} {t : ThreadNo} {p p' : CpuPart} {s s' : Seat} → SeatKeeps m i t p s p' s' → (r : Regs) → AreSet s'.regs r → SeatKeeps m i t p s p' (record s' { regs = r })
then_set {i = i} {t = t} {p' = p'} {s' = s'} keeps r set =
    let set_at : (d : ℕ) (q : CpuPart) → SeatOk d t q s' → SeatOk d t q (record s' { regs = r }) =
    λ d q was. set_pair d t q s' r s'.standing was.home (λ e. omega (arith, set.epoch, was.behind e)) set.pc set.nothing was.stops was.stage in
    record { part = keeps.part; both = set_at i p' keeps.both; others = keeps.others; elsewhere = λ d q apart other. set_at d q (keeps.elsewhere d q apart other) }

module _ {m i : ℕ} {t : ThreadNo} {p : CpuPart} {s : Seat} (cpu : CpuOk m p) (pair : SeatOk i t p s) where
  module _ (here : s.cpu ≡ i) where
    leave_by : (to : ℕ) (b : Bool) → runs p.running t ≡ b
        → SeatKeeps m i t p s (cond b (record p { running = None; epoch = p.epoch + 1; is_open = false }) p) (record s { regs = dropped s.regs; cpu = to })
    leave_by to b is = grind (arith)

    pub leave_keeps : (to : ℕ) → SeatKeeps m i t p s (left p t) (record s { regs = dropped s.regs; cpu = to })
    leave_keeps to = leave_by to (runs p.running t) refl

    -- registers that begin at this CPU's epoch
    fresh : (p' : CpuPart) (r : Regs) → r.epoch ≡ p'.epoch → r.pc ≡ Begin → r.loaded.items ≡ []
        → p'.stopper ≡ p.stopper → p'.fenced ≡ p.fenced → p'.slab ≡ p.slab → SeatOk i t p' (with_regs s r)
    fresh p' r epoch pc nothing stopper fenced slab =
        set_pair i t p' s r s.standing (λ e. here) (λ e. omega arith) pc nothing (λ e. pair.stops (sym stopper ∙ e)) (same_stage i t p p' s.standing stopper fenced slab pair.stage)

    pub enter_keeps : SeatKeeps m i t p s (record p { running = Some t; epoch = p.epoch + 1; is_open = true; ran = 0 }) (with_regs s (regs_after arrive.In p s.regs))
    enter_keeps = grind (arith, fresh, away, one_runs, same_stage, not_there)

    pub back_keeps : SeatKeeps m i t p s (cpu_after arrive.Back p s.regs) (with_regs s (regs_after arrive.Back p s.regs))
    back_keeps = grind (arith, fresh, stays, same_stage, away, not_there)

    -- one instruction, by its cell
    pub go_keeps : IsCurrent t p s.regs → s.regs.class.0 < m → SeatKeeps m i t p s (with_cell p s.regs (instruction p s.regs)) (with_regs s (instruction p s.regs).regs)
    go_keeps current low =
        let c : Cell = instruction p s.regs in let k : ℕ = s.regs.class.0 in let row : SlabRow = row_at p.slab k in let pops = is_pop s.regs.seq in
        let p' : CpuPart = with_cell p s.regs c in let s' : Seat = with_regs s c.regs in
        let within : k < length p.slab.rows = omega (arith, cpu.classes) in
        let ok : CellOk (is_some p.stopper) pops row s.regs c = cell_ok (is_some p.stopper) pops row s.regs s.regs.pc (row_sound p.slab k cpu.sound within) refl (pair.agrees current) in
        grind (
          arith,
          cell_rests pops row s.regs s.regs.pc,
          row_same p.slab.rows k c.row within,
          stage_kept i,
          tops_same p.slab.rows k c.row within,
          used_same p.slab.rows k c.row within ok.cap ok.size,
          length-set p.slab.rows k c.row,
          sound_with p.slab k c.row cpu.sound ok.row (ok.slots ∙ row_slots p.slab k cpu.sound within),
          row_slots p.slab k cpu.sound within,
          away i,
          one_runs p.running t,
          not_there i t,
        )

  -- growth
  pub grow_keeps : (slab : CpuSlab) → KeepsObjects p.slab slab → IsCurrent t p s.regs → s.regs.pc ≡ Begin → SeatKeeps m i t p s (record p { is_open = false; slab = slab }) s
  grow_keeps slab ok current begin = grind (arith, begin_nothing, stage_kept, set_pair, away, one_runs)

-- Remote acts. A thread at its begin stands nowhere else.
stands_elsewhere : {t : ThreadNo} {d : ℕ} {q : CpuPart} {s : Seat} → SeatOk d t q s
    → (hand : Contents Addr) (o : Option Standing) → s.regs.pc ≡ Begin → (IsStopping d s.standing → ⊥) → Holds d t q o
    → SeatOk d t q (record s { regs = record s.regs { hand = hand }; standing = o })
stands_elsewhere other hand o begin not holds = grind (arith)

only_at : (i d : ℕ) (t : ThreadNo) (q : CpuPart) (c : ℕ) (fenced : Bool) (empty : ℕ → Bool)
    → c ≡ i → (d ≡ i → ⊥) → Holds d t q (Some (record { cpu = c; fenced = fenced; empty = empty }))
only_at i d t q c fenced empty here apart = λ e. absurd (apart (sym e ∙ here))

module _ {m i : ℕ} {t : ThreadNo} {p : CpuPart} {s : Seat} (cpu : CpuOk m p) (pair : SeatOk i t p s) (begin : s.regs.pc ≡ Begin) where
  -- A thread that stands nowhere stops a CPU where nobody does.
  pub stop_keeps : s.standing ≡ None → p.stopper ≡ None
      → SeatKeeps m i t p s (record p { stopper = Some t }) (record s { standing = Some (record { cpu = i; fenced = false; empty = λ j. false }) })
  stop_keeps nowhere none = grind (arith, stage_kept, stays, one_runs, stands_elsewhere, only_at)

  module _ (old : Standing) (is : s.standing ≡ Some old) (here : old.cpu ≡ i) where
    stop_there : (d : ℕ) → (d ≡ i → ⊥) → IsStopping d s.standing → ⊥
    stop_there d apart stops = let at : IsStopping d (Some old) = subst (λ o. IsStopping d o) is stops in apart (sym at ∙ here)

    held_there : IsHeld t p old
    held_there = let at : Holds i t p (Some old) = subst (λ o. Holds i t p o) is pair.stage in at here

    pub fence_keeps : SeatKeeps m i t p s (record p { epoch = p.epoch + 1; fenced = true }) (record s { standing = Some (record { cpu = i; fenced = true; empty = λ j. false }) })
    fence_keeps = grind (arith, held_there, stage_kept, some_is, stands_elsewhere, stop_there, only_at)

    -- A stopper after its fence changes the slab, and what its hand holds: tops that are 0 stay so.
    pub slab_keeps : (hand : Contents Addr) (slab : CpuSlab) (empty : ℕ → Bool) → old.fenced ≡ true
        → length slab.rows ≡ m → IsSoundSlab slab → ((j : ℕ) → (row_at p.slab j).top ≡ 0 → (row_at slab j).top ≡ 0) → ((j : ℕ) → empty j ≡ true → (row_at slab j).top ≡ 0)
        → SeatKeeps m i t p s (record p { slab = slab }) (record s { regs = record s.regs { hand = hand }; standing = Some (record { cpu = i; fenced = true; empty = empty }) })
    slab_keeps hand slab empty was_fenced classes sound tops is_empty =
        grind (arith, held_there, stage_kept, agrees_begin, begin_nothing, begin_rests, agrees_at_rest, stands_elsewhere, stop_there, only_at)

    pub start_keeps : SeatKeeps m i t p s (record p { stopper = None; fenced = false }) (record s { standing = None })
    start_keeps = grind (arith, held_there, one_runs, stage_kept, stays, stands_elsewhere, stop_there)
