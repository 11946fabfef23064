-- Entries, and acts elsewhere: a thread comes to a row of the caches, or from one, or its registers change.
use Rattle.std.proofs.Common.{◌≡◌, ℕ, ◌<◌, ◌≤◌, true, List, [], ◌∷◌, length, Option, Some, None, refl, ap, arith, IfSome, is_some, slice_set}
use Rattle.cpu_rows.proofs.Common.{Contents, Addr, Class, ClassRow, Call, Drain, Resize, MoveTo, Planned, Config, Seq, Begin, Regs, LOADED_ROOM, CpuSeat}
use Rattle.cpu_rows.proofs.Common.{Asking, Serving, Freeing, CpuRow, CpuStep, Other, cpu_calls, to_sequence, with_move, stop_row, to_stop, leave_row, about_row}
use Rattle.cpu_rows.proofs.Common.{AreRows, IsAtBegin, CpuShape, IsCallThere, limits_of, At, Here, Later, Away, Standing, stand, at_row, IsAsked, with_hand}
use Rattle.cpu_rows.proofs.Common.{IsOwn, AreEntries, IsEntry, CpuFrontPart, cpu_planned, seat_at, CpuHolds}
use Rattle.rseq_core.specs.declared.sequence.Seq.TheVariants as seq
use Rattle.cpu_rows.specs.declared.row.CpuRow.TheVariants as front
use Rattle.cpu_rows.specs.declared.row.CpuStep.TheVariants as cpu
use Rattle.cpu_rows.proofs.Threads.{KeepsRegs, changes, comes}

module _ (rows : List ClassRow) (c : Config) where
  abbrev Is : ℕ → List CpuFrontPart → List (Standing CpuSeat CpuRow) → Type 0
  Is n ps us = CpuHolds rows c n ps us

  module _ (n : ℕ) (ps : List CpuFrontPart) (us : List (Standing CpuSeat CpuRow)) (t : ℕ) (v : CpuSeat) (g : Regs) (count : ℕ) where
    abbrev StandsAt : Regs → ℕ → At CpuRow → Type 0
    StandsAt r m at = Is n ps (slice_set us t (stand v r m at))

    abbrev same : (k : Class) (hand : Contents Addr) → KeepsRegs rows c g (with_hand g k hand)
    same k hand = record { thread = refl; loaded = refl; ran = omega arith; epoch = refl; pc = λ pc. pc }

    -- acts elsewhere
    pub away : (more : ℕ) (k : Class) (hand : Contents Addr) → count ≤ more → StandsAt g count Away → StandsAt (with_hand g k hand) more Away
    away more k hand le h = comes rows c n t ps us v g (with_hand g k hand) count more Away Away le (same k hand)
        (λ b. record { begin = b; regs = λ new. new; stands = refl }) h

    pub waits : (more : ℕ) (j : Class) (row : CpuRow) (hand : Contents Addr) → count ≤ more → StandsAt g count (Later j row)
        → StandsAt (with_hand g g.class hand) more (Later j row)
    waits more j (front.Cpu row) hand le h = comes rows c n t ps us v g _ count more (Later j (front.Cpu row)) _ le (same g.class hand)
        (λ x. record { begin = x.0; regs = λ new. (new, x.1); stands = refl }) h
    waits more j (front.Domain row) hand le h = comes rows c n t ps us v g _ count more (Later j (front.Domain row)) _ le (same g.class hand) (λ x. absurd x) h

    pub back : (more : ℕ) (k : Class) (row : CpuRow) (hand : Contents Addr) → count ≤ more → hand.items ≡ [] → StandsAt g count (Later k row)
        → StandsAt (with_hand g k hand) more (Here row)
    back more k (front.Cpu row) hand le none h =
        comes rows c n t ps us v g (with_hand g k hand) count more (Later k (front.Cpu row)) (Here (front.Cpu row)) le (same k hand) (λ x. record
        { begin = x.0; regs = λ new. x.1.shape v (with_hand g k hand) (record { begin = new; hand = none }) refl; stands = refl }) h
    back more k (front.Domain row) hand le none h = comes rows c n t ps us v g _ count more (Later k (front.Domain row)) _ le (same k hand) (λ x. absurd x) h

    -- a call begins, with its move, and has executed nothing
    pub restarts : StandsAt g count Away → StandsAt (record g { ran = 0 }) count Away
    restarts h = comes rows c n t ps us v g (record g { ran = 0 }) count count Away Away (omega arith)
        (record { thread = refl; loaded = refl; ran = omega arith; epoch = refl; pc = λ pc. pc }) (λ b. record { begin = b; regs = λ new. new; stands = refl }) h

    pub begins : (o : Option Planned) → IfSome o (cpu_planned rows c) → StandsAt g count Away → Is n ps (slice_set us t (stand (with_move v o) g count Away))
    begins o planned h = grind (arith, changes rows c n n t ps us (stand v g count Away) (stand (with_move v o) g count Away))

    -- the rows with which calls begin and go on
    enters : (new : Regs) (row : CpuStep) → KeepsRegs rows c g new → (IsAtBegin new → CpuShape (limits_of rows c) v new row)
        → (seat_at rows (stand v new count (Here (front.Cpu row)))).standing ≡ None → StandsAt g count Away → StandsAt new count (Here (front.Cpu row))
    enters new row keeps shape none h = comes rows c n t ps us v g new count count Away (Here (front.Cpu row)) (omega arith) keeps
        (λ b. record { begin = b; regs = shape; stands = none }) h

    set : (k : Class) (s : Seq) (ran : ℕ) → ran ≤ g.ran → KeepsRegs rows c g (record g { class = k; seq = s; pc = Begin; ran = ran })
    set k s ran few = record { thread = refl; loaded = refl; ran = few; epoch = refl; pc = λ pc. refl }

    pub firsts : (a : Asking) → IsAsked rows g a → g.hand.items ≡ [] → StandsAt g count Away
        → StandsAt (record (to_sequence seq.Pop g) { ran = 0 }) count (Here (front.Cpu (cpu.Pop a)))
    firsts a asked none h = enters _ (cpu.Pop a) (set g.class seq.Pop 0 (omega arith)) (λ b. (refl, none, asked)) refl h

    pub rests : (s : Serving) → 0 < length g.hand.items → length g.hand.items ≤ LOADED_ROOM → StandsAt g count Away
        → StandsAt (to_sequence seq.PushBatch g) count (Here (front.Cpu (cpu.Stock s)))
    rests s some few h = enters _ (cpu.Stock s) (set g.class seq.PushBatch g.ran (omega arith)) (λ b. (refl, some, few)) refl h

    pub frees : (f : Freeing) → g.hand.items ≡ f.addr ∷ [] → StandsAt g count Away → StandsAt (to_sequence seq.Push g) count (Here (front.Cpu (cpu.Push f)))
    frees f one h = enters _ (cpu.Push f) (set g.class seq.Push g.ran (omega arith)) (λ b. (refl, one)) refl h

    pub others_begin : (call : Call) → IsCallThere (limits_of rows c) call → IsOwn call → g.hand.items ≡ [] → StandsAt g count Away
        → StandsAt (record (to_stop call g) { ran = 0 }) count (at_row (stop_row call))
    others_begin (Drain i) there own none h =
        enters _ _ (set (record { 0 = 0 }) seq.Pop 0 (omega arith)) (λ b. (record { begin = b; hand = none }, (there, omega arith), refl)) refl h
    others_begin (Resize i class cap) there own none h =
        enters _ _ (set class seq.Pop 0 (omega arith)) (λ b. (record { begin = b; hand = none }, (there.0, refl), tt)) refl h
    others_begin call there own none h = absurd own

    lasts_by : (o : Option MoveTo) → v.moved ≡ o → g.hand.items ≡ [] → StandsAt g count Away → StandsAt g count (at_row (leave_row o))
    lasts_by None is none h = h
    lasts_by (Some move) is none h = enters g cpu.Leave (record { thread = refl; loaded = refl; ran = omega arith; epoch = refl; pc = λ pc. pc })
        (λ b. (record { begin = b; hand = none }, ap (λ (o : Option MoveTo). is_some o) is)) refl h

    pub lasts : g.hand.items ≡ [] → StandsAt g count Away → StandsAt g count (at_row (leave_row v.moved))
    lasts none h = lasts_by v.moved refl none h

  -- entries are about their calls; a call of the caches' own keeps the thread and the hand, has a row, and a class of the table
  last_about : (o : Option MoveTo) → IsEntry about_row (Other None) (leave_row o)
  last_about o = grind arith

  pub record IsOther (call : Call) : Type 0 where
    pub about : IsEntry about_row (Other (Some call)) (stop_row call)
    pub hand : (g : Regs) → (to_stop call g).hand ≡ g.hand
    pub thread : (g : Regs) → (to_stop call g).thread ≡ g.thread
    pub class : (g : Regs) → AreRows rows → IsCallThere (limits_of rows c) call → IsOwn call → (to_stop call g).class.0 < length rows
    pub there : IsOwn call → is_some (stop_row call) ≡ true

  pub other : (call : Call) → IsOther call
  other call = grind arith

  pub cpu_entries : AreEntries (cpu_calls rows) about_row
  cpu_entries = grind (arith, last_about, other)
