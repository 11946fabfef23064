-- Acts of a thread that stops a CPU, and of one that leaves it at the end of its call.
use Rattle.std.proofs.Common.{◌≡◌, refl, ℕ, ◌+◌, ◌*◌, ◌<◌, ◌≤◌, Bool, true, [], ◌∷◌, List, length, reverse, Option, Some, None, ap, sym, ◌∙◌, arith, is_some, eqb, false}
use Rattle.cpu_rows.proofs.Common.{cond_both, cases_eq, eqb-true, eq-eqb, lt-ltb, ltb-true, ltb-false, le-ltb, length-append, length-reverse, Contents, Addr}
use Rattle.cpu_rows.proofs.Common.{Class, ThreadNo, Drain, Resize, MoveTo, CapFault, CpuSlab, row_at, held, with_cap_if, row_same}
use Rattle.cpu_rows.proofs.Common.{row_other, CpuPart, Regs, IsHeld, Takes, take_does, IsOther, Draining, Resizing, Stopping, CpuStep, Next}
use Rattle.cpu_rows.proofs.Common.{Other, leaving, leaves_or, stops, drained, took, cap_answer, about_cpu, at_cpu, cpu_of, taken_by, thread_no}
use Rattle.cpu_rows.proofs.Common.{AreRows, most_slots, below, cpu_standing, IsStop, IsAtFirst, IsAtBegin, IsToCome, CpuShape}
use Rattle.cpu_rows.proofs.Common.{ClassRow, Limits, limits_of, objects_append, objects_reverse}
use Rattle.cpu_rows.specs.CpuRows.{stands}
use Rattle.std.proofs.Math.Path.{fun_ext}
use Rattle.cpu_drain.specs.Drains as drains
use Rattle.cpu_drain.specs.Seats as seats
use Rattle.cpu_drain.proofs.Lawful as lawful
use Rattle.cpu_rows.specs.declared.row.Stopping.TheVariants as stopping
use Rattle.call_steps.specs.declared.step.Next.TheVariants as next
use Rattle.cpu_rows.specs.declared.row.CpuRow.TheVariants as front
use Rattle.cpu_rows.specs.declared.row.CpuStep.TheVariants as cpu
use Rattle.cpu_rows.proofs.{Nexts.busy_other, Threads.same_keeps}
use Rattle.cpu_rows.proofs.Acts.{Acts, Does, GoesOn, IsBehind, IsMoved, IsThere, Keeps, Turn, as_left, gives_away, goes, goes_on, leave_acts, moves_none}
use Rattle.cpu_rows.proofs.Acts.{seat, slab_same}

-- refusals of a call that stops a CPU, and of a capacity
cap_other : (r : Resizing) (o : Option CapFault) → IsOther (Resize r.cpu r.class r.cap) (cap_answer o)
cap_other r o = grind arith

-- which classes the thread knows to be empty before a take
abbrev empty_to_take : ℕ → Stopping → ℕ → Bool
empty_to_take k (stopping.Drain d) = below k
empty_to_take k (stopping.Resize r) = λ j. false

stands_to_take : (rows : List ClassRow) (k : ℕ) (s : Stopping) → cpu_standing rows k (cpu.Take s) ≡ stands (cpu_of s) true (empty_to_take k s)
stands_to_take rows k s = grind arith

-- a drain is to take class 0 behind its fence, below which there is none
nothing_taken : (rows : List ClassRow) (k : Class) (s : Stopping) → IsAtFirst k s → cpu_standing rows k.0 (cpu.Take s) ≡ stands (cpu_of s) true (λ j. false)
nothing_taken rows k (stopping.Drain d) is = ap (stands d.cpu true) (fun_ext (λ j. le-ltb j k.0 (omega (arith, is))))
nothing_taken rows k (stopping.Resize r) is = refl

-- and behind it
abbrev empty_of : ℕ → Stopping → ℕ → Bool
empty_of k (stopping.Drain d) = below (k + 1)
empty_of k (stopping.Resize r) = λ j. eqb j r.class.0

is_empty : (m : Limits) (k : Class) (hand : Contents Addr) (p : CpuPart) (s : Stopping) → Takes p k.0 hand → k.0 < length p.slab.rows → IsStop m k s
    → ((j : ℕ) → empty_to_take k.0 s j ≡ true → (row_at p.slab j).top ≡ 0) → (j : ℕ) → empty_of k.0 s j ≡ true → (row_at (drains.taken p k.0).slab j).top ≡ 0
is_empty m k hand p s x low is before j known = grind (arith, cases_eq, eqb-true, lt-ltb, ltb-true, row_same)

taken_few : (m : Limits) (k : Class) (s : Stopping) → AreRows m.rows → k.0 < length m.rows → IsStop m k s → taken_by s ≤ 120 * most_slots
taken_few m k s rows low is = grind arith

-- the row with which a drain goes on is about it, and was to come, where it has emptied the classes up to k
record IsDrainNext (m : Limits) (k : Class) (d : Draining) (next : Class × CpuStep) : Type 0 where
  pub about : about_cpu next.1 ≡ Other (Some (Drain d.cpu))
  pub come : IsToCome m next.0 next.1
  pub stand : cpu_standing m.rows next.0.0 next.1 ≡ stands d.cpu true (below (k.0 + 1))

-- a capacity that is set, or refused, moves no object
capped_rows : (slab : CpuSlab) (k n : ℕ) → k < length slab.rows → (j : ℕ) → held (row_at (with_cap_if slab k n) j) ≡ held (row_at slab j)
capped_rows slab k n within j = grind (arith, cond_both, cases_eq, row_other, row_same)

module _ (turn : Turn) where
  open turn use {rows, config as c, thread as t, part as p, seat as v, regs as g, acts as count}

  abbrev There : CpuStep → Type 0
  There row = IsThere turn row

  abbrev Shape : CpuStep → Type 0
  Shape row = CpuShape (limits_of rows c) v g row

  abbrev at : CpuStep → seats.Seat
  at row = seat turn row

  abbrev Behind : CpuStep → Regs → Option seats.Standing → Next → Type 0
  Behind row r o n = IsBehind rows c v (front.Cpu row) g r o n

  -- an act that moves no object
  quiet : (row : CpuStep) (new : CpuPart) (n : Next) (o o' : Option seats.Standing) → There row → IsAtBegin g → o ≡ o' → Behind row g o' n
      → new.epoch ≤ p.epoch + 1 → ((j : ℕ) → held (row_at new.slab j) ≡ held (row_at p.slab j)) → Keeps turn row new
      (record { regs = g; cpu = v.cpu.0; standing = o }) → Acts turn row (leaving new v g n)
  quiet row new n o o' there begin same b epoch slab keeps = grind (arith, as_left, moves_none)

  -- what a thread that has stopped the CPU has done there still stands
  held_of : (row : CpuStep) (s : Stopping) (fenced : Bool) (empty : ℕ → Bool) → There row → cpu_standing rows g.class.0 row ≡ stands (cpu_of s) fenced empty
      → at_cpu v.cpu row ≡ cpu_of s → IsHeld (thread_no t) p (record { cpu = (cpu_of s).0; fenced = fenced; empty = empty })
  held_of row s fenced empty there is here = grind arith

  stopper_is : (row : CpuStep) → There row → p.stopper ≡ Some (thread_no t) → p.stopper ≡ Some g.thread
  stopper_is row there is = is ∙ ap (λ (u : ThreadNo). Some u) (sym there.sits.thread)

  -- Stop
  stop_by : (s : Stopping) (o : Option ThreadNo) → There (cpu.Stop s) → p.stopper ≡ o → (let n = stops p g.thread s o in Acts turn (cpu.Stop s) (leaving n.0 v g n.1))
  stop_by s o there none = grind (arith, busy_other, goes_on, quiet, same_keeps, slab_same)

  pub stop_does : (s : Stopping) → There (cpu.Stop s) → Does turn (cpu.Stop s)
  stop_does s there = record { fits = λ e. there.pair.stops (e ∙ ap (λ (u : ThreadNo). Some u) there.sits.thread); acts = stop_by s p.stopper there refl }

  -- Fence
  pub fence_does : (s : Stopping) → There (cpu.Fence s) → Does turn (cpu.Fence s)
  fence_does s there = grind (arith, goes_on, held_of, nothing_taken, quiet, stopper_is)

  -- Take: the call goes on behind what it took
  abbrev TookSo : Stopping → Regs → Regs → Next → Type 0
  TookSo s r new n = GoesOn turn (cpu.Take s) v r new (stands (cpu_of s) true (empty_of g.class.0 s)) n × IsAtBegin new

  drained_so : (d d' : Draining) (r : Regs) (to : Class × CpuStep) (xs : List Addr) → r.hand.items ≡ xs → length xs ≤ most_slots → IsAtBegin r
      → d'.cpu ≡ d.cpu → IsDrainNext (limits_of rows c) g.class d' to → (let n = drained v r xs to in TookSo (stopping.Drain d) r n.0 n.1)
  drained_so d d' r to [] is few begin same x =
      let new : Regs = record r { class = to.0 } in
      grind (arith, goes_on rows c v (cpu.Take (stopping.Drain d)) to.1 g new, x.come.shape v new)
  drained_so d d' r to (y ∷ ys) is few begin same x = grind (arith, as_left, gives_away)

  took_so : (s : Stopping) (r : Regs) → length r.hand.items ≤ most_slots → r.class ≡ g.class → g.class.0 < length rows → IsAtBegin r
      → IsStop (limits_of rows c) g.class s → (let n = took rows v r s in TookSo s r n.0 n.1)
  took_so s r few class low begin is = grind (arith, as_left, drained_so, cond_both, ltb-false, ltb-true, goes_on)

  pub take_does_all : (s : Stopping) → There (cpu.Take s) → Does turn (cpu.Take s)
  take_does_all s there =
      let shape : Shape (cpu.Take s) = there.sits.regs in
      let k : ℕ = g.class.0 in
      let h : Contents Addr = drains.taken_to p k g.hand in
      let r : Regs = record g { hand = h } in
      let stands_so = stands_to_take rows k s in
      let has = held_of (cpu.Take s) s true (empty_to_take k s) there stands_so refl in
      let low : k < length rows = there.ready.class in
      let within : k < length p.slab.rows = omega (arith, there.part.classes, low) in
      let x : Takes p k g.hand = take_does (length rows) k p g.hand there.part low in
      let none : length g.hand.items ≡ 0 = ap length shape.0.hand in
      let back = length-reverse (held (row_at p.slab k)) in
      let all : length h.items ≡ length (held (row_at p.slab k)) = omega (arith, none, back, length-append g.hand.items (reverse (held (row_at p.slab k)))) in
      let m : IsMoved turn (drains.taken p k) r = grind (arith, x.others, objects_append, objects_reverse) in
      let keeps = lawful.takes (length rows) (cpu_of s).0 k (thread_no t) p (at (cpu.Take s)) h (empty_of k s) there.part there.pair in
      grind (
        arith,
        all,
        goes turn (cpu.Take s) (drains.taken p k) r,
        has,
        is_empty (limits_of rows c) g.class g.hand p s x within,
        keeps,
        m,
        stopper_is (cpu.Take s) there,
        taken_few (limits_of rows c) g.class s there.are low,
        took_so s r,
        x.few,
      )

  -- SetCap
  pub set_cap_does : (x : Resizing) → There (cpu.SetCap x) → Does turn (cpu.SetCap x)
  set_cap_does x there =
      let mark : ℕ → Bool = λ j. eqb j x.class.0 in
      let has = held_of (cpu.SetCap x) (stopping.Resize x) true mark there refl refl in
      let keeps = lawful.sets_cap (length rows) x.cpu.0 g.class.0 x.cap (thread_no t) p (at (cpu.SetCap x)) mark there.part there.pair in
      grind (arith, cap_other, capped_rows p.slab g.class.0 x.cap, eq-eqb, has, keeps, quiet (cpu.SetCap x), stopper_is (cpu.SetCap x) there)

  -- Start
  starts : (s : Stopping) (n : Next) → There (cpu.Start s) → IsAtBegin g → Behind (cpu.Start s) g None n → Acts turn (cpu.Start s) (leaving (drains.started p) v g n)
  starts s n there begin b = grind (arith, quiet)

  pub start_does : (s : Stopping) → There (cpu.Start s) → Does turn (cpu.Start s)
  start_does s there = grind (arith, held_of, starts, gives_away, stopper_is)

  -- Leave
  leave_by : (o : Option MoveTo) → There cpu.Leave → v.moved ≡ o → is_some o ≡ true → Acts turn cpu.Leave (leaves_or o p v g next.End (leaving p v g next.End))
  leave_by o there is some = grind (arith, leave_acts)

  pub leave_does : There cpu.Leave → Does turn cpu.Leave
  leave_does there = grind (arith, leave_by)
