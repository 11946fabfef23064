-- What comes behind an act at a CPU, and what the act leaves.
use Rattle.std.proofs.Common.{◌≡◌, ◌≢◌, ℕ, ◌+◌, ◌<◌, ◌≤◌, false, List, [], length, Option, Some, None, refl, ap, subst, arith, inl, ◌⊎◌, eqb}
use Rattle.cpu_rows.proofs.Common.{cond_both, ThreadNo, ClassRow, MoveTo, Config, MOST_PICKS, CpuSlab, row_at, held, CpuPart, Regs, is_pop}
use Rattle.cpu_rows.proofs.Common.{IsCurrent, left, dropped, CpuOk, SeatOk, SeatKeeps, IsHome, AreOfSame, objects_at, CpuSeat, CpuRow, CpuStep, Next}
use Rattle.cpu_rows.proofs.Common.{HasNoLabel, About, Asks, about_giving, cpu_acts, leaving, looks_on, gives}
use Rattle.cpu_rows.proofs.Common.{at_cpu_next, about_cpu, about_row, at_cpu, as_row, FitsCpu, thread_no, AreRows, most_slots, IsAtBegin, HasNone, IsGiving}
use Rattle.cpu_rows.proofs.Common.{CpuShape, cpu_standing, IsMove, limits_of, Standing, Here, stand, at_next, regs_next, IsReady, IsAct}
use Rattle.cpu_rows.proofs.Common.{IsNext, Cpu, cpu_front, stopping_at, seat_at, IsSeated, RegsAt, Asking, Giving, IsAsked, HandAbout}
use Rattle.rseq_core.specs.Agrees.{Agrees}
use Rattle.cpu_drain.specs.Seats as seats
use Rattle.cpu_drain.proofs.Lawful as lawful
use Rattle.cpu_rows.specs.declared.row.CpuRow.TheVariants as front
use Rattle.cpu_rows.specs.CpuActs as acts
use Rattle.call_steps.specs.declared.step.Next.TheVariants as next

-- a number of domains that isn't 0
some_domain : (n : ℕ) → eqb n 0 ≡ false → 0 < n
some_domain n is = grind arith

module _ (rows : List ClassRow) (c : Config) where
  -- It may come there, the registers are as there, and the thread stands so at the CPU that it has stopped.
  pub record IsBehind (v : CpuSeat) (row : CpuRow) (g r : Regs) (o : Option seats.Standing) (n : Next) : Type 0 where
    pub next : IsNext (cpu_front rows c) about_row row g r n
    pub regs : RegsAt (limits_of rows c) v (regs_next r n) (at_next n)
    pub stands : stopping_at rows (regs_next r n) (at_next n) ≡ o
    pub same : regs_next r n ≡ r

  -- a row's hand, with registers of its class and the same objects
  pub hand_same : (g r : Regs) (a : About) → r.class ≡ g.class → r.hand.items ≡ g.hand.items → HandAbout rows g a → HandAbout rows r a
  hand_same g r a class hand x = grind arith

  -- an allocation looks on in its domain, or in the shard
  pub looks : (v : CpuSeat) (row : CpuRow) (g r : Regs) (a : Asking) → about_row row ≡ Asks a → HasNone r → IsAsked rows r a
      → IsBehind v row g r None (looks_on v a)
  looks v row g r a is none asked = grind (arith, cond_both, some_domain)

  -- the hand is given away, to the cache of the domain or to the shard
  pub gives_to_shard : (v : CpuSeat) (row : CpuRow) (g r : Regs) (w : Giving CpuStep) → about_row row ≡ about_giving about_cpu w → IsAtBegin r
      → length r.hand.items ≤ most_slots → IsGiving (limits_of rows c) r.hand.items w → IsBehind v row g r (stopping_at rows r (at_next (next.Give (as_row w)))) (next.Give (as_row w))
  gives_to_shard v row g r w is begin few has = grind arith

  pub gives_away : (v : CpuSeat) (row : CpuRow) (g r : Regs) (w : Giving CpuStep) → about_row row ≡ about_giving about_cpu w → IsAtBegin r
      → length r.hand.items ≤ most_slots → IsGiving (limits_of rows c) r.hand.items w → IsBehind v row g r (stopping_at rows r (at_next (next.Give (as_row w)))) (gives v w)
  gives_away v row g r w is begin few has = grind (arith, cond_both, gives_to_shard, some_domain)

  -- the call goes on with a row at a CPU
  pub goes_on : (v : CpuSeat) (row to : CpuStep) (g r : Regs) → about_cpu to ≡ about_cpu row → HandAbout rows r (about_cpu row)
      → CpuShape (limits_of rows c) v r to → IsBehind v (front.Cpu row) g r (cpu_standing rows r.class.0 to) (at_cpu_next to)
  goes_on v row to g r is hand shape = record { next = (is, hand); regs = shape; stands = refl; same = refl }

-- registers that differ in their class and their sequence alone
pub record AreLike (r new : Regs) : Type 0 where
  pub thread : new.thread ≡ r.thread
  pub hand : new.hand ≡ r.hand
  pub loaded : new.loaded ≡ r.loaded
  pub ran : new.ran ≡ r.ran
  pub epoch : new.epoch ≡ r.epoch

-- a thread's turn at a CPU
pub record Turn : Type 0 where
  pub rows : List ClassRow
  pub config : Config
  pub thread : ℕ
  pub part : CpuPart
  pub seat : CpuSeat
  pub regs : Regs
  pub acts : ℕ

module _ (turn : Turn) where
  open turn use {rows, config as c, thread as t, part as p, seat as v, regs as g, acts as count}

  -- a thread at a row of a CPU, by its seat there
  abbrev pub seat : CpuStep → seats.Seat
  seat row = seat_at rows (stand v g count (Here (front.Cpu row)))

  -- this seat is kept, with all others
  abbrev pub Keeps : CpuStep → CpuPart → seats.Seat → Type 0
  Keeps row new after = SeatKeeps (length rows) (at_cpu v.cpu row).0 (thread_no t) p (seat row) new after

  -- The CPU is sound and the two agree, and counts are low.
  pub record IsThere (row : CpuStep) : Type 0 where
    pub are : AreRows rows
    pub sits : IsSeated rows c t (stand v g count (Here (front.Cpu row)))
    pub ready : IsReady (cpu_front rows c) t g (about_cpu row)
    pub part : CpuOk (length rows) p
    pub pair : SeatOk (at_cpu v.cpu row).0 (thread_no t) p (seat row)
    pub epoch : p.epoch ≤ MOST_PICKS
    pub acts : count ≤ MOST_PICKS

  -- An act keeps all seats, leaves the thread seated, and moves objects.
  abbrev after : acts.Left CpuPart → Standing CpuSeat CpuRow
  after x = stand x.seat (regs_next x.regs x.next) (count + 1) (at_next x.next)

  pub record Acts (row : CpuStep) (x : acts.Left CpuPart) : Type 0 where
    pub keeps : Keeps row x.part (seat_at rows (after x))
    pub sits : IsSeated rows c t (after x)
    pub epoch : x.part.epoch ≤ p.epoch + 1
    pub act : IsAct (cpu_front rows c) about_row (Cpu p) g (front.Cpu row) (leaving (Cpu x.part) x.seat x.regs x.next)

  -- and fits
  pub record Does (row : CpuStep) : Type 0 where
    pub fits : FitsCpu rows p v g row
    pub acts : Acts row (cpu_acts rows p v g row)

  -- what it does to the CPU, with these registers: objects move between the slab and the hand
  pub record IsMoved (new : CpuPart) (r : Regs) : Type 0 where
    pub same : AreOfSame g r
    pub ran : r.ran ≤ g.ran + 1
    pub epoch : new.epoch ≤ p.epoch + 1
    pub others : (k n : ℕ) → k ≢ g.class.0 → objects_at n (held (row_at new.slab k)) ≡ objects_at n (held (row_at p.slab k))
    pub moves : (n : ℕ) → objects_at n (held (row_at new.slab g.class.0)) + objects_at n r.hand.items ≡ objects_at n (held (row_at p.slab g.class.0)) + objects_at n
        g.hand.items

  -- a class is another one of the table where nothing is in hand of a call without a label
  abbrev pub HasClass : CpuStep → Regs → Regs → Type 0
  HasClass row r new = (new.class ≡ r.class) ⊎ ((new.class.0 < length rows) × (new.hand.items ≡ []) × HasNoLabel (about_cpu row))

  -- the call then goes on with these
  pub record GoesOn (row : CpuStep) (to : CpuSeat) (r new : Regs) (o : Option seats.Standing) (n : Next) : Type 0 where
    pub like : AreLike r new
    pub class : HasClass row r new
    pub behind : IsBehind rows c to (front.Cpu row) g new o n

  -- the thread's seat is there
  pub record IsSeat (to : CpuSeat) : Type 0 where
    pub home : to.cpu.0 < c.cpus
    pub domains : to.domains ≡ c.domains
    pub move : IsMove (limits_of rows c) to.moved

  builds : (row : CpuStep) (new : CpuPart) (to : CpuSeat) (r r' : Regs) (n : Next) (o o' : Option seats.Standing) → IsThere row → IsSeat to → IsMoved new r
      → GoesOn row to r r' o' n → o ≡ o' → Keeps row new (record { regs = r'; cpu = to.cpu.0; standing = o }) → Acts row (leaving new to r' n)
  builds row new to r r' n o o' there is m x same keeps = grind arith

  pub as_left : (row : CpuStep) (to : CpuSeat) (r : Regs) (o : Option seats.Standing) (n : Next) → IsBehind rows c to (front.Cpu row) g r o n → GoesOn row to r r o n
  as_left row to r o n b = record { like = record { thread = refl; hand = refl; loaded = refl; ran = refl; epoch = refl }; class = inl refl; behind = b }

  -- in the middle of a sequence
  pub still : (row : CpuStep) (new : CpuPart) (r : Regs) (o o' : Option seats.Standing) (n : Next) → IsThere row → IsMoved new r
      → IsBehind rows c v (front.Cpu row) g r o' n → o ≡ o' → Keeps row new (record { regs = r; cpu = v.cpu.0; standing = o }) → Acts row (leaving new v r n)
  still row new r o o' n there m b same keeps = grind (arith, as_left, builds)

  -- and at its begin, where the registers may be set for another
  pub goes : (row : CpuStep) (new : CpuPart) (r r' : Regs) (o o' : Option seats.Standing) (n : Next) → IsThere row → IsMoved new r → GoesOn row v r r' o' n
      → IsAtBegin r' → o ≡ o' → Keeps row new (record { regs = r; cpu = v.cpu.0; standing = o }) → Acts row (leaving new v r' n)
  goes row new r r' o o' n there m x begin same keeps = grind (arith, builds)

  -- an act of a stopper that moves no object
  pub moves_none : (new : CpuPart) → new.epoch ≤ p.epoch + 1 → ((j : ℕ) → held (row_at new.slab j) ≡ held (row_at p.slab j)) → IsMoved new g
  moves_none new epoch slab = grind arith

  pub slab_same : (new : CpuPart) → new.slab ≡ p.slab → (j : ℕ) → held (row_at new.slab j) ≡ held (row_at p.slab j)
  slab_same new same j = ap (λ (s : CpuSlab). held (row_at s j)) same

  -- a thread at its own CPU
  pub home_of : (row : CpuStep) → IsThere row → v.cpu.0 ≡ (at_cpu v.cpu row).0 → IsHome (length rows) (at_cpu v.cpu row).0 (thread_no t) p (seat row)
  home_of row there here = record { part = there.part; pair = there.pair; cpu = here; thread = there.sits.thread; class = there.ready.class }

  pub agrees_of : (row : CpuStep) → IsThere row → IsCurrent g.thread p g → Agrees (is_pop g.seq) (row_at p.slab g.class.0) g g.pc
  agrees_of row there e = there.pair.agrees (subst (λ (u : ThreadNo). IsCurrent u p g) there.sits.thread e)

  -- the thread leaves for the CPU of its move
  left_part : (u : ThreadNo) → ((left p u).slab ≡ p.slab) × ((left p u).epoch ≤ p.epoch + 1)
  left_part u = grind (arith, cond_both)

  abbrev moved_to : MoveTo → CpuSeat
  moved_to move = record v { cpu = move.cpu; moved = None }

  pub leave_acts : (row : CpuStep) (move : MoveTo) (n : Next) (o : Option seats.Standing) → IsThere row → v.cpu.0 ≡ (at_cpu v.cpu row).0
      → v.moved ≡ Some move → (seat row).standing ≡ o → IsBehind rows c (moved_to move) (front.Cpu row) g (dropped g) o n
      → Acts row (leaving (left p g.thread) (moved_to move) (dropped g) n)
  leave_acts row move n o there here is stands b =
      let u : ThreadNo = g.thread in
      let keeps = lawful.leaves (length rows) (at_cpu v.cpu row).0 move.cpu.0 (thread_no t) p (seat row) (home_of row there here) in
      grind (
        arith,
        moves_none (left p u) (left_part u).1 (slab_same (left p u) (left_part u).0),
        left_part u,
        slab_same (left p u) (left_part u).0,
        builds row (left p u) (moved_to move) (dropped g) (dropped g) n (seat row).standing o there,
        as_left row (moved_to move) (dropped g) o n b,
      )
