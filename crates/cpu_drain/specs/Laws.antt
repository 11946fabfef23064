-- The laws of CPUs and threads: each act keeps what holds between them, and only moves objects.
use Rattle.std.specs.Prelude.{◌≡◌, ℕ, ◌+◌, ◌<◌, ◌≤◌, Bool, true, false, List, [], ◌++◌, length, take, drop, reverse, None, Some, sum_by}
use Rattle.tc_units.specs.declared.units.Addr.{Addr}
use Rattle.tc_units.specs.declared.units.ThreadNo.{ThreadNo}
use Rattle.tc_units.specs.Bag.{Contents}
use Rattle.cpu_slab.specs.Slots.{SlabRow, row_at, held}
use Rattle.rseq_core.specs.declared.sequence.Pc.TheVariants.{Begin}
use Rattle.rseq_core.specs.declared.sequence.Reply.{Reply}
use Rattle.rseq_core.specs.declared.sequence.Reply.TheVariants as reply
use Rattle.rseq_core.specs.declared.answers.Instructed.{Instructed}
use Rattle.rseq_core.specs.declared.answers.Instructed.TheVariants as answer
use Rattle.rseq_core.specs.declared.answers.Grew.{Grew}
use Rattle.rseq_core.specs.declared.answers.Arrival.{Arrival}
use Rattle.rseq_core.specs.declared.regs.Regs.{Regs}
use Rattle.rseq_core.specs.Bags.{room}
use Rattle.rseq_core.specs.declared.cpu_part.CpuPart.{CpuPart}
use Rattle.rseq_core.specs.Tables.{is_pop, wanted}
use Rattle.rseq_core.specs.Agrees.{Agrees}
use Rattle.rseq_core.specs.Acts.{Acted, IsCurrent, dropped, left, cpu_after, regs_after, instructed, grew_here}
use Rattle.cpu_drain.specs.Drains.{stopped, fenced, taken, taken_to, capped, started}
use Rattle.cpu_drain.specs.Seats.{objects_of, Standing, Seat, CpuOk, SeatOk, SeatKeeps, with_regs, standing_at, IsAtBegin, IsFencing, AreSet}

-- a thread at its own CPU, with registers of its number and of a class that is there
pub record IsHome (m i : ℕ) (t : ThreadNo) (p : CpuPart) (s : Seat) : Type 0 where
  pub part : CpuOk m p
  pub pair : SeatOk i t p s
  pub cpu : s.cpu ≡ i
  pub thread : s.regs.thread ≡ t
  pub class : s.regs.class.0 < m

-- a thread leaves for another CPU
abbrev pub LeaveKeeps : Type 0
LeaveKeeps = (m i to : ℕ) (t : ThreadNo) (p : CpuPart) (s : Seat) → IsHome m i t p s → SeatKeeps m i t p s (left p t) (record s { regs = dropped s.regs; cpu = to })

-- a thread with a sequence switches in, goes back, or executes one instruction
abbrev pub InstructKeeps : Type 0
InstructKeeps = (m i : ℕ) (t : ThreadNo) (p : CpuPart) (s : Seat) → IsHome m i t p s → SeatKeeps m i t p s (instructed p s.regs).cpu (with_regs s (instructed p s.regs).regs)

-- a thread with a growth switches in, goes back, or grows its class
abbrev pub GrowKeeps : Type 0
GrowKeeps = (m i : ℕ) (t : ThreadNo) (p : CpuPart) (s : Seat) → IsHome m i t p s → s.regs.pc ≡ Begin → SeatKeeps m i t p s (grew_here p s.regs).cpu (with_regs s (grew_here p s.regs).regs)

-- a thread that has stopped no CPU stops one where nobody stands
abbrev pub StopKeeps : Type 0
StopKeeps = (m i : ℕ) (t : ThreadNo) (p : CpuPart) (s : Seat) → CpuOk m p → SeatOk i t p s → s.regs.pc ≡ Begin → s.standing ≡ None → p.stopper ≡ None → SeatKeeps m i t p s (stopped p t) (standing_at s i false (λ j. false))

-- the stopper fences
abbrev pub FenceKeeps : Type 0
FenceKeeps = (m i : ℕ) (t : ThreadNo) (p : CpuPart) (s : Seat) (old : Standing) → CpuOk m p → SeatOk i t p s → s.regs.pc ≡ Begin → s.standing ≡ Some old → old.cpu ≡ i → SeatKeeps m i t p s (fenced p) (standing_at s i true (λ j. false))

-- behind its fence the stopper takes a class, and knows that it and the classes that were empty are empty
abbrev pub TakeKeeps : Type 0
TakeKeeps = (m i k : ℕ) (t : ThreadNo) (p : CpuPart) (s : Seat) (hand : Contents Addr) (empty : ℕ → Bool) → CpuOk m p → SeatOk i t p s → IsFencing i s → k < m → ((j : ℕ) → empty j ≡ true → (row_at (taken p k).slab j).top ≡ 0)
    → SeatKeeps m i t p s (taken p k) (standing_at (with_regs s (record s.regs { hand = hand })) i true empty)

-- behind its fence the stopper sets the capacity of an empty class
abbrev pub SetCapKeeps : Type 0
SetCapKeeps = (m i k n : ℕ) (t : ThreadNo) (p : CpuPart) (s : Seat) (empty : ℕ → Bool) → CpuOk m p → SeatOk i t p s → IsFencing i s → k < m → (row_at p.slab k).top ≡ 0 → ((j : ℕ) → empty j ≡ true → (row_at p.slab j).top ≡ 0)
    → SeatKeeps m i t p s (capped p k n) (standing_at s i true empty)

-- the stopper starts the CPU again
abbrev pub StartKeeps : Type 0
StartKeeps = (m i : ℕ) (t : ThreadNo) (p : CpuPart) (s : Seat) (old : Standing) → CpuOk m p → SeatOk i t p s → s.regs.pc ≡ Begin → s.standing ≡ Some old → old.cpu ≡ i → SeatKeeps m i t p s (started p) (record s { standing = None })

-- after any act the call may set its registers for the next sequence
abbrev pub SetKeeps : Type 0
SetKeeps = (m i : ℕ) (t : ThreadNo) (p new : CpuPart) (s after : Seat) (r : Regs) → AreSet after.regs r → SeatKeeps m i t p s new after → SeatKeeps m i t p s new (with_regs after r)

-- any sum over the objects of a slab and of a hand stays with an act of a thread with a sequence
abbrev pub InstructMoves : Type 0
InstructMoves = (f : Addr → ℕ) (m : ℕ) (p : CpuPart) (r : Regs) → CpuOk m p → r.class.0 < m → (IsCurrent r.thread p r → Agrees (is_pop r.seq) (row_at p.slab r.class.0) r r.pc)
    → sum_by f (objects_of (instructed p r).cpu.slab) + sum_by f (instructed p r).regs.hand.items ≡ sum_by f (objects_of p.slab) + sum_by f r.hand.items

-- a growth moves none
abbrev pub GrowMoves : Type 0
GrowMoves = (m : ℕ) (p : CpuPart) (r : Regs) → CpuOk m p → r.class.0 < m → (objects_of (grew_here p r).cpu.slab ≡ objects_of p.slab) × ((grew_here p r).regs.hand ≡ r.hand)

-- leaving, switching in and going back, by which a sequence is aborted, move none
abbrev pub AbortMoves : Type 0
AbortMoves = (p : CpuPart) (r : Regs) → ((left p r.thread).slab ≡ p.slab) × ((dropped r).hand ≡ r.hand)
    × ((a : Arrival) → ((cpu_after a p r).slab ≡ p.slab) × ((regs_after a p r).hand ≡ r.hand))

-- taking a class moves its objects to the bag
abbrev pub TakeMoves : Type 0
TakeMoves = (f : Addr → ℕ) (m k : ℕ) (p : CpuPart) (out : Contents Addr) → CpuOk m p → k < m → sum_by f (objects_of (taken p k).slab) + sum_by f (taken_to p k out).items ≡ sum_by f (objects_of p.slab) + sum_by f out.items

-- the other acts of a stopper move none
abbrev pub RemoteMoves : Type 0
RemoteMoves = (m k n : ℕ) (t : ThreadNo) (p : CpuPart) → CpuOk m p → k < m → (row_at p.slab k).top ≡ 0 → ((stopped p t).slab ≡ p.slab) × ((fenced p).slab ≡ p.slab) × ((started p).slab ≡ p.slab) × (objects_of (capped p k n).slab ≡ objects_of p.slab)

-- from an old row to a new one, and from registers to those after it, no object moves
pub record MovesNone (old new : SlabRow) (r after : Regs) : Type 0 where
  pub row : held new ≡ held old
  pub hand : after.hand.items ≡ r.hand.items

-- a sequence that pops: objects come to the hand, last first, and one at least where one is wanted
pub record MovesUp (old new : SlabRow) (r after : Regs) : Type 0 where
  pub pops : is_pop r.seq ≡ true
  pub got : List Addr
  pub some : 0 < wanted r.seq r.hand.items → 0 < length got
  pub few : length got ≤ wanted r.seq r.hand.items
  pub row : held old ≡ held new ++ reverse got
  pub hand : after.hand.items ≡ r.hand.items ++ got

-- one that pushes: so many objects go from the front of the hand, and one at least where one is wanted
pub record MovesDown (n : ℕ) (old new : SlabRow) (r after : Regs) : Type 0 where
  pub pushes : is_pop r.seq ≡ false
  pub some : 0 < wanted r.seq r.hand.items → 0 < n
  pub few : n ≤ length r.hand.items
  pub row : held new ≡ held old ++ take n r.hand.items
  pub hand : after.hand.items ≡ drop n r.hand.items

-- what moves with a sequence's reply
abbrev pub ReplyMoves : Reply → SlabRow → SlabRow → Regs → Regs → Type 0
ReplyMoves reply.Stopped old new r after = MovesNone old new r after
ReplyMoves reply.Empty old new r after = MovesNone old new r after
ReplyMoves reply.Full old new r after = MovesNone old new r after
ReplyMoves reply.Popped old new r after = MovesUp old new r after
ReplyMoves (reply.Pushed n) old new r after = MovesDown n old new r after

-- what moves with an answer
abbrev pub AnswerMoves : Instructed → SlabRow → SlabRow → Regs → Regs → Type 0
AnswerMoves answer.In old new r after = MovesNone old new r after
AnswerMoves answer.Back old new r after = MovesNone old new r after
AnswerMoves answer.Ran old new r after = MovesNone old new r after
AnswerMoves (answer.Done reply) old new r after = ReplyMoves reply old new r after

-- registers are at their begin, but where an instruction was executed that didn't end its sequence
abbrev pub BeginsAfter : Instructed → Regs → Type 0
BeginsAfter answer.In r = IsAtBegin r
BeginsAfter answer.Back r = IsAtBegin r
BeginsAfter answer.Ran r = Unit {0}
BeginsAfter (answer.Done reply) r = IsAtBegin r

-- a pop has room for all that it wants
pub record HasRoom (r : Regs) : Type 0 where
  pub loaded : wanted r.seq r.hand.items ≤ room r.loaded
  pub hand : wanted r.seq r.hand.items ≤ r.hand.spare

-- registers of the same thread, class and sequence, with the same room
pub record AreOfSame (r after : Regs) : Type 0 where
  pub thread : after.thread ≡ r.thread
  pub class : after.class ≡ r.class
  pub seq : after.seq ≡ r.seq
  pub hand_room : room after.hand ≡ room r.hand
  pub loaded_room : room after.loaded ≡ room r.loaded

-- What an act of a thread with a sequence does to objects, by its answer, and what it keeps: thread, class and sequence, and all room where a pop has room.
pub record Instructs (p : CpuPart) (r : Regs) (x : Acted Instructed) : Type 0 where
  pub others : (k : ℕ) → (k ≡ r.class.0 → ⊥) → row_at x.cpu.slab k ≡ row_at p.slab k
  pub moves : AnswerMoves x.answer (row_at p.slab r.class.0) (row_at x.cpu.slab r.class.0) r x.regs
  pub thread : x.regs.thread ≡ r.thread
  pub class : x.regs.class ≡ r.class
  pub seq : x.regs.seq ≡ r.seq
  pub same : (is_pop r.seq ≡ true → HasRoom r) → AreOfSame r x.regs
  pub begins : BeginsAfter x.answer x.regs
  pub ran : x.regs.ran ≤ r.ran + 1
  pub epoch : x.cpu.epoch ≤ p.epoch + 1

-- so does a thread with registers of a class that is there, which agree with the row where the thread is current
abbrev pub InstructDoes : Type 0
InstructDoes = (m : ℕ) (p : CpuPart) (r : Regs) → CpuOk m p → r.class.0 < m → (IsCurrent r.thread p r → Agrees (is_pop r.seq) (row_at p.slab r.class.0) r r.pc) → Instructs p r (instructed p r)

-- what an act of a thread with a growth does: no object moves, and all else is kept
pub record Grows (p : CpuPart) (r : Regs) (x : Acted Grew) : Type 0 where
  pub rows : (k : ℕ) → held (row_at x.cpu.slab k) ≡ held (row_at p.slab k)
  pub hand : x.regs.hand.items ≡ r.hand.items
  pub same : AreOfSame r x.regs
  pub begins : IsAtBegin r → IsAtBegin x.regs
  pub ran : x.regs.ran ≡ r.ran
  pub epoch : x.cpu.epoch ≤ p.epoch + 1

-- so does a thread with registers of a class that is there
abbrev pub GrowDoes : Type 0
GrowDoes = (m : ℕ) (p : CpuPart) (r : Regs) → CpuOk m p → r.class.0 < m → Grows p r (grew_here p r)

-- what taking a class does: its objects, so many at most, come to the bag, top first
pub record Takes (p : CpuPart) (k : ℕ) (out : Contents Addr) : Type 0 where
  pub others : (j : ℕ) → (j ≡ k → ⊥) → row_at (taken p k).slab j ≡ row_at p.slab j
  pub row : held (row_at (taken p k).slab k) ≡ []
  pub items : (taken_to p k out).items ≡ out.items ++ reverse (held (row_at p.slab k))
  pub all : length (held (row_at p.slab k)) ≡ (row_at p.slab k).top
  pub few : length (held (row_at p.slab k)) ≤ 2048

-- so does taking any class that is there
abbrev pub TakeDoes : Type 0
TakeDoes = (m k : ℕ) (p : CpuPart) (out : Contents Addr) → CpuOk m p → k < m → Takes p k out
