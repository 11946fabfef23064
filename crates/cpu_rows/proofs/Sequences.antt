-- Acts of threads with a sequence or a growth, by what the sequence replied.
use Rattle.std.proofs.Common.{◌≡◌, refl, ℕ, ◌+◌, ◌<◌, ◌≤◌, true, false, [], ◌∷◌, List, length, Option, Some, None, ap, sym, ◌∙◌, subst, arith}
use Rattle.std.proofs.lemmas.List.{nil_from_length}
use Rattle.cpu_rows.proofs.Common.{cond_both, length-append, length-drop, Addr, Class, MoveTo, SlabRow, row_at, row_sound, CpuPart, Regs, LOADED_ROOM, Seq}
use Rattle.cpu_rows.proofs.Common.{Reply, Instructed, Grew, is_pop, wanted, AnswerMoves, ReplyMoves, AreOfSame, Instructs, Grows, instruct_does, grow_does}
use Rattle.cpu_rows.proofs.Common.{CpuSeat, Asking, Serving, Freeing, CpuStep, Next, no_class, row_of, thread_no, leaving, gives, at_cpu_next, due, after_stock}
use Rattle.cpu_rows.proofs.Common.{replied, leaves_or, sequence, grew_to, about_cpu, at_cpu, FitsSequence, most_slots, BeginsWith, IsAtBegin}
use Rattle.cpu_rows.proofs.Common.{HasNone, CpuShape, cpu_standing, IsAsked, limits_of}
use Rattle.cpu_drain.specs.Laws.{HasRoom}
use Rattle.rseq_core.proofs.Able.{able_from_agrees}
use Rattle.rseq_core.specs.declared.sequence.Seq.TheVariants as seq
use Rattle.rseq_core.specs.declared.sequence.Reply.TheVariants as reply
use Rattle.rseq_core.specs.declared.answers.Instructed.TheVariants as answer
use Rattle.rseq_core.specs.Acts as rseq
use Rattle.cpu_drain.specs.Seats as seats
use Rattle.cpu_drain.proofs.Lawful as lawful
use Rattle.call_steps.specs.declared.step.Giving.TheVariants as giving
use Rattle.cpu_rows.specs.declared.row.CpuRow.TheVariants as front
use Rattle.cpu_rows.specs.declared.row.CpuStep.TheVariants as cpu
use Rattle.cpu_rows.proofs.Moves.{answer_moves}
use Rattle.cpu_rows.proofs.Acts.{Acts, Does, GoesOn, IsBehind, IsMoved, IsThere, Keeps, Turn, agrees_of, as_left, gives_away, goes_on, hand_same}
use Rattle.cpu_rows.proofs.Acts.{home_of, leave_acts, looks, seat, still}

-- the thread's move
due_is : (o : Option MoveTo) (ran : ℕ) (move : MoveTo) → due o ran ≡ Some move → o ≡ Some move
due_is o ran move is = grind (arith, cond_both)

-- which way a sequence goes
no_pop : (s x : Seq) → s ≡ x → is_pop x ≡ false → is_pop s ≡ true → ⊥
no_pop s x is way pops = let e : false ≡ true = (cc) in absurd (cc)

no_push : (s x : Seq) → s ≡ x → is_pop x ≡ true → is_pop s ≡ false → ⊥
no_push s x is way pushes = let e : false ≡ true = (cc) in absurd (cc)

wants : (g : Regs) (s : Seq) → g.seq ≡ s → wanted g.seq g.hand.items ≡ wanted s g.hand.items
wants g s is = ap (λ (x : Seq). wanted x g.hand.items) is

begins_by : (a : Addr) (xs others : List Addr) → xs ≡ a ∷ others → BeginsWith a xs
begins_by a xs others is = subst (λ (ys : List Addr). BeginsWith a ys) (sym is) refl

-- how many are in hand behind a reply at most
reply_few : (old new : SlabRow) (r after : Regs) (o : Reply) → ReplyMoves o old new r after → length after.hand.items ≤ length r.hand.items + wanted r.seq r.hand.items
reply_few old new r after o moves = grind (arith, length-append, length-drop)

module _ (turn : Turn) where
  open turn use {rows, config as c, thread as t, part as p, seat as v, regs as g, acts as count}

  abbrev There : CpuStep → Type 0
  There row = IsThere turn row

  abbrev Shape : CpuSeat → Regs → CpuStep → Type 0
  Shape w r row = CpuShape (limits_of rows c) w r row

  abbrev Behind : CpuStep → Regs → Next → Type 0
  Behind row r n = IsBehind rows c v (front.Cpu row) g r None n

  -- what a call does with a reply, which left these registers
  abbrev Replied : CpuStep → Regs → Regs → Next → Type 0
  Replied row r new n = GoesOn turn row v r new None n × IsAtBegin new

  abbrev Replies : CpuStep → Type 0
  Replies row = (old new : SlabRow) (r : Regs) (o : Reply) → ReplyMoves o old new g r → IsAtBegin r → AreOfSame g r → let z = replied rows v r (answer.Done o) row in
      Replied row r z.0 z.1

  -- with the registers as they were left
  left_so : (row : CpuStep) (r : Regs) (n : Next) → IsAtBegin r → Behind row r n → Replied row r r n
  left_so row r n begin b = (as_left turn row v r None n b, begin)

  moved_of : (new : CpuPart) (r : Regs) (a : Instructed) → Instructs p g (record { cpu = new; regs = r; answer = a }) → AreOfSame g r → IsMoved turn new r
  moved_of new r a x same = grind (arith, answer_moves)

  -- what holds at a sequence's row
  record IsRow (row : CpuStep) : Type 0 where
    pub here : v.cpu.0 ≡ (at_cpu v.cpu row).0
    pub none : (k : ℕ) → cpu_standing rows k row ≡ None
    -- the row keeps its shape where sequence, class and hand stay
    pub stays : (w : CpuSeat) (r : Regs) → r.seq ≡ g.seq → r.class ≡ g.class → r.hand.items ≡ g.hand.items → Shape w r row
    pub replies : Replies row
    pub rooms : is_pop g.seq ≡ true → HasRoom g

  -- it goes on, or is at its begin again
  stays_on : (row : CpuStep) (new : CpuPart) (r : Regs) → There row → IsRow row → AreOfSame g r → r.hand.items ≡ g.hand.items → IsMoved turn new r
      → Keeps turn row new (seats.with_regs (seat turn row) r) → Acts turn row (leaving new v r (at_cpu_next row))
  stays_on row new r there x same hand m keeps = grind (arith, goes_on, hand_same, still)

  answers : (row : CpuStep) (new : CpuPart) (r : Regs) (a : Instructed) → There row → IsRow row → AreOfSame g r
      → Instructs p g (record { cpu = new; regs = r; answer = a }) → Keeps turn row new (seats.with_regs (seat turn row) r)
      → (let n = replied rows v r a row in Acts turn row (leaving new v n.0 n.1))
  answers row new r a there x same y keeps = grind (arith, stays_on, moved_of)

  acts_by : (row : CpuStep) → There row → IsRow row → (o : Option MoveTo) → due v.moved g.ran ≡ o
      → (let z = rseq.instructed p g in let n = replied rows v z.regs z.answer row in Acts turn row (leaves_or o p v g (at_cpu_next row) (leaving z.cpu v n.0 n.1)))
  acts_by row there x (Some move) is = grind (arith, due_is, goes_on, hand_same, leave_acts)
  acts_by row there x None is =
      let z = rseq.instructed p g in
      let y = instruct_does (length rows) p g there.part there.ready.class (agrees_of turn row there) in
      answers row z.cpu z.regs z.answer there x (y.same x.rooms) y
      (lawful.instructs (length rows) (at_cpu v.cpu row).0 (thread_no t) p (seat turn row) (home_of turn row there x.here))

  acts : (row : CpuStep) → There row → IsRow row → Acts turn row (sequence rows p v g row)
  acts row there x = acts_by row there x (due v.moved g.ran) refl

  fits : (row : CpuStep) → There row → IsRow row → FitsSequence rows p g
  fits row there x = grind (arith, able_from_agrees, acts, agrees_of, row_sound)

  -- Pop
  asked_still : (r : Regs) (a : Asking) → IsAsked rows g a → r.class ≡ g.class → IsAsked rows r a
  asked_still r a asked class = asked ∙ ap (λ (k : Class). Some k) (sym class)

  pop_none : (r : Regs) → g.hand.items ≡ [] → IsAtBegin r → r.hand.items ≡ g.hand.items → HasNone r
  pop_none r none begin hand = record { begin = begin; hand = hand ∙ none }

  pop_replies : (a : Asking) → Shape v g (cpu.Pop a) → Replies (cpu.Pop a)
  pop_replies a shape old new r given moves begin same = grind (arith, asked_still, goes_on, left_so, length-append, looks, no_push, pop_none, wants)

  pops_some : (old new : SlabRow) (x : rseq.Acted Instructed) → g.seq ≡ seq.Pop → AnswerMoves x.answer old new g x.regs → x.answer ≡ answer.Done reply.Popped
      → 0 < length x.regs.hand.items
  pops_some old new x is moves done = grind (arith, length-append, wants)

  pub pop_does : (a : Asking) → There (cpu.Pop a) → Does turn (cpu.Pop a)
  pop_does a there =
      grind (
        arith,
        instruct_does (length rows) p g there.part there.ready.class (agrees_of turn (cpu.Pop a) there),
        agrees_of turn (cpu.Pop a) there,
        wants g seq.Pop,
        asked_still,
        pop_replies a,
        fits (cpu.Pop a) there,
        pops_some (row_at p.slab g.class.0),
        acts (cpu.Pop a) there,
      )

  -- Stock
  rest_behind : (s : Serving) (r : Regs) (xs : List Addr) → r.hand.items ≡ xs → length r.hand.items ≤ most_slots → IsAtBegin r
      → Behind (cpu.Stock s) r (after_stock v s xs)
  rest_behind s r xs is few begin = grind (arith, gives_away)

  pub stock_does : (s : Serving) → There (cpu.Stock s) → Does turn (cpu.Stock s)
  stock_does s there =
      let shape : Shape v g (cpu.Stock s) = there.sits.regs in
      let row : IsRow (cpu.Stock s) =
      grind (arith, left_so (cpu.Stock s), rest_behind s, reply_few, wants g seq.PushBatch shape.0, no_pop g.seq seq.PushBatch shape.0 refl) in
      record { fits = fits (cpu.Stock s) there row; acts = acts (cpu.Stock s) there row }

  -- Push, and PopBatch: the object of a free is given away with what is behind it
  freed_behind : (row : CpuStep) (f : Freeing) (r : Regs) (others : List Addr) → about_cpu row ≡ about_cpu (cpu.Push f) → r.hand.items ≡ f.addr ∷ others
      → length others < most_slots → IsAtBegin r → Replied row r r (gives v (giving.Freed f))
  freed_behind row f r others is hand few begin = grind (arith, begins_by, gives_away, left_so)

  push_replies : (f : Freeing) → Shape v g (cpu.Push f) → Replies (cpu.Push f)
  push_replies f shape old new r given moves begin same = grind (arith, begins_by, nil_from_length, freed_behind, goes_on, left_so, length-drop, no_pop, wants)

  pub push_does : (f : Freeing) → There (cpu.Push f) → Does turn (cpu.Push f)
  push_does f there = grind (arith, push_replies f, no_pop g.seq seq.Push, fits (cpu.Push f) there, acts (cpu.Push f) there)

  batch_replies : (f : Freeing) → wanted g.seq g.hand.items ≤ LOADED_ROOM → Shape v g (cpu.PopBatch f) → Replies (cpu.PopBatch f)
  batch_replies f few shape old new r given moves begin same = grind (arith, freed_behind, no_push)

  pub batch_does : (f : Freeing) → There (cpu.PopBatch f) → Does turn (cpu.PopBatch f)
  batch_does f there =
      grind (
        arith,
        wants g (seq.PopBatch (row_of rows g.class).batch),
        there.are.each g.class.0 no_class there.ready.class,
        batch_replies f,
        fits (cpu.PopBatch f) there,
        acts (cpu.PopBatch f) there,
      )

  -- Grow
  grow_behind : (a : Asking) (r : Regs) (o : Grew) → HasNone r → IsAsked rows r a → Behind (cpu.Grow a) r (grew_to v a o)
  grow_behind a r o none asked = grind (arith, goes_on, looks)

  pub grow_does_all : (a : Asking) → There (cpu.Grow a) → Does turn (cpu.Grow a)
  grow_does_all a there =
      let x = rseq.grew_here p g in
      let keeps = lawful.grows (length rows) v.cpu.0 (thread_no t) p (seat turn (cpu.Grow a)) (home_of turn (cpu.Grow a) there refl) in
      let y : Grows p g x = grow_does (length rows) p g there.part there.ready.class in
      grind (arith, asked_still x.regs, grow_behind a x.regs x.answer, keeps, pop_none x.regs, still turn (cpu.Grow a) x.cpu x.regs, y)
