-- The acts of the per-CPU caches: what an act leaves of its part, of the thread's seat and of its registers, and what comes behind it.
use Rattle.std.specs.Prelude.{ℕ, ◌+◌, ◌++◌, Bool, true, not, ◌==◌, ◌&&◌, ◌||◌, nat_lt, nat_le, List, [], ◌∷◌, length, Option, Some, None, is_some, if◌then◌else◌}
use Rattle.tc_units.specs.declared.units.Addr.{Addr}
use Rattle.tc_units.specs.declared.units.Class.{Class}
use Rattle.tc_units.specs.declared.units.ThreadNo.{ThreadNo}
use Rattle.tc_units.specs.declared.spans.ClassRow.{ClassRow}
use Rattle.tc_model.specs.declared.calls.MoveTo.{MoveTo}
use Rattle.tc_model.specs.declared.answers.Answer.{Answer}
use Rattle.tc_model.specs.declared.answers.Answer.TheVariants.{Drained, Busy, CapSet, OverLimit, OverStatic}
use Rattle.cpu_slab.specs.declared.slab.CapFault.{CapFault}
use Rattle.cpu_slab.specs.declared.slab.CapFault.TheVariants as fault
use Rattle.cpu_slab.specs.Caps.{cap_fault}
use Rattle.rseq_core.specs.declared.cpu_part.CpuPart.{CpuPart}
use Rattle.rseq_core.specs.declared.regs.Regs.{Regs}
use Rattle.rseq_core.specs.declared.sequence.Seq.TheVariants as seq
use Rattle.rseq_core.specs.declared.sequence.Reply.{Reply}
use Rattle.rseq_core.specs.declared.sequence.Reply.TheVariants as reply
use Rattle.rseq_core.specs.declared.answers.Instructed.{Instructed}
use Rattle.rseq_core.specs.declared.answers.Instructed.TheVariants as instructed
use Rattle.rseq_core.specs.declared.answers.Grew.{Grew}
use Rattle.rseq_core.specs.declared.answers.Grew.TheVariants as grew
use Rattle.rseq_core.specs.Acts as rseq
use Rattle.rseq_core.specs.Bags.{appended, emptied}
use Rattle.cpu_drain.specs.Drains as drains
use Rattle.transfer_cache.specs.Transfer.{Transfer, last_first, without_last}
use Rattle.cpu_rows.specs.declared.seat.CpuSeat.{CpuSeat}
use Rattle.call_steps.specs.declared.step.Asking.{Asking}
use Rattle.call_steps.specs.declared.step.Serving.{Serving}
use Rattle.call_steps.specs.declared.step.Freeing.{Freeing}
use Rattle.cpu_rows.specs.declared.row.Draining.{Draining}
use Rattle.cpu_rows.specs.declared.row.Stopping.{Stopping}
use Rattle.cpu_rows.specs.declared.row.Stopping.TheVariants as stopping
use Rattle.call_steps.specs.declared.step.Giving.{Giving}
use Rattle.cpu_rows.specs.PerCpu.{Next}
use Rattle.call_steps.specs.Fronts.{Left as AnyLeft, leaving}
use Rattle.cpu_rows.specs.declared.row.CpuRow.{CpuRow}
use Rattle.call_steps.specs.declared.step.Giving.TheVariants as giving
use Rattle.call_steps.specs.declared.step.Next.TheVariants as next
use Rattle.cpu_rows.specs.declared.row.CpuRow.TheVariants as front
use Rattle.cpu_rows.specs.declared.row.CpuStep.{CpuStep}
use Rattle.cpu_rows.specs.declared.row.CpuStep.TheVariants.{Pop, Grow, Stock, Push, PopBatch, Stop, Fence, Take, SetCap, Start, Leave}
use Rattle.cpu_rows.specs.declared.row.DomainStep.{DomainStep}
use Rattle.cpu_rows.specs.declared.row.DomainStep.TheVariants as domain
use Rattle.call_steps.specs.Local.{row_of}
use Rattle.rseq_core.specs.Registers.{set_for}
use Rattle.cpu_rows.specs.CpuRows.{as_row}

-- what an act at a part of these leaves
abbrev pub Left : Type 0 → Type 0
Left P = AnyLeft P CpuSeat CpuRow

-- an allocation that found nothing at its CPU looks in the cache of its domain, where there are domains, and else in the shard
abbrev pub looks_on : CpuSeat → Asking → Next
looks_on v asking = if v.domains == 0 then next.Fetch asking else next.Row (front.Domain (domain.Take asking))

-- the hand is given away: to the cache of the domain, where there are domains, and else to the shard
abbrev pub gives : CpuSeat → Giving CpuStep → Next
gives v g = if v.domains == 0 then next.Give (as_row g) else next.Row (front.Domain (domain.Put g))

-- a row at a CPU comes next
abbrev pub at_cpu_next : CpuStep → Next
at_cpu_next row = next.Row (front.Cpu row)

-- The thread's own acts. Its move comes before the next instruction: it is the one that the move names.
abbrev pub due : Option MoveTo → ℕ → Option MoveTo
due None ran = None
due (Some move) ran = if move.before == ran + 1 then Some move else None

-- a thread with a move leaves for the CPU of that, with nothing loaded, and this comes next; one without does this act
abbrev pub leaves_or : Option MoveTo → CpuPart → CpuSeat → Regs → Next → Left CpuPart → Left CpuPart
leaves_or None p v r n act = act
leaves_or (Some move) p v r n act = leaving (rseq.left p r.thread) (record v { cpu = move.cpu; moved = None }) (rseq.dropped r) n

-- the rows of the call programs by what a sequence replied
abbrev pub after_pop : CpuSeat → Asking → Reply → Next
after_pop v asking reply.Popped = next.Serve asking
after_pop v asking reply.Empty = at_cpu_next (Grow asking)
after_pop v asking other = looks_on v asking

-- all is pushed, or the rest is given away
abbrev pub after_stock : CpuSeat → Serving → List Addr → Next
after_stock v s [] = next.Publish s
after_stock v s (a ∷ others) = gives v (giving.Rest s)

abbrev pub after_push : List ClassRow → CpuSeat → Regs → Freeing → Reply → Regs × Next
after_push rows v r f (reply.Pushed n) = (r, next.Freed f)
after_push rows v r f reply.Full = (set_for r.class (seq.PopBatch (row_of rows r.class).batch) r, at_cpu_next (PopBatch f))
after_push rows v r f other = (r, gives v (giving.Freed f))

-- a sequence goes on, or its call does with what it replied
abbrev pub replied : List ClassRow → CpuSeat → Regs → Instructed → CpuStep → Regs × Next
replied rows v r (instructed.Done o) (Pop asking) = (r, after_pop v asking o)
replied rows v r (instructed.Done o) (Stock s) = (r, after_stock v s r.hand.items)
replied rows v r (instructed.Done o) (Push f) = after_push rows v r f o
replied rows v r (instructed.Done o) (PopBatch f) = (r, gives v (giving.Freed f))
replied rows v r answer row = (r, at_cpu_next row)

-- an act of a thread with a sequence: it leaves, switches in, goes back, or executes one instruction
abbrev pub sequence : List ClassRow → CpuPart → CpuSeat → Regs → CpuStep → Left CpuPart
sequence rows p v r row =
    let x = rseq.instructed p r in
    let n = replied rows v x.regs x.answer row in
    leaves_or (due v.moved r.ran) p v r (at_cpu_next row) (leaving x.cpu v n.0 n.1)

-- an act of a thread with a growth to do
abbrev pub grew_to : CpuSeat → Asking → Grew → Next
grew_to v asking grew.Done = looks_on v asking
grew_to v asking other = at_cpu_next (Grow asking)

-- The acts of a thread that stops the CPU.
abbrev pub stops : CpuPart → ThreadNo → Stopping → Option ThreadNo → CpuPart × Next
stops p t s None = (drains.stopped p t, at_cpu_next (Fence s))
stops p t s (Some owner) = (p, next.Decide (Busy owner) None)

-- a drain takes the next class, or starts the CPU again behind the last one
abbrev pub drains_on : List ClassRow → Class → Draining → Class × CpuStep
drains_on rows k d = if nat_lt (k.0 + 1) (length rows) then (record { 0 = k.0 + 1 }, Take (stopping.Drain d)) else (k, Start (stopping.Drain d))

-- what it does with the objects of a class that it took: a drain goes on where there are none
abbrev pub drained : CpuSeat → Regs → List Addr → Class × CpuStep → Regs × Next
drained v r [] to = (record r { class = to.0 }, at_cpu_next to.1)
drained v r (a ∷ others) to = (r, gives v (giving.Row to.0 to.1))

abbrev pub took : List ClassRow → CpuSeat → Regs → Stopping → Regs × Next
took rows v r (stopping.Drain d) = drained v r r.hand.items (drains_on rows r.class (record d { taken = d.taken + length r.hand.items }))
took rows v r (stopping.Resize x) = (r, at_cpu_next (SetCap x))

-- what a capacity answers
abbrev pub cap_answer : Option CapFault → Answer
cap_answer None = CapSet
cap_answer (Some (fault.OverStatic cap)) = OverStatic cap
cap_answer (Some (fault.OverLimit sum)) = OverLimit sum

-- behind the start a drain is decided, and a resize gives away what it took
abbrev pub started : CpuSeat → List Addr → Stopping → Next
started v hand (stopping.Drain d) = next.Decide (Drained d.taken) None
started v [] (stopping.Resize x) = next.End
started v (a ∷ others) (stopping.Resize x) = gives v giving.End

-- the acts at a CPU
abbrev pub cpu_acts : List ClassRow → CpuPart → CpuSeat → Regs → CpuStep → Left CpuPart
cpu_acts rows p v r (Pop asking) = sequence rows p v r (Pop asking)
cpu_acts rows p v r (Grow asking) = let x = rseq.grew_here p r in leaving x.cpu v x.regs (grew_to v asking x.answer)
cpu_acts rows p v r (Stock s) = sequence rows p v r (Stock s)
cpu_acts rows p v r (Push f) = sequence rows p v r (Push f)
cpu_acts rows p v r (PopBatch f) = sequence rows p v r (PopBatch f)
cpu_acts rows p v r (Stop s) = let n = stops p r.thread s p.stopper in leaving n.0 v r n.1
cpu_acts rows p v r (Fence s) = leaving (drains.fenced p) v r (at_cpu_next (Take s))
cpu_acts rows p v r (Take s) = let n = took rows v (record r { hand = drains.taken_to p r.class.0 r.hand }) s in leaving (drains.taken p r.class.0) v n.0 n.1
cpu_acts rows p v r (SetCap x) = leaving (drains.capped p r.class.0 x.cap) v r (next.Decide (cap_answer (cap_fault p.slab r.class.0 x.cap)) (Some (front.Cpu (Start (stopping.Resize x)))))
cpu_acts rows p v r (Start s) = leaving (drains.started p) v r (started v r.hand.items s)
cpu_acts rows p v r Leave = leaves_or v.moved p v r next.End (leaving p v r next.End)

-- The cache of a domain gives the last of its objects, last first, or none where it holds none.
abbrev pub takes : Regs → Asking → List Addr → Regs × Next
takes r asking [] = (r, next.Fetch asking)
takes r asking (a ∷ others) = (record r { hand = appended r.hand (a ∷ others) }, next.Serve asking)

-- the hand is put there where all of it fits, and else it goes to the shard
abbrev pub puts : Transfer → Regs → Giving CpuStep → Transfer × Regs × Next
puts t r g =
    if nat_le (length t.objects + length r.hand.items) t.room then
    (record t { objects = t.objects ++ r.hand.items }, record r { hand = emptied r.hand }, next.Gave (as_row g))
    else (t, r, next.Give (as_row g))

-- the acts at the cache of a domain
abbrev pub domain_acts : List ClassRow → Transfer → CpuSeat → Regs → DomainStep → Left Transfer
domain_acts rows t v r (domain.Take asking) =
    let batch : ℕ = (row_of rows r.class).batch in
    let n = takes r asking (last_first batch t.objects) in
    leaving (record t { objects = without_last batch t.objects }) v n.0 n.1
domain_acts rows t v r (domain.Put g) = let n = puts t r g in leaving n.0 v n.1 n.2

-- Yielding: a thread isn't polite to switch in where another runs whose sequence is open and hasn't executed 256 instructions yet.
abbrev pub yields_to_enter : CpuPart → ThreadNo → Bool
yields_to_enter p t = rseq.runs p.running t || not (is_some p.running && p.is_open && nat_lt p.ran 256)

abbrev pub yields_row : CpuPart → CpuSeat → Regs → CpuStep → Bool
yields_row p v r (Pop asking) = is_some (due v.moved r.ran) || yields_to_enter p r.thread
yields_row p v r (Grow asking) = yields_to_enter p r.thread
yields_row p v r (Stock s) = is_some (due v.moved r.ran) || yields_to_enter p r.thread
yields_row p v r (Push f) = is_some (due v.moved r.ran) || yields_to_enter p r.thread
yields_row p v r (PopBatch f) = is_some (due v.moved r.ran) || yields_to_enter p r.thread
yields_row p v r other = true
