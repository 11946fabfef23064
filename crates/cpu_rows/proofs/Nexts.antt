-- What an act of the per-CPU caches hands on may come next in its call.
use Rattle.std.proofs.Common.{◌≡◌, true, eqb, List, Option, Some, refl, sym, ◌∙◌, arith}
use Rattle.cpu_rows.proofs.Common.{cond_both, Class, ThreadNo, ClassRow, Drain, MoveTo, Busy, CapFault, CpuPart, Regs, Reply, Instructed, IsOther, cpu_refuses}
use Rattle.cpu_rows.proofs.Common.{CpuSeat, Asking, Draining, Resizing, Stopping, Giving, Next, CpuRow, CpuStep, Asks, Other, about_giving, Left, looks_on}
use Rattle.cpu_rows.proofs.Common.{gives, after_pop, replied, leaves_or, sequence, due, at_cpu_next, drains_on, cap_answer, cpu_acts, is_refusal}
use Rattle.cpu_rows.proofs.Common.{HasObject, ComesWith, FitsCpu, about_cpu, about_row, call_of, as_row}
use Rattle.rseq_core.specs.declared.sequence.Reply.TheVariants as reply
use Rattle.rseq_core.specs.declared.answers.Instructed.TheVariants as instructed
use Rattle.rseq_core.specs.Acts as rseq
use Rattle.call_steps.specs.declared.step.Next.TheVariants as next
use Rattle.cpu_rows.specs.declared.row.CpuRow.TheVariants as front
use Rattle.cpu_rows.specs.declared.row.CpuStep.TheVariants as cpu
use Rattle.cpu_rows.specs.declared.row.DomainStep.TheVariants as domain

-- the row with which a drain goes on is about it
drains_about : (rows : List ClassRow) (k : Class) (d : Draining) → about_cpu (drains_on rows k d).1 ≡ Other (Some (Drain d.cpu))
drains_about rows k d = grind (arith, cond_both)

-- what is given away is about the same as the calls have it
pub row_about : (g : Giving CpuStep) → about_giving about_row (as_row g) ≡ about_giving about_cpu g
row_about g = grind arith

-- refusals of a call that stops a CPU, and of a capacity
pub busy_other : (s : Stopping) (owner : ThreadNo) → IsOther (call_of s) (Busy owner)
busy_other s owner = grind arith

module _ (Serves : Regs → Type 0) (rows : List ClassRow) (v : CpuSeat) where
  abbrev May : CpuRow → Regs × Next → Type 0
  May row n = ComesWith about_row cpu_refuses Serves row n.0 n.1

  looks_may : (row : CpuRow) (r : Regs) (a : Asking) → about_row row ≡ Asks a → May row (r, looks_on v a)
  looks_may row r a is = cond_both (eqb v.domains 0) (next.Fetch a) (next.Row (front.Domain (domain.Take a))) (λ (n : Next). May row (r, n)) (λ e. is) (λ e. sym is)

  gives_may : (row : CpuRow) (r : Regs) (g : Giving CpuStep) → about_row row ≡ about_giving about_cpu g → May row (r, gives v g)
  gives_may row r g is = cond_both (eqb v.domains 0) (next.Give (as_row g)) (next.Row (front.Domain (domain.Put g))) (λ (n : Next). May row (r, n)) (λ e. is ∙ sym (row_about g)) (λ e. sym is)

  -- a sequence, where a pop that commits serves its allocation
  pop_may : (r : Regs) (a : Asking) (o : Reply) → (o ≡ reply.Popped → Serves r) → May (front.Cpu (cpu.Pop a)) (r, after_pop v a o)
  pop_may r a o some = grind (arith, looks_may)

  instructed_may : (r : Regs) (row : CpuStep) (x : Instructed) → ((a : Asking) → row ≡ cpu.Pop a → x ≡ instructed.Done reply.Popped → Serves r)
      → May (front.Cpu row) (replied rows v r x row)
  instructed_may r row x some = grind (arith, gives_may, pop_may)

  cap_may : (x : Resizing) (o : Option CapFault) → is_refusal (cap_answer o) ≡ true → cpu_refuses (front.Cpu (cpu.SetCap x)) (cap_answer o) ≡ true
  cap_may x o refusal = grind arith

  -- by the move, with which the number of domains stays
  abbrev pub MayCome : {P : Type 0} → CpuRow → Left P → Type 0
  MayCome row x = ComesWith about_row cpu_refuses Serves row x.regs x.next × (x.seat.domains ≡ v.domains)

  -- what a pop brings serves its allocation
  abbrev PopServes : CpuPart → Regs → CpuStep → Type 0
  PopServes p r row = (a : Asking) → row ≡ cpu.Pop a → (rseq.instructed p r).answer ≡ instructed.Done reply.Popped → Serves (rseq.instructed p r).regs

  leaves_come : (row : CpuRow) (o : Option MoveTo) (p : CpuPart) (r : Regs) (n : Next) (act : Left CpuPart) → May row (rseq.dropped r, n) → MayCome row act
      → MayCome row (leaves_or o p v r n act)
  leaves_come row o p r n act leaves stays = grind arith

  sequence_comes : (p : CpuPart) (r : Regs) (row : CpuStep) → PopServes p r row → MayCome (front.Cpu row) (sequence rows p v r row)
  sequence_comes p r row some =
      let x = rseq.instructed p r in
      leaves_come (front.Cpu row) (due v.moved r.ran) p r (at_cpu_next row) _ refl (instructed_may x.regs row x.answer some, refl)

  pub cpu_comes : (p : CpuPart) (r : Regs) (row : CpuStep) → PopServes p r row → MayCome (front.Cpu row) (cpu_acts rows p v r row)
  cpu_comes p r (cpu.Grow a) some = grind (arith, looks_may)
  cpu_comes p r (cpu.Stop s) some = grind (arith, busy_other)
  cpu_comes p r (cpu.Fence s) some = grind arith
  cpu_comes p r (cpu.Take s) some = grind (arith, gives_may, drains_about)
  cpu_comes p r (cpu.SetCap x) some = grind (arith, cap_may)
  cpu_comes p r (cpu.Start s) some = grind (arith, gives_may)
  cpu_comes p r cpu.Leave some = leaves_come (front.Cpu cpu.Leave) v.moved p r next.End _ refl (refl, refl)
  cpu_comes p r row some = grind (arith, sequence_comes)

-- Where the act fits, an allocation is served with an object in hand.
module _ (rows : List ClassRow) (v : CpuSeat) where
  pub cpu_may : (p : CpuPart) (r : Regs) (row : CpuStep) → FitsCpu rows p v r row → MayCome (HasObject rows) rows v (front.Cpu row) (cpu_acts rows p v r row)
  cpu_may p r row fits = grind (arith, cpu_comes (HasObject rows) rows v p r row)
