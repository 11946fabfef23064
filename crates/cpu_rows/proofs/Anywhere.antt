-- What each act keeps, wherever it finds its part: a slab is as the table and the heads say, and a row refuses a call as it may.
use Rattle.std.proofs.Common.{◌≡◌, ℕ, zero, suc, eqb, List, [], ◌∷◌, map, Option, refl, ap, ◌∙◌, slice_set, slice_index_or, arith}
use Rattle.cpu_rows.proofs.Common.{cond_both, ClassRow, MoveTo, Config, SlabRow, CpuSlab, no_row, row_at, with_row, with_cap_if, CpuPart, by_arrival}
use Rattle.cpu_rows.proofs.Common.{Regs, CpuSeat, CpuStep, due, at_cpu_next, leaves_or, sequence, cpu_acts, Left, Instructed, looks_on, gives}
use Rattle.cpu_rows.proofs.Common.{replied, IsSlabOf, Asking, Giving, CpuRow, Next, cpu_refuses, as_row}
use Rattle.cpu_rows.proofs.Common.{RefusesAs, CpuFrontPart, front_acts}
use Rattle.cpu_slab.specs.Growth.{grown, growth, rise, roomy, unused, used, victim, widened}
use Rattle.std.{specs.Int.div_ceil}
use Rattle.rseq_core.specs.Acts as rseq
use Rattle.cpu_rows.specs.declared.row.CpuStep.TheVariants as cpu
use Rattle.call_steps.specs.declared.step.Next.TheVariants as next
use Rattle.cpu_rows.specs.declared.row.CpuRow.TheVariants as front
use Rattle.cpu_rows.specs.declared.row.DomainStep.TheVariants as domain

-- Rows refuse as they may. All but two refuse none.
module _ (rows : List ClassRow) (v : CpuSeat) (row : CpuRow) where
  abbrev May : Next → Type 0
  May n = RefusesAs cpu_refuses row n

  looks_may : (a : Asking) → May (looks_on v a)
  looks_may a = cond_both (eqb v.domains 0) (next.Fetch a) (next.Row (front.Domain (domain.Take a))) May (λ e. tt) (λ e. tt)

  gives_may : (w : Giving CpuStep) → May (gives v w)
  gives_may w = cond_both (eqb v.domains 0) (next.Give (as_row w)) (next.Row (front.Domain (domain.Put w))) May (λ e. tt) (λ e. tt)

-- Slabs: a row of the same class takes the place of another
abbrev slab_class : SlabRow → ℕ × ℕ
slab_class row = (row.size, row.batch)

class_set : (rows : List SlabRow) (k : ℕ) (row : SlabRow) → slab_class row ≡ slab_class (slice_index_or rows k no_row)
    → map slab_class (slice_set rows k row) ≡ map slab_class rows
class_set [] k row same = refl
class_set (x ∷ rows) zero row same = ap (λ c. c ∷ map slab_class rows) same
class_set (x ∷ rows) (suc k) row same = ap (λ cs. slab_class x ∷ cs) (class_set rows k row same)

-- the acts at a CPU
module _ (rows : List ClassRow) (c : Config) where
  abbrev Is : CpuSlab → Type 0
  Is slab = IsSlabOf rows c slab

  row_set : (slab : CpuSlab) (k : ℕ) (row : SlabRow) → slab_class row ≡ slab_class (row_at slab k) → Is slab → Is (with_row slab k row)
  row_set slab k row same is = record { most = is.most; limit = is.limit; classes = class_set slab.rows k row same ∙ is.classes }

  grew_is : (p : CpuPart) (r : Regs) → Is p.slab → Is (rseq.grew_here p r).cpu.slab
  grew_is p r is = by_arrival (λ x. Is x.cpu.slab) _ _ _ p r (λ away. is) is
      (λ now. grind (arith, cond_both, grown, class_set, div_ceil, slice_index_or, unused, victim, rise, roomy, used, widened, growth))

  capped_is : (slab : CpuSlab) (k n : ℕ) → Is slab → Is (with_cap_if slab k n)
  capped_is slab k n is = grind (arith, cond_both, row_set)

  pub record Keeps (row : CpuStep) (p new : CpuPart) (n : Next) : Type 0 where
    pub slab : Is p.slab → Is new.slab
    pub may : RefusesAs cpu_refuses (front.Cpu row) n

  leaves_keep : (row : CpuStep) (o : Option MoveTo) (p : CpuPart) (v : CpuSeat) (g : Regs) (n : Next) (act : Left CpuPart) → RefusesAs cpu_refuses (front.Cpu row) n
      → Keeps row p act.part act.next → (let x = leaves_or o p v g n act in Keeps row p x.part x.next)
  leaves_keep row o p v g n act may keeps = grind (arith, cond_both)

  sequence_keeps : (p : CpuPart) (v : CpuSeat) (g : Regs) (row : CpuStep)
      → ((r : Regs) (a : Instructed) → RefusesAs cpu_refuses (front.Cpu row) (replied rows v r a row).1) → (let x = sequence rows p v g row in Keeps row p x.part x.next)
  sequence_keeps p v g row replies =
      let x = rseq.instructed p g in
      leaves_keep row (due v.moved g.ran) p v g (at_cpu_next row) _ tt (record {
        slab = λ is. by_arrival (λ y. Is y.cpu.slab) _ _ _ p g (λ away. is) is (λ now. grind (arith, cond_both, row_set));
        may = replies x.regs x.answer;
      })

  pub cpu_keeps : (p : CpuPart) (v : CpuSeat) (g : Regs) (row : CpuStep) → (let x = cpu_acts rows p v g row in Keeps row p x.part x.next)
  cpu_keeps p v g (cpu.Pop a) = sequence_keeps p v g (cpu.Pop a) (λ r x. grind (arith, looks_may))
  cpu_keeps p v g (cpu.Grow a) = grind (arith, grew_is, looks_may)
  cpu_keeps p v g (cpu.Stock s) = sequence_keeps p v g (cpu.Stock s) (λ r x. grind (arith, gives_may))
  cpu_keeps p v g (cpu.Push f) = sequence_keeps p v g (cpu.Push f) (λ r x. grind (arith, gives_may))
  cpu_keeps p v g (cpu.PopBatch f) = sequence_keeps p v g (cpu.PopBatch f) (λ r x. grind (arith, gives_may))
  cpu_keeps p v g (cpu.Stop s) = grind arith
  cpu_keeps p v g (cpu.Fence s) = record { slab = λ is. is; may = tt }
  cpu_keeps p v g (cpu.Take s) = grind (arith, row_set, gives_may)
  cpu_keeps p v g (cpu.SetCap x) = grind (arith, capped_is)
  cpu_keeps p v g (cpu.Start s) = grind (arith, gives_may)
  cpu_keeps p v g cpu.Leave = leaves_keep cpu.Leave v.moved p v g next.End _ tt (record { slab = λ is. is; may = tt })

  pub refuses : (p : CpuFrontPart) (v : CpuSeat) (g : Regs) (row : CpuRow) → RefusesAs cpu_refuses row (front_acts rows p v g row).next
  refuses p v g row = grind (arith, cpu_keeps, cond_both)
