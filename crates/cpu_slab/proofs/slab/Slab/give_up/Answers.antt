use Rattle.std.proofs.Common.{◌≡◌, ◌+◌, ◌-◌, ◌*◌, ◌≤◌, sym, ap, ◌∙◌, subst, arith}
use Rattle.std.specs.Int.{div_ceil}
use Rattle.cpu_slab.specs.Slots.{CpuSlab, row_at, with_cap}
use Rattle.cpu_slab.specs.Growth.{used}
use Rattle.cpu_slab.proofs.GrowthFacts.{freed_by, rounded_up}
use Rattle.cpu_slab.proofs.slab.Slab.give_up.Goals as goal

pub returns-clause-freed : goal.returns-clause-freed
returns-clause-freed c =
    let slab = c.args.self.now in
    let v = c.args.v in
    let s = c.div_ceil-places.result in
    let size : c.from.result ≡ (row_at slab v).size = c.from.ensures ∙ c.marks_at-marks.ensures.marks.size in
    let is : s ≡ div_ceil c.args.short (row_at slab v).size = c.div_ceil-places.ensures ∙ ap (λ n. div_ceil c.args.short n) size in
    let enough = subst (λ n. c.args.short ≤ n * (row_at slab v).size) (sym is) (rounded_up c.args.short (row_at slab v).size c.marks_at-marks.ensures.row.size) in
    let cap : c.marks_at-marks.result.cap ≡ (row_at slab v).cap = c.marks_at-marks.ensures.marks.cap in
    let new : c.put_cap.new.self ≡ with_cap slab v ((row_at slab v).cap - s) = c.put_cap.ensures.cap ∙ ap (λ n. with_cap slab v (n - s)) cap in
    subst (λ (p : CpuSlab). used p.rows + c.args.short ≤ used slab.rows) (sym new) (freed_by slab v s c.args.short c.requires.class (omega arith) enough)
