use Rattle.std.proofs.Common.{sym, subst}
use Rattle.rseq_core.specs.declared.regs.Regs.{Regs}
use Rattle.call_steps.specs.Follows.{next_of, ComesWith, HasObject}
use Rattle.cpu_rows.specs.declared.part.CpuFrontPart.{CpuFrontPart}
use Rattle.cpu_rows.specs.declared.part.CpuFrontPart.TheVariants.{Cpu}
use Rattle.cpu_rows.specs.declared.row.CpuRow.{CpuRow}
use Rattle.cpu_rows.specs.declared.row.CpuRow.TheVariants as front
use Rattle.cpu_rows.specs.PerCpu.{Next}
use Rattle.cpu_rows.specs.CpuActs.{cpu_acts}
use Rattle.cpu_rows.specs.CpuRows.{cpu_refuses}
use Rattle.cpu_rows.specs.CpuHolds.{cpu_fits}
use Rattle.cpu_rows.specs.CpuRows.{about_row}
use Rattle.cpu_rows.proofs.Nexts.{cpu_may}
use Rattle.cpu_front.proofs.caches.CpuCachesFrontEnd.act.Goals as goal

pub returns-in-Cpu-row-clause-may : goal.returns-in-Cpu-row-clause-may
returns-in-Cpu-row-clause-may c =
    let rows = c.args.setting.now.table in
    let v = c.args.seat.now in
    let r = c.args.regs.now in
    let cpu = c.in-Cpu.cpu in
    let row = c.in-Cpu-row.row in
    let x = cpu_acts rows cpu v r row in
    let fits = subst (λ (y : CpuRow). cpu_fits rows (Cpu cpu) v r y) c.in-Cpu-row.is (subst (λ (p : CpuFrontPart). cpu_fits rows p v r c.args.row.now) c.in-Cpu.is c.requires) in
    let came : Next = next_of c.act_cpu.result (front.Cpu c.act_cpu.new.row) c.act_cpu.new.next in
    let may : CpuRow → Regs → Next → Type 0 = λ y g n. ComesWith about_row cpu_refuses (HasObject rows) y g n in
    subst (λ (y : CpuRow). may y c.act_cpu.new.regs came) (sym c.in-Cpu-row.is)
    (subst (λ (g : Regs). may (front.Cpu row) g came) (sym c.act_cpu.ensures.regs) (subst (may (front.Cpu row) x.regs) (sym c.act_cpu.ensures.next) (cpu_may rows v cpu r row fits.0).0))
