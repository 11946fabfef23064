-- A growth raises a capacity exactly where the rule lets it, in the act of a current thread.
use Rattle.std.proofs.Common.{◌≡◌, ◌<◌, length, None, refl, sym, subst, arith}
use Rattle.cpu_rows.proofs.Common.{CpuPart, CpuOk, Regs, Input, Local, Step, Asking, grew_here, front_after, front_of, about_row, IsCurrent, eq-eqb}
use Rattle.cpu_slab.proofs.GrownExactly.{grown_exactly}
use Rattle.cpu_slab.specs.Growth.{grown}
use Rattle.cpu_slab.specs.Grows.{GrowsExactly}
use Rattle.rseq_core.specs.Acts.{arrival_at}
use Rattle.rseq_core.specs.declared.answers.Arrival.TheVariants as arrive
use Rattle.call_steps.specs.declared.step.Step.TheVariants as does
use Rattle.alloc_rules.specs.declared.part.Part.TheVariants as part
use Rattle.cpu_rows.specs.declared.row.CpuRow.TheVariants as front
use Rattle.cpu_rows.specs.declared.row.CpuStep.TheVariants as cpu
use Rattle.cpu_rows.specs.CpuFront as caches
use Rattle.cpu_rows.specs.Effects.{GrowsBy, GrowsThere}

current_at : (p : CpuPart) (g : Regs) → IsCurrent g.thread p g → arrival_at p g ≡ arrive.Current
current_at p g is = grind (arith, eq-eqb)

grown_here : (p : CpuPart) (g : Regs) → IsCurrent g.thread p g → p.stopper ≡ None → (grew_here p g).cpu.slab ≡ grown p.slab g.class.0
grown_here p g is none = rw (current_at p g is, none) refl

pub grows_there : (input : Input) (p : CpuPart) (l : Local) → CpuOk (length input.rows) p → ((a : Asking) → l.step ≡ does.Front (front.Cpu (cpu.Grow a)) → l.regs.class.0 < length input.rows)
    → GrowsThere input p l
grows_there input p l ok low a step is none =
    subst (λ (s : Step). GrowsBy p l.regs.class.0 (part.Front (front_after (front_of input) about_row (caches.Cpu p) l s).0)) (sym step) (record {
      cpu = (grew_here p l.regs).cpu;
      is = refl;
      exact = subst (GrowsExactly p.slab l.regs.class.0) (sym (grown_here p l.regs is none)) (grown_exactly p.slab l.regs.class.0 (omega (arith, low a step, ok.classes)) ok.sound);
    })
