-- The laws: each act of a thread keeps what holds of its CPU and of all threads.
use Rattle.std.proofs.Common.{◌≡◌, ℕ, ◌+◌, ◌<◌, true, false, is_some, cond, ltb, length, Option, Some, sym, ap, ◌∙◌, subst, arith, inl, inr}
use Rattle.std.proofs.Common.{◌⊎◌}
use Rattle.std.specs.Option.{option_or}
use Rattle.std.proofs.lemmas.Bool.{cond_both}
use Rattle.std.proofs.lemmas.List.{length-set}
use Rattle.std.proofs.lemmas.Bool.Decides.{nat_tests}
use Rattle.tc_units.specs.declared.units.ThreadNo.{ThreadNo}
use Rattle.cpu_slab.specs.declared.slab.CapFault.TheVariants.{OverStatic}
use Rattle.cpu_slab.specs.Slots.{SlabRow, CpuSlab, row_at, with_top}
use Rattle.cpu_slab.specs.Growth.{grown}
use Rattle.cpu_slab.specs.Sound.{IsSoundSlab}
use Rattle.cpu_slab.specs.Caps.{with_cap_if}
use Rattle.cpu_slab.proofs.SlabFacts.{row_same, row_other, sound_top}
use Rattle.cpu_slab.proofs.GrowthFacts.{KeepsObjects, keeps_same, keeps_cap, grown_keeps}
use Rattle.rseq_core.specs.declared.answers.Arrival.TheVariants as arrive
use Rattle.rseq_core.specs.declared.cpu_part.CpuPart.{CpuPart}
use Rattle.rseq_core.specs.Acts.{Acted, IsCurrent, arrival_at, regs_after, acted_by}
use Rattle.cpu_drain.specs.Seats.{Seat, SeatKeeps, with_regs, standing_at}
use Rattle.cpu_drain.specs.Laws.{IsHome, LeaveKeeps, InstructKeeps, GrowKeeps, StopKeeps, FenceKeeps, TakeKeeps, SetCapKeeps, StartKeeps, SetKeeps}
use Rattle.cpu_drain.proofs.Steps.{by_arrival}
use Rattle.cpu_drain.proofs.Seated.{leave_keeps, enter_keeps, back_keeps, go_keeps, grow_keeps, stop_keeps, fence_keeps, slab_keeps, start_keeps, then_set}

pub leaves : LeaveKeeps
leaves m i to t p s home = leave_keeps home.part home.pair home.cpu to

-- the thread of the registers comes, or does this act as a current one
acts_by : {A : Type 0} (m i : ℕ) (t : ThreadNo) (p : CpuPart) (s : Seat) (came back : A) (act : Acted A) → IsHome m i t p s
    → (IsCurrent t p s.regs → SeatKeeps m i t p s act.cpu (with_regs s act.regs))
    → let x = acted_by came back act (arrival_at p s.regs) p s.regs in SeatKeeps m i t p s x.cpu (with_regs s x.regs)
acts_by m i t p s came back act home goes =
    by_arrival (λ x. SeatKeeps m i t p s x.cpu (with_regs s x.regs)) came back act p s.regs
    (λ away. subst (λ (u : ThreadNo). SeatKeeps m i t p s (record p { running = Some u; epoch = p.epoch + 1; is_open = true; ran = 0 }) (with_regs s (regs_after arrive.In p s.regs)))
    (sym home.thread) (enter_keeps home.part home.pair home.cpu)) (back_keeps home.part home.pair home.cpu)
    (λ now. goes (subst (λ (u : ThreadNo). IsCurrent u p s.regs) home.thread now))

pub instructs : InstructKeeps
instructs m i t p s home = acts_by m i t p s _ _ _ home (λ now. go_keeps home.part home.pair home.cpu now home.class)

-- a growth, unless a stopper stands there
pub growth_keeps : (p : CpuPart) (k : ℕ) → IsSoundSlab p.slab → k < length p.slab.rows → KeepsObjects p.slab (cond (is_some p.stopper) p.slab (grown p.slab k))
growth_keeps p k sound low = cond_both (is_some p.stopper) p.slab (grown p.slab k) (KeepsObjects p.slab) (λ e. keeps_same p.slab sound) (λ e. grown_keeps p.slab k low sound)

pub grows : GrowKeeps
grows m i t p s home begin =
    let low : s.regs.class.0 < length p.slab.rows = omega (arith, home.class, home.part.classes) in
    acts_by m i t p s _ _ _ home (λ now. grow_keeps home.part home.pair _ (growth_keeps p s.regs.class.0 home.part.sound low) now begin)

pub stops : StopKeeps
stops m i t p s cpu pair begin nowhere none =
    subst (λ (o : Option ThreadNo). SeatKeeps m i t p s (record p { stopper = option_or o (Some t) }) (standing_at s i false (λ j. false))) (sym none) (stop_keeps cpu pair begin nowhere none)

pub fences : FenceKeeps
fences m i t p s old cpu pair begin is here = fence_keeps cpu pair begin old is here

top_stays : (slab : CpuSlab) (k j : ℕ) → k < length slab.rows → (row_at slab j).top ≡ 0 → (j ≡ k) ⊎ (j ≡ k → ⊥) → (row_at (with_top slab k 0) j).top ≡ 0
top_stays slab k j low zero (inl here) = rw here (ap (λ (r : SlabRow). r.top) (row_same slab.rows k (record (row_at slab k) { top = 0 }) low))
top_stays slab k j low zero (inr there) = ap (λ (r : SlabRow). r.top) (row_other slab.rows k j (record (row_at slab k) { top = 0 }) there) ∙ zero

pub takes : TakeKeeps
takes m i k t p s hand empty cpu pair fencing low is_empty = grind (arith, nat_tests, length-set, slab_keeps, sound_top, top_stays)

-- a capacity that is set or refused changes no object
pub set_cap_keeps : (slab : CpuSlab) (k n : ℕ) → k < length slab.rows → (row_at slab k).top ≡ 0 → IsSoundSlab slab → KeepsObjects slab (with_cap_if slab k n)
set_cap_keeps slab k n low x4 sound =
    grind (arith, nat_tests, cond_both (ltb slab.most n) (Some (OverStatic slab.most)), keeps_same slab sound, keeps_cap slab k n low)

pub sets_cap : SetCapKeeps
sets_cap m i k n t p s empty cpu pair fencing low zero is_empty =
    let within : k < length p.slab.rows = omega (arith, cpu.classes) in
    let keeps : KeepsObjects p.slab (with_cap_if p.slab k n) = set_cap_keeps p.slab k n within zero cpu.sound in
    slab_keeps cpu pair fencing.pc fencing.old fencing.is fencing.here s.regs.hand (with_cap_if p.slab k n) empty fencing.fenced (keeps.classes ∙ cpu.classes) keeps.sound
    (λ j is. keeps.tops j ∙ is) (λ j is. keeps.tops j ∙ is_empty j is)

pub starts : StartKeeps
starts m i t p s old cpu pair begin is here = start_keeps cpu pair begin old is here

pub sets : SetKeeps
sets m i t p new s after r are keeps = then_set keeps r are
