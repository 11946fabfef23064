-- How often threads switch in at a CPU in an order, and how many acts there are by which what is open there may end.
use Rattle.std.specs.Prelude.{ℕ, ◌+◌, ◌≤◌, ◌==◌, List, [], ◌∷◌, Option, Some, is_some, slice_get, if◌then◌else◌}
use Rattle.std.specs.Option.{option_map_or}
use Rattle.tc_model.specs.declared.machine.PartNo.{PartNo}
use Rattle.tc_model.specs.Run.{Rules, World, start, pick}
use Rattle.rseq_core.specs.declared.cpu_part.CpuPart.{CpuPart}
use Rattle.rseq_core.specs.declared.answers.Instructed.{Instructed}
use Rattle.rseq_core.specs.declared.answers.Instructed.TheVariants.{In, Ran}
use Rattle.rseq_core.specs.declared.answers.Grew.{Grew}
use Rattle.rseq_core.specs.declared.answers.Grew.TheVariants as grew
use Rattle.rseq_core.specs.Acts.{instructed, grew_here}
use Rattle.cpu_rows.specs.declared.row.CpuStep.TheVariants.{Pop, Grow, Stock, Push, PopBatch, Leave}
use Rattle.cpu_rows.specs.PerCpu.{CpuLocal as Local, Step}
use Rattle.call_steps.specs.declared.step.Step.TheVariants as step
use Rattle.cpu_rows.specs.declared.row.CpuRow.TheVariants as front
use Rattle.cpu_rows.specs.CpuActs.{due}
use Rattle.cpu_rows.specs.Machine.{Part}
use Rattle.alloc_rules.specs.declared.part.Part.TheVariants.{Front}
use Rattle.cpu_rows.specs.CpuFront as at

-- what an act is at a CPU: In; an exit, a commit, Grow, Leave or Back, by which what is open there may end; or neither
pub data Kind : Type 0 where
  enters : Kind
  closes : Kind
  neither : Kind

-- an act of a thread with a sequence, which leaves where its move is due
abbrev pub instructed_kind : Instructed → Kind
instructed_kind In = enters
instructed_kind Ran = neither
instructed_kind other = closes

abbrev pub sequence_kind : CpuPart → Local → Kind
sequence_kind p l = if is_some (due l.seat.moved l.regs.ran) then closes else instructed_kind (instructed p l.regs).answer

-- an act of a thread with a growth to do
abbrev pub growth_kind : Grew → Kind
growth_kind grew.In = enters
growth_kind other = closes

-- by the step
abbrev pub step_kind : CpuPart → Local → Step → Kind
step_kind p l (step.Front (front.Cpu (Pop a))) = sequence_kind p l
step_kind p l (step.Front (front.Cpu (Grow a))) = growth_kind (grew_here p l.regs).answer
step_kind p l (step.Front (front.Cpu (Stock s))) = sequence_kind p l
step_kind p l (step.Front (front.Cpu (Push f))) = sequence_kind p l
step_kind p l (step.Front (front.Cpu (PopBatch f))) = sequence_kind p l
step_kind p l (step.Front (front.Cpu Leave)) = closes
step_kind p l other = neither

-- the act of a local at CPU c, by the part that it wants, if any, and by what part c is
abbrev pub kind_at : ℕ → Local → Option PartNo → Option Part → Kind
kind_at c l (Some place) (Some (Front (at.Cpu p))) = if place.0 == c then step_kind p l l.step else neither
kind_at c l place part = neither

-- what a pick of a thread is at CPU c
abbrev pub kind_of : Rules Part Local → World Part Local → ℕ → ℕ → Kind
kind_of r w c t = option_map_or (λ (l : Local). kind_at c l (r.want l) (slice_get w.parts c)) (slice_get w.locals t) neither

-- how many picks of an order are acts of a kind at CPU c: one where a pick is
abbrev pub counts : Kind → Kind → ℕ
counts enters enters = 1
counts closes closes = 1
counts neither neither = 1
counts kind other = 0

abbrev pub count_at : Kind → Rules Part Local → World Part Local → ℕ → List ℕ → ℕ
count_at kind r w c [] = 0
count_at kind r w c (t ∷ ts) = counts kind (kind_of r w c t) + count_at kind r (pick r w t) c ts

-- at each CPU the acts In are at most one more than the exits, commits and acts Grow, Leave and Back
abbrev pub SwitchesAreFew : Rules Part Local → List ℕ → Type 0
SwitchesAreFew r order = (c : ℕ) → count_at enters r (start r) c order ≤ count_at closes r (start r) c order + 1
