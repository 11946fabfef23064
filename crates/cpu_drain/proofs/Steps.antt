-- Small facts that the acts share.
use Rattle.std.proofs.Common.{◌≡◌, ℕ, Bool, true, false, [], Option, Some, None, refl, ap, arith}
use Rattle.std.specs.Prelude.{IsSome, IfSome, IsSomeAnd}
use Rattle.std.proofs.lemmas.Bool.{eqb-true}
use Rattle.tc_units.specs.declared.units.ThreadNo.{ThreadNo}
use Rattle.cpu_slab.specs.Slots.{SlabRow, row_at}
use Rattle.rseq_core.specs.declared.sequence.Pc.{Pc}
use Rattle.rseq_core.specs.declared.sequence.Pc.TheVariants.{Begin}
use Rattle.rseq_core.specs.declared.regs.Regs.{Regs}
use Rattle.rseq_core.specs.declared.cpu_part.CpuPart.{CpuPart}
use Rattle.rseq_core.specs.Agrees.{Agrees, IsAtRest}
use Rattle.rseq_core.specs.declared.answers.Arrival.{Arrival}
use Rattle.rseq_core.specs.declared.answers.Arrival.TheVariants as arrive
use Rattle.rseq_core.specs.Acts.{Acted, IsCurrent, runs, arrival_at, acted_by}
use Rattle.cpu_drain.specs.Seats.{Standing, IsHeld}

pub runs_is : (o : Option ThreadNo) (t : ThreadNo) → runs o t ≡ true → o ≡ Some t
runs_is None t is = absurd (cc)
runs_is (Some u) t is = let same : u.0 ≡ t.0 = eqb-true u.0 t.0 is in ap (λ (k : ℕ). let v : ThreadNo = record { 0 = k } in Some v) same

-- what holds of In, of Back and of the act of a current thread holds of the act of a thread
pub by_arrival : {A : Type 0} (P : Acted A → Type 0) (came back : A) (act : Acted A) (p : CpuPart) (r : Regs)
    → (runs p.running r.thread ≡ false → P (acted_by came back act arrive.In p r)) → P (acted_by came back act arrive.Back p r)
    → (IsCurrent r.thread p r → P act) → P (acted_by came back act (arrival_at p r) p r)
by_arrival P came back act p r enters returns goes = by_this (arrival_at p r) refl
  where
    by_this : (a : Arrival) → arrival_at p r ≡ a → P (acted_by came back act a p r)
    by_this arrive.In is = enters (grind arith)
    by_this arrive.Back is = returns
    by_this arrive.Current is = goes (grind (arith, runs_is, eqb-true))

pub some_is : (o : Option ThreadNo) (t : ThreadNo) → o ≡ Some t → IsSome o
some_is o t is = rw is refl

-- at its begin nothing is said of the row
pub agrees_begin : (pops : Bool) (row : SlabRow) (r : Regs) → r.pc ≡ Begin → r.loaded.items ≡ [] → Agrees pops row r r.pc
agrees_begin pops row r begin nothing = rw begin nothing

pub begin_nothing : (pops : Bool) (row : SlabRow) (r : Regs) → r.pc ≡ Begin → Agrees pops row r r.pc → r.loaded.items ≡ []
begin_nothing pops row r begin has = rw begin at has

pub begin_rests : (pc : Pc) → pc ≡ Begin → IsAtRest pc
begin_rests pc begin = rw begin tt

-- at rest nothing is said of the row
pub agrees_at_rest : (pops : Bool) (row row' : SlabRow) (r : Regs) (pc : Pc) → IsAtRest pc → Agrees pops row r pc → Agrees pops row' r pc
agrees_at_rest pops row row' r x4 rests has = grind (arith)

-- a thread has stopped CPU i, and what it has done to the CPU that it has stopped still stands
abbrev pub IsStopping : ℕ → Option Standing → Type 0
IsStopping i o = IsSomeAnd o (λ s. s.cpu ≡ i)

abbrev pub Holds : ℕ → ThreadNo → CpuPart → Option Standing → Type 0
Holds i t p o = IfSome o (λ s. s.cpu ≡ i → IsHeld t p s)

-- what a stopper holds stays, where it stays the stopper, and after its fence the mark and empty classes stay
pub stage_kept : (i : ℕ) (t : ThreadNo) (p p' : CpuPart) (o : Option Standing)
    → (p.stopper ≡ Some t → p'.stopper ≡ Some t) → (p.stopper ≡ Some t → p.fenced ≡ true → p'.fenced ≡ true)
    → (p.fenced ≡ true → (k : ℕ) → (row_at p.slab k).top ≡ 0 → (row_at p'.slab k).top ≡ 0) → Holds i t p o → Holds i t p' o
stage_kept i t p p' o stopper fenced empty has = grind (arith)
