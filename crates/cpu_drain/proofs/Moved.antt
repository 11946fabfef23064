-- The laws: acts only move objects.
use Rattle.std.proofs.Common.{◌≡◌, ℕ, ◌+◌, ◌<◌, List, [], ◌∷◌, length, get_or, sum_by, refl}
use Rattle.std.proofs.Common.{sym, ap, ◌∙◌, arith}
use Rattle.std.specs.List.{slice_set, flat_map}
use Rattle.std.proofs.lemmas.Bool.{cond_both}
use Rattle.std.proofs.lemmas.List.Sums.{sum_by-set, sum_by-append, sum_by-cons}
use Rattle.tc_units.specs.declared.units.Addr.{Addr}
use Rattle.cpu_slab.specs.Slots.{SlabRow, no_row, row_at, held}
use Rattle.cpu_slab.proofs.SlabFacts.{row_sound}
use Rattle.rseq_core.specs.declared.regs.Regs.{Regs}
use Rattle.rseq_core.specs.declared.cpu_part.CpuPart.{CpuPart}
use Rattle.rseq_core.specs.Tables.{is_pop}
use Rattle.rseq_core.specs.Agrees.{Agrees}
use Rattle.rseq_core.specs.Acts.{instruction, with_cell}
use Rattle.rseq_core.proofs.CellKept.{cell_ok, does_moves, sum_by-reverse}
use Rattle.cpu_drain.specs.Seats.{objects_of, CpuOk}
use Rattle.cpu_drain.specs.Laws.{InstructMoves, GrowMoves, AbortMoves, TakeMoves, RemoteMoves}
use Rattle.cpu_drain.proofs.Steps.{by_arrival}
use Rattle.cpu_drain.proofs.Lawful.{growth_keeps, set_cap_keeps}

-- a sum over joined lists is the sum of the sums
sum_by-flat_map : (f : Addr → ℕ) (rows : List SlabRow) → sum_by f (flat_map held rows) ≡ sum_by (λ row. sum_by f (held row)) rows
sum_by-flat_map f [] = refl
sum_by-flat_map f (r ∷ rs) =
    let g : SlabRow → ℕ = λ row. sum_by f (held row) in
    sum_by-append f (held r) (flat_map held rs) ∙ (ap (λ n. sum_by f (held r) + n) (sum_by-flat_map f rs) ∙ sym (sum_by-cons g r rs))

-- one row is written
row_moves : (f : Addr → ℕ) (rows : List SlabRow) (k : ℕ) (row : SlabRow) → k < length rows
    → sum_by f (flat_map held (slice_set rows k row)) + sum_by f (held (get_or rows k no_row)) ≡ sum_by f (flat_map held rows) + sum_by f (held row)
row_moves f rows k row low = grind (arith, sum_by-set, sum_by-flat_map)

-- what is summed after an act, and before
abbrev Stays : (Addr → ℕ) → CpuPart → Regs → CpuPart → Regs → Type 0
Stays f p r new after = sum_by f (objects_of new.slab) + sum_by f after.hand.items ≡ sum_by f (objects_of p.slab) + sum_by f r.hand.items

goes_moves : (f : Addr → ℕ) (m : ℕ) (p : CpuPart) (r : Regs) → CpuOk m p → r.class.0 < m → Agrees (is_pop r.seq) (row_at p.slab r.class.0) r r.pc
    → Stays f p r (with_cell p r (instruction p r)) (instruction p r).regs
goes_moves f m p r cpu low agrees = grind (arith, cell_ok, row_sound, row_moves, does_moves)

pub instruct_moves : InstructMoves
instruct_moves f m p r cpu low agrees = by_arrival (λ x. Stays f p r x.cpu x.regs) _ _ _ p r (λ away. refl) refl (λ now. goes_moves f m p r cpu low (agrees now))

pub grow_moves : GrowMoves
grow_moves m p r cpu low =
    by_arrival (λ x. (objects_of x.cpu.slab ≡ objects_of p.slab) × (x.regs.hand ≡ r.hand)) _ _ _ p r (λ away. (refl, refl)) (refl, refl)
    (λ now. ((growth_keeps p r.class.0 cpu.sound (omega (arith, cpu.classes, low))).objects, refl))

pub abort_moves : AbortMoves
abort_moves p r = grind (arith, cond_both)

pub take_moves : TakeMoves
take_moves f m k p out cpu low = grind (arith, row_moves, sum_by-append, sum_by-reverse)

pub remote_moves : RemoteMoves
remote_moves m k n t p cpu low x7 = grind (arith, set_cap_keeps p.slab k n)
