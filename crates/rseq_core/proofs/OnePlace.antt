-- An instruction stores at most one place.
use Rattle.std.proofs.Common.{◌≡◌, ℕ, ◌+◌, ◌<◌, Bool, true, false, is_some, length, get_or, refl, sym, ap, ◌∙◌, subst, ◌⊎◌}
use Rattle.std.proofs.lemmas.Bool.{cases_eq}
use Rattle.std.proofs.lemmas.List.{get_or-set_other}
use Rattle.std.proofs.Common.{arith}
use Rattle.cpu_slab.specs.Slots.{SlabRow, CpuSlab, null, row_at, slot_of, with_row}
use Rattle.cpu_slab.proofs.SlabFacts.{row_same, row_other}
use Rattle.rseq_core.specs.declared.sequence.Pc.{Pc}
use Rattle.rseq_core.specs.declared.sequence.Pc.TheVariants.{Begin, Header, Test, Copy, Commit}
use Rattle.rseq_core.specs.declared.regs.Regs.{Regs}
use Rattle.rseq_core.specs.declared.cpu_part.CpuPart.{CpuPart}
use Rattle.rseq_core.specs.Tables.{is_pop, cell}
use Rattle.rseq_core.proofs.CellKept.{test_cell}
use Rattle.rseq_core.specs.Acts.{DiffersAtMostOnce, instruction, with_cell}

-- all slots of a row but one hold what they held
abbrev pub StoresOnce : SlabRow → SlabRow → Type 0
StoresOnce row new = (i : ℕ) × ((m : ℕ) → (m ≡ i → ⊥) → slot_of new m ≡ slot_of row m)

same_row : (row : SlabRow) → StoresOnce row row
same_row row = (0, λ m apart. refl)

pub cell_stores : (stopped pops : Bool) (row : SlabRow) (r : Regs) (pc : Pc) → StoresOnce row (cell stopped pops row r pc).row
cell_stores stopped pops row r Begin = same_row row
cell_stores true pops row r Header = same_row row
cell_stores false pops row r Header = same_row row
cell_stores stopped pops row r Test = test_cell (λ c. StoresOnce row c.row) stopped pops row r (same_row row) (same_row row) (λ n. same_row row)
cell_stores stopped true row r (Copy done) = same_row row
cell_stores stopped false row r (Copy done) = (r.top + done, λ m apart. get_or-set_other row.slots (r.top + done) m (get_or r.hand.items done null) null apart)
cell_stores stopped true row r Commit = same_row row
cell_stores stopped false row r Commit = same_row row

other_place : (slab : CpuSlab) (k : ℕ) (row : SlabRow) (i j m : ℕ) → k < length slab.rows
    → ((n : ℕ) → (n ≡ i → ⊥) → slot_of row n ≡ slot_of (row_at slab k) n) → (j ≡ k → m ≡ i → ⊥)
    → (j ≡ k) ⊎ (j ≡ k → ⊥) → slot_of (row_at (with_row slab k row) j) m ≡ slot_of (row_at slab j) m
other_place slab k row i j m low stores apart x9 = grind (arith, row_same, row_other)

pub one_place : (slab : CpuSlab) (k : ℕ) (row : SlabRow) → k < length slab.rows → StoresOnce (row_at slab k) row → DiffersAtMostOnce slab (with_row slab k row)
one_place slab k row low stores = (k, (stores.0, λ j m apart. other_place slab k row stores.0 j m low stores.1 apart (cases_eq j k)))

-- after an instruction at a CPU
instruction_place : (p new : CpuPart) (r : Regs) → r.class.0 < length p.slab.rows → new ≡ with_cell p r (instruction p r) → DiffersAtMostOnce p.slab new.slab
instruction_place p new r low is =
    let at : DiffersAtMostOnce p.slab (with_row p.slab r.class.0 (instruction p r).row) =
    one_place p.slab r.class.0 (instruction p r).row low (cell_stores (is_some p.stopper) (is_pop r.seq) (row_at p.slab r.class.0) r r.pc) in
    subst (λ (q : CpuPart). DiffersAtMostOnce p.slab q.slab) (sym is) at

-- where nothing was done before it
pub place_then : (p q new : CpuPart) (r s : Regs) → r.class.0 < length p.slab.rows → q ≡ p → s ≡ r → new ≡ with_cell q s (instruction q s) → DiffersAtMostOnce p.slab new.slab
place_then p q new r s low cpu regs is =
    instruction_place p new r low (is ∙ (ap (λ (o : CpuPart). with_cell o s (instruction o s)) cpu ∙ ap (λ (o : Regs). with_cell p o (instruction p o)) regs))
