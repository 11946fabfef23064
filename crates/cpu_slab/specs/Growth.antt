-- How the capacity of a class grows, out of the budget or at the cost of another class.
use Rattle.std.specs.Prelude.{◌≡◌, ◌≢◌, ℕ, ◌+◌, ◌-◌, ◌*◌, ◌<◌, ◌≤◌, ◌==◌, nat_lt, nat_le, List, [], ◌∷◌, length, map, sum_by, min, Option, Some, None, option_map, option_and_then, unwrap_or, slice_index, slice_set, if◌then◌else◌}
use Rattle.std.specs.List.{slice_index_or}
use Rattle.std.specs.Int.{div_ceil}
use Rattle.cpu_slab.specs.declared.marks.Unused.{Unused}
use Rattle.cpu_slab.specs.Slots.{SlabRow, CpuSlab, no_row, row_at}

-- the bytes of all capacities
abbrev pub used : List SlabRow → ℕ
used rows = sum_by (λ (row : SlabRow). row.cap * row.size) rows

-- by how much a class grows: a batch, or what is left of its slots
abbrev pub rise : SlabRow → ℕ
rise row = min row.batch (length row.slots - row.cap)

-- the bytes of a class's capacity above its top
abbrev pub unused : SlabRow → ℕ
unused row = (row.cap - row.top) * row.size

-- the one with more unused bytes, the first where both have as many
abbrev pub preferred : Option Unused → Option Unused → Option Unused
preferred None later = later
preferred (Some best) None = Some best
preferred (Some best) (Some later) = if nat_lt best.bytes later.bytes then Some later else Some best

-- the class but k with most unused bytes, the least such class, where these are the unused bytes from class i on
abbrev pub victim : ℕ → ℕ → List ℕ → Option Unused
victim k i [] = None
victim k i (bytes ∷ later) = if i == k then victim k (i + 1) later else preferred (Some (record { class = i; bytes = bytes })) (victim k (i + 1) later)

-- another class with most unused bytes, and the least such class
pub record IsVictim (k : ℕ) (ns : List ℕ) (best : Unused) : Type 0 where
  pub there : best.class < length ns
  pub other : best.class ≢ k
  pub is : slice_index ns best.class ≡ best.bytes
  pub most : (j : ℕ) → j < length ns → j ≢ k → slice_index ns j ≤ best.bytes
  pub least : (j : ℕ) → j < best.class → j ≢ k → slice_index ns j < best.bytes

-- each victim is such a class, and there is none only where there is no other class
abbrev pub VictimsAreBest : Type 0
VictimsAreBest = (k : ℕ) (ns : List ℕ) → ((best : Unused) → victim k 0 ns ≡ Some best → IsVictim k ns best) × (victim k 0 ns ≡ None → (j : ℕ) → j < length ns → j ≡ k)

-- the classes after class v gave up so many places, or none where it has fewer unused
abbrev pub given_up : List SlabRow → ℕ → ℕ → Option (List SlabRow)
given_up rows v s =
    let row = slice_index_or rows v no_row in
    if nat_le s (row.cap - row.top) then Some (slice_set rows v (record row { cap = row.cap - s })) else None

-- The classes once there is room for the growth of class k: as they are, or after the victim gave up what is short, in whole
-- places. None where there is no victim, or it has less.
abbrev pub roomy : CpuSlab → ℕ → ℕ → Option (List SlabRow)
roomy slab k need =
    let spare = slab.limit - used slab.rows in
    if nat_le need spare then Some slab.rows
    else option_and_then (λ (best : Unused). given_up slab.rows best.class (div_ceil (need - spare) (row_at slab best.class).size))
    (victim k 0 (map unused slab.rows))

-- the classes after class k has grown
abbrev pub widened : ℕ → List SlabRow → List SlabRow
widened k rows = let row = slice_index_or rows k no_row in slice_set rows k (record row { cap = row.cap + rise row })

-- the classes after a growth of class k, or none where nothing grows
abbrev pub growth : CpuSlab → ℕ → Option (List SlabRow)
growth slab k =
    if rise (row_at slab k) == 0 then None
    else option_map (widened k) (roomy slab k (rise (row_at slab k) * (row_at slab k).size))

-- the slab after a growth of class k
abbrev pub grown : CpuSlab → ℕ → CpuSlab
grown slab k = record slab { rows = unwrap_or (growth slab k) slab.rows }
