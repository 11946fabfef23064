-- The slab of one CPU: for each size class its slots, of which those below the top hold objects.
use Rattle.std.specs.Prelude.{ℕ, List, [], take, map, replicate, slice_set}
use Rattle.std.specs.List.{slice_index_or}
use Rattle.tc_units.specs.declared.units.Addr.{Addr}
use Rattle.tc_units.specs.declared.spans.ClassRow.{ClassRow}

-- One class: the bytes of an object, how many move at a time, how many slots may be used, how many hold objects, and all slots. Those from the top on are scratch.
pub record SlabRow : Type 0 where
  pub size : ℕ
  pub batch : ℕ
  pub cap : ℕ
  pub top : ℕ
  pub slots : List Addr

-- a slab as contracts see it: the slots of each class, the greatest sum of capacities in bytes, and the classes
pub record CpuSlab : Type 0 where
  pub most : ℕ
  pub limit : ℕ
  pub rows : List SlabRow

-- what stands in a slot that nothing was stored in
abbrev pub null : Addr
null = record { 0 = 0 }

-- a class without slots
abbrev pub no_row : SlabRow
no_row = record { size = 0; batch = 0; cap = 0; top = 0; slots = [] }

-- the row of a class
abbrev pub row_at : CpuSlab → ℕ → SlabRow
row_at slab k = slice_index_or slab.rows k no_row

-- the address in a slot
abbrev pub slot_of : SlabRow → ℕ → Addr
slot_of row i = slice_index_or row.slots i null

-- the objects of a class: what its slots below the top hold
abbrev pub held : SlabRow → List Addr
held row = take row.top row.slots

-- a row with one slot stored
abbrev pub stored : SlabRow → ℕ → Addr → SlabRow
stored row i a = record row { slots = slice_set row.slots i a }

-- a slab with another row for a class
abbrev pub with_row : CpuSlab → ℕ → SlabRow → CpuSlab
with_row slab k row = record slab { rows = slice_set slab.rows k row }

-- a slab with one slot of a class stored
abbrev pub with_slot : CpuSlab → ℕ → ℕ → Addr → CpuSlab
with_slot slab k i a = with_row slab k (stored (row_at slab k) i a)

-- a slab with another top of a class
abbrev pub with_top : CpuSlab → ℕ → ℕ → CpuSlab
with_top slab k n = with_row slab k (record (row_at slab k) { top = n })

-- a slab with another capacity of a class
abbrev pub with_cap : CpuSlab → ℕ → ℕ → CpuSlab
with_cap slab k n = with_row slab k (record (row_at slab k) { cap = n })

-- a class at the opening, with so many slots
abbrev pub empty_row : ℕ → ClassRow → SlabRow
empty_row most row = record { size = row.size; batch = row.batch; cap = 0; top = 0; slots = replicate most null }

-- a slab at its opening
abbrev pub opened : List ClassRow → ℕ → ℕ → CpuSlab
opened rows most limit = record { most = most; limit = limit; rows = map (empty_row most) rows }
