-- The representation of a slab: the marks and the slots of each class.
use Rattle.std.specs.Prelude.{◌≡◌, ℕ, ◌-◌, ◌++◌, List, length, replicate}
use Rattle.std.specs.Simd.Lanes.{zip2}
use Rattle.tc_units.specs.declared.units.Addr.{Addr}
use Rattle.cpu_slab.specs.declared.marks.ClassMarks.{ClassMarks}
use Rattle.cpu_slab.specs.Slots.{SlabRow, CpuSlab, null}
use Rattle.cpu_slab.specs.Growth.{used}
use Rattle.cpu_slab.specs.Sound.{IsSoundSlab}

-- all slots of a class that has room for so many, the first of which were written
abbrev pub all_slots : List Addr → ℕ → List Addr
all_slots written room = written ++ replicate (room - length written) null

-- a class with these marks and slots
abbrev pub row_of : ClassMarks → List Addr → SlabRow
row_of marks slots = record { size = marks.size; batch = marks.batch; cap = marks.cap; top = marks.top; slots = slots }

-- the numbers of a class
pub record AreMarksOf (marks : ClassMarks) (row : SlabRow) : Type 0 where
  pub size : marks.size ≡ row.size
  pub batch : marks.batch ≡ row.batch
  pub cap : marks.cap ≡ row.cap
  pub top : marks.top ≡ row.top

-- the slab of a representation
abbrev pub slab_of : ℕ → ℕ → List ClassMarks → List (List Addr) → CpuSlab
slab_of most limit marks slots = record { most = most; limit = limit; rows = zip2 row_of marks slots }

-- there are slots for each class, the bytes of all capacities are counted, and the slab is sound
pub record IsLaidOut (most limit sum : ℕ) (marks : List ClassMarks) (slots : List (List Addr)) : Type 0 where
  pub classes : length slots ≡ length marks
  pub counted : sum ≡ used (zip2 row_of marks slots)
  pub sound : IsSoundSlab (slab_of most limit marks slots)
