-- What holds of every slab.
use Rattle.std.specs.Prelude.{◌≡◌, ℕ, ◌<◌, ◌≤◌, length, All}
use Rattle.cpu_slab.specs.Slots.{SlabRow, CpuSlab}
use Rattle.cpu_slab.specs.Growth.{used}

-- no class has more objects than its capacity, or more capacity than slots
pub record IsSoundRow (row : SlabRow) : Type 0 where
  pub top : row.top ≤ row.cap
  pub cap : row.cap ≤ length row.slots
  pub size : 0 < row.size

-- the limits of a slab's opening
pub record AreSlabLimits (count places bytes : ℕ) : Type 0 where
  pub classes : count ≤ 120
  pub some : 0 < places
  pub most : places ≤ 2048
  pub limit : bytes ≤ 268435456

-- each class is sound and has its slots, and all capacities are in the budget
pub record IsSoundSlab (slab : CpuSlab) : Type 0 where
  pub limits : AreSlabLimits (length slab.rows) slab.most slab.limit
  pub rows : All IsSoundRow slab.rows
  pub slots : All (λ (row : SlabRow). length row.slots ≡ slab.most) slab.rows
  pub budget : used slab.rows ≤ slab.limit
