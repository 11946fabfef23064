-- A CPU's slab as the class table and the heads of a trace say.
use Rattle.std.specs.Prelude.{◌≡◌, ℕ, List, map}
use Rattle.tc_units.specs.declared.spans.ClassRow.{ClassRow}
use Rattle.tc_model.specs.declared.config.Config.{Config}
use Rattle.cpu_slab.specs.Slots.{SlabRow, CpuSlab}

-- A CPU's slab has the slots of a class and the budget that the heads name, and the table's classes: of each the bytes of an
-- object, and how many move at a time.
pub record IsSlabOf (rows : List ClassRow) (c : Config) (slab : CpuSlab) : Type 0 where
  pub most : slab.most ≡ c.slab
  pub limit : slab.limit ≡ c.percpu
  pub classes : map {B = ℕ × ℕ} (λ (r : SlabRow). (r.size, r.batch)) slab.rows ≡ map {B = ℕ × ℕ} (λ (r : ClassRow). (r.size, r.batch)) rows
