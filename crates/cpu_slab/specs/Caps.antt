-- How a capacity is set, and when that is refused.
use Rattle.std.specs.Prelude.{ℕ, nat_lt, Option, Some, None, is_some, if◌then◌else◌}
use Rattle.cpu_slab.specs.declared.slab.CapFault.{CapFault}
use Rattle.cpu_slab.specs.declared.slab.CapFault.TheVariants.{OverStatic, OverLimit}
use Rattle.cpu_slab.specs.Slots.{CpuSlab, with_cap}
use Rattle.cpu_slab.specs.Growth.{used}

-- why class k can't have a capacity of n: the class has fewer slots, or else the sum of all capacities would pass the limit
abbrev pub cap_fault : CpuSlab → ℕ → ℕ → Option CapFault
cap_fault slab k n =
    if nat_lt slab.most n then Some (OverStatic slab.most)
    else if nat_lt slab.limit (used (with_cap slab k n).rows) then Some (OverLimit (used (with_cap slab k n).rows))
    else None

-- the slab after the capacity of class k is set to n, or as it was where that is refused
abbrev pub with_cap_if : CpuSlab → ℕ → ℕ → CpuSlab
with_cap_if slab k n = if is_some (cap_fault slab k n) then slab else with_cap slab k n
