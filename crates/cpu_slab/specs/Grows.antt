-- Exactly where a capacity grows, and by how much.
use Rattle.std.specs.Prelude.{◌≡◌, ◌≢◌, ℕ, ◌+◌, ◌-◌, ◌*◌, ◌<◌, ◌≤◌, ◌⊎◌, length, map}
use Rattle.std.specs.Int.{div_ceil}
use Rattle.cpu_slab.specs.declared.marks.Unused.{Unused}
use Rattle.cpu_slab.specs.Slots.{CpuSlab, row_at}
use Rattle.cpu_slab.specs.Growth.{used, rise, unused, IsVictim, grown}
use Rattle.cpu_slab.specs.Sound.{IsSoundSlab}

-- the bytes by which class k would grow, and those that the budget has left
abbrev pub needed : CpuSlab → ℕ → ℕ
needed slab k = rise (row_at slab k) * (row_at slab k).size

abbrev pub spare : CpuSlab → ℕ
spare slab = slab.limit - used slab.rows

-- Another class can give up what class k is short of: the victim has as many places unused, in whole places.
pub record CanGiveUp (slab : CpuSlab) (k : ℕ) : Type 0 where
  pub best : Unused
  pub victim : IsVictim k (map unused slab.rows) best
  pub enough : div_ceil (needed slab k - spare slab) (row_at slab best.class).size ≤ (row_at slab best.class).cap - (row_at slab best.class).top

-- The rule lets class k grow: it has slots left, and the budget has the bytes, or else another class can give them up.
pub record MayGrow (slab : CpuSlab) (k : ℕ) : Type 0 where
  pub slots : 0 < rise (row_at slab k)
  pub bytes : (needed slab k ≤ spare slab) ⊎ CanGiveUp slab k

-- A capacity rises exactly where the rule lets it, by a batch or what is left of its slots; no other capacity rises.
pub record GrowsExactly (slab : CpuSlab) (k : ℕ) (new : CpuSlab) : Type 0 where
  pub grows : MayGrow slab k → (row_at new k).cap ≡ (row_at slab k).cap + rise (row_at slab k)
  pub stays : (MayGrow slab k → ⊥) → new ≡ slab
  pub others : (j : ℕ) → j ≢ k → (row_at new j).cap ≤ (row_at slab j).cap

-- of every sound slab
abbrev pub GrowthIsExact : Type 0
GrowthIsExact = (slab : CpuSlab) (k : ℕ) → k < length slab.rows → IsSoundSlab slab → GrowsExactly slab k (grown slab k)
