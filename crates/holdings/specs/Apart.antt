-- Blocks that are apart.
use Rattle.std.specs.Prelude.{ℕ, ◌<◌, ◌≤◌, ◌==◌, List, All, count_by}
use Rattle.tc_model.specs.Blocks.{Extent}

-- no two blocks begin at one address, and each has a byte
pub record AreApart (bs : List Extent) : Type 0 where
  pub starts : (a : ℕ) → count_by (λ (b : Extent). b.addr == a) bs ≤ 1
  pub some : All (λ (b : Extent). 0 < b.len) bs
