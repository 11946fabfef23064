-- When a fetch finds nothing.
use Rattle.std.specs.Prelude.{◌≡◌, ℕ, ◌<◌, ◌↔◌, []}
use Rattle.class_shard.specs.Shard.{Shard, fetched, IsEmpty}

-- A fetch of some objects finds none exactly where neither the transfer cache nor a span has a free one.
abbrev pub FetchFinds : Type 0
FetchFinds = (n : ℕ) (s : Shard) → 0 < n → (fetched n s ≡ []) ↔ IsEmpty s
