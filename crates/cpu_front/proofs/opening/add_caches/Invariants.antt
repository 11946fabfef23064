use Rattle.std.proofs.Common.{◌≡◌, ◌++◌, map}
use Rattle.std.specs.List.{range_with_len}
use Rattle.cpu_rows.specs.CpuFront.{first_cache}
use Rattle.cpu_front.proofs.opening.add_caches.Given as goal

abbrev pub invariant-loop-class : goal.invariant-loop-class
invariant-loop-class l = l.parts.items ≡ l.fn.parts.items ++ map (first_cache l.setting.config) (range_with_len 0 l.class)
