-- The route that placed a live run, by what its first hugepage serves.
use Rattle.std.proofs.Common.{◌≡◌, ℕ, ◌*◌, ◌+◌, ◌/◌, ◌<◌, ◌≤◌, ◌⊎◌, false, length, Contains, arith}
use Rattle.page_heap.proofs.Common.{Run, Heap, hugepage, is_kind, IsInside, IsSound}
use Rattle.page_heap.proofs.Common.{live_inside, Inside, IsInOneHugepage, IsInHugepages, IsInRegion, IsRouted, nat_tests}
use Rattle.tc_units.specs.declared.rows.RowKind.TheVariants as kind
use Rattle.page_heap.proofs.Results.{IsHeap, as_many}

in_numbers : (first n huge : ℕ) → 256 ≤ first → 0 < n → first + n ≤ 256 * (huge + 1) → huge ≤ 4096 → ((0 < first / 256) × (first / 256 ≤ huge)) × (first < 1048832)
in_numbers first n huge a b c d = ((omega arith, omega arith), omega arith)

module _ (t : Inside) (heap : Heap) (is : IsHeap t heap) (run : Run) (live : Contains heap.runs run) where
  abbrev h : ℕ
  h = run.first.0 / 256

  sound : IsSound heap
  sound = is.well.sound

  inside : IsInside heap.config.huge run
  inside = live_inside heap run sound live

  numbers : ((0 < h) × (h ≤ heap.config.huge)) × (run.first.0 < 1048832)
  numbers = in_numbers run.first.0 run.pages heap.config.huge inside.from inside.some inside.to is.well.limits.huge_to

  pub first_near : run.first.0 < 1048832
  first_near = numbers.1

  pub first_low : 0 < h
  first_low = numbers.0.0

  pub first_high : h ≤ length t.table.pages
  first_high = let size = as_many is in omega (arith, numbers.0.1)

  routed : IsRouted heap run
  routed = is.well.routed run live

  whole_kind : (route : IsInHugepages heap run) → (hugepage heap h).kind ≡ kind.Run
  whole_kind route = route.whole h (omega (arith, route.begins)) (omega (arith, route.begins, route.long))

  pub route_region : (hugepage heap h).kind ≡ kind.Region → IsInRegion heap run
  route_region e = grind (arith, nat_tests, routed, whole_kind)

  pub route_others : is_kind kind.Region (hugepage heap h).kind ≡ false → IsInOneHugepage heap run ⊎ IsInHugepages heap run
  route_others e = grind (arith, nat_tests)
