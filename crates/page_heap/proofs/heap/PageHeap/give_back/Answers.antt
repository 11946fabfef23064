use Rattle.std.proofs.Common.{◌≡◌, ◌⊎◌, ◌/◌, false, sym, ap, ◌∙◌, arith}
use Rattle.page_heap.proofs.Common.{RowKind, hugepage, is_kind, nat_tests}
use Rattle.tc_units.specs.declared.rows.RowKind.TheVariants as kind
use Rattle.page_heap.proofs.Results.{is_heap}
use Rattle.page_heap.proofs.Routes.{first_near, first_low, first_high, route_region, route_others}
use Rattle.page_heap.proofs.heap.PageHeap.give_back.Goals as goal
use Rattle.page_heap.proofs.heap.PageHeap.give_back.Goals.{After-kind}

pub huge_of-requires : goal.huge_of-requires
huge_of-requires c = first_near _ _ (is_heap c.self.invariant c.self.view_is) c.args.run c.requires

pub kind-requires-clause-low : goal.kind-requires-clause-low
kind-requires-clause-low c = let low = first_low _ _ (is_heap c.self.invariant c.self.view_is) c.args.run c.requires in omega (arith, low, c.huge_of.ensures)

pub kind-requires-clause-high : goal.kind-requires-clause-high
kind-requires-clause-high c = let high = first_high _ _ (is_heap c.self.invariant c.self.view_is) c.args.run c.requires in omega (arith, high, c.huge_of.ensures)

serves : (c : After-kind) → (hugepage c.args.self.now (c.args.run.first.0 / 256)).kind ≡ c.kind.result
serves c = sym (c.kind.ensures.heap c.args.self.now (is_heap c.self.invariant c.self.view_is).shows.means ∙ ap (λ k. (hugepage c.args.self.now k).kind) c.huge_of.ensures)

pub free_in_region-requires-clause-route : goal.free_in_region-requires-clause-route
free_in_region-requires-clause-route c = grind (arith, nat_tests, route_region, is_heap, serves)

others : (k : RowKind) → (k ≡ kind.Free) ⊎ ((k ≡ kind.Run) ⊎ (k ≡ kind.Filler)) → is_kind kind.Region k ≡ false
others k h = grind (arith, nat_tests, is_kind)

pub free_in_hugepages-requires-clause-route : goal.free_in_hugepages-requires-clause-route
free_in_hugepages-requires-clause-route c = grind (arith, nat_tests, serves, route_others, is_heap, is_kind, others)
