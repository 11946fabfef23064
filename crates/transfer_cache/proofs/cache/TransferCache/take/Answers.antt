use Rattle.std.proofs.Common.{◌≡◌, ◌+◌, ◌-◌, ◌++◌, List, count_by, drop, length, reverse, ◌∙◌, ap, arith}
use Rattle.tc_units.specs.declared.units.Addr.{Addr}
use Rattle.transfer_cache.proofs.TransferFacts.{count_by-moves}
use Rattle.transfer_cache.proofs.cache.TransferCache.take.Goals as goal

pub returns-clause-moves : goal.returns-clause-moves
returns-clause-moves c =
    let xs : List Addr = c.self.inside.objects.items in
    let same : xs ≡ c.args.self.now.objects = ap (λ t. t.objects) c.self.view_is in
    let from : length xs - c.loop-taken.taken ≡ c.held-held.result - c.min-count.result = omega (arith, ap length same) in
    let came : c.loop-taken.out.items ≡ c.args.out.now.items ++ reverse (drop (c.held-held.result - c.min-count.result) xs) =
    c.loop-taken.invariant.0 ∙ ap (λ k. c.args.out.now.items ++ reverse (drop k xs)) from in
    λ test.
    count_by-moves test c.truncate.new.self.items c.loop-taken.out.items c.args.out.now.items xs (c.held-held.result - c.min-count.result) c.truncate.ensures.items came ∙ ap (λ ys. count_by test ys + count_by test c.args.out.now.items) same
