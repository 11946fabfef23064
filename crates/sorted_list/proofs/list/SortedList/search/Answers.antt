use Rattle.std.proofs.Common.{◌+◌, ◌-◌, ◌/◌, length, sym, ap, ◌∙◌, arith}
use Rattle.sorted_list.proofs.Common.{get_or_from_slice_get}
use Rattle.sorted_list.proofs.Halving.{all_before, none_behind, halved_steps}
use Rattle.sorted_list.proofs.list.SortedList.search.Goals as goal

pub loop-low-preserved-then-comes_before : goal.loop-low-preserved-then-comes_before
loop-low-preserved-then-comes_before g c =
    let keys = c.args.self.now.keys in
    let low = c.loop-low.low in
    let high = c.loop-low.high in
    let middle = low + (high - low) / 2 in
    let here = λ (d : g.row.K.Denot). ap (λ (k : g.row.K.Denot). g.K.SortKey.before k c.args.key) (get_or_from_slice_get keys middle c.read.result d c.read.ensures.key) ∙ sym c.comes_before.ensures ∙ c.if-comes_before.true in
    let cost = halved_steps c.loop-low.steps c.read.new.steps c.args.steps.now (high - low) (high - (middle + 1)) (length keys) c.loop-low.invariant.counted c.read.ensures.step (omega arith) (omega arith) c.loop-low.invariant.left in
    grind (arith, all_before g.K.SortKey.before g.met.K.SortKey.order keys c.len-high.ensures.order c.args.key middle)

pub loop-low-preserved : goal.loop-low-preserved
loop-low-preserved g c =
    let keys = c.args.self.now.keys in
    let low = c.loop-low.low in
    let high = c.loop-low.high in
    let middle = low + (high - low) / 2 in
    let here = λ (d : g.row.K.Denot). ap (λ (k : g.row.K.Denot). g.K.SortKey.before k c.args.key) (get_or_from_slice_get keys middle c.read.result d c.read.ensures.key) ∙ sym c.comes_before.ensures ∙ c.if-comes_before.false in
    let cost = halved_steps c.loop-low.steps c.read.new.steps c.args.steps.now (high - low) (middle - low) (length keys) c.loop-low.invariant.counted c.read.ensures.step (omega arith) (omega arith) c.loop-low.invariant.left in
    grind (arith, none_behind g.K.SortKey.before g.met.K.SortKey.order keys c.len-high.ensures.order c.args.key middle here)
