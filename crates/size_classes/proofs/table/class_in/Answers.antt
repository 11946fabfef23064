use Rattle.std.proofs.Common.{◌<◌, ◌+◌, ◌-◌, ◌/◌, length, arith}
use Rattle.size_classes.proofs.ClassFacts.{class_is, class_none}
use Rattle.size_classes.proofs.Sizes.{size_at, sizes_rise}
use Rattle.size_classes.proofs.table.class_in.Goals as goal

pub loop-low-preserved-then-from-size : goal.loop-low-preserved-then-from-size
loop-low-preserved-then-from-size c =
    let so = c.loop-low.invariant in
    let middle = c.loop-low.low + (c.loop-low.high - c.loop-low.low) / 2 in
    let inside : middle < length c.args.rows.now = omega (arith, so.within) in
    record {
      order = omega arith;
      within = so.within;
      below = λ k h. omega (arith, sizes_rise 0 c.args.rows.now k middle c.requires.rows_rise (omega (arith, h)) inside, size_at c.args.rows.now middle inside);
      above = so.above;
    }

pub loop-low-preserved : goal.loop-low-preserved
loop-low-preserved c =
    let so = c.loop-low.invariant in
    let middle = c.loop-low.low + (c.loop-low.high - c.loop-low.low) / 2 in
    let inside : middle < length c.args.rows.now = omega (arith, so.within) in
    record {
      order = omega arith;
      within = omega (arith, inside);
      below = so.below;
      above = λ k from h. omega (arith, sizes_rise 0 c.args.rows.now middle k c.requires.rows_rise from h, size_at c.args.rows.now middle inside);
    }

pub returns-then-low-rows : goal.returns-then-low-rows
returns-then-low-rows c = class_is c.args.rows.now c.args.size c.loop-low.low (omega arith) c.loop-low.invariant.below (λ k h. c.loop-low.invariant.above k (omega arith))

pub returns-else-low-rows : goal.returns-else-low-rows
returns-else-low-rows c = class_none c.args.rows.now c.args.size (λ k h. c.loop-low.invariant.below k (omega arith))
