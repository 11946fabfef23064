use Rattle.std.proofs.Common.{◌-◌, take, map, arith, w8}
use Rattle.std.proofs.lemmas.List.{length-take-le, take-take}
use Rattle.std.proofs.lemmas.Simd.{map-map, chunk-fits}
use Rattle.trace_text.proofs.Blocks.{less_zero, worths, window, weighed, front_digits, lanes_less, sum_small, unwrapped}
use Rattle.trace_text.proofs.digits.digits_in_block.Goals as goal

pub returns-clause-digits : goal.returns-clause-digits
returns-clause-digits c =
    let k = c.in_ok-count.count in
    let bytes = c.args.bytes.now in
    let first = rw (lanes_less bytes c.requires) at c.in_ok-count.ensures in
    rw (take-take k 8 bytes (omega (arith, c.if-count-ge-BLOCK.false))) at (front_digits (take 8 bytes) k (chunk-fits w8 0 8 bytes c.type_inv.bytes) (omega (arith, first)))

pub returns-clause-value : goal.returns-clause-value
returns-clause-value c =
    let k = c.in_ok-count.count in
    let few = c.if-count-ge-BLOCK.false in
    let block = take 8 c.args.bytes.now in
    let same = take-take k 8 c.args.bytes.now (omega (arith, few)) in
    let worth = rw same at (weighed 0 k (8 - k) block (rw same (returns-clause-digits c)) (omega (arith, few, length-take-le 8 c.args.bytes.now c.requires))) in
    let sum = unwrapped 0 (map less_zero block) (worths k (8 - k)) (omega (arith, sum_small block (worths k (8 - k)), (window k few).1)) in
    rw (lanes_less c.args.bytes.now c.requires, map-map (λ v. v) less_zero block, (window k few).0) (omega (arith, sum, worth))
