use Rattle.huge_cache.proofs.Common.{nat_tests, length-replicate, used_count, state_count}
use Rattle.std.proofs.Common.{◌≡◌, ◌-◌, ◌*◌, ◌++◌, replicate, sym, ap, ◌∙◌, arith}
use Rattle.huge_cache.proofs.Padded.{pad, padded_by, opened}
use Rattle.huge_cache.proofs.row.Row.open.Goals as goal
use Rattle.huge_cache.proofs.row.Row.open.Goals.{After-used_of-2}

row_is : (c : After-used_of-2) → c.fill.new.self ≡ replicate c.args.len c.args.used ++ pad (64 * c.div_ceil-words.result - c.args.len)
row_is c = grind (arith, nat_tests, length-replicate, opened)

pub invariant_of-result : goal.invariant_of-result
invariant_of-result c =
    let by = padded_by c.args.len c.fill.new.self (replicate c.args.len c.args.used) (64 * c.div_ceil-words.result - c.args.len) (length-replicate c.args.len c.args.used) (row_is c) in
    (by.0, c.used_of-2.ensures ∙ sym (ap used_count by.1 ∙ state_count c.args.len c.args.used))

pub returns : goal.returns
returns c = (padded_by c.args.len c.fill.new.self (replicate c.args.len c.args.used) (64 * c.div_ceil-words.result - c.args.len) (length-replicate c.args.len c.args.used) (row_is c)).1
