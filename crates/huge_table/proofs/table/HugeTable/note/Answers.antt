use Rattle.std.proofs.Common.{◌≡◌, ℕ, ◌+◌, ◌-◌, Bool, arith}
use Rattle.range_bits.proofs.Placing.{get_or-with_places}
use Rattle.huge_table.proofs.Sizes.{arena}
use Rattle.huge_table.proofs.Pages.{one_place, last_place}
use Rattle.huge_table.proofs.table.HugeTable.note.Goals as goal

pub returns-clause-noted : goal.returns-clause-noted
returns-clause-noted c =
    let t = c.self.inside in
    let first : ℕ = c.args.first in
    let n : ℕ = c.args.n in
    let skipped : ℕ = c.args.skipped in
    let v : Bool = c.args.state in
    let size = arena t c.args.self.now c.self.view_is in
    let last : first + n - 1 + 1 ≡ first + n = omega arith in
    record {
      used = grind (arith, get_or-with_places, c.put.ensures, c.self.view_is);
      begins = grind (arith, get_or-with_places, one_place, c.set.ensures, c.self.invariant.begins, c.self.view_is);
      ends = grind (arith, get_or-with_places t.ends (first + n - 1) 1 v, last_place (first + n));
    }
