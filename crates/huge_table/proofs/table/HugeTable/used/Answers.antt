use Rattle.std.proofs.Common.{arith}
use Rattle.huge_table.proofs.Steps.{row_at}
use Rattle.huge_table.proofs.table.HugeTable.used.Goals as goal

pub returns : goal.returns
returns c heap means shared = grind (arith, row_at, c.used_in.ensures, c.from.ensures, c.self.view_is, c.self.invariant, c.requires.high)
