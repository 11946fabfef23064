use Rattle.std.proofs.Common.{arith}
use Rattle.huge_table.proofs.Pages.{over_none}
use Rattle.huge_table.proofs.table.HugeTable.empty_tail.Goals as goal

pub returns-else-many-eq1-clause-table : goal.returns-else-many-eq1-clause-table
returns-else-many-eq1-clause-table c = grind (arith, over_none c.args.self.now c.args.place)
