use Rattle.std.proofs.Common.{arith}
use Rattle.huge_table.proofs.Stays.{unbacked_means}
use Rattle.huge_table.proofs.table.HugeTable.unback.Goals as goal

pub returns : goal.returns
returns c heap means = search (arith, unbacked_means, c.back.ensures, c.from.ensures, c.requires)
