use Rattle.std.proofs.Common.{◌<◌, length, arith}
use Rattle.std.proofs.lemmas.Grind.{common_steps}
use Rattle.size_classes.proofs.Sizes.{row_at}
use Rattle.size_classes.proofs.table.ClassTable.row.Goals as goal

pub returns-clause-rules : goal.returns-clause-rules
returns-clause-rules c =
    let within : c.from.result < length c.self.inside.rows.items = grind (arith, common_steps) in
    row_at 0 c.self.inside.rows.items c.from.result c.index.result.now c.self.invariant.0.rows_rise within c.index.ensures
