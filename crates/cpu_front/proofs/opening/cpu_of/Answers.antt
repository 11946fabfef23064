use Rattle.std.proofs.Common.{◌<◌, sym, subst}
use Rattle.std.specs.Prelude.{All}
use Rattle.tc_units.specs.declared.spans.ClassRow.{ClassRow}
use Rattle.cpu_front.proofs.OpeningFacts.{rows_sized}
use Rattle.cpu_front.proofs.opening.cpu_of.Goals as goal

pub open-requires-clause-sizes : goal.open-requires-clause-sizes
open-requires-clause-sizes c = subst (All (λ (row : ClassRow). 0 < row.size)) (sym c.rows.ensures.value) (rows_sized 0 c.args.setting.now.table c.rows.ensures.table.rows_rise)
