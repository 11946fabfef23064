use Rattle.std.proofs.Common.{◌<◌, All, sym, subst}
use Rattle.tc_units.specs.declared.spans.ClassRow.{ClassRow}
use Rattle.thread_cache.proofs.OpeningFacts.{rows_sized}
use Rattle.thread_cache.proofs.tests.cache_of.Goals as goal

pub open-requires : goal.open-requires
open-requires c =
    subst (All (λ (row : ClassRow). 0 < row.size)) (sym c.rows.ensures.value) (rows_sized 0 c.args.table.now c.rows.ensures.table.rows_rise)
