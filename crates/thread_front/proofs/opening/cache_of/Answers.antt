use Rattle.std.proofs.Common.{◌<◌, sym, subst}
use Rattle.std.specs.Prelude.{All}
use Rattle.tc_units.specs.declared.spans.ClassRow.{ClassRow}
use Rattle.thread_cache.proofs.OpeningFacts.{rows_sized}
use Rattle.thread_front.proofs.opening.cache_of.Goals as goal

pub open-requires : goal.open-requires
open-requires c =
    subst (All (λ (row : ClassRow). 0 < row.size)) (sym c.rows.ensures.value)
    (rows_sized 0 c.args.setting.now.table c.rows.ensures.table.rows_rise)
