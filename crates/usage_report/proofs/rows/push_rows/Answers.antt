use Rattle.std.proofs.Common.{false, arith}
use Rattle.tc_units.specs.declared.rows.RowKind.TheVariants.{Free}
use Rattle.tc_units.specs.declared.rows.RowView.{RowView}
use Rattle.usage_report.proofs.RowLines.{row_pushed}
use Rattle.usage_report.proofs.rows.push_rows.Goals as goal

pub loop-i-preserved : goal.loop-i-preserved
loop-i-preserved c =
    let empty : RowView = record { kind = Free; used = 0; allocs = 0; backed = 0; longest = 0; donated = false } in
    row_pushed c.args.text.now.items c.loop-i.text.items c.push_row.new.text.items c.args.rows.now c.loop-i.i empty (omega arith) c.loop-i.invariant c.in_ok-push_row.ensures
