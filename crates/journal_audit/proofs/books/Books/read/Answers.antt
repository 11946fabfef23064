use Rattle.std.proofs.Common.{sym, ap, ◌∙◌}
use Rattle.journal_audit.specs.Rules.{Plan, plan_of, line_of, judged}
use Rattle.journal_audit.proofs.books.Books.read.Goals as goal

pub enter-requires : goal.enter-requires
enter-requires c =
    let plan : Plan = plan_of c.args.huge c.args.rows.now c.args.scripts.now in
    let r = c.requires in
    let told = c.in-Ok.ensures r.calls r.are in
    record { plan = plan; calls = r.calls; are = r.are; judged_ok = ap (judged plan r.calls) (sym told.0) ∙ told.1 }

pub returns-in_ok-enter-in-Ok : goal.returns-in_ok-enter-in-Ok
returns-in_ok-enter-in-Ok c calls are =
    let plan : Plan = plan_of c.args.huge c.args.rows.now c.args.scripts.now in
    let told = c.in-Ok.ensures calls are in
    (line_of c.in-Ok.entry.told c.in-Ok.entry.call, told.1, c.in_ok-enter-in-Ok.ensures plan calls are (ap (judged plan calls) (sym told.0) ∙ told.1))
