use Rattle.std.proofs.Common.{sym}
use Rattle.tc_machine.proofs.TellingFacts.{line_told, mark_told, nothing_told, mark_passed}
use Rattle.tc_machine.proofs.telling.next_line.Goals as goal

pub returns-then-decided-clause-line : goal.returns-then-decided-clause-line
returns-then-decided-clause-line g c = line_told (g.T.Teller.answers c.args.teller.now) c.args.mark.now c.requires.mark c.args.thread.0 c.line_of-line.result c.line_of-line.ensures (sym c.if-decided.ensures)

pub returns-then-decided-clause-mark : goal.returns-then-decided-clause-mark
returns-then-decided-clause-mark g c = mark_told (g.T.Teller.answers c.args.teller.now) c.args.mark.now c.requires.mark c.act_of-mark.ensures (sym c.if-decided.ensures)

pub returns-else-decided-clause-line : goal.returns-else-decided-clause-line
returns-else-decided-clause-line g c = nothing_told (g.T.Teller.answers c.args.teller.now) c.args.mark.now c.requires.mark (sym c.if-decided.ensures) c.args.thread.0

pub returns-else-decided-clause-mark : goal.returns-else-decided-clause-mark
returns-else-decided-clause-mark g c = mark_passed (g.T.Teller.answers c.args.teller.now) c.args.mark.now c.requires.mark (sym c.if-decided.ensures)
