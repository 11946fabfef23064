use Rattle.std.proofs.Common.{◌≡◌, ap, ◌∙◌, arith}
use Rattle.std.specs.Prelude.{Some}
use Rattle.call_steps.specs.Local.{Local}
use Rattle.call_steps.specs.Rows.{undecided}
use Rattle.call_steps.proofs.ScriptFacts.{answered_now}
use Rattle.call_steps.proofs.local.Local.decide.Goals as goal

pub returns-clause-decided : goal.returns-clause-decided
returns-clause-decided g c call is =
    let l = c.self.inside in
    let asked : undecided g.F.FrontEnd.about l.step ≡ Some call = ap (λ (m : Local g.row.F-Seat.Denot g.row.F-Row.Denot). undecided g.F.FrontEnd.about m.step) c.self.view_is ∙ is in
    grind (arith, answered_now g.F.FrontEnd.about l.script l.place l.step (g.A.Answers.all l.answers) c.self.invariant call asked (record { act = l.acts; answer = c.args.answer }))
