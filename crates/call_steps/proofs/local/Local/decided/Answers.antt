use Rattle.std.proofs.Common.{ap, ◌∙◌, arith}
use Rattle.call_steps.specs.Local.{Local}
use Rattle.call_steps.proofs.ScriptFacts.{as_many}
use Rattle.call_steps.proofs.local.Local.decided.Goals as goal

pub returns : goal.returns
returns g c =
    let l = c.self.inside in
    let is = ap (λ (m : Local g.row.F-Seat.Denot g.row.F-Row.Denot). m.answers) c.self.view_is in
    c.count.ensures ∙ as_many l.script (g.A.Answers.all l.answers).items c.args.self.now.answers (omega (arith, c.self.invariant.room)) is
