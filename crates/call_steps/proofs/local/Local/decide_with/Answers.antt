use Rattle.std.proofs.Common.{ap, sym, ◌∙◌}
use Rattle.call_steps.specs.Rows.{undecided}
use Rattle.call_steps.specs.Follows.{follows}
use Rattle.call_steps.specs.declared.step.Next.TheVariants as next
use Rattle.call_steps.proofs.HandFacts.{ends_by}
use Rattle.call_steps.proofs.local.Local.decide_with.Goals as goal

pub returns-in-None : goal.returns-in-None
returns-in-None g c =
    let e = (g.F.FrontEnd.rules c.args.setting.now).calls in
    let l = c.args.self.now in
    ends_by e l c.end_deciding.new.self (undecided g.F.FrontEnd.about l.step) c.args.answer c.requires.undecided c.end_deciding.ensures ∙ ap (λ row. follows e l (undecided g.F.FrontEnd.about l.step) (next.Decide c.args.answer row)) (sym c.in-None.is)
