use Rattle.std.proofs.Common.{None, subst}
use Rattle.tc_model.specs.Serial.{IsAtLimit}
use Rattle.tc_machine.specs.Along.{IsStopped}
use Rattle.tcreplay.specs.Ran.{IsRunOf}
use Rattle.tcreplay.specs.declared.outcome.End.TheVariants.{Full}
use Rattle.tcreplay.proofs.RunFacts.{told_full, filled_at, not_done}
use Rattle.tcreplay.proofs.run.stop.Goals as goal

pub returns-in-Full-clause-ran : goal.returns-in-Full-clause-ran
returns-in-Full-clause-ran g c whole telling stopped =
    let s = c.args.state in
    let M = g.M.Allocator in
    let limit : IsAtLimit (M.rules_of s.options s.input) s.input.asked.config.events whole s.order c.in-Full.ticket
    = subst (IsStopped (M.rules_of s.options s.input) s.input.asked.config.events whole s.order) c.in-Full.is stopped in
    subst (λ order. IsRunOf (M.rules_of s.options) (M.arena s.options) (M.told s.options) (M.lawful s.options) telling s.input order (record { end = Full c.in-Full.ticket; order = c.into_order.result; text = c.new.result; under = None })) limit.all (record {
      is = told_full (M.rules_of s.options) (M.told s.options) telling s.input whole s.order _ _ c.in-Full.ticket limit c.into_order.ensures.order c.new.ensures.items;
      law = c.into_order.ensures.lawful;
      filled = filled_at (M.rules_of s.options) s.input whole s.order c.in-Full.ticket limit;
      scripts = not_done c.in-Full.ticket;
      blocks = not_done c.in-Full.ticket;
      journal = not_done c.in-Full.ticket;
    })
