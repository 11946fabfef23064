use Rattle.tc_machine.specs.Inputs.{input_under}
use Rattle.tc_machine.proofs.machine.AllocMachineMachine.act.Goals as goal

pub returns-clause-part : goal.returns-clause-part
returns-clause-part g c = c.act_at.ensures.part (input_under c.args.self.now.setting c.args.self.now.trace.value).asked

pub returns-clause-local : goal.returns-clause-local
returns-clause-local g c = c.act_at.ensures.local (input_under c.args.self.now.setting c.args.self.now.trace.value).asked
