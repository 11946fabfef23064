use Rattle.std.proofs.Common.{refl}
use Rattle.tc_machine.specs.Inputs.{input_under}
use Rattle.numa_heaps.proofs.machine.NumaMachineMachine.act.Goals as goal

pub returns-clause-part : goal.returns-clause-part
returns-clause-part c = c.act.ensures.part c.args.self.now.nodes.count (input_under c.args.self.now.setting c.args.self.now.trace.value) refl

pub returns-clause-local : goal.returns-clause-local
returns-clause-local c = c.act.ensures.local c.args.self.now.nodes.count (input_under c.args.self.now.setting c.args.self.now.trace.value) refl
