use Rattle.std.proofs.Common.{refl}
use Rattle.tc_machine.specs.Inputs.{input_under}
use Rattle.numa_heaps.proofs.machine.NumaMachineMachine.want.Goals as goal

pub returns : goal.returns
returns c = c.want.ensures c.args.self.now.nodes.count (input_under c.args.self.now.setting c.args.self.now.trace.value) refl
