use Rattle.cpu_front.proofs.Taken.{all_taken}
use Rattle.tc_machine.specs.Inputs.{asked_of}
use Rattle.cpu_front.proofs.state_tests.opened.Goals as goal

pub open-requires-clause-taken : goal.open-requires-clause-taken
open-requires-clause-taken g c = all_taken (asked_of c.expect-trace.result).calls
