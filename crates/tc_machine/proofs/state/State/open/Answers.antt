use Rattle.std.proofs.Common.{length, ap, ◌∙◌}
use Rattle.tc_machine.proofs.InputFacts.{input_is}
use Rattle.tc_machine.proofs.state.State.open.Goals as goal

pub returns-clause-asked : goal.returns-clause-asked
returns-clause-asked g c asked read = ap (λ m. g.M.Allocator.input m) c.gather-replay.ensures.machine ∙ (c.in_ok-machine.ensures.input ∙ input_is c.args.table (length c.args.table) c.args.trace asked read)
