use Rattle.std.proofs.Common.{rules}
use Rattle.trace_gen.specs.Draws.{next_number}
use Rattle.trace_gen.proofs.state.Generator.draw.Goals as goal

pub returns-clause-value : goal.returns-clause-value
unfolding next_number
returns-clause-value c = search rules

pub returns-clause-after : goal.returns-clause-after
unfolding next_number
returns-clause-after c = search rules
