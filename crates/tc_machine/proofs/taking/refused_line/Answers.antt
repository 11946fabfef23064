use Rattle.std.proofs.Common.{sym, ap, ◌∙◌}
use Rattle.tc_machine.specs.Taken.{refused_line}
use Rattle.tc_machine.proofs.TakingFacts.{all_taken}
use Rattle.tc_machine.proofs.taking.refused_line.Goals as goal

pub returns-clause-taken : goal.returns-clause-taken
returns-clause-taken g c none = all_taken g.M.Allocator.takes c.args.trace.now (sym (ap (refused_line g.M.Allocator.takes) c.as_slice.ensures) ∙ (sym c.refused_of.ensures ∙ none))
