use Rattle.trace_text.proofs.Joins.{joined_are_cut}
use Rattle.trace_text.proofs.laws.joined_lines_are_cut.Goals as goal

pub returns : goal.returns
returns c = joined_are_cut
