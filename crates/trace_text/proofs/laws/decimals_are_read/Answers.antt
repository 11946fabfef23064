use Rattle.trace_text.proofs.Decimals.{decimals_are_read}
use Rattle.trace_text.proofs.laws.decimals_are_read.Goals as goal

pub returns : goal.returns
returns c = decimals_are_read
