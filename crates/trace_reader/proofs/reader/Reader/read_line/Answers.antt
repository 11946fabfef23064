use Rattle.std.proofs.Common.{arith}
use Rattle.trace_reader.proofs.Valids.{IsSoFar-form}
use Rattle.trace_reader.proofs.reader.Reader.read_line.Goals as goal

pub returns-in-Ok-add-clause-valid : goal.returns-in-Ok-add-clause-valid
returns-in-Ok-add-clause-valid c = grind (arith, IsSoFar-form)
