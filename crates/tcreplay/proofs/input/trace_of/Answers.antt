use Rattle.std.proofs.Common.{subst}
use Rattle.std.specs.Prelude.{length, IsOkAnd}
use Rattle.std.proofs.Common.{arith}
use Rattle.trace_reader.specs.Reading.{asked_by}
use Rattle.trace_reader.specs.Valid.{IsAsked}
use Rattle.tcreplay.proofs.AskedFacts.{asked_again, read_again}
use Rattle.tcreplay.proofs.input.trace_of.Goals as goal

pub returns-in-Ok-clause-asked : goal.returns-in-Ok-clause-asked
returns-in-Ok-clause-asked c = grind (arith, asked_again)

pub returns-in-Ok-clause-read : goal.returns-in-Ok-clause-read
returns-in-Ok-clause-read c = read_again (length c.args.table.now) c.in-Ok.trace (asked_by c.len.result c.args.text.now) c.in-Ok.ensures.trace (subst (λ n. IsOkAnd (asked_by c.len.result c.args.text.now) (IsAsked n)) c.len.ensures.value c.in-Ok.ensures.valid)
