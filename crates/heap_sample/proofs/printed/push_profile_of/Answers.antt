use Rattle.std.proofs.lemmas.Result.{on_ok_weaker}
use Rattle.std.proofs.Common.{arith}
use Rattle.heap_sample.proofs.OnlyPeak.{only_peak}
use Rattle.heap_sample.proofs.OnlyRows.{only_rows}
use Rattle.heap_sample.proofs.printed.push_profile_of.Goals as goal

pub returns : goal.returns
returns c = grind (arith, only_rows, only_peak, on_ok_weaker)
