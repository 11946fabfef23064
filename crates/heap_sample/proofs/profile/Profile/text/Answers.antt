use Rattle.std.proofs.Common.{arith}
use Rattle.heap_sample.proofs.OnlyRows.{only_rows}
use Rattle.heap_sample.proofs.profile.Profile.text.Goals as goal

-- src/profile.rt:153:5
pub returns : goal.returns
returns c = grind (arith, only_rows)
