use Rattle.cpu_rows.proofs.Afterwards.{cpu_in_every_order}
use Rattle.cpu_rows.proofs.laws.holds_in_every_order.Goals as goal

pub returns : goal.returns
returns c = cpu_in_every_order
