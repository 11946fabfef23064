use Rattle.cpu_rows.proofs.CpuLaw.{cpu_law}
use Rattle.cpu_rows.proofs.laws.cpu_is_lawful.Goals as goal

pub returns : goal.returns
returns c = cpu_law
