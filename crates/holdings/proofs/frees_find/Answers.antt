use Rattle.holdings.proofs.Finding.{frees_find}
use Rattle.holdings.proofs.frees_find.Goals as goal

pub returns : goal.returns
returns c = frees_find
