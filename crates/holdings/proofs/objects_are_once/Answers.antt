use Rattle.holdings.proofs.Held.{objects_are_once}
use Rattle.holdings.proofs.objects_are_once.Goals as goal

pub returns : goal.returns
returns c = objects_are_once
