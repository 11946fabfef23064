use Rattle.std.proofs.lemmas.Bool.Decides.{nat_tests}
use Rattle.std.proofs.lemmas.Grind.{common_steps}
use Rattle.std.proofs.Common.{arith}
use Rattle.place_set.proofs.Trees.{open_tree}
use Rattle.place_set.proofs.tree.+open.Goals as goal

pub returns-clause-tree : goal.returns-clause-tree
returns-clause-tree t c = grind (arith, nat_tests, common_steps, open_tree)
