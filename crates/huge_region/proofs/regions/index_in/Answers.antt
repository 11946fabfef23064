use Rattle.std.proofs.Common.{arith}
use Rattle.std.proofs.lemmas.Bool.Decides.{nat_tests}
use Rattle.huge_region.proofs.Apart.{found_there, none_behind, read_first}
use Rattle.huge_region.proofs.regions.index_in.Goals as goal

-- none begins at the hugepage or before it
pub returns-in_err-index-clause-none : goal.returns-in_err-index-clause-none
returns-in_err-index-clause-none c =
    grind (arith, nat_tests, c.in_err-index.ensures, none_behind c.args.width 1 c.args.huge.0 0 c.args.regions.now c.requires, c.begun_by.ensures.behind)

pub returns-then-from-width-clause-found : goal.returns-then-from-width-clause-found
returns-then-from-width-clause-found c = grind (arith, read_first, c.begun_by.ensures.before, found_there c.args.width 1 c.args.huge.0)

pub returns-else-from-width-clause-none : goal.returns-else-from-width-clause-none
returns-else-from-width-clause-none c = grind (arith, none_behind c.args.width 1 c.args.huge.0 c.begun_by.result, read_first, c.begun_by.ensures.before)
