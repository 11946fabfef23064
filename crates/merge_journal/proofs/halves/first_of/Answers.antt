use Rattle.std.proofs.Common.{arith}
use Rattle.std.proofs.lemmas.Bool.Decides.{nat_tests}
use Rattle.merge_journal.proofs.Whole.{merge_of_one, merge_of_none, one_list_of, none_of}
use Rattle.merge_journal.proofs.halves.first_of.Goals as goal

pub returns-then-is_empty : goal.returns-then-is_empty
returns-then-is_empty c = grind (arith, nat_tests, none_of, merge_of_none)

pub returns : goal.returns
returns c = grind (arith, one_list_of c.args.entries.now c.index-entries-0.result c.requires.one, merge_of_one c.index-entries-0.result.items)
