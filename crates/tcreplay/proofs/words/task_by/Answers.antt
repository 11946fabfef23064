use Rattle.std.proofs.Common.{map, string_bytes, rules}
use Rattle.tcreplay.proofs.WorkloadFacts.{seen_ranged}
use Rattle.tcreplay.proofs.words.task_by.Goals as goal

pub returns-clause-ranges : goal.returns-clause-ranges
returns-clause-ranges c = seen_ranged (map string_bytes c.args.words.now) c.task.result (search rules)
