use Rattle.std.proofs.Common.{arith}
use Rattle.std.specs.Vec.{with_item}
use Rattle.trace_reader.proofs.Joins.{scripts-push, calls_of-push}
use Rattle.trace_reader.proofs.calls.Calls.push.Goals as goal

pub returns-clause-scripts : goal.returns-clause-scripts
returns-clause-scripts c t = grind (arith, scripts-push)

pub returns-clause-calls : goal.returns-clause-calls
returns-clause-calls c = calls_of-push c.args.self.now (record { scripts = with_item c.args.self.now.scripts c.from.result c.push.new.self; turns = c.push-2.new.self; labels = c.args.self.now.labels; uses = c.args.self.now.uses }) c.args.thread c.args.planned c.in_ok-push-2.ensures.items (returns-clause-scripts c)
