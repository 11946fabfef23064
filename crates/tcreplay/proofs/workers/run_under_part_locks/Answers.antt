use Rattle.std.proofs.Common.{◌≡◌, Some, None, length, sym, ap, ◌∙◌, subst, arith}
use Rattle.std.specs.Prelude.{All}
use Rattle.tc_model.specs.declared.board.Halt.TheVariants.{Full}
use Rattle.tc_model.specs.Run.{World}
use Rattle.relay.specs.Ends.{IsRun}
use Rattle.tcreplay.proofs.WorkerFacts.{many_locals, parts_left}
use Rattle.tcreplay.proofs.workers.run_under_part_locks.Goals as goal

pub run_all-requires-clause-few : goal.run_all-requires-clause-few
run_all-requires-clause-few g c κs within = grind (arith)

pub gathered-requires-clause-run : goal.gathered-requires-clause-run
gathered-requires-clause-run g c = grind (arith)

pub returns-clause-options : goal.returns-clause-options
returns-clause-options g c = grind (arith)

pub returns-clause-left : goal.returns-clause-left
returns-clause-left g c =
    let rules = g.M.Allocator.rules_of c.args.state.options in
    let left = c.in-Some.left in
    let input = c.args.state.input in
    let picks = left.order.items in
    let ruled = subst (λ q. IsRun q left.closed.parts.items left.locals.items left.order.items) c.split-machine.ensures.rules c.in-Some.ensures.run in
    let same = ap (λ n. g.M.Allocator.input n) c.in-Some.ensures.machine ∙ c.split-machine.ensures.input in
    let full = λ (is : left.halt ≡ Some Full). c.in-Some.ensures.full is ∙ c.requires.events in
    let many = sym (ap (λ (w : World g.row.M-Part.Denot g.row.M-Local.Denot). length w.locals) c.split-machine.ensures.start) ∙ c.split-machine.ensures.all in
    let each = c.in-Some.ensures.lasts.many ∙ (ap length ruled.locals_are ∙ many_locals rules input picks many) in
    let ended = λ (none : left.halt ≡ None).
    (let over = subst (λ q. All (λ l. q.want l ≡ None) left.locals.items) c.split-machine.ensures.rules (c.in-Some.ensures.ended none) in
    subst (All (λ l. (rules input).want l ≡ None)) ruled.locals_are over) in
    parts_left rules c.gathered.result (λ x. x.state) (λ x. x.locks) (λ x. x.lasts.items) (λ x. x.halt)
    input (g.M.Allocator.input left.closed.machine) left.order.items left.lasts.items left.halt
    same ruled.polite c.in-Some.ensures.halt c.in-Some.ensures.lasts.over full each ended
    c.gathered.ensures.input c.gathered.ensures.order c.gathered.ensures.locks c.gathered.ensures.lasts c.gathered.ensures.halt c.gathered.ensures.enough
