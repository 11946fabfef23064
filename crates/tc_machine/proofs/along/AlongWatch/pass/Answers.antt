use Rattle.tc_machine.proofs.AlongFacts.{heard_here, heard_so, told_more, told_none}
use Rattle.tc_machine.proofs.along.AlongWatch.pass.Goals as goal

pub hear-requires : goal.hear-requires
hear-requires g c =
    let next = g.met.M.Decides.tells_next c.args._machine.now c.args._order.now c.args.thread c.requires.order in
    record { may = heard_so c.requires.behind c.requires.order next c.requires.local c.index_mut-before.ensures.value c.decided-decided.ensures c.if-decided-before.true c.last_line.ensures c.args.self.now.heard c.requires.behind.so_far }

pub returns-then-decided-before-clause-behind : goal.returns-then-decided-before-clause-behind
returns-then-decided-before-clause-behind g c =
    let m = c.args._machine.now in
    let next = g.met.M.Decides.tells_next m c.args._order.now c.args.thread c.requires.order in
    let lines = (g.M.Allocator.told (g.M.Allocator.options m) (g.M.Allocator.input m) c.args._order.now).calls in
    let here = heard_here c.requires.behind c.requires.order next c.requires.local c.index_mut-before.ensures.value c.decided-decided.ensures c.if-decided-before.true c.last_line.ensures c.args.self.now.heard c.requires.behind.so_far in
    rw (c.hear.ensures.first, c.hear.ensures.decided)
    (told_more c.requires.behind c.requires.order next c.requires.local c.index_mut-before.ensures.value c.decided-decided.ensures c.if-decided-before.true c.last_line.ensures (c.hear.ensures.heard lines here))

pub returns-else-decided-before-clause-behind : goal.returns-else-decided-before-clause-behind
returns-else-decided-before-clause-behind g c =
    let next = g.met.M.Decides.tells_next c.args._machine.now c.args._order.now c.args.thread c.requires.order in
    told_none c.requires.behind c.requires.order next c.requires.local c.index_mut-before.ensures.value c.decided-decided.ensures c.if-decided-before.false
