use Rattle.std.proofs.Common.{refl, subst, arith}
use Rattle.replay_workers.specs.Runs.{patience, Ran, HasRun}
use Rattle.replay_workers.proofs.Places.{each_snoc}
use Rattle.replay_workers.proofs.Steps.{ran_none, run_behind}
use Rattle.replay_workers.proofs.run.+workers.Goals as goal

pub returns-in-Ok-clause-each : goal.returns-in-Ok-clause-each
returns-in-Ok-clause-each g t c =
    let b = c.args.board.now in let Has = HasRun (g.B.Board.turns b) (g.B.Board.thread_of b) (g.B.Board.fits b) patience in
    let r = c.run_in-workers in let came = subst (λ w. Has w c.come.result) c.in-Ok.ensures.ok.1 c.come.ensures in
    each_snoc Has c.pop.new.self.items r.result.items _ _ c.in-Some.worker c.come.result c.in-Some.ensures.items c.push_reserved.ensures.items r.ensures.long came r.ensures.each

pub returns-in-Err-clause-each : goal.returns-in-Err-clause-each
returns-in-Err-clause-each g t c = λ i d h.
    let b = c.args.board.now in let turns = g.B.Board.turns b in let thread_of = g.B.Board.thread_of b in
    let rest = c.pop.new.self.items in let p = c.push_reserved-in-Err in
    let ran = each_snoc (Ran turns thread_of) rest rest _ _ c.in-Some.worker c.in-Err.worker c.in-Some.ensures.items p.ensures.items refl c.in-Err.ensures.err.0 (λ k e less. ran_none turns thread_of _) i d h in
    run_behind turns thread_of (g.B.Board.fits b) patience _ _ _ ran (c.run_here-in-Err.ensures.each i d (omega (arith, c.in-Some.ensures.len, p.ensures.len)))
