use Rattle.std.proofs.Common.{ap, ◌∙◌}
use Rattle.tc_model.specs.Run.{run}
use Rattle.tc_model.specs.Replays.{done_in}
use Rattle.cpu_rows.specs.Machine.{rules}
use Rattle.world_lock.proofs.board.WorldBoardBoard.turn.Goals as goal

pub returns-clause-turned : goal.returns-clause-turned
returns-clause-turned g c =
    let locked = c.deref_mut.result.now in
    let thread = c.args.hand.now.thread.0 in
    let turned = c.turn_at.ensures in (
      turned.thread,
      record {
        order = locked.order;
        halt = locked.halt;
        polite = turned.polite;
        halted = turned.halted;
        turned = turned.answer;
        done_is = turned.done ∙ ap (λ order. done_in (rules g.N.Named.input) (run (rules g.N.Named.input) order) thread) turned.order;
      },
    )
