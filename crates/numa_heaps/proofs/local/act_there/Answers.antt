use Rattle.std.proofs.Common.{◌≡◌, true, false, [], length, sym, ap, ◌∙◌, arith}
use Rattle.std.proofs.lemmas.List.{length-map}
use Rattle.tc_model.specs.Heads.{default_config}
use Rattle.tc_model.specs.Input.{Asked}
use Rattle.alloc_rules.specs.Machine.{waits}
use Rattle.numa_heaps.proofs.Acting.{moved_act, waiting, moving}
use Rattle.numa_heaps.proofs.local.act_there.Goals as goal

-- the act doesn't depend on what is asked
nothing : Asked
nothing = record { config = default_config; calls = [] }

pub returns-in-NotYet-clause-change : goal.returns-in-NotYet-clause-change
returns-in-NotYet-clause-change c =
    let act = c.in_ok-act_at.ensures in
    let stays : waits c.args.part.now c.args.inner.now ≡ true = waiting (waits c.args.part.now c.args.inner.now) (sym c.in-NotYet.is ∙ act.answer) in
    (stays, rw stays at (act.part nothing), rw stays at (act.local nothing))

pub overflow_sub-ended : goal.overflow_sub-ended
overflow_sub-ended c =
    let act = c.in_ok-act_at.ensures in
    let one = moved_act c.args.setting.now.table c.args.part.now c.args.inner.now c.in-Moved.is act.answer (act.local nothing) c.requires.goes in
    omega (arith, one.rises, c.done.ensures, c.done-ended.ensures)

pub told_behind-told-requires-clause-few : goal.told_behind-told-requires-clause-few
told_behind-told-requires-clause-few c =
    let act = c.in_ok-act_at.ensures in
    let one = moved_act c.args.setting.now.table c.args.part.now c.args.inner.now c.in-Moved.is act.answer (act.local nothing) c.requires.goes in
    omega (arith, one.few, simp length-map at (ap length c.answers.ensures.answers))

pub told_behind-told-requires-clause-low : goal.told_behind-told-requires-clause-low
told_behind-told-requires-clause-low c =
    let act = c.in_ok-act_at.ensures in
    let one = moved_act c.args.setting.now.table c.args.part.now c.args.inner.now c.in-Moved.is act.answer (act.local nothing) c.requires.goes in
    rw (simp length-map at (ap length c.answers.ensures.answers)) one.low

pub returns-in-Moved-clause-change : goal.returns-in-Moved-clause-change
returns-in-Moved-clause-change c =
    let act = c.in_ok-act_at.ensures in
    let one = moved_act c.args.setting.now.table c.args.part.now c.args.inner.now c.in-Moved.is act.answer (act.local nothing) c.requires.goes in
    let goes : waits c.args.part.now c.args.inner.now ≡ false = moving (waits c.args.part.now c.args.inner.now) (sym c.in-Moved.is ∙ act.answer) in
    record {
      goes = goes;
      part = rw goes at (act.part nothing);
      local = rw goes at (act.local nothing);
      ended = omega (arith, one.rises, c.done.ensures, c.done-ended.ensures);
      one = omega (arith, one.next, c.done.ensures, c.done-ended.ensures);
      told = rw (simp length-map at (ap length c.answers.ensures.answers)) at c.told_behind-told.ensures;
    }
