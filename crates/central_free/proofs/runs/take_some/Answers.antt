use Rattle.std.proofs.Common.{◌≡◌, ℕ, ◌+◌, suc, ◌<◌, sym, ap, subst, arith}
use Rattle.std.specs.Option.{is_some}
use Rattle.tc_units.specs.Bag.{Contents}
use Rattle.tc_units.specs.declared.units.Addr.{Addr}
use Rattle.span_list.specs.Span.{free_count}
use Rattle.central_free.proofs.RunFacts.{IsGiving, IsGiving-none, IsGiving-more, run_counts}
use Rattle.central_free.proofs.runs.take_some.Goals as goal
use Rattle.central_free.proofs.runs.take_some.Goals.{in-Some, in_default}

pub loop-came-init : goal.loop-came-init
loop-came-init c = IsGiving-none c.args.span.now c.args.out.now

pub push-requires : goal.push-requires
push-requires c = omega (arith, c.loop-came.invariant.spare)

pub loop-came-preserved : goal.loop-came-preserved
loop-came-preserved c =
    let k = c.loop-came._came in
    let counts = run_counts k c.args.span.now (omega (arith, c.min-count.ensures, c.free.ensures)) in
    let some : 0 < free_count c.loop-came.span = omega (arith, counts, ap free_count c.loop-came.invariant.is, c.min-count.ensures, c.free.ensures) in
    let next : suc k ≡ k + 1 = omega arith in
    let P : ℕ → Type 0 = IsGiving c.args.span.now c.args.out.now c.take.new.self c.match-take.out in
    let Q : Contents Addr → Type 0 = λ b. IsGiving c.args.span.now c.args.out.now c.take.new.self b (suc k) in
    subst P next (elim c.match-take.branch [
      | in-Some w ↦ subst Q (sym w.out-is) (IsGiving-more c.loop-came.invariant c.take.new.self w.push.new.self w.in-Some.object
          w.in-Some.ensures.taken c.take.ensures.after w.in-Some.ensures.given w.in-Some.ensures.fresh c.take.ensures.kept w.push.ensures.items w.push.ensures.spare w.in-Some.ensures.moves)
      | in_default w ↦ absurd (omega (arith, c.take.ensures.none.0 (ap is_some w.in_default.is)))
    ])
