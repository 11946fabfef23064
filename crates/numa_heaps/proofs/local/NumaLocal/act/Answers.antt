use Rattle.std.proofs.Common.{None, sym, ap, ◌∙◌}
use Rattle.std.proofs.lemmas.List.{append-nil}
use Rattle.tc_model.specs.Steps.{acted}
use Rattle.tc_model.proofs.Lists.{set_there}
use Rattle.node_rules.specs.Beside.{Beside}
use Rattle.numa_heaps.specs.Local.{IsChange, IsGone}
use Rattle.node_rules.specs.Numa.{NodeLocal, NodePart}
use Rattle.node_rules.specs.NumaLaw.{waits_now}
use Rattle.numa_heaps.proofs.Acting.{IsAt, at_node, stays, leaves, no_change}
use Rattle.numa_heaps.proofs.local.NumaLocal.act.Goals as goal
use Rattle.numa_heaps.proofs.local.NumaLocal.act.Goals.{in-Some-told, in_default-told}

-- where the act moves
at : (c : goal.After-self-3-1) → IsAt c.self.inside c.args.self.now c.from.result c.index_mut-inner.result.now
at c = at_node c.self.inside c.self.view_is c.requires c.in-Some.is c.node.ensures c.from.ensures c.index_mut-inner.ensures.value

gone : (c : goal.After-self-3-1) → (let s = c.self.inside in let new = c.act_there.new in
    IsGone c.args.setting.now c.from.result s.acts c.args.part.now c.index_mut-inner.result.now new.part new.inner c.in-Some-2.change)
gone c = rw c.from.ensures (rw c.in-Some-2.is at c.in_ok-change.ensures.change)

pub returns-clause-part : goal.returns-clause-part
returns-clause-part c nodes input same =
    sym (ap (λ (x : NodePart × Beside NodeLocal). x.0) (leaves nodes input c.args.part.now (at c) same (gone c)))

pub returns-clause-local : goal.returns-clause-local
returns-clause-local c nodes input same =
    let left = sym (ap (λ (x : NodePart × Beside NodeLocal). x.1) (leaves nodes input c.args.part.now (at c) same (gone c))) in
    elim c.match-change.branch [
      | in-Some-told w ↦ rw (w.self-inside-is, w.push_reserved.ensures.items, c.reserve.ensures.items) (rw w.in-Some-told.is at left)
      | in_default-told w ↦ rw (w.self-inside-is, c.reserve.ensures.items) (rw (w.in_default-told.is, append-nil c.self.inside.answers.items) at left)
    ]

pub returns-clause-answer : goal.returns-clause-answer
returns-clause-answer c = sym (ap acted (ap (waits_now c.args.part.now) (at c).now ∙ (gone c).goes))

-- and where it waits
at_still : (c : goal.In_default-2) → IsAt c.self.inside c.args.self.now c.from.result c.index_mut-inner.result.now
at_still c = at_node c.self.inside c.self.view_is c.requires c.in-Some.is c.node.ensures c.from.ensures c.index_mut-inner.ensures.value

still : (c : goal.In_default-2) → (let s = c.self.inside in let new = c.act_there.new in
    IsChange c.args.setting.now c.in-Some.node.0 s.acts c.args.part.now c.index_mut-inner.result.now new.part new.inner None)
still c = rw (no_change c.in_ok-change.field-0 c.in_default-2.not-Some) at c.in_ok-change.ensures.change

pub returns-in_default-2-clause-local : goal.returns-in_default-2-clause-local
returns-in_default-2-clause-local c nodes input same =
    let same_here = set_there c.self.inside.here.items c.from.result c.index_mut-inner.result.now (at_still c).here in
    let left = sym (ap (λ (x : NodePart × Beside NodeLocal). x.1) (stays nodes input c.args.part.now (at_still c) (still c).0)) in
    rw ((still c).2, same_here, c.reserve.ensures.items) left

pub returns-in_default-2-clause-answer : goal.returns-in_default-2-clause-answer
returns-in_default-2-clause-answer c = sym (ap acted (ap (waits_now c.args.part.now) (at_still c).now ∙ (still c).0))
