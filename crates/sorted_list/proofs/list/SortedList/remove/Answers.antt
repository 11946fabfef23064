use Rattle.sorted_list.proofs.Common.{nat_tests, Contents}
use Rattle.std.proofs.Common.{arith, ap}
use Rattle.sorted_list.proofs.Moves.{written, left}
use Rattle.sorted_list.proofs.list.SortedList.remove.Goals as goal

pub invariant_of-self : goal.invariant_of-self
invariant_of-self g c =
    let before = g.K.SortKey.before in
    let slots = c.self.inside.slots.items in
    let order = c.self.inside.order.items in
    let len = c.self.inside.len in
    let slot = c.index-slot.result.now in
    let same = ap (λ (v : Contents g.row.K.Denot). v.keys) c.self.view_is in
    let back = written c.self.inside.order.len order c.deref_mut.result.now c.turn.new.order c.place-place.result _ slot c.deref_mut.ensures.len c.deref_mut.ensures.value c.turn.ensures.len c.turn.ensures.after in
    (left before g.met.K.SortKey.order g.K.SortKey.sample slots order len c.self.invariant c.args.self.now.keys same c.args.key c.place-place.result slot _ c.place-place.ensures.order c.place-place.ensures.place c.requires c.index-slot.ensures back).0

pub returns-clause-keys : goal.returns-clause-keys
returns-clause-keys g c = grind (arith, nat_tests, written, left)
