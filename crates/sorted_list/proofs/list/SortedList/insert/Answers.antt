use Rattle.std.proofs.Common.{length, ap, sym, arith}
use Rattle.sorted_list.proofs.Common.{nat_tests, slice_get_read, Contents}
use Rattle.sorted_list.proofs.Moves.{written, came}
use Rattle.sorted_list.proofs.Slots.{slot_fits}
use Rattle.sorted_list.proofs.list.SortedList.insert.Goals as goal

pub index_mut-requires : goal.index_mut-requires
index_mut-requires g c =
    let order = c.self.inside.order.items in
    omega (arith, slot_fits order (length c.self.inside.slots.items) c.self.invariant.once c.self.inside.len c.index-slot.result.now (omega (arith, ap (λ (v : Contents g.row.K.Denot). v.spare) c.self.view_is, c.requires)) (sym c.index-slot.ensures), c.self.inside.slots.ok.0)

pub turn-requires-clause-held : goal.turn-requires-clause-held
turn-requires-clause-held g c = grind (arith, nat_tests, slice_get_read)

pub invariant_of-self : goal.invariant_of-self
invariant_of-self g c =
    let order = c.self.inside.order.items in
    let view = c.self.view_is in
    let back = written c.self.inside.order.len order c.deref_mut.result.now c.turn.new.order c.self.inside.len _ c.index-slot.result.now c.deref_mut.ensures.len
    c.deref_mut.ensures.value c.turn.ensures.len c.turn.ensures.after in
    (came g.K.SortKey.before g.met.K.SortKey.order g.K.SortKey.sample c.self.inside.slots.items order c.self.inside.len c.self.invariant c.args.self.now.keys
    (ap (λ (v : Contents g.row.K.Denot). v.keys) view) c.args.key c.place-place.result c.index-slot.result.now _ c.place-place.ensures.order c.place-place.ensures.place
    (omega (arith, ap (λ (v : Contents g.row.K.Denot). v.spare) view, c.requires)) c.index-slot.ensures back).0

pub returns-clause-keys : goal.returns-clause-keys
returns-clause-keys g c =
    let order = c.self.inside.order.items in
    let view = c.self.view_is in
    let back = written c.self.inside.order.len order c.deref_mut.result.now c.turn.new.order c.self.inside.len _ c.index-slot.result.now c.deref_mut.ensures.len
    c.deref_mut.ensures.value c.turn.ensures.len c.turn.ensures.after in
    (came g.K.SortKey.before g.met.K.SortKey.order g.K.SortKey.sample c.self.inside.slots.items order c.self.inside.len c.self.invariant c.args.self.now.keys
    (ap (λ (v : Contents g.row.K.Denot). v.keys) view) c.args.key c.place-place.result c.index-slot.result.now _ c.place-place.ensures.order c.place-place.ensures.place
    (omega (arith, ap (λ (v : Contents g.row.K.Denot). v.spare) view, c.requires)) c.index-slot.ensures back).1

pub returns-clause-held : goal.returns-clause-held
returns-clause-held g c =
    let order = c.self.inside.order.items in
    let view = c.self.view_is in
    let back = written c.self.inside.order.len order c.deref_mut.result.now c.turn.new.order c.self.inside.len _ c.index-slot.result.now c.deref_mut.ensures.len
    c.deref_mut.ensures.value c.turn.ensures.len c.turn.ensures.after in
    (came g.K.SortKey.before g.met.K.SortKey.order g.K.SortKey.sample c.self.inside.slots.items order c.self.inside.len c.self.invariant c.args.self.now.keys
    (ap (λ (v : Contents g.row.K.Denot). v.keys) view) c.args.key c.place-place.result c.index-slot.result.now _ c.place-place.ensures.order c.place-place.ensures.place
    (omega (arith, ap (λ (v : Contents g.row.K.Denot). v.spare) view, c.requires)) c.index-slot.ensures back).2
