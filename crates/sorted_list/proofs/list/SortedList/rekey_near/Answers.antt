use Rattle.std.proofs.Common.{rules, ◌≡◌, ◌-◌, length, ap, sym, ◌∙◌, arith}
use Rattle.sorted_list.proofs.Common.{nat_tests, slice_get, slice_get_read, slice_get_within, Contents}
use Rattle.sorted_list.proofs.Moves.{landing, landing_up, landing_down, written, changed}
use Rattle.sorted_list.proofs.Slots.{slot_fits, keys_len}
use Rattle.sorted_list.proofs.list.SortedList.rekey_near.Goals as goal

pub index_mut-requires : goal.index_mut-requires
index_mut-requires g c =
    let order = c.self.inside.order.items in
    let held = slice_get_within c.args.self.now.keys c.find-place.result c.args.from c.find-place.ensures in
    let size = keys_len g.K.SortKey.sample c.self.inside.slots.items order c.self.inside.len c.self.invariant.within in
    let same = ap (λ (v : Contents g.row.K.Denot). length v.keys) c.self.view_is in
    omega (arith, slot_fits order (length c.self.inside.slots.items) c.self.invariant.once c.find-place.result c.index-slot.result.now (omega (arith, held, c.self.invariant.within)) (sym c.index-slot.ensures), c.self.inside.slots.ok.0)

pub turn-requires-clause-held : goal.turn-requires-clause-held
turn-requires-clause-held g c = grind (arith, nat_tests, slice_get_read, keys_len, slice_get_within)

pub invariant_of-self : goal.invariant_of-self
invariant_of-self g c =
    let order = c.self.inside.order.items in
    let back = written c.self.inside.order.len order c.deref_mut.result.now c.turn.new.order c.find-place.result _ c.index-slot.result.now
    c.deref_mut.ensures.len c.deref_mut.ensures.value c.turn.ensures.len c.turn.ensures.after in
    (changed g.K.SortKey.before g.met.K.SortKey.order g.K.SortKey.sample c.self.inside.slots.items order c.self.inside.len c.self.invariant c.args.self.now.keys
    (ap (λ (v : Contents g.row.K.Denot). v.keys) c.self.view_is) c.args.from c.args.to c.find-place.result c.place_from-target.result c.index-slot.result.now _
    c.place_from-target.ensures.order c.find-place.ensures c.place_from-target.ensures.place c.index-slot.ensures back).0

pub returns : goal.returns
returns g c =
    let order = c.self.inside.order.items in
    let back = written c.self.inside.order.len order c.deref_mut.result.now c.turn.new.order c.find-place.result _ c.index-slot.result.now
    c.deref_mut.ensures.len c.deref_mut.ensures.value c.turn.ensures.len c.turn.ensures.after in
    let all =
    changed g.K.SortKey.before g.met.K.SortKey.order g.K.SortKey.sample c.self.inside.slots.items order c.self.inside.len c.self.invariant c.args.self.now.keys
    (ap (λ (v : Contents g.row.K.Denot). v.keys) c.self.view_is) c.args.from c.args.to c.find-place.result c.place_from-target.result c.index-slot.result.now _
    c.place_from-target.ensures.order c.find-place.ensures c.place_from-target.ensures.place c.index-slot.ensures back in
    let there : landing c.find-place.result c.place_from-target.result ≡ c.place_from-target.result - c.from.result = grind (arith, nat_tests, landing_up, landing_down) in
    record { keys = all.1; held = all.2; spare = search rules; placed = ap (slice_get _) (sym there) ∙ all.3 }
