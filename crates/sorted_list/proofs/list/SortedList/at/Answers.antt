use Rattle.std.proofs.Common.{◌<◌, length, ap, sym, ◌∙◌, arith}
use Rattle.sorted_list.proofs.Common.{slice_get, Contents}
use Rattle.sorted_list.proofs.Slots.{slot_fits, key_at, keys_len}
use Rattle.sorted_list.proofs.list.SortedList.at.Goals as goal

pub index-requires-2 : goal.index-requires-2
index-requires-2 g c =
    let slots = c.self.inside.slots.items in
    let order = c.self.inside.order.items in
    let inside : c.args.place < c.self.inside.len = omega (arith, keys_len g.K.SortKey.sample slots order c.self.inside.len c.self.invariant.within, ap (λ (v : Contents g.row.K.Denot). length v.keys) c.self.view_is, c.requires) in
    omega (arith, slot_fits order (length slots) c.self.invariant.once c.args.place c.index.result.now (omega (arith, c.self.invariant.within)) (sym c.index.ensures), c.self.inside.slots.ok.0)

pub returns : goal.returns
returns g c =
    let slots = c.self.inside.slots.items in
    let order = c.self.inside.order.items in
    let inside : c.args.place < c.self.inside.len = omega (arith, keys_len g.K.SortKey.sample slots order c.self.inside.len c.self.invariant.within, ap (λ (v : Contents g.row.K.Denot). length v.keys) c.self.view_is, c.requires) in
    let fits = slot_fits order (length slots) c.self.invariant.once c.args.place c.index.result.now (omega (arith, c.self.invariant.within)) (sym c.index.ensures) in
    ap (λ (v : Contents g.row.K.Denot). slice_get v.keys c.args.place) (sym c.self.view_is)
    ∙ key_at g.K.SortKey.sample slots order c.self.inside.len c.args.place c.index.result.now c.index-2.result.now inside c.self.invariant.within c.index.ensures fits c.index-2.ensures
