use Rattle.std.proofs.Common.{length, sym, arith}
use Rattle.sorted_list.proofs.Common.{slice_get_read}
use Rattle.sorted_list.proofs.Changes.{held_at}
use Rattle.sorted_list.proofs.list.SortedList.find.Goals as goal

pub returns : goal.returns
returns g c =
    let keys = c.args.self.now.keys in
    let here = held_at g.K.SortKey.before g.met.K.SortKey.order keys c.args.key c.place_near.result c.place_near.ensures.order c.place_near.ensures.place c.requires in
    slice_get_read keys (length keys) c.place_near.result c.args.key (omega arith) here.0 (sym here.1)
