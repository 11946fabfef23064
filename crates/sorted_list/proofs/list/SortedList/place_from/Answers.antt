use Rattle.std.proofs.Common.{ap, sym, ◌∙◌, arith}
use Rattle.sorted_list.proofs.Common.{get_or_from_slice_get, slice_get_within}
use Rattle.sorted_list.proofs.Halving.{all_before, none_behind}
use Rattle.sorted_list.proofs.list.SortedList.place_from.Goals as goal

pub later-requires-clause-within : goal.later-requires-clause-within
later-requires-clause-within g c = omega (arith, slice_get_within c.args.self.now.keys c.args.place c.args.from c.requires)

pub later-requires-clause-early : goal.later-requires-clause-early
later-requires-clause-early g c i d early =
    let keys = c.args.self.now.keys in
    all_before g.K.SortKey.before g.met.K.SortKey.order keys c.len-len.ensures.order c.args.key c.args.place (slice_get_within keys c.args.place c.args.from c.requires)
    (λ (e : g.row.K.Denot). ap (λ (k : g.row.K.Denot). g.K.SortKey.before k c.args.key) (get_or_from_slice_get keys c.args.place c.args.from e c.requires) ∙ sym c.comes_before.ensures ∙ c.if-comes_before.true) i d (omega arith)

pub earlier-requires-clause-behind : goal.earlier-requires-clause-behind
earlier-requires-clause-behind g c =
    let keys = c.args.self.now.keys in
    none_behind g.K.SortKey.before g.met.K.SortKey.order keys c.len-len.ensures.order c.args.key c.args.place
    (λ (e : g.row.K.Denot). ap (λ (k : g.row.K.Denot). g.K.SortKey.before k c.args.key) (get_or_from_slice_get keys c.args.place c.args.from e c.requires) ∙ sym c.comes_before.ensures ∙ c.if-comes_before.false)
