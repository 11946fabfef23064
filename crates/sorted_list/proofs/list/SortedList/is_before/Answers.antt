use Rattle.std.proofs.Common.{ap, sym, ◌∙◌, arith}
use Rattle.sorted_list.proofs.Common.{get_or_from_slice_get}
use Rattle.sorted_list.proofs.Halving.{all_before, none_behind}
use Rattle.sorted_list.proofs.list.SortedList.is_before.Goals as goal

pub returns-clause-early : goal.returns-clause-early
returns-clause-early g c is i d early =
    let keys = c.args.self.now.keys in
    all_before g.K.SortKey.before g.met.K.SortKey.order keys c.len-len.ensures.order c.args.key c.args.place c.requires
    (λ (e : g.row.K.Denot). ap (λ (k : g.row.K.Denot). g.K.SortKey.before k c.args.key) (get_or_from_slice_get keys c.args.place c.at.result e c.at.ensures) ∙ sym c.comes_before.ensures ∙ is) i d (omega arith)

pub returns-clause-behind : goal.returns-clause-behind
returns-clause-behind g c is =
    let keys = c.args.self.now.keys in
    none_behind g.K.SortKey.before g.met.K.SortKey.order keys c.len-len.ensures.order c.args.key c.args.place
    (λ (e : g.row.K.Denot). ap (λ (k : g.row.K.Denot). g.K.SortKey.before k c.args.key) (get_or_from_slice_get keys c.args.place c.at.result e c.at.ensures) ∙ sym c.comes_before.ensures ∙ is)
