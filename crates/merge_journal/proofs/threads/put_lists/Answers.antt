use Rattle.std.proofs.Common.{◌∙◌, refl, subst, map, take, length, arith}
use Rattle.std.proofs.lemmas.List.Sums.{sum_by_more}
use Rattle.tc_model.specs.Rises.{Has}
use Rattle.merge_journal.proofs.Placed.{next_list, list_at, next_put, row_at}
use Rattle.merge_journal.proofs.threads.put_lists.Goals as goal

pub put_list-requires : goal.put_list-requires
put_list-requires g c =
    let lists = c.args.lists.now in let i = c.loop-list.list-index in
    let at = list_at (λ v. v.items) lists i c.list-item.result c.loop-list-test.true c.list-item.is in
    record {
      tickets = λ e h.
          let low = c.requires.tickets e (row_at (map (λ v. v.items) lists) i c.list-item.result.items e at (subst (λ l. Has l e) c.deref.ensures.value h)) in
          omega (arith, low, c.loop-list.auto.placed);
    }

pub loop-list-preserved : goal.loop-list-preserved
loop-list-preserved g c =
    let lists = c.args.lists.now in let i = c.loop-list.list-index in let v = c.list-item.result in
    let next = next_list (λ v. v.items) lists i v c.loop-list-test.true c.list-item.is in
    let put = next_put c.args.placed.now (map (λ v. v.items) (take i lists)) v.items in
    let more = sum_by_more (λ v. length v.items) lists i v c.loop-list-test.true in
    (c.put_list.ensures.placed ∙ rw (c.loop-list.invariant.0, c.deref.ensures.value, next, put) refl, c.put_list.ensures.counted ∙ rw (c.loop-list.invariant.1, c.deref.ensures.value, more, ← c.list-item.is) (omega arith))
