use Rattle.std.proofs.Common.{◌≤◌, sym, subst, map, take, ⊎_elim, arith}
use Rattle.std.proofs.lemmas.List.{take_all}
use Rattle.tc_model.specs.Rises.{Has, Rising, ticket_of}
use Rattle.merge_journal.specs.Placed.{all_in}
use Rattle.merge_journal.proofs.Placed.{next_list, list_at, more_has, row_at}
use Rattle.merge_journal.proofs.threads.places_for.Goals as goal

pub places_of-requires : goal.places_of-requires
places_of-requires c =
    let at = list_at (λ v. v.items) c.args.lists.now c.loop-list.list-index c.list-item.result c.loop-list-test.true c.list-item.is in
    record { rises = subst (Rising ticket_of) (sym c.deref.ensures.value) (c.requires.apart.rise c.loop-list.list-index c.list-item.result.items at) }

pub loop-list-preserved : goal.loop-list-preserved
loop-list-preserved c =
    let lists = c.args.lists.now in let i = c.loop-list.list-index in let v = c.list-item.result in
    let at = list_at (λ v. v.items) lists i v c.loop-list-test.true c.list-item.is in
    let next = next_list (λ v. v.items) lists i v c.loop-list-test.true c.list-item.is in
    let old : c.loop-list.places ≤ c.max-places.result = grind (arith, c.max-places.ensures) in
    let new : c.places_of.result ≤ c.max-places.result = grind (arith, c.max-places.ensures) in (
      (λ e h. ⊎_elim (λ (l : Has (all_in (map (λ v. v.items) (take i lists))) e). let low = c.loop-list.invariant.0 e l in omega arith)
          (λ (r : Has v.items e). let low = c.places_of.ensures.enough e (subst (λ l. Has l e) (sym c.deref.ensures.value) r) in omega arith)
          (more_has (map (λ v. v.items) (take i lists)) v.items e (rw next at h))),
      (λ most below.
          let before = c.loop-list.invariant.1 most below in
          let here = c.places_of.ensures.least most (λ e h. below e (row_at (map (λ v. v.items) lists) i v.items e at (subst (λ l. Has l e) c.deref.ensures.value h))) in
          grind (arith, c.max-places.ensures)),
    )

pub returns-clause-enough : goal.returns-clause-enough
returns-clause-enough c = λ e h. c.loop-list.invariant.0 e (rw (take_all c.loop-list.list-index c.args.lists.now c.loop-list-test.false) h)
