use Rattle.std.proofs.Common.{ℕ, ◌≡◌, ◌+◌, ◌<◌, ◌∙◌, ap, sym, subst, map, length, replicate, arith, None}
use Rattle.std.proofs.lemmas.List.{length-replicate}
use Rattle.std.proofs.lemmas.Result.{IfOk-weaker, on_ok_weaker}
use Rattle.std.proofs.lemmas.Grind.{common_steps}
use Rattle.tc_model.specs.declared.board.Entry.{Entry}
use Rattle.tc_model.specs.Rises.{Stands}
use Rattle.merge_journal.specs.Placed.{put_all, all_in, threads_among}
use Rattle.merge_journal.specs.Threads.{AreMerged}
use Rattle.merge_journal.proofs.Placed.{row_from, put_all_length, merged_by}
use Rattle.merge_journal.proofs.threads.merge_threads_counted.Goals as goal

pub put_lists-requires : goal.put_lists-requires
put_lists-requires g c =
    let long = ap length c.deref_mut.ensures.value ∙ (ap length c.in_ok-placed.ensures ∙ length-replicate c.places_for.result None) in
    record {
      tickets = λ e h.
          let low = c.places_for.ensures.enough e h in
          omega (arith, low, long);
    }

pub returns-clause-merged : goal.returns-clause-merged
returns-clause-merged g c =
    let lists = map (λ v. v.items) c.args.lists.now in
    let merged = merged_by lists c.places_for.result c.requires.apart c.places_for.ensures.enough in
    let here : c.deref.result.now ≡ put_all (replicate c.places_for.result None) (all_in lists) = grind (arith, common_steps) in
    IfOk-weaker _ _ _ (λ threads is. subst (AreMerged lists) (sym (is ∙ ap threads_among here)) merged) c.threads_of.ensures.threads

pub returns-clause-cost : goal.returns-clause-cost
returns-clause-cost g c =
    let lists = map (λ v. v.items) c.args.lists.now in on_ok_weaker c.threads_of.result
    (λ (counted : c.threads_of.new.steps ≡ c.put_lists.new.steps + length c.deref.result.now) (most : ℕ) (below : (e : Entry) → Stands lists e → e.ticket < most).
    let few = c.places_for.ensures.least most (λ e h. below e (row_from lists e h)) in
    let here : c.deref.result.now ≡ put_all (replicate c.places_for.result None) (all_in lists) = grind (arith, common_steps) in
    let long = ap length here ∙ (put_all_length (all_in lists) (replicate c.places_for.result None) ∙ length-replicate c.places_for.result None) in
    omega (arith, counted, few, long, c.put_lists.ensures.counted)) c.threads_of.ensures.counted
