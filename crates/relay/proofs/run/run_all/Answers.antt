use Rattle.std.proofs.Common.{◌≡◌, ℕ, All, None, map, length, sym, ap, ◌∙◌, subst}
use Rattle.std.proofs.lemmas.List.Elements.{All-map}
use Rattle.replay_workers.specs.Runs.{halt_of, halt_among, lasts_of}
use Rattle.part_lock.specs.Lock.{entry_of}
use Rattle.relay.proofs.Overs.{all_say, all_ended, all_used, causes_of, lasts_are}
use Rattle.std.proofs.lemmas.List.{length-map}
use Rattle.std.proofs.Common.{arith}
use Rattle.tc_model.specs.Rises.{AreApart}
use Rattle.merge_journal.specs.Threads.{AreMerged}
use Rattle.part_lock.specs.Joins.{numbers, lead_of, all_joined, Turned, Fit}
use Rattle.relay.proofs.Wholes.{few_of, many, all_there, length_numbers, threads_stay, map_both, whole}
use Rattle.relay.specs.Ends.{IsRun}
use Rattle.relay.proofs.run.run_all.Goals as goal

pub run_workers-workers-requires-clause-ready : goal.run_workers-workers-requires-clause-ready
run_workers-workers-requires-clause-ready g c κs within = c.in-Ok-seat_all.ensures.ready

pub join_all-requires-clause-main : goal.join_all-requires-clause-main
join_all-requires-clause-main g c κs within = (lead_of c.in-Ok.parts.key (numbers (length c.args.locals.items)), c.in-Ok-seat_all.ensures.main)

pub join_all-requires-clause-ran : goal.join_all-requires-clause-ran
join_all-requires-clause-ran g c κs within = (c.in-Ok-seat_all.workers.items, (sym c.run_workers-workers.ensures.long), c.in-Ok-seat_all.ensures.ready, c.run_workers-workers.ensures.each)

pub close-requires-clause-main : goal.close-requires-clause-main
close-requires-clause-main g c =
    let n : ℕ = length c.args.locals.items in let m = lead_of c.in-Ok.parts.key (numbers n) in
    let before = c.in-Ok-seat_all.workers.items in let after = c.run_workers-workers.result.items in
    let j = c.in-Ok-join_all.ensures.main m c.in-Ok-seat_all.ensures.main in
    let count : length before ≡ n = sym (length-map before (λ w. w.hand.thread.0)) ∙ (ap length c.in-Ok-seat_all.ensures.threads ∙ length_numbers n) in
    (all_joined m j.works, j.main, all_there c.in-Ok.parts.key n (map (λ w. w.hand) after) j.works j.threads (length-map after (λ w. w.hand) ∙ (c.run_workers-workers.ensures.long ∙ count)))

pub merge_threads-requires : goal.merge_threads-requires
merge_threads-requires g c =
    let m = lead_of c.in-Ok.parts.key (numbers (length c.args.locals.items)) in
    let j = c.in-Ok-join_all.ensures.main m c.in-Ok-seat_all.ensures.main in
    let closed = c.in-Ok-close.ensures.closed (all_joined m j.works) j.main in
    record { apart = subst (λ l. AreApart (map (λ v. v.items) l)) (sym c.as_slice-3.ensures.value) closed.apart }

pub returns-clause-run : goal.returns-clause-run
returns-clause-run g c =
    let rules = g.M.Machine.rules in let key = c.in-Ok.parts.key in
    let n : ℕ = length c.args.locals.items in let m = lead_of key (numbers n) in
    let before = c.in-Ok-seat_all.workers.items in let after = c.run_workers-workers.result.items in
    let j = c.in-Ok-join_all.ensures.main m c.in-Ok-seat_all.ensures.main in
    let closed = c.in-Ok-close.ensures.closed (all_joined m j.works) j.main in
    let long = ap (λ x. length (rules x).locals) c.in-Ok.ensures.key.0 ∙ ap length (sym c.requires.locals) in
    let threads = j.threads ∙ (sym (threads_stay (Turned rules key) (Fit c.in-Ok.parts.table.shared.table_id key) before after (sym c.run_workers-workers.ensures.long) c.run_workers-workers.ensures.each) ∙ c.in-Ok-seat_all.ensures.threads) in
    let locals = c.in-Ok-join_all.ensures.locals ∙ (sym (map_both (λ w. w.hand) (λ h. h.local) after) ∙ sym j.locals) in
    let merged = subst (λ l. AreMerged (map (λ v. v.items) l) c.in-Ok-merge_threads.order.items) c.as_slice-3.ensures.value c.in-Ok-merge_threads.ensures in
    subst (λ x. IsRun (rules x) c.in-Ok-close.closed.parts.items c.in-Ok-join_all.locals.items c.in-Ok-merge_threads.order.items) c.in-Ok.ensures.key.0
    (whole rules key n j.works c.in-Ok-close.closed.parts.items c.in-Ok-join_all.locals.items _ c.in-Ok-merge_threads.order.items long threads locals closed merged)

pub returns-clause-few : goal.returns-clause-few
returns-clause-few g c =
    let key = c.in-Ok.parts.key in
    let m = lead_of key (numbers (length c.args.locals.items)) in
    let j = c.in-Ok-join_all.ensures.main m c.in-Ok-seat_all.ensures.main in
    let closed = c.in-Ok-close.ensures.closed (all_joined m j.works) j.main in
    let merged = subst (λ l. AreMerged (map (λ v. v.items) l) c.in-Ok-merge_threads.order.items) c.as_slice-3.ensures.value c.in-Ok-merge_threads.ensures in
    few_of key.events c.args.events closed.acts merged (closed.merged merged.entries merged.merge) closed.few c.in-Ok.ensures.key.1

pub returns-clause-ended : goal.returns-clause-ended
returns-clause-ended g c none =
    let rules = g.M.Machine.rules in let key = c.in-Ok.parts.key in
    let after = c.run_workers-workers.result.items in
    let say = all_say rules c.in-Ok.parts.table.shared.table_id key c.in-Ok-seat_all.workers.items after (sym c.run_workers-workers.ensures.long) c.in-Ok-seat_all.ensures.ready c.in-Ok-seat_all.ensures.fresh c.run_workers-workers.ensures.each in
    let halt = sym (c.halt_of-halt.ensures ∙ ap halt_of c.as_slice.ensures.value) ∙ none in
    let ended = all_ended (rules key.machine) after c.run_workers-workers.ensures.done halt say.0 in
    let locals = subst (All (λ l. (rules key.machine).want l ≡ None)) (sym c.in-Ok-join_all.ensures.locals) (All-map (λ l. (rules key.machine).want l ≡ None) (λ w. w.hand.local) after ended) in
    subst (λ x. All (λ l. (rules x).want l ≡ None) c.in-Ok-join_all.locals.items) c.in-Ok.ensures.key.0 locals

pub returns-clause-lasts : goal.returns-clause-lasts
returns-clause-lasts g c =
    let rules = g.M.Machine.rules in let key = c.in-Ok.parts.key in
    let after = c.run_workers-workers.result.items in
    let say = all_say rules c.in-Ok.parts.table.shared.table_id key c.in-Ok-seat_all.workers.items after (sym c.run_workers-workers.ensures.long) c.in-Ok-seat_all.ensures.ready c.in-Ok-seat_all.ensures.fresh c.run_workers-workers.ensures.each in
    grind (arith, lasts_are (rules key.machine) after c.run_workers-workers.ensures.done say.0)

pub returns-clause-halt : goal.returns-clause-halt
returns-clause-halt g c = c.halt_of-halt.ensures ∙ (ap halt_of c.as_slice.ensures.value ∙ sym (ap halt_among (c.in-Ok-lasts_of.ensures ∙ ap lasts_of c.as_slice-2.ensures.value)))

pub returns-clause-full : goal.returns-clause-full
returns-clause-full g c full =
    let rules = g.M.Machine.rules in let key = c.in-Ok.parts.key in
    let m = lead_of key (numbers (length c.args.locals.items)) in
    let after = c.run_workers-workers.result.items in
    let j = c.in-Ok-join_all.ensures.main m c.in-Ok-seat_all.ensures.main in
    let closed = c.in-Ok-close.ensures.closed (all_joined m j.works) j.main in
    let say = all_say rules c.in-Ok.parts.table.shared.table_id key c.in-Ok-seat_all.workers.items after (sym c.run_workers-workers.ensures.long) c.in-Ok-seat_all.ensures.ready c.in-Ok-seat_all.ensures.fresh c.run_workers-workers.ensures.each in
    let halt = sym (c.halt_of-halt.ensures ∙ ap halt_of c.as_slice.ensures.value) ∙ full in
    let used = all_used (lasts_of after) j.works key.events (length closed.acts) halt (causes_of after j.works j.views say.1) closed.filled closed.few in
    let merged = subst (λ l. AreMerged (map (λ v. v.items) l) c.in-Ok-merge_threads.order.items) c.as_slice-3.ensures.value c.in-Ok-merge_threads.ensures in
    many merged ∙ (ap length (closed.merged merged.entries merged.merge) ∙ (length-map closed.acts entry_of ∙ (used ∙ c.in-Ok.ensures.key.1)))

pub returns-clause-lists : goal.returns-clause-lists
returns-clause-lists g c =
    let m = lead_of c.in-Ok.parts.key (numbers (length c.args.locals.items)) in
    let j = c.in-Ok-join_all.ensures.main m c.in-Ok-seat_all.ensures.main in
    sym (length-map c.in-Ok-close.closed.entries.items (λ v. v.items)) ∙ (c.in-Ok-close.ensures.closed (all_joined m j.works) j.main).lists

pub returns-clause-merged : goal.returns-clause-merged
returns-clause-merged g c = subst (λ l. AreMerged (map (λ v. v.items) l) c.in-Ok-merge_threads.order.items) c.as_slice-3.ensures.value c.in-Ok-merge_threads.ensures
