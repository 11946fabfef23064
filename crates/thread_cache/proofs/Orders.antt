-- What holds of the allocator over the caches of threads, in every order.
use Rattle.std.proofs.Common.{◌∙◌, ap}
use Rattle.std.specs.Prelude.{option_map}
use Rattle.std.proofs.lemmas.Option.{slice_get-map}
use Rattle.alloc_rules.specs.FrontLaw.{IsNotOwn}
use Rattle.alloc_rules.specs.Standings.{standing_of}
use Rattle.alloc_rules.specs.Valid.{AreLimits}
use Rattle.alloc_rules.proofs.CommonCalls.{valid_common}
use Rattle.alloc_rules.proofs.Laws.{in_every_order}
use Rattle.thread_cache.specs.Rows.{about_row, cache_front}
use Rattle.thread_cache.specs.Fits.{FitsCache}
use Rattle.thread_cache.specs.Holds.{CachesHold}
use Rattle.thread_cache.specs.Laws.{AreCacheLimits, InEveryOrder}
use Rattle.thread_cache.proofs.CachesLaw.{caches_law}
use Rattle.tc_model.specs.declared.config.Config.{Config}

pub limits_of : (c : Config) → AreLimits c → AreCacheLimits c
limits_of c are = record { threads = are.threads; few = are.few_threads; percpu = are.percpu }

pub caches_in_every_order : InEveryOrder
caches_in_every_order input valid none =
    let c = input.asked.config in
    let law = in_every_order (cache_front input.rows c) about_row IsNotOwn (CachesHold input.rows c) (FitsCache input.rows)
    (caches_law input.rows c valid.rows (limits_of c valid.limits)) input.asked (valid_common input valid none) in
    record {
      sound = law.sound;
      threads = law.threads;
      never_waits = law.never_waits;
      rises = law.rises;
      ends = law.ends;
      picks = law.picks;
      holds = λ order of. (let all = law.holds order of in
          record {
            all = all;
            many = all.front.many;
            caches = all.front.caches;
            seats = λ t l at. all.front.threads t (standing_of l) (slice_get-map standing_of all.locals t ∙ ap (option_map standing_of) at);
            limits = all.front.limits;
          });
    }
