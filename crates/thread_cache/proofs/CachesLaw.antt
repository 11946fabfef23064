-- The caches of threads meet the law of a front-end.
use Rattle.std.proofs.Common.{◌≡◌, false, ℕ, zero, suc, ◌+◌, ◌*◌, ◌%◌, ◌<◌, ◌≤◌, get_or, List, [], ◌∷◌, length, map, Some, refl, sym, ap, ◌∙◌, subst, inl, inr, arith}
use Rattle.std.specs.Prelude.{slice_get, slice_set}
use Rattle.std.specs.List.{range_with_len}
use Rattle.std.proofs.Math.Nat.{mul_comm, mul-le-mul_left}
use Rattle.std.proofs.lemmas.Option.{slice_get-get_or}
use Rattle.std.proofs.lemmas.List.{length-set, length-replicate}
use Rattle.std.proofs.lemmas.List.Elements.{All-set, All-replicate}
use Rattle.std.proofs.lemmas.List.Folds.{sum_by-replicate}
use Rattle.tc_units.specs.declared.spans.ClassRow.{ClassRow}
use Rattle.tc_model.specs.declared.config.Config.{Config}
use Rattle.rseq_core.specs.declared.regs.Regs.{Regs}
use Rattle.size_classes.specs.Rows.{sizes_of}
use Rattle.holdings.specs.{Runs.objects_at}
use Rattle.holdings.proofs.Sums.{of_all, shift, least}
use Rattle.call_steps.specs.Fronts.{AreEntries}
use Rattle.call_steps.specs.Shapes.{AreRows}
use Rattle.alloc_rules.specs.Standings.{Here, Later, Away, Standing, stand, at_next, regs_next}
use Rattle.alloc_rules.specs.FrontLaw.{IsReady, FitsAt, RefusesAs, idle, with_hand}
use Rattle.thread_cache.specs.declared.row.CacheRow.{CacheRow}
use Rattle.thread_cache.specs.declared.row.CacheRow.TheVariants.{Pop, Stock, Add}
use Rattle.thread_cache.specs.declared.seat.CacheSeat.{CacheSeat}
use Rattle.thread_cache.specs.Cache.{Stack, Cache, empty_stack, opened}
use Rattle.thread_cache.specs.Rows.{about_row, cache_place, cache_acts, cache_calls, cache_front}
use Rattle.thread_cache.specs.Fits.{FitsRow, FitsCache}
use Rattle.thread_cache.specs.Holds.{given_at, HandAt, IsSeated, IsCacheOf, CachesHold}
use Rattle.thread_cache.specs.Laws.{AreCacheLimits, CachesAreLawful}
use Rattle.thread_cache.proofs.CacheFacts as facts
use Rattle.thread_cache.proofs.Lists.{set_twice, set_once, sum_same, sum_none, made_at}
use Rattle.thread_cache.proofs.Stacks.{classes, no_stack}
use Rattle.thread_cache.proofs.RowActs.{Leaves, next_low, next_apart, row_leaves}

-- a cache's limit, and the bytes of limit that a thread has on the way
abbrev limit_of : Cache → ℕ
limit_of p = p.limit

abbrev given_of : Standing CacheSeat CacheRow → ℕ
given_of s = given_at s.at

-- an empty cache
sizes_first : (rows : List ClassRow) → map (λ (s : Stack). s.size) (map empty_stack rows) ≡ sizes_of rows
sizes_first [] = refl
sizes_first (row ∷ rows) = ap (λ ns. row.size ∷ ns) (sizes_first rows)

none_first : (n k : ℕ) (rows : List ClassRow) → objects_at n (get_or (map empty_stack rows) k no_stack).objects ≡ 0
none_first n k [] = refl
none_first n zero (row ∷ rows) = refl
none_first n (suc k) (row ∷ rows) = none_first n k rows

-- no row decides a call with an answer of its own
refuses : (rows : List ClassRow) (p : Cache) (v : CacheSeat) (g : Regs) (row : CacheRow) → RefusesAs (λ r answer. false) row (cache_acts rows p v g row).next
refuses rows p v g x4 = grind (arith)

-- all of the caches stand before the shards
pub split_first : (rows : List ClassRow) (c : Config) → c.threads ≤ length (cache_front rows c).parts
split_first rows c = omega (arith, length-replicate c.threads (opened rows c.percpu))

cache_entries : (rows : List ClassRow) → AreEntries (cache_calls rows) about_row
cache_entries rows =
    record {
      first_about = λ v a. refl;
      rest_about = λ v s. refl;
      free_about = λ v f. refl;
      other_about = λ v call. tt;
      last_about = λ v. tt;
      to_first = λ g. record { thread = refl; class = refl; hand = refl };
      to_rest = λ g. record { thread = refl; class = refl; hand = refl };
      to_free = λ g. record { thread = refl; class = refl; hand = refl };
      to_other = λ call g. refl;
      other_thread = λ call g. refl;
    }

module _ (rows : List ClassRow) (c : Config) where
  -- a thread stands elsewhere, and no part changes
  changes : (n t : ℕ) (ps : List Cache) (us : List (Standing CacheSeat CacheRow)) (s new : Standing CacheSeat CacheRow)
      → (IsSeated c t s → IsSeated c t new)
      → given_of new ≡ given_of s → CachesHold rows c n ps (slice_set us t s) → CachesHold rows c n ps (slice_set us t new)
  changes n t ps us s new sits same h =
      record {
        many = h.many;
        caches = h.caches;
        threads = λ u x at. (elim (set_twice us t s new u x at) [
          | inl a ↦ subst (λ j. IsSeated c j x) (sym a.0) (subst (IsSeated c t) a.1 (sits (h.threads t s a.2)))
          | inr there ↦ h.threads u x there
        ]);
        limits = omega (arith, h.limits, sum_same given_of us t new s same);
      }

  -- a part changes, and a thread with it
  both : (n i t : ℕ) (ps : List Cache) (us : List (Standing CacheSeat CacheRow)) (p q : Cache) (s new : Standing CacheSeat CacheRow)
      → slice_get ps i ≡ Some p
      → slice_get us t ≡ Some s → IsCacheOf rows q → IsSeated c t new → q.limit + given_of new ≡ p.limit + given_of s → CachesHold rows c n ps us
      → CachesHold rows c (n + 1) (slice_set ps i q) (slice_set us t new)
  both n i t ps us p q s new at own part sits same h =
      record {
        many = length-set ps i q ∙ h.many;
        caches = All-set (IsCacheOf rows) ps i q part h.caches;
        threads = grind (arith, set_once us t s new, h.threads);
        limits = omega (arith, h.limits, shift limit_of ps i p q at, shift given_of us t s new own, same);
      }

  module _ (are : AreRows rows) (limits : AreCacheLimits c) where
    -- the start
    first : (threads : ℕ) → CachesHold rows c 0 (cache_front rows c).parts (map (idle (cache_front rows c)) (range_with_len 0 threads))
    first threads =
        let f = idle (cache_front rows c) in
        let p : Cache = opened rows c.percpu in
        record {
          many = length-replicate c.threads p;
          caches = All-replicate (IsCacheOf rows) c.threads p (record { sizes = sizes_first rows; within = omega (arith, facts.none rows) });
          threads = grind (arith, made_at f threads, next_low c.threads, next_apart c.threads);
          limits = omega (arith, sum_by-replicate limit_of c.threads p, sum_none given_of f (range_with_len 0 threads) (λ k. refl));
        }

    -- the cache of a row is there
    place_low : (t : ℕ) (v : CacheSeat) (row : CacheRow) → v.own ≡ t % c.threads → v.victim < c.threads → cache_place v row < c.threads
    place_low t v x2 own victim = grind (arith)

    -- and an act there fits
    fits_row : (t : ℕ) (p : Cache) (g : Regs) (row : CacheRow) → IsReady (cache_front rows c) t g (about_row row) → HandAt g (Here row)
        → p.limit + given_at (Here row) ≤ c.threads * c.percpu → FitsRow rows p g row
    fits_row t p g row ready hand sum = grind (arith, mul-le-mul_left, mul_comm)

    module _ (n : ℕ) (ps : List Cache) (us : List (Standing CacheSeat CacheRow)) (t : ℕ) (v : CacheSeat) (g : Regs) (count : ℕ) (row : CacheRow)
        (h : CachesHold rows c n ps us) (own : slice_get us t ≡ Some (stand v g count (Here row)))
        (ready : IsReady (cache_front rows c) t g (about_row row)) where
      seat : IsSeated c t (stand v g count (Here row))
      seat = h.threads t (stand v g count (Here row)) own

      is_cache : (p : Cache) → slice_get ps (cache_place v row) ≡ Some p → IsCacheOf rows p
      is_cache p at = of_all (IsCacheOf rows) ps (cache_place v row) p h.caches at

      left : (p : Cache) → slice_get ps (cache_place v row) ≡ Some p → Leaves rows c are t p v g count row (cache_acts rows p v g row)
      left p at = let some = limits.threads in row_leaves rows c are t p v g count row seat (omega (arith, seat.caches, some)) seat.caches ready (is_cache p at)

      fits : (p : Cache) → slice_get ps (cache_place v row) ≡ Some p → FitsRow rows p g row
      fits p at =
          fits_row t p g row ready seat.hand
          (omega (arith, least limit_of ps (cache_place v row) p at, least given_of us t (stand v g count (Here row)) own, h.limits))

      is_ready : FitsAt (cache_front rows c) (FitsCache rows) ps v g row
      is_ready =
          let i : ℕ = cache_place v row in
          let d : Cache = opened rows 0 in
          let at = slice_get-get_or ps i d (omega (arith, place_low t v row seat.own seat.victim, h.many)) in
          grind (arith, classes rows (get_or ps i d) (is_cache (get_or ps i d) at), is_cache (get_or ps i d), fits (get_or ps i d))

      keeps : (p : Cache) → slice_get ps (cache_place v row) ≡ Some p
          → (let x = cache_acts rows p v g row in CachesHold rows c (n + 1) (slice_set ps (cache_place v row) x.part)
          (slice_set us t (stand x.seat (regs_next x.regs x.next) (count + 1) (at_next x.next))))
      keeps p at =
          let x = cache_acts rows p v g row in
          let l = left p at in
          both n (cache_place v row) t ps us p x.part (stand v g count (Here row)) (stand x.seat (regs_next x.regs x.next) (count + 1) (at_next x.next)) at own
          l.part (record { own = l.own ∙ seat.own; caches = l.caches ∙ seat.caches; victim = l.victim; apart = l.apart; hand = l.hand }) l.limit h

pub caches_law : CachesAreLawful
caches_law rows c are limits =
    record {
      start = first rows c are limits;
      none = grind (arith, sum_by-replicate, none_first);
      split = split_first rows c;
      ready = λ n ps us t v g count row few le h own ready. is_ready rows c are limits n ps us t v g count row h own ready;
      does = λ n ps us t p v g count row few le h own at ready. (left rows c are limits n ps us t v g count row h own ready p at).act;
      acts = λ n ps us t p v g count row few le h own at ready. keeps rows c are limits n ps us t v g count row h own ready p at;
      passes = λ n ps us h. record { many = h.many; caches = h.caches; threads = h.threads; limits = h.limits };
      away = λ n ps us t v g count more k hand le low same h. changes rows c n t ps us (stand v g count Away) (stand v (with_hand g k hand) more Away)
          (λ x. record { own = x.own; caches = x.caches; victim = x.victim; apart = x.apart; hand = tt }) refl h;
      waits = λ n ps us t v g count more j row hand le same h. changes rows c n t ps us (stand v g count (Later j row))
          (stand v (with_hand g g.class hand) more (Later j row)) (λ x. absurd x.hand) refl h;
      back = λ n ps us t v g count more k row hand le same none h. changes rows c n t ps us (stand v g count (Later k row))
          (stand v (with_hand g k hand) more (Here row)) (λ x. absurd x.hand) refl h;
      begins = λ n ps us t v g count o plan none h. h;
      restarts = λ n ps us t v g count h. changes rows c n t ps us (stand v g count Away) (stand v (record g { ran = 0 }) count Away)
          (λ x. record { own = x.own; caches = x.caches; victim = x.victim; apart = x.apart; hand = tt }) refl h;
      firsts = λ n ps us t v g count a asked none h. changes rows c n t ps us (stand v g count Away) (stand v (record g { ran = 0 }) count (Here (Pop a)))
          (λ x. record { own = x.own; caches = x.caches; victim = x.victim; apart = x.apart; hand = tt }) refl h;
      rests = λ n ps us t v g count s some few h. changes rows c n t ps us (stand v g count Away) (stand v g count (Here (Stock s)))
          (λ x. record { own = x.own; caches = x.caches; victim = x.victim; apart = x.apart; hand = tt }) refl h;
      frees = λ n ps us t v g count f one h. changes rows c n t ps us (stand v g count Away) (stand v g count (Here (Add f)))
          (λ x. record { own = x.own; caches = x.caches; victim = x.victim; apart = x.apart; hand = one }) refl h;
      others_begin = λ n ps us t v g count p plan own none h. absurd (plan own);
      lasts = λ n ps us t v g count none h. h;
      entries = cache_entries rows;
      other_class = λ p g plan own. absurd (plan own);
      other_there = λ v p plan own. absurd (plan own);
      refuses = refuses rows;
    }
