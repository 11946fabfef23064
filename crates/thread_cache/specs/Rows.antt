-- The caches of threads as a front-end: their rows, what the act of each leaves, and their rules.
use Rattle.std.specs.Prelude.{ℕ, ◌+◌, ◌*◌, ◌%◌, ◌==◌, nat_lt, if◌then◌else◌, true, false, List, [], ◌∷◌, length, replicate, Some, None}
use Rattle.tc_units.specs.declared.units.Addr.{Addr}
use Rattle.tc_units.specs.declared.spans.ClassRow.{ClassRow}
use Rattle.tc_model.specs.declared.config.Config.{Config}
use Rattle.rseq_core.specs.declared.regs.Regs.{Regs}
use Rattle.rseq_core.specs.Bags.{appended, without_first}
use Rattle.transfer_cache.specs.Transfer.{last_first}
use Rattle.holdings.specs.Runs.{objects_at}
use Rattle.call_steps.specs.declared.step.Asking.{Asking}
use Rattle.call_steps.specs.declared.step.Serving.{Serving}
use Rattle.call_steps.specs.declared.step.Freeing.{Freeing}
use Rattle.call_steps.specs.declared.step.Giving.TheVariants as giving
use Rattle.call_steps.specs.declared.step.Next.{Next}
use Rattle.call_steps.specs.declared.step.Next.TheVariants as next
use Rattle.call_steps.specs.Calls.{About, Asks, Publishes, Frees}
use Rattle.call_steps.specs.Fronts.{FrontCalls, Left, leaving, FrontRules}
use Rattle.call_steps.specs.Local.{row_of}
use Rattle.thread_cache.specs.declared.row.CacheRow.{CacheRow}
use Rattle.thread_cache.specs.declared.row.CacheRow.TheVariants.{Pop, Stock, Add, Ask, Raise, AddAgain, Trim}
use Rattle.thread_cache.specs.declared.seat.CacheSeat.{CacheSeat}
use Rattle.thread_cache.specs.Cache.{Cache, objects_of, opened, fitting, added, trimmed, given, lowered, raised}

-- which call a row is of
abbrev pub about_row : CacheRow → About
about_row (Pop a) = Asks a
about_row (Stock s) = Publishes s
about_row (Add f) = Frees f
about_row (Ask f) = Frees f
about_row (Raise f n) = Frees f
about_row (AddAgain f) = Frees f
about_row (Trim f) = Frees f

-- the cache behind one, round so many
abbrev pub next_cache : ℕ → ℕ → ℕ
next_cache caches number = if nat_lt (number + 1) caches then number + 1 else 0

-- the victim behind the one that was asked, which isn't the thread's own cache
abbrev pub next_victim : CacheSeat → CacheSeat
next_victim v =
    let next : ℕ = next_cache v.caches v.victim in record v { victim = (if next == v.own then next_cache v.caches next else next) }

-- the cache that a row is at
abbrev pub cache_place : CacheSeat → CacheRow → ℕ
cache_place v (Ask f) = v.victim
cache_place v other = v.own

-- thread t has cache t, and its first victim is the cache behind that
abbrev pub seat_of : ℕ → ℕ → CacheSeat
seat_of threads t = record { own = t % threads; caches = threads; victim = next_cache threads (t % threads) }

-- an allocation pops the last object of its class
abbrev pub popped : Cache → Regs → Asking → List Addr → Cache × Regs × Next CacheRow
popped p g a [] = (trimmed p g.class.0 1, g, next.Fetch a)
popped p g a (x ∷ xs) = (trimmed p g.class.0 1, record g { hand = appended g.hand (x ∷ xs) }, next.Serve a)

-- the longest prefix of the hand that fits goes to the cache, and the rest stays in hand
abbrev pub stocked : Cache → Regs → Cache
stocked p g = added p g.class.0 g.hand.items

abbrev pub left_in : Cache → Regs → Regs
left_in p g = record g { hand = without_first (fitting p g.class.0 (length g.hand.items)) g.hand }

abbrev pub after_stock : List Addr → Serving → Next CacheRow
after_stock [] s = next.Publish s
after_stock (x ∷ xs) s = next.Give (giving.Rest s)

abbrev pub after_add : ℕ → List Addr → Freeing → Next CacheRow
after_add caches [] f = next.Freed f
after_add caches (x ∷ xs) f = if nat_lt 1 caches then next.Row (Ask f) else next.Row (Trim f)

abbrev pub after_again : List Addr → Freeing → Next CacheRow
after_again [] f = next.Freed f
after_again (x ∷ xs) f = next.Row (Trim f)

abbrev pub after_ask : ℕ → Freeing → Next CacheRow
after_ask n f = if n == 0 then next.Row (Trim f) else next.Row (Raise f n)

-- What the act of each row leaves. A victim is asked for the bytes of a batch; Trim takes the last objects of the class out, a
-- batch at most, to the hand.
abbrev pub cache_acts : List ClassRow → Cache → CacheSeat → Regs → CacheRow → Left Cache CacheSeat CacheRow
cache_acts rows p v g (Pop a) = let x = popped p g a (last_first 1 (objects_of p g.class.0)) in leaving x.0 v x.1 x.2
cache_acts rows p v g (Stock s) = leaving (stocked p g) v (left_in p g) (after_stock (left_in p g).hand.items s)
cache_acts rows p v g (Add f) = leaving (stocked p g) v (left_in p g) (after_add v.caches (left_in p g).hand.items f)
cache_acts rows p v g (Ask f) =
    let most : ℕ = (row_of rows g.class).batch * (row_of rows g.class).size in
    leaving (lowered p most) (next_victim v) g (after_ask (given p most) f)
cache_acts rows p v g (Raise f n) = leaving (raised p n) v g (next.Row (AddAgain f))
cache_acts rows p v g (AddAgain f) = leaving (stocked p g) v (left_in p g) (after_again (left_in p g).hand.items f)
cache_acts rows p v g (Trim f) =
    let n : ℕ = (row_of rows g.class).batch in
    leaving (trimmed p g.class.0 n) v (record g { hand = appended g.hand (last_first n (objects_of p g.class.0)) }) (next.Give (giving.Freed f))

-- calls begin and go on at the thread's own cache
abbrev pub cache_calls : List ClassRow → FrontCalls CacheSeat CacheRow
cache_calls rows =
    record {
      rows = rows;
      begins = λ v o. v;
      first = λ v a. Some (Pop a);
      to_first = λ g. g;
      rest = λ v s. Some (Stock s);
      to_rest = λ g. g;
      free = λ v f. Some (Add f);
      to_free = λ g. g;
      other = λ v call. None;
      to_other = λ call g. g;
      last = λ v. None;
    }

-- The rules of the caches, under a class table and the heads of a trace: a cache for each thread, with the bytes `percpu` as its
-- first limit. All of them stand before the shards, and no row refuses a call.
abbrev pub cache_front : List ClassRow → Config → FrontRules Cache CacheSeat CacheRow
cache_front rows c =
    record {
      parts = replicate c.threads (opened rows c.percpu);
      split = c.threads;
      seats = seat_of c.threads;
      calls = cache_calls rows;
      place = λ v g row. cache_place v row;
      acts = cache_acts rows;
      yields = λ p v g row. true;
      stored = λ p k n. objects_at n (objects_of p k);
      refuses = λ row answer. false;
    }
