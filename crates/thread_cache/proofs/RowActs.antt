-- What the act of each row at a cache leaves.
use Rattle.std.proofs.Common.{◌≡◌, ◌≢◌, ℕ, ◌+◌, ◌-◌, ◌<◌, ◌≤◌, ◌⊎◌, ltb, List, [], ◌∷◌, ◌++◌, length, take, drop, refl, sym, ap, subst, inl, arith}
use Rattle.std.proofs.Math.Nat.{min-le_left}
use Rattle.std.proofs.lemmas.Bool.{cond_both, ltb-true}
use Rattle.std.proofs.lemmas.List.{length-append, length-drop, length-reverse}
use Rattle.tc_units.specs.Bag.{Contents}
use Rattle.tc_units.specs.declared.units.Addr.{Addr}
use Rattle.tc_units.specs.declared.spans.ClassRow.{ClassRow}
use Rattle.tc_model.specs.declared.config.Config.{Config}
use Rattle.rseq_core.specs.declared.regs.Regs.{Regs}
use Rattle.rseq_core.specs.Bags.{room, appended, without_first}
use Rattle.holdings.specs.{Runs.objects_at, Books.no_class}
use Rattle.transfer_cache.specs.Transfer.{last_first, without_last}
use Rattle.call_steps.specs.declared.step.Asking.{Asking}
use Rattle.call_steps.specs.declared.step.Serving.{Serving}
use Rattle.call_steps.specs.declared.step.Freeing.{Freeing}
use Rattle.call_steps.specs.declared.step.Giving.TheVariants as giving
use Rattle.call_steps.specs.declared.step.Next.{Next}
use Rattle.call_steps.specs.declared.step.Next.TheVariants as next
use Rattle.call_steps.specs.Calls.{Frees}
use Rattle.call_steps.specs.Fronts.{Left, leaving, FrontRules}
use Rattle.call_steps.specs.Local.{row_of}
use Rattle.call_steps.specs.Shapes.{AreRows, BeginsWith, most_slots}
use Rattle.alloc_rules.specs.Shapes.{HandAbout}
use Rattle.alloc_rules.specs.Standings.{Here, stand, at_next, regs_next}
use Rattle.alloc_rules.specs.FrontLaw.{IsReady, IsNext, IsAct}
use Rattle.alloc_rules.proofs.Counting.{objects_append, objects_cut, objects_last}
use Rattle.thread_cache.specs.declared.row.CacheRow.{CacheRow}
use Rattle.thread_cache.specs.declared.row.CacheRow.TheVariants.{Pop, Stock, Add, Ask, Raise, AddAgain, Trim}
use Rattle.thread_cache.specs.declared.seat.CacheSeat.{CacheSeat}
use Rattle.thread_cache.specs.Cache.{Cache, bytes, objects_of, with_class, fitting}
use Rattle.thread_cache.specs.Rows.{about_row, next_cache, next_victim, popped, stocked, left_in, after_stock, after_add, after_again, after_ask}
use Rattle.thread_cache.specs.Rows.{cache_acts, cache_front}
use Rattle.thread_cache.specs.Holds.{given_at, HandAt, IsSeated, IsCacheOf}
use Rattle.thread_cache.proofs.Stacks.{of_class, of_other, classes, trimmed_is, added_is}

-- the next cache is there
pub next_low : (caches n : ℕ) → 0 < caches → next_cache caches n < caches
next_low caches n some = cond_both (ltb (n + 1) caches) (n + 1) 0 (λ (k : ℕ). k < caches) (λ e. ltb-true (n + 1) caches e) (λ e. some)

pub victim_low : (v : CacheSeat) → 0 < v.caches → (next_victim v).victim < v.caches
victim_low v some = grind (arith)

-- and it is another one, where there are two
pub next_apart : (caches n : ℕ) → 1 < caches → next_cache caches n ≢ n
next_apart caches n many = grind (arith)

pub victim_apart : (v : CacheSeat) → 1 < v.caches → (next_victim v).victim ≢ v.own
victim_apart v many = grind (arith)

module _ (rows : List ClassRow) (c : Config) (are : AreRows rows) (t : ℕ) (p : Cache) (v : CacheSeat) (g : Regs) (count : ℕ) where
  abbrev r : FrontRules Cache CacheSeat CacheRow
  r = cache_front rows c

  -- what comes behind a row, which leaves these registers, with so many bytes of limit on the way
  record Behind (row : CacheRow) (new : Regs) (n : Next CacheRow) (way : ℕ) : Type 0 where
    pub next : IsNext r about_row row g new n
    pub given : given_at (at_next n) ≡ way
    pub hand : HandAt (regs_next new n) (at_next n)

  -- what an act leaves
  pub record Leaves (row : CacheRow) (x : Left Cache CacheSeat CacheRow) : Type 0 where
    pub act : IsAct r about_row p g row x
    pub part : IsCacheOf rows x.part
    pub limit : x.part.limit + given_at (at_next x.next) ≡ p.limit + given_at (Here row)
    pub own : x.seat.own ≡ v.own
    pub caches : x.seat.caches ≡ v.caches
    pub victim : x.seat.victim < c.threads
    pub apart : 1 < c.threads → x.seat.victim ≢ x.seat.own
    pub hand : HandAt (regs_next x.regs x.next) (at_next x.next)

  module _ (row : CacheRow) (s : IsSeated c t (stand v g count (Here row))) (ready : IsReady r t g (about_row row)) (is : IsCacheOf rows p) where
    abbrev k : ℕ
    k = g.class.0

    there : k < length p.stacks
    there = omega (arith, classes rows p is, ready.class)

    -- the class has other objects, and the hand has others
    moved : (kept : List Addr) (h : Contents Addr) (n : Next CacheRow) → IsCacheOf rows (with_class p k kept) → room h ≡ room g.hand
        → ((m : ℕ) → objects_at m kept + objects_at m h.items ≡ objects_at m (objects_of p k) + objects_at m g.hand.items)
        → given_at (Here row) ≡ 0 → Behind row (record g { hand = h }) n 0 → Leaves row (leaving (with_class p k kept) v (record g { hand = h }) n)
    moved kept h n part same moves way b = grind (arith, of_other, of_class, there)

    -- what fits of the hand goes to the cache
    stocks : (n : Next CacheRow) → given_at (Here row) ≡ 0 → Behind row (left_in p g) n 0 → Leaves row (leaving (stocked p g) v (left_in p g) n)
    stocks n way b =
        let items : List Addr = g.hand.items in
        let m : ℕ = fitting p k (length items) in
        let few : m ≤ length items = omega arith in
        moved (objects_of p k ++ take m items) (without_first m g.hand) n (added_is rows are p is k there items) (omega (arith, length-drop m items, few))
        (λ x. omega (arith, objects_append x (objects_of p k) (take m items), objects_cut x m items)) way b

  -- a free goes on with its object in hand
  alone : (f : Freeing) (new : Regs) → new.hand.items ≡ f.addr ∷ [] → HandAbout rows new (Frees f)
  alone f new one = (subst (BeginsWith f.addr) (sym one) refl, omega (arith, ap length one))

  -- what comes behind what was put in
  behind_stock : (s : Serving) (new : Regs) (xs : List Addr) → new.hand.items ≡ xs → length xs ≤ most_slots → Behind (Stock s) new (after_stock xs s) 0
  behind_stock s new [] is few = record { next = (refl, is); given = refl; hand = tt }
  behind_stock s new (x ∷ xs) is few = record { next = (refl, omega (arith, ap length is, few), tt); given = refl; hand = tt }

  behind_add : (f : Freeing) (new : Regs) → (new.hand.items ≡ []) ⊎ (new.hand.items ≡ f.addr ∷ []) → Behind (Add f) new (after_add v.caches new.hand.items f) 0
  behind_add f new x2 = grind (arith)

  behind_again : (f : Freeing) (new : Regs) → (new.hand.items ≡ []) ⊎ (new.hand.items ≡ f.addr ∷ [])
      → Behind (AddAgain f) new (after_again new.hand.items f) 0
  behind_again f new x2 = grind (arith)

  -- what comes behind what a victim gave up
  behind_ask : (f : Freeing) (n : ℕ) → g.hand.items ≡ f.addr ∷ [] → Behind (Ask f) g (after_ask n f) n
  behind_ask f n one = grind (arith)

  -- of the object of a free none is left, or that
  rest_of : (f : Freeing) → g.hand.items ≡ f.addr ∷ [] → ((left_in p g).hand.items ≡ []) ⊎ ((left_in p g).hand.items ≡ f.addr ∷ [])
  rest_of f one = grind (arith)

  -- only the limit changes
  limited : (row : CacheRow) (q : ℕ) (w : CacheSeat) (n : Next CacheRow) → IsReady r t g (about_row row) → IsCacheOf rows p → bytes p ≤ q
      → w.own ≡ v.own → w.caches ≡ v.caches → w.victim < c.threads → (1 < c.threads → w.victim ≢ w.own) → (way : ℕ)
      → Behind row g n way → q + way ≡ p.limit + given_at (Here row)
      → Leaves row (leaving (record p { limit = q }) w g n)
  limited row q w n ready is within own caches victim apart way b sum =
      record {
        act = record { thread = refl; room = refl; low = ready.class; class = inl refl; others = λ j m apart. refl; moves = λ m. refl; next = b.next };
        part = record { sizes = is.sizes; within = within };
        limit = omega (arith, b.given, sum);
        own = own;
        caches = caches;
        victim = victim;
        apart = apart;
        hand = b.hand;
      }

  -- an allocation pops, and what it popped is its answer
  popped_leaves : (a : Asking) (xs : List Addr) → IsSeated c t (stand v g count (Here (Pop a))) → IsReady r t g (about_row (Pop a)) → IsCacheOf rows p
      → length xs ≤ 1
      → ((m : ℕ) → objects_at m (without_last 1 (objects_of p g.class.0)) + objects_at m xs ≡ objects_at m (objects_of p g.class.0))
      → Leaves (Pop a) (let x = popped p g a xs in leaving x.0 v x.1 x.2)
  popped_leaves a [] s ready is few last =
      let kept : List Addr = without_last 1 (objects_of p g.class.0) in
      moved (Pop a) s ready is kept g.hand (next.Fetch a) (trimmed_is rows are p is g.class.0 (there (Pop a) s ready is) 1) refl
      (λ m. omega (arith, last m)) refl (record { next = (refl, ready.hand.1); given = refl; hand = tt })
  popped_leaves a (x ∷ xs) s ready is few last =
      let kept : List Addr = without_last 1 (objects_of p g.class.0) in
      let size = length-append g.hand.items (x ∷ xs) in
      let none = ap length ready.hand.1 in
      moved (Pop a) s ready is kept (appended g.hand (x ∷ xs)) (next.Serve a) (trimmed_is rows are p is g.class.0 (there (Pop a) s ready is) 1)
      (omega (arith, size, few, none, ready.room)) (λ m. omega (arith, last m, objects_append m g.hand.items (x ∷ xs))) refl
      (record { next = (refl, omega (arith, size), omega (arith, size, few, none)); given = refl; hand = tt })

  last_few : (n : ℕ) (xs : List Addr) → length (last_first n xs) ≤ n
  last_few n xs = omega (arith, length-reverse (drop (length xs - n) xs), length-drop (length xs - n) xs)

  -- the act of each row
  pub row_leaves : (row : CacheRow) → IsSeated c t (stand v g count (Here row)) → 0 < v.caches → v.caches ≡ c.threads
      → IsReady r t g (about_row row) → IsCacheOf rows p
      → Leaves row (cache_acts rows p v g row)
  row_leaves (Pop a) s some all ready is = grind (arith, popped_leaves, last_few, objects_last)
  row_leaves (Stock w) s some all ready is =
      grind (arith, stocks (Stock w) s ready is, Stock w, behind_stock w (left_in p g), length-drop (fitting p g.class.0 (length g.hand.items)) g.hand.items)
  row_leaves (Add f) s some all ready is =
      stocks (Add f) s ready is (after_add v.caches (left_in p g).hand.items f) refl (behind_add f (left_in p g) (rest_of f s.hand))
  row_leaves (Ask f) s some all ready is = grind (arith, min-le_left, limited, victim_low, victim_apart, behind_ask)
  row_leaves (Raise f n) s some all ready is = grind (arith, limited, alone)
  row_leaves (AddAgain f) s some all ready is =
      stocks (AddAgain f) s ready is (after_again (left_in p g).hand.items f) refl (behind_again f (left_in p g) (rest_of f s.hand))
  row_leaves (Trim f) s some all ready is =
      let xs : List Addr = objects_of p g.class.0 in
      let n : ℕ = (row_of rows g.class).batch in
      let few = (are.each g.class.0 no_class ready.class).few in
      let one = ap length s.hand in
      let size = length-append g.hand.items (last_first n xs) in
      let last : List Addr = last_first n xs in
      let begins : BeginsWith f.addr (g.hand.items ++ last) = subst (λ (ys : List Addr). BeginsWith f.addr (ys ++ last)) (sym s.hand) refl in
      moved (Trim f) s ready is (without_last n xs) (appended g.hand (last_first n xs)) (next.Give (giving.Freed f))
      (trimmed_is rows are p is g.class.0 (there (Trim f) s ready is) n) (omega (arith, size, few, one, last_few n xs, ready.room))
      (λ m. omega (arith, objects_last m n xs, objects_append m g.hand.items (last_first n xs))) refl
      (record { next = (refl, omega (arith, size, few, one, last_few n xs), begins); given = refl; hand = tt })
