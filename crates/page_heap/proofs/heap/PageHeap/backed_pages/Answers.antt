use Rattle.std.proofs.Common.{◌≡◌, ℕ, ◌+◌, ◌*◌, ◌<◌, ◌≤◌, take, sum_by, arith}
use Rattle.page_heap.proofs.Common.{backed_count, backed_pages, nat_tests}
use Rattle.page_heap.proofs.Backed.{covers, backed_more, backed_few, backed_all}
use Rattle.page_heap.proofs.Results.{IsHeap, is_heap}
use Rattle.page_heap.proofs.heap.PageHeap.backed_pages.Goals as goal
use Rattle.page_heap.proofs.heap.PageHeap.backed_pages.Goals.{After-from-pages, After-loop-place}

is : (c : After-loop-place) → IsHeap c.self.inside c.args.self.now
is c = is_heap c.self.invariant c.self.view_is

within : (k n m l : ℕ) → k < n → n ≡ m → l ≡ m → k < l
within k n m l a b e = omega arith

summed : (p t x b s r : ℕ) → p ≡ t → x ≡ r → r ≡ b → t + b ≡ s → p + x ≡ s
summed p t x b s r e f g h = omega arith

more : (c : After-from-pages) → c.loop-place.pages + c.from-pages.result ≡ sum_by backed_count (take (c.loop-place.place + 1) c.args.self.now.hugepages)
more c = grind (arith, nat_tests, is_heap, within, summed, backed_more)

bounded : (x s h : ℕ) → x ≡ s → s ≤ 256 * h → h ≤ 4096 → x < 18446744073709551616
bounded x s h e f g = omega arith

pub overflow_add-pages : goal.overflow_add-pages
overflow_add-pages c =
    let d = (goal.at.overflow_add-pages c).After-from-pages in
    let well = (is_heap d.self.invariant d.self.view_is).well in
    let fits = bounded (d.loop-place.pages + d.from-pages.result) _ _ (more d) (backed_few d.args.self.now well.sound (d.loop-place.place + 1)) well.limits.huge_to in
    omega (arith, fits)

pub loop-place-preserved : goal.loop-place-preserved
loop-place-preserved c = more c

-- all hugepages are counted then
counted : (c : After-loop-place) → c.self.inside.config.huge ≤ c.loop-place.place → c.loop-place.pages ≡ backed_pages c.args.self.now
counted c e = grind (arith, is, backed_all, c.loop-place.auto.place-end, c.loop-place.invariant, c.loop-place.place)

at_most : (a b c : ℕ) → a ≡ b → b ≤ c → a ≤ c
at_most a b c e f = omega arith

at_least : (a b c : ℕ) → a ≡ b → c ≤ b → c ≤ a
at_least a b c e f = omega arith

pub returns-clause-value : goal.returns-clause-value
returns-clause-value c = counted (goal.at.returns-clause-value c).After-loop-place c.loop-place-test.false

pub returns-clause-covers : goal.returns-clause-covers
returns-clause-covers c = let d = (goal.at.returns-clause-covers c).After-loop-place in at_least _ _ _ (counted d c.loop-place-test.false) (covers d.args.self.now (is d).well.sound)

pub returns-clause-most : goal.returns-clause-most
returns-clause-most c = let d = (goal.at.returns-clause-most c).After-loop-place in at_most _ _ _ d.loop-place.invariant (backed_few d.args.self.now (is d).well.sound d.loop-place.place)
