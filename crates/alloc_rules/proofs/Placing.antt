-- A new run may be placed where the heap places it: it lies in the arena and meets no live run.
use Rattle.std.proofs.Common.{◌≡◌, ℕ, ◌+◌, ◌*◌, ◌<◌, ◌≤◌, true, false, List, Contains, Option, Some, arith, MatchOption}
use Rattle.alloc_rules.proofs.Common.{cases_lt, lt-ltb, and_from, false≢true, page_bytes, Run, count_some, meets, Placed, new, none_fits, IsSound, IsGiven}
use Rattle.alloc_rules.proofs.Common.{new_gives, unused_counts, holds_from, runs_like, runs_at, block_of, IsPlaced, run_found}
use Rattle.heap_rules.specs.Heap as heaps
use Rattle.alloc_rules.proofs.Likes.{counted_there}
use Rattle.std.proofs.lemmas.Bool.Decides.{nat_tests}

-- what the law of a new run says of one that is given
abbrev pub IsAnswered : heaps.Heap → ℕ → Option Placed → Type 0
IsAnswered heap n o = MatchOption o (none_fits heap n ≡ true) (λ x. IsGiven heap n x × (none_fits heap n ≡ false))

-- where a run's block begins, and where it ends
abbrev begin : Run → ℕ
begin r = r.first.0 * page_bytes

abbrev end : Run → ℕ
end r = r.first.0 * page_bytes + r.pages * page_bytes

-- a page that both of two runs hold shows them to meet; so a run whose pages are unused meets no live one
apart_blocks : (heap : heaps.Heap) (r b : Run) → IsSound heap → 0 < r.pages → ((page : ℕ) → heaps.holds page r ≡ true → heaps.is_used heap.runs page ≡ false)
    → Contains heap.runs b → meets (block_of r) (block_of b) ≡ false
apart_blocks heap r b sound some unused at =
    grind (
      arith,
      nat_tests,
      unused_counts heap.runs,
      unused,
      count_some,
      holds_from b.first.0 r,
      holds_from b.first.0 b,
      holds_from r.first.0 r,
      holds_from r.first.0 b,
    )

pub given_at : (heap : heaps.Heap) (n : ℕ) (x : Placed) → new heap n ≡ Some x → IsAnswered heap n (new heap n) → IsGiven heap n x
given_at heap n x some law = grind arith

-- blocks that begin at one place meet
same_start : (r b : Run) → 0 < r.pages → 0 < b.pages → b.first.0 * page_bytes ≡ r.first.0 * page_bytes → meets (block_of r) (block_of b) ≡ true
same_start r b rs bs same = and_from _ _ (lt-ltb (begin r) (end b) (omega arith)) (lt-ltb (begin b) (end r) (omega arith))

none_begins : (bag : List Run) (r : Run) → 0 < r.pages → ((b : Run) → 0 < runs_like b bag → 0 < b.pages)
    → ((b : Run) → 0 < runs_like b bag → meets (block_of r) (block_of b) ≡ false) → runs_at (r.first.0 * page_bytes) bag ≡ 0
none_begins bag r some all apart = grind (arith, cases_lt, false≢true, run_found, same_start)

-- the run of a New, in a bag of the live runs
pub placed : (heap : heaps.Heap) (bag : List Run) (huge n : ℕ) (x : Placed) → IsSound heap → 2 ≤ heap.config.region → heap.config.huge ≡ huge
    → ((r : Run) → runs_like r bag ≡ runs_like r heap.runs) → 0 < n → new heap n ≡ Some x → IsGiven heap n x × IsPlaced huge bag n x.run
placed heap bag huge n x sound region is like some given_is =
    let given = given_at heap n x given_is (new_gives heap n sound region some) in
    grind (arith, counted_there, like, apart_blocks heap, none_begins bag)
