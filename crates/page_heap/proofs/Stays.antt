-- Which runs are live after a call.
use Rattle.std.proofs.Common.{◌≢◌, ℕ, ◌==◌, not, Contains, sym, subst}
use Rattle.std.proofs.lemmas.Bool.Decides.{nat_tests}
use Rattle.std.proofs.Common.{arith}
use Rattle.page_heap.proofs.Common.{Run, Contains-new, Contains-old, Heap, Placed, IsGiven, IsRid, Contains-filter}

pub new_lives : (heap : Heap) (n : ℕ) (p : Placed) → IsGiven heap n p → Contains p.heap.runs p.run
new_lives heap n p given = subst (λ rs. Contains rs p.run) (sym given.runs) (Contains-new (λ (r : Run). r.first.0) p.run heap.runs)

pub new_stays : (heap : Heap) (n : ℕ) (p : Placed) → IsGiven heap n p → (run : Run) → Contains heap.runs run → Contains p.heap.runs run
new_stays heap n p given run has = subst (λ rs. Contains rs run) (sym given.runs) (Contains-old (λ (r : Run). r.first.0) p.run heap.runs run has)

pub freed_stays : (heap : Heap) (run : Run) (after : Heap) → IsRid heap run after → (other : Run) → Contains heap.runs other → other.first.0 ≢ run.first.0 → Contains after.runs other
freed_stays heap run after rid other has ne =
    let test = λ (r : Run). not (r.first.0 == run.first.0) in
    grind (arith, nat_tests, Contains-filter test heap.runs has.0 other has.1)
