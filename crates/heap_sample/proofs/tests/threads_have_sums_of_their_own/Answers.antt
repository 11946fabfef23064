use Rattle.std.proofs.Common.{refl, [], ◌∷◌, arith}
use Rattle.tc_model.specs.declared.answers.CallLine.{CallLine}
use Rattle.heap_sample.specs.Profiles.{AreFirstUses}
use Rattle.heap_sample.proofs.FirstUses.{IsOf, allocates, call_of, first_of, first_uses, frees}
use Rattle.heap_sample.proofs.tests.threads_have_sums_of_their_own.Goals as goal

uses : {l0 l1 l2 l3 l4 l5 l6 l7 l8 : CallLine} → IsOf l0 (allocates 0 60) → IsOf l1 (allocates 1 60) → IsOf l2 (allocates 2 60) → IsOf l3 (frees 0) → IsOf l4 (allocates 3 7)
    → IsOf l5 (frees 3) → IsOf l6 (frees 2) → IsOf l7 (allocates 4 60) → IsOf l8 (allocates 5 1099511627776) → AreFirstUses (l0 ∷ l1 ∷ l2 ∷ l3 ∷ l4 ∷ l5 ∷ l6 ∷ l7 ∷ l8 ∷ [])
uses e0 e1 e2 e3 e4 e5 e6 e7 e8 =
    first_uses _ (rw (e0.call, e1.call, e2.call, e3.call, e4.call, e5.call, e6.call, e7.call, e8.call) (
      (record { not_answered = refl; not_freed = refl }, omega arith),
      (
        (record { not_answered = refl; not_freed = refl }, omega arith),
        (
          (record { not_answered = refl; not_freed = refl }, omega arith),
          (
            tt,
            (
              (record { not_answered = refl; not_freed = refl }, omega arith),
              (
                tt,
                (
                  tt,
                  (
                    (record { not_answered = refl; not_freed = refl }, omega arith),
                    ((record { not_answered = refl; not_freed = refl }, omega arith), tt),
                  ),
                ),
              ),
            ),
          ),
        ),
      ),
    ))

pub assert_text-requires-clause-labels : goal.assert_text-requires-clause-labels
assert_text-requires-clause-labels g c =
    uses (call_of c.line.ensures c.malloc.ensures) (call_of c.line-2.ensures c.malloc-2.ensures) (call_of c.line-3.ensures c.malloc-3.ensures) (call_of c.line-4.ensures c.free.ensures)
    (call_of c.line-5.ensures c.malloc-4.ensures) (call_of c.line-6.ensures c.free-2.ensures) (call_of c.line-7.ensures c.free-3.ensures) (call_of c.line-8.ensures c.malloc-5.ensures)
    (call_of c.line-9.ensures c.malloc-6.ensures)

pub assert_text-requires-2-clause-labels : goal.assert_text-requires-2-clause-labels
assert_text-requires-2-clause-labels g c =
    first_of _ 8 (uses (call_of c.line.ensures c.malloc.ensures) (call_of c.line-2.ensures c.malloc-2.ensures) (call_of c.line-3.ensures c.malloc-3.ensures)
    (call_of c.line-4.ensures c.free.ensures) (call_of c.line-5.ensures c.malloc-4.ensures) (call_of c.line-6.ensures c.free-2.ensures) (call_of c.line-7.ensures c.free-3.ensures)
    (call_of c.line-8.ensures c.malloc-5.ensures) (call_of c.line-9.ensures c.malloc-6.ensures))
