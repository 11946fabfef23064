use Rattle.std.proofs.Common.{refl, [], ◌∷◌, arith}
use Rattle.tc_model.specs.declared.answers.CallLine.{CallLine}
use Rattle.heap_sample.specs.Profiles.{AreFirstUses}
use Rattle.heap_sample.proofs.FirstUses.{IsOf, allocates, call_of, first_uses, frees}
use Rattle.heap_sample.proofs.tests.each_step_of_bytes_gives_a_sample.Goals as goal

uses : {l0 l1 l2 l3 : CallLine} → IsOf l0 (allocates 0 16) → IsOf l1 (allocates 1 16) → IsOf l2 (allocates 2 64) → IsOf l3 (frees 1) → AreFirstUses (l0 ∷ l1 ∷ l2 ∷ l3 ∷ [])
uses e0 e1 e2 e3 =
    first_uses _ (rw (e0.call, e1.call, e2.call, e3.call) (
      (record { not_answered = refl; not_freed = refl }, omega arith),
      (
        (record { not_answered = refl; not_freed = refl }, omega arith),
        ((record { not_answered = refl; not_freed = refl }, omega arith), (tt, tt)),
      ),
    ))

pub assert_text-requires-clause-labels : goal.assert_text-requires-clause-labels
assert_text-requires-clause-labels g c = first_uses [] tt

pub assert_text-requires-2-clause-labels : goal.assert_text-requires-2-clause-labels
assert_text-requires-2-clause-labels g c =
    uses (call_of c.line.ensures c.malloc.ensures) (call_of c.line-2.ensures c.malloc-2.ensures) (call_of c.line-3.ensures c.malloc-3.ensures) (call_of c.line-4.ensures c.free.ensures)

pub assert_text-requires-3-clause-labels : goal.assert_text-requires-3-clause-labels
assert_text-requires-3-clause-labels g c =
    uses (call_of c.line.ensures c.malloc.ensures) (call_of c.line-2.ensures c.malloc-2.ensures) (call_of c.line-3.ensures c.malloc-3.ensures) (call_of c.line-4.ensures c.free.ensures)

pub assert_text-requires-4-clause-labels : goal.assert_text-requires-4-clause-labels
assert_text-requires-4-clause-labels g c =
    uses (call_of c.line.ensures c.malloc.ensures) (call_of c.line-2.ensures c.malloc-2.ensures) (call_of c.line-3.ensures c.malloc-3.ensures) (call_of c.line-4.ensures c.free.ensures)
