-- Objects that a reply moves between a row and the hand.
use Rattle.std.proofs.Common.{◌≡◌, ℕ, ◌+◌, arith}
use Rattle.cpu_rows.proofs.Common.{SlabRow, held, Regs, Instructed, AnswerMoves, objects_at, objects_append, objects_cut, objects_reverse}

-- so an answer
pub answer_moves : (answer : Instructed) (old new : SlabRow) (r after : Regs) → AnswerMoves answer old new r after → (n : ℕ)
    → objects_at n (held new) + objects_at n after.hand.items ≡ objects_at n (held old) + objects_at n r.hand.items
answer_moves answer old new r after x n = grind (arith, objects_append, objects_cut, objects_reverse)
