use Rattle.std.proofs.Common.{◌≡◌, ℕ, cond, get_or, bit_and}
use Rattle.range_bits.proofs.BitFacts.{is_between}
use Rattle.range_bits.proofs.words.keep_used.Given as goal

abbrev pub invariant-loop-index : goal.invariant-loop-index
invariant-loop-index l = (i : ℕ) → get_or l.words i 0 ≡ cond (is_between l.first l.index i) (bit_and (get_or l.fn.words i 0) (get_or l.other i 0)) (get_or l.fn.words i 0)
