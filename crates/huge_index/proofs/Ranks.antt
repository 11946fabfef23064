-- Keys are compared by their numbers.
use Rattle.std.proofs.Common.{◌≡◌, ℕ, ◌+◌, ◌-◌, ◌*◌, ◌<◌, ◌≤◌, Bool, false, nat_lt, sym, ap, ◌∙◌, inl, inr, arith}
use Rattle.std.proofs.Math.Nat.{mul-le-mul_right}
use Rattle.std.proofs.lemmas.Bool.{cases_lt}
use Rattle.std.proofs.lemmas.Bool.Decides.{nat_tests}
use Rattle.sorted_list.specs.Measures.{less, equal, more}
use Rattle.sorted_list.specs.Order.{first_by}
use Rattle.huge_index.specs.declared.key.Key.{Key}
use Rattle.huge_index.specs.Order.{comes_before, rank}

-- numbers of two digits: the first digit that differs decides
digits : (w x y u v : ℕ) (r : Bool) → y < w → v < w → first_by (x * w + y) (u * w + v) r ≡ first_by x u (first_by y v r)
digits w x y u v r low lower =
    elim (cases_lt x u) [
      | inl l ↦ (let step : (x + 1) * w ≤ u * w = mul-le-mul_right w (omega arith) in less (x * w + y) (u * w + v) r (omega arith) ∙ sym (less x u (first_by y v r) l))
      | inr g ↦ elim (cases_lt u x) [
        | inl m ↦ (let step : (u + 1) * w ≤ x * w = mul-le-mul_right w (omega arith) in more (x * w + y) (u * w + v) r (omega arith) ∙ sym (more x u (first_by y v r) m))
        | inr e ↦ (let same : x ≡ u = omega arith in grind (arith, nat_tests, equal))
      ]
    ]

-- the more is taken away, the less is left
turned : (most x y : ℕ) (r : Bool) → x ≤ most → y ≤ most → first_by (most - x) (most - y) r ≡ first_by y x r
turned most x y r low lower = grind (arith, nat_tests)

alone : (x y : ℕ) → nat_lt x y ≡ first_by x y false
alone x y = grind (arith, nat_tests)

pub by_rank : (a b : Key) → a.longest < 4294967296 → b.longest < 4294967296 → a.allocs < 4294967296 → b.allocs < 4294967296 → a.huge.0 < 65536 → b.huge.0 < 65536 → nat_lt (rank a) (rank b) ≡ comes_before a b
by_rank a b la lb ca cb ha hb =
    let first : ℕ = (4294967295 - a.allocs) * 4294967296 + a.huge.0 in
    let second : ℕ = (4294967295 - b.allocs) * 4294967296 + b.huge.0 in
    alone (rank a) (rank b)
    ∙ digits 18446744073709551616 (a.tier * 4294967296 + a.longest) first (b.tier * 4294967296 + b.longest) second false (omega arith) (omega arith)
    ∙ digits 4294967296 a.tier a.longest b.tier b.longest (first_by first second false) la lb
    ∙ ap (λ (r : Bool). first_by a.tier b.tier (first_by a.longest b.longest r)) (digits 4294967296 (4294967295 - a.allocs) a.huge.0 (4294967295 - b.allocs) b.huge.0 false (omega arith) (omega arith)
    ∙ turned 4294967295 a.allocs b.allocs (first_by a.huge.0 b.huge.0 false) (omega arith) (omega arith)
    ∙ ap (first_by b.allocs a.allocs) (sym (alone a.huge.0 b.huge.0)))
