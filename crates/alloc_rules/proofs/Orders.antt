-- An order whose picks move is lawful, and its picks are of threads that there are.
use Rattle.std.proofs.Common.{◌≡◌, ℕ, ◌≤◌, List, length, ◌∙◌, arith}
use Rattle.alloc_rules.proofs.Common.{range_with_len, length-append, length-map, length-range_with_len, Asked, Rules, start, IsOrder, moving}
use Rattle.alloc_rules.proofs.Common.{front_moves, move_all, Regs, About, FrontRules, AreLawful, first_of, rules}
use Rattle.alloc_rules.specs.Lawful.{IsLawfulOrder}

-- there is a local for each thread
pub locals_count : {P V R : Type 0} (r : FrontRules P V R) (about : R → About) (asked : Asked) → length (rules r about asked).locals ≡ asked.config.threads
locals_count r about asked = length-map (range_with_len 0 asked.config.threads) (first_of r about asked) ∙ length-range_with_len 0 asked.config.threads

module _ {P L : Type 0} (r : Rules P L) (order : List ℕ) (moves : moving r (start r) order ≡ order) where
  -- an order of at most 40,000,000 picks
  pub order_is : length order ≤ 40000000 → IsOrder r order
  order_is few = record { moves = move_all r order moves; few = few }

  pub lawful_order : (Laws : Type 0) (After : List ℕ → Type 0) (laws : Laws) → ((o : List ℕ) → IsOrder r o → After o)
      → (most : ℕ) → most ≤ 40000000 → length order ≤ most → IsLawfulOrder r Laws After most order
  lawful_order Laws After laws holds most bound few = grind (arith, front_moves, length-append, move_all)

-- over a front-end whose rules are lawful
pub lawful_run : {P V R : Type 0} (r : FrontRules P V R) (about : R → About) (asked : Asked) (fits : P → V → Regs → R → Type 0) (After : List ℕ → Type 0)
    (laws : AreLawful r about asked fits After) → asked.config.events ≤ 40000000 → (order : List ℕ)
    → moving (rules r about asked) (start (rules r about asked)) order ≡ order → length order ≤ asked.config.events
    → IsLawfulOrder (rules r about asked) (AreLawful r about asked fits After) After asked.config.events order
lawful_run r about asked fits After laws bound order moves few = lawful_order (rules r about asked) order moves (AreLawful r about asked fits After) After laws laws.holds asked.config.events bound few
