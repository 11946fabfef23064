-- A tournament: the root has the best standing, and a write changes only what stands above it.
use Rattle.std.proofs.Common.{◌≡◌, ℕ, zero, suc, ◌+◌, ◌-◌, ◌*◌, ◌/◌, ◌<◌, ◌≤◌, ◌⊎◌, true, false, List, length, get_or, Some, None, refl, ap, inl, inr, arith}
use Rattle.std.proofs.lemmas.List.{get_or_past}
use Rattle.std.proofs.lemmas.List.FromFn.{length-map-range_with_len, get_or-map-range_with_len}
use Rattle.std.proofs.lemmas.Bool.{cases_lt, cases_eq}
use Rattle.std.proofs.lemmas.Bool.Decides.{nat_tests}
use Rattle.central_free.specs.declared.ranking.Rank.{Rank}
use Rattle.central_free.specs.declared.ranking.Standing.{Standing}
use Rattle.central_free.specs.Ranking.{goes_behind, better, no_standing, node_at, standings_of, HasLeaves, IsJoined, IsAsGood, IsBestSlot}

-- one rank is as good as another, or better
abbrev Beats : Rank → Rank → Type 0
Beats a b = IsAsGood a.standing b.standing

Beats-self : (a : Rank) → Beats a a
Beats-self a = inr (refl, omega arith)

Beats-along : (a b c : Rank) → Beats a b → Beats b c → Beats a c
Beats-along a b c first second = grind (arith)

-- where the second goes behind it is as good, and else the first is
good_behind : (a b : Standing) → goes_behind a b ≡ true → IsAsGood b a
good_behind a b behind = grind (arith, nat_tests)

good_front : (a b : Standing) → goes_behind a b ≡ false → IsAsGood a b
good_front a b front = grind (arith, nat_tests)

record Best (a b c : Rank) : Type 0 where
  first : Beats c a
  second : Beats c b
  one : (c ≡ a) ⊎ (c ≡ b)

better-best : (a b : Rank) → Best a b (better a b)
better-best a b = grind (arith, nat_tests, good_behind, Beats-self, good_front)

-- the root is as good as each node
root_beats : (slots : ℕ) (nodes : List Rank) → IsJoined slots nodes → (fuel i : ℕ) → 0 < i → i < 2 * slots → i ≤ fuel → Beats (node_at nodes 1) (node_at nodes i)
root_beats slots nodes joined zero i some within enough = absurd (omega arith)
root_beats slots nodes joined (suc fuel) i some within enough =
    elim (cases_eq i 1) [
      | inl one ↦ rw one (Beats-self (node_at nodes 1))
      | inr more ↦
          (let p = i / 2 in let left = node_at nodes (2 * p) in let right = node_at nodes (2 * p + 1) in
          let above = root_beats slots nodes joined fuel p (omega arith) (omega arith) (omega arith) in
          let best : Best left right (node_at nodes p) = rw (joined p (omega arith) (omega arith)) (better-best left right) in
          elim (cases_eq i (2 * p)) [
            | inl even ↦ rw even (Beats-along (node_at nodes 1) (node_at nodes p) left above best.first)
            | inr odd ↦ (let is : i ≡ 2 * p + 1 = omega arith in rw is (Beats-along (node_at nodes 1) (node_at nodes p) right above best.second))
          ])
    ]

-- each node is one of the leaves
record IsLeaf (slots : ℕ) (nodes : List Rank) (r : Rank) : Type 0 where
  at : ℕ
  within : at < slots
  is : r ≡ node_at nodes (slots + at)

node_leaf : (slots : ℕ) (nodes : List Rank) → IsJoined slots nodes → (fuel i : ℕ) → 0 < i → i < 2 * slots → 2 * slots ≤ i + fuel → IsLeaf slots nodes (node_at nodes i)
node_leaf slots nodes joined zero i some within enough = absurd (omega arith)
node_leaf slots nodes joined (suc fuel) i some within enough =
    elim (cases_lt i slots) [
      | inl inner ↦
          grind (
            arith,
            node_leaf slots nodes joined fuel (2 * i),
            node_leaf slots nodes joined fuel (2 * i + 1),
            better-best (node_at nodes (2 * i)) (node_at nodes (2 * i + 1)),
            joined i some inner,
          )
      | inr leaf ↦ record { at = i - slots; within = omega arith; is = ap (node_at nodes) (omega arith) }
    ]

pub length-standings_of : (slots : ℕ) (nodes : List Rank) → length (standings_of slots nodes) ≡ slots
length-standings_of slots nodes = length-map-range_with_len (λ k. (node_at nodes (slots + k)).standing) 0 slots

pub get_or-standings_of : (slots : ℕ) (nodes : List Rank) (k : ℕ) → k < slots → get_or (standings_of slots nodes) k no_standing ≡ (node_at nodes (slots + k)).standing
get_or-standings_of slots nodes k less = get_or-map-range_with_len (λ j. (node_at nodes (slots + j)).standing) 0 slots k k no_standing less (omega arith)

-- the root has the best standing
root_best : (slots : ℕ) (nodes : List Rank) → 0 < slots → IsJoined slots nodes → (k : ℕ)
    → k < slots → IsAsGood (node_at nodes 1).standing (get_or (standings_of slots nodes) k no_standing)
root_best slots nodes some joined k less =
    rw (get_or-standings_of slots nodes k less) (root_beats slots nodes joined (slots + k) (slots + k) (omega arith) (omega arith) (omega arith))

past_end : (slots : ℕ) (nodes : List Rank) (k : ℕ) → slots ≤ k → (get_or (standings_of slots nodes) k no_standing).weight ≡ 0
past_end slots nodes k past =
    ap (λ t. t.weight) (get_or_past (standings_of slots nodes) k no_standing (omega (arith, length-standings_of slots nodes)))

pub best_none : (slots : ℕ) (nodes : List Rank) → IsJoined slots nodes → (0 < slots → (node_at nodes 1).standing.weight ≡ 0) → IsBestSlot (standings_of slots nodes) None
best_none slots nodes joined no_weight = λ k.
    (elim (cases_lt k slots) [
      | inl less ↦ grind (arith, root_best slots nodes, no_weight)
      | inr past ↦ past_end slots nodes k past
    ])

pub best_some : (slots : ℕ) (nodes : List Rank) → HasLeaves slots nodes → IsJoined slots nodes → 0 < slots
    → 0 < (node_at nodes 1).standing.weight → IsBestSlot (standings_of slots nodes) (Some (node_at nodes 1).slot)
best_some slots nodes leaves joined some heavy =
    grind (
      arith,
      nat_tests,
      node_leaf slots nodes joined (2 * slots) 1,
      leaves,
      get_or-standings_of slots nodes,
      root_best slots nodes some joined,
      past_end slots nodes,
    )
