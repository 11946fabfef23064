-- Writes to the nodes of a tournament, and what they leave as it was.
use Rattle.std.proofs.Common.{◌≡◌, ◌≢◌, ℕ, ◌+◌, ◌-◌, ◌*◌, ◌/◌, ◌<◌, ◌≤◌, List, ◌++◌, length, get_or, set, take, drop, sym, ◌∙◌, ap, inl, inr, arith}
use Rattle.std.proofs.lemmas.List.{get_or-set_same, get_or-set_other, length-set, get_or_past, get_or-drop, length-drop, drop_all, take_all, append-nil, length-take}
use Rattle.std.proofs.lemmas.List.FromFn.{fill_by_all}
use Rattle.std.proofs.lemmas.Bool.{cases_eq}
use Rattle.std.proofs.lemmas.Bool.Decides.{nat_tests}
use Rattle.central_free.specs.declared.ranking.Rank.{Rank}
use Rattle.central_free.specs.declared.ranking.Standing.{Standing}
use Rattle.central_free.specs.Ranking.{better, no_rank, no_standing, node_at, standings_of, HasLeaves, JoinsAt, IsJoined, IsJoinedBut}
use Rattle.central_free.proofs.RankFacts.{length-standings_of, get_or-standings_of}

abbrev pub rank : Standing → ℕ → Rank
rank standing slot = record { standing = standing; slot = slot }

-- the first i leaves have the standings of these ranks
abbrev pub HasWritten : ℕ → List Rank → List Rank → ℕ → Type 0
HasWritten slots nodes old i = (k : ℕ) → k < i → node_at nodes (slots + k) ≡ rank (node_at old k).standing k

module _ (slots : ℕ) (nodes old : List Rank) (i : ℕ) where
  pub HasWritten-more : (t : Standing) → length nodes ≡ 2 * slots → i < slots → t ≡ (node_at old i).standing
      → HasWritten slots nodes old i → HasWritten slots (set nodes (slots + i) (rank t i)) old (i + 1)
  HasWritten-more t size less is so_far = grind (arith, nat_tests, get_or-set_same, get_or-set_other)

  module _ (all : slots ≤ i) (written : HasWritten slots nodes old i) where
    pub HasLeaves-written : HasLeaves slots nodes
    HasLeaves-written = λ k less. ap (λ r. r.slot) (written k (omega arith))

    pub standings-written : (k : ℕ) → k < slots → get_or (standings_of slots nodes) k no_standing ≡ (node_at old k).standing
    standings-written k less = get_or-standings_of slots nodes k less ∙ ap (λ r. r.standing) (written k (omega arith))

-- the leaves are as they were
abbrev pub HasSameLeaves : ℕ → List Rank → List Rank → Type 0
HasSameLeaves slots old new = (k : ℕ) → k < slots → node_at new (slots + k) ≡ node_at old (slots + k)

module _ (slots : ℕ) (old nodes : List Rank) where
  pub HasSameLeaves-more : (m : ℕ) (r : Rank) → m < slots → HasSameLeaves slots old nodes → HasSameLeaves slots old (set nodes m r)
  HasSameLeaves-more m r inner same = λ k less. get_or-set_other nodes m (slots + k) r no_rank (λ clash. omega arith) ∙ same k less

  pub HasLeaves-same : HasLeaves slots old → HasSameLeaves slots old nodes → HasLeaves slots nodes
  HasLeaves-same leaves same = λ k less. ap (λ r. r.slot) (same k less) ∙ leaves k less

  pub standings_of-same : HasSameLeaves slots old nodes → standings_of slots nodes ≡ standings_of slots old
  standings_of-same same =
      fill_by_all (λ k. (node_at old (slots + k)).standing) (standings_of slots nodes) slots no_standing (length-standings_of slots nodes)
      (λ k less. get_or-standings_of slots nodes k less ∙ ap (λ r. r.standing) (same k less))

-- the better of a node's children, and the nodes where it was written there
abbrev pub best_child : List Rank → ℕ → Rank
best_child nodes m = better (node_at nodes (2 * m)) (node_at nodes (2 * m + 1))

abbrev pub joined_at : List Rank → ℕ → List Rank
joined_at nodes m = set nodes m (best_child nodes m)

-- one node is joined
joined_here : (nodes : List Rank) (m : ℕ) → 0 < m → m < length nodes → JoinsAt (joined_at nodes m) m
joined_here nodes m some within = grind (arith, get_or-set_other, get_or-set_same)

-- and no other but the one above it changes
joined_there : (nodes : List Rank) (m i : ℕ) (r : Rank) → i ≢ m → 2 * i ≢ m → 2 * i + 1 ≢ m → JoinsAt nodes i → JoinsAt (set nodes m r) i
joined_there nodes m i r self left right join = grind (arith, get_or-set_other)

pub IsJoinedBut-leaf : (slots : ℕ) (nodes : List Rank) (slot : ℕ) (r : Rank) → IsJoined slots nodes → IsJoinedBut slots (set nodes (slots + slot) r) ((slots + slot) / 2)
IsJoinedBut-leaf slots nodes slot r joined = λ i more less other.
    joined_there nodes (slots + slot) i r (λ same. omega arith) (λ same. other (omega arith)) (λ same. other (omega arith)) (joined i more less)

pub IsJoined-all : (slots : ℕ) (nodes : List Rank) (node : ℕ) → node ≤ 1 → IsJoinedBut slots nodes (node / 2) → IsJoined slots nodes
IsJoined-all slots nodes node low joined = λ i more less. joined i more less (λ same. omega arith)

-- joining downwards: those behind m are joined
abbrev pub IsJoinedBehind : ℕ → List Rank → ℕ → Type 0
IsJoinedBehind slots nodes m = (i : ℕ) → 0 < i → i < slots → m < i → JoinsAt nodes i

module _ (slots : ℕ) (nodes : List Rank) (m : ℕ) (some : 0 < m) (inner : m < slots) (size : length nodes ≡ 2 * slots) where
  -- joining upwards
  pub IsJoinedBut-up : IsJoinedBut slots nodes m → IsJoinedBut slots (joined_at nodes m) (m / 2)
  IsJoinedBut-up joined = λ i more less other.
      (elim (cases_eq i m) [
        | inl here ↦ rw here (joined_here nodes m some (omega arith))
        | inr differ ↦ joined_there nodes m i (best_child nodes m) differ (λ same. other (omega arith)) (λ same. other (omega arith)) (joined i more less differ)
      ])

  pub IsJoinedBehind-more : IsJoinedBehind slots nodes m → IsJoinedBehind slots (joined_at nodes m) (m - 1)
  IsJoinedBehind-more joined = λ i more less behind.
      (elim (cases_eq i m) [
        | inl here ↦ rw here (joined_here nodes m some (omega arith))
        | inr differ ↦ joined_there nodes m i (best_child nodes m) differ (λ same. omega arith) (λ same. omega arith) (joined i more less (omega arith))
      ])

module _ (slots : ℕ) (nodes : List Rank) (slot : ℕ) (t : Standing) (size : length nodes ≡ 2 * slots) (within : slot < slots) where
  -- what the leaves are where one is written
  leaf_now : node_at (set nodes (slots + slot) (rank t slot)) (slots + slot) ≡ rank t slot
  leaf_now = get_or-set_same nodes (slots + slot) (rank t slot) no_rank (omega arith)

  leaf_else : (k : ℕ) → k ≢ slot → node_at (set nodes (slots + slot) (rank t slot)) (slots + k) ≡ node_at nodes (slots + k)
  leaf_else k other = get_or-set_other nodes (slots + slot) (slots + k) (rank t slot) no_rank (λ same. other (omega arith))

  -- its slot and its standing
  pub HasLeaves-set : HasLeaves slots nodes → HasLeaves slots (set nodes (slots + slot) (rank t slot))
  HasLeaves-set leaves = λ k less. elim (cases_eq k slot) [ inl here ↦ rw here (ap (λ r. r.slot) leaf_now) | inr other ↦ ap (λ r. r.slot) (leaf_else k other) ∙ leaves k less ]

  pub standings_of-set : standings_of slots (set nodes (slots + slot) (rank t slot)) ≡ set (standings_of slots nodes) slot t
  standings_of-set =
      let long = length-standings_of slots nodes in let now = set nodes (slots + slot) (rank t slot) in
      sym (fill_by_all (λ k. (node_at now (slots + k)).standing) (set (standings_of slots nodes) slot t) slots no_standing (length-set (standings_of slots nodes) slot t ∙ long) (λ k less.
      elim (cases_eq k slot) [
        | inl here ↦ rw here (get_or-set_same (standings_of slots nodes) slot t no_standing (omega arith) ∙ sym (ap (λ r. r.standing) leaf_now))
        | inr other ↦ get_or-set_other (standings_of slots nodes) slot k t no_standing other ∙ get_or-standings_of slots nodes k less ∙ sym (ap (λ r. r.standing) (leaf_else k other))
      ]))

-- the leaves of the ranking before stand behind its inner nodes
pub standings-grown : (few slots : ℕ) (old nodes : List Rank) → length old ≡ 2 * few → few ≤ slots
    → ((k : ℕ) → k < slots → get_or (standings_of slots nodes) k no_standing ≡ (node_at (drop few old) k).standing)
    → (k : ℕ) → get_or (standings_of slots nodes) k no_standing ≡ get_or (standings_of few old) k no_standing
standings-grown few slots old nodes size room same k = grind (arith, nat_tests, get_or-drop, get_or-standings_of, get_or_past, length-standings_of, length-drop)

-- elements that are written back whole
pub refill : {X : Type 0} (n : ℕ) (new old : List X) → length new ≡ n → length old ≤ n → take n (new ++ drop (length new) old) ≡ new
refill n new old size small =
    ap (λ xs. take n (new ++ xs)) (drop_all (length new) old (omega arith)) ∙ ap (take n) (append-nil new) ∙ take_all n new (omega arith)

pub refill_twice : {X : Type 0} (n : ℕ) (new old : List X) → length new ≡ n → take n (new ++ drop (length new) (take n old)) ≡ new
refill_twice n new old size = refill n new (take n old) size (omega (arith, length-take n old))
