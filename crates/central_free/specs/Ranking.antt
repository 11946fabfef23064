-- A tournament of standings: nodes in one list, the leaves behind the inner ones.
use Rattle.std.specs.Prelude.{◌≡◌, ◌≢◌, ℕ, ◌+◌, ◌*◌, ◌<◌, ◌≤◌, ◌⊎◌, Bool, ◌==◌, ◌&&◌, ◌||◌, nat_lt, List, map, Option, Some, None, if◌then◌else◌}
use Rattle.std.specs.List.{slice_index_or, range_with_len}
use Rattle.central_free.specs.declared.ranking.Rank.{Rank}
use Rattle.central_free.specs.declared.ranking.Standing.{Standing}

-- the one of greater weight, and of two equal ones the one of the lower first page
abbrev pub goes_behind : Standing → Standing → Bool
goes_behind a b = nat_lt a.weight b.weight || (a.weight == b.weight && nat_lt b.first.0 a.first.0)

abbrev pub better : Rank → Rank → Rank
better a b = if goes_behind a.standing b.standing then b else a

-- the standing of a slot without a span
abbrev pub no_standing : Standing
no_standing = record { weight = 0; first = record { 0 = 0 } }

-- no slot, for reads past the end
abbrev pub no_rank : Rank
no_rank = record { standing = no_standing; slot = 0 }

-- the node of a number, and the leaf of a slot
abbrev pub node_at : List Rank → ℕ → Rank
node_at nodes i = slice_index_or nodes i no_rank

-- the standings in the leaves
abbrev pub standings_of : ℕ → List Rank → List Standing
standings_of slots nodes = map (λ k. (node_at nodes (slots + k)).standing) (range_with_len 0 slots)

-- each leaf has its slot
abbrev pub HasLeaves : ℕ → List Rank → Type 0
HasLeaves slots nodes = (k : ℕ) → k < slots → (node_at nodes (slots + k)).slot ≡ k

-- an inner node has the better of its children
abbrev pub JoinsAt : List Rank → ℕ → Type 0
JoinsAt nodes i = node_at nodes i ≡ better (node_at nodes (2 * i)) (node_at nodes (2 * i + 1))

abbrev pub IsJoined : ℕ → List Rank → Type 0
IsJoined slots nodes = (i : ℕ) → 0 < i → i < slots → JoinsAt nodes i

-- all inner nodes but one do
abbrev pub IsJoinedBut : ℕ → List Rank → ℕ → Type 0
IsJoinedBut slots nodes other = (i : ℕ) → 0 < i → i < slots → i ≢ other → JoinsAt nodes i

-- the standing of a slot; one that isn't there has no span
abbrev pub standing_at : List Standing → ℕ → Standing
standing_at standings k = slice_index_or standings k no_standing

-- a standing is as good as another, or better
abbrev pub IsAsGood : Standing → Standing → Type 0
IsAsGood a b = (b.weight < a.weight) ⊎ ((a.weight ≡ b.weight) × (a.first.0 ≤ b.first.0))

-- a slot has the best standing, and there is none where all weights are 0
abbrev pub IsBestSlot : List Standing → Option ℕ → Type 0
IsBestSlot standings None = (k : ℕ) → (standing_at standings k).weight ≡ 0
IsBestSlot standings (Some slot) =
    (0 < (standing_at standings slot).weight) × ((k : ℕ) → IsAsGood (standing_at standings slot) (standing_at standings k))
