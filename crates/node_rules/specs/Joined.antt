-- Calls of several nodes in one order: as they are told, with addresses that go on from node to node, and those of each node.
use Rattle.std.specs.Prelude.{◌≡◌, ℕ, ◌+◌, ◌*◌, ◌<◌, ◌≤◌, ◌==◌, ◌⊎◌, true, List, ◌∷◌, ◌++◌, map, filter, sum_by, All}
use Rattle.std.specs.List.{range_with_len}
use Rattle.tc_units.specs.Units.{huge_bytes}
use Rattle.tc_model.specs.declared.answers.Answer.{Answer}
use Rattle.tc_model.specs.declared.answers.Answer.TheVariants.{Block, Freed}
use Rattle.tc_model.specs.declared.answers.CallLine.{CallLine}
use Rattle.tc_model.specs.Blocks.{IsBlockRun, allocates, frees, live_count, live_bytes}

-- how many bytes lie before a node, where each has so many hugepages
abbrev pub bytes_before : ℕ → ℕ → ℕ
bytes_before huge k = k * huge * huge_bytes

-- an answer whose address is greater by so much
abbrev pub shifted : ℕ → Answer → Answer
shifted n (Block addr len) = Block (record { 0 = addr.0 + n }) len
shifted n (Freed addr) = Freed (record { 0 = addr.0 + n })
shifted n other = other

-- a decided call at a node, with the node's own address
pub record NodeLine : Type 0 where
  pub node : ℕ
  pub line : CallLine

-- how it is told
abbrev pub told_line : ℕ → NodeLine → CallLine
told_line huge x = record { thread = x.line.thread; call = x.line.call; answer = shifted (bytes_before huge x.node) x.line.answer }

-- the calls of a node among them, in their order
abbrev pub lines_at : ℕ → List NodeLine → List CallLine
lines_at k xs = map (λ x. x.line) (filter (λ (x : NodeLine). x.node == k) xs)

-- a call is of a label where it allocates or frees it
abbrev pub IsAbout : ℕ → NodeLine → Type 0
IsAbout label x = (allocates label x.line.call ≡ true) ⊎ (frees label x.line.call ≡ true)

-- all calls are at nodes that there are, and those of a label at one of them
pub record AreOfNodes (nodes : ℕ) (node_of : ℕ → ℕ) (xs : List NodeLine) : Type 0 where
  pub there : All (λ (x : NodeLine). x.node < nodes) xs
  pub own : All (λ (x : NodeLine). (label : ℕ) → IsAbout label x → x.node ≡ node_of label) xs

-- a block lies among the bytes of a node
pub record IsInNode (huge k addr len : ℕ) : Type 0 where
  pub from : huge_bytes + bytes_before huge k ≤ addr
  pub to : addr + len ≤ huge_bytes + bytes_before huge (k + 1)

-- what is told of calls at nodes, each of which is a run on disjoint blocks of its own, is such a run over all their
-- hugepages; each block that is answered or freed lies
-- in its node; and the blocks that stand are those of all nodes
pub record AreJoined (nodes huge : ℕ) (round : ℕ → ℕ) (xs : List NodeLine) : Type 0 where
  pub run : IsBlockRun (nodes * huge) round (map (told_line huge) xs)
  pub inside : (earlier : List NodeLine) (x : NodeLine) (later : List NodeLine) (addr len : ℕ) → earlier ++ x ∷ later ≡ xs
      → (told_line huge x).answer ≡ Block (record { 0 = addr }) len → IsInNode huge x.node addr len
  pub freed : (earlier : List NodeLine) (x : NodeLine) (later : List NodeLine) (addr : ℕ) → earlier ++ x ∷ later ≡ xs
      → (told_line huge x).answer ≡ Freed (record { 0 = addr }) → (len : ℕ) × (0 < len) × IsInNode huge x.node addr len
  pub count : live_count (map (told_line huge) xs) ≡ sum_by (λ k. live_count (lines_at k xs)) (range_with_len 0 nodes)
  pub bytes : live_bytes (map (told_line huge) xs) ≡ sum_by (λ k. live_bytes (lines_at k xs)) (range_with_len 0 nodes)

abbrev pub BlockRunsJoin : Type 0
BlockRunsJoin = (nodes huge : ℕ) (round : ℕ → ℕ) (own : ℕ → ℕ) (xs : List NodeLine) → AreOfNodes nodes own xs
    → ((k : ℕ) → k < nodes → IsBlockRun huge round (lines_at k xs)) → AreJoined nodes huge round xs
