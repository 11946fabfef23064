-- What holds of memory nodes between any two picks, in every order of their threads' picks.
use Rattle.std.specs.Prelude.{◌≡◌, ℕ, ◌+◌, ◌^◌, ◌<◌, ◌≤◌, ◌==◌, Bool, false, List, length, map, take, drop, count_by, All, Option, Some, None, IsSomeAnd, slice_get}
use Rattle.tc_units.specs.Classes.{length_of}
use Rattle.tc_units.specs.declared.spans.ClassRow.{ClassRow}
use Rattle.tc_model.specs.declared.answers.Answer.{Answer}
use Rattle.tc_model.specs.declared.answers.Answer.TheVariants.{Block, Freed}
use Rattle.tc_model.specs.Limits.{most_picks}
use Rattle.tc_model.specs.Calls.{picks_of, AreRising}
use Rattle.tc_model.specs.Input.{Input}
use Rattle.tc_model.specs.Run.{World, start, run}
use Rattle.tc_model.specs.Replays.{HaveEnded}
use Rattle.tc_model.specs.Serial.{AreThreads, NeverWaits, Rises, Ends}
use Rattle.tc_model.specs.Sound.{IsOrder, IsSound}
use Rattle.call_steps.specs.Rows.{under}
use Rattle.call_steps.specs.Local.{Decided}
use Rattle.alloc_rules.specs.Fits.{Fits}
use Rattle.alloc_rules.specs.Inputs.{IsValidInput, is_common, not_taken}
use Rattle.alloc_rules.specs.Law as allocator
use Rattle.alloc_rules.specs.Machine.{after, turns, waits}
use Rattle.alloc_rules.specs.Told.{TellsFirst, TellsScripts}
use Rattle.no_caches.specs.NoCaches.{no_caches, about_none, Holds, fits}
use Rattle.node_rules.specs.Joined.{NodeLine, told_line, lines_at, AreJoined}
use Rattle.node_rules.specs.OneNode.{node}
use Rattle.node_rules.specs.NodeActs.{acts_of, IsRunOf}
use Rattle.node_rules.specs.Nodes.{acts_at, asked_at, input_at, route_of}
use Rattle.node_rules.specs.Beside.{Beside, local_now, picks_from, IsNodeOf}
use Rattle.node_rules.specs.Numa.{NodePart, NodeLocal, width_of, rules_at, numa_rules, numa_calls}

-- how many of a thread's calls are decided and under way
abbrev pub under_now : Option NodeLocal → ℕ
under_now None = 0
under_now (Some x) = under about_none x.step

-- an address of a node lies below its end
abbrev pub IsLow : Answer → Type 0
IsLow (Block addr len) = addr.0 < 2 ^ 34
IsLow (Freed addr) = addr.0 < 2 ^ 34
IsLow other = Unit {0}

-- whether the act waits there
abbrev pub waits_now : NodePart → Option NodeLocal → Bool
waits_now p None = false
waits_now p (Some x) = waits p x

-- What an act makes of a local: it ends at most one call and decides at most one, whose address is a low one.
pub record IsOneAct (x new : NodeLocal) : Type 0 where
  pub kept : length x.answers ≤ length new.answers
  pub few : length new.answers ≤ length x.answers + 1
  pub rises : x.ended ≤ new.ended
  pub next : new.ended ≤ x.ended + 1
  pub low : All (λ (d : Decided). IsLow d.answer) (drop (length x.answers) new.answers)

-- a part fits what a thread has at the node of its call, its numbers are few, and an act there is one
pub record FitsThread (rows : List ClassRow) (p : NodePart) (l : Beside NodeLocal) : Type 0 where
  pub now : IsSomeAnd (local_now l) (Fits rows fits p)
  pub acts : l.acts ≤ most_picks
  pub ended : l.ended ≤ most_picks
  pub goes : (x : NodeLocal) → local_now l ≡ Some x → waits p x ≡ false → IsOneAct x (after (no_caches rows) about_none p x).1

module _ (nodes : ℕ) (input : Input) where
  -- the picks of an order that act at node k, and that node's run of them
  abbrev pub order_at : ℕ → List ℕ → List ℕ
  order_at k order = picks_from (numa_rules nodes input) (start (numa_rules nodes input)) k order

  abbrev pub world_at : ℕ → List ℕ → World NodePart NodeLocal
  world_at k order = run (rules_at nodes input k) (order_at k order)

  -- Node k is what its own picks make of it, and of that run all holds that holds of the allocator: whatever the other nodes do.
  pub record IsNode (k : ℕ) (order : List ℕ) : Type 0 where
    pub moves : IsOrder (rules_at nodes input k) (order_at k order)
    pub of : IsNodeOf (width_of input) k (run (numa_rules nodes input) order) (world_at k order)
    pub holds : allocator.HoldsAfter (no_caches input.rows) about_none Holds (asked_at nodes input.asked k) (order_at k order)
    -- its parts and the replies to what was asked of them are what that list of acts makes of an empty node
    pub made : IsRunOf (input_at nodes input k) (order_at k order) (node input.rows input.asked.config (acts_of (input_at nodes input k) (order_at k order)))

  -- a thread has done as many acts as it was picked, and decided the first calls of its script: those that ended, and the one
  -- under way once it is decided
  pub record IsThread (order : List ℕ) (t : ℕ) (l : Beside NodeLocal) : Type 0 where
    pub here : length l.here ≡ nodes
    pub route : l.route ≡ route_of nodes input.asked t
    pub acts : l.acts ≡ picks_of t order
    pub decided : length l.answers ≡ l.ended + under_now (local_now l)
    -- at each node those of its calls have ended that act there and ended
    pub ended : (k : ℕ) (x : NodeLocal) → slice_get l.here k ≡ Some x → x.ended ≡ count_by (λ j. j == k) (take l.ended l.route)
    pub within : l.ended ≤ length l.route
    -- and no call ends without an act
    pub slow : l.ended ≤ l.acts

  -- After the picks of an order, each of which moved.
  pub record HoldsAfter (order : List ℕ) : Type 0 where
    pub at_nodes : (k : ℕ) → k < nodes → IsNode k order
    pub count : length (run (numa_rules nodes input) order).locals ≡ input.asked.config.threads
    pub threads : (t : ℕ) (l : Beside NodeLocal) → slice_get (run (numa_rules nodes input) order).locals t ≡ Some l → IsThread order t l
    -- its answers stand in the order of the acts that decided them
    pub rising : (t : ℕ) (l : Beside NodeLocal) → slice_get (run (numa_rules nodes input) order).locals t ≡ Some l → AreRising (λ (d : Decided). d.act) 0 l.answers
    -- the calls that are told, with the node of each: those of a node are the calls of its run, in their order
    pub lines : List NodeLine
    pub told : numa_calls (run (numa_rules nodes input) order).locals order ≡ map (told_line input.asked.config.huge) lines
    pub told_at : (k : ℕ) → k < nodes → lines_at k lines ≡ allocator.calls (world_at k order).locals (order_at k order)
    -- an allocation and a release are at their thread's node, a free at that of its block
    pub at_home : All (λ (x : NodeLine). x.node ≡ acts_at nodes input.asked x.line.thread.0 x.line.call) lines
    -- together they are a run on disjoint blocks over the hugepages of all nodes, each block in its node
    pub joined : AreJoined nodes input.asked.config.huge (length_of input.rows) lines
    -- of each thread the first calls of its script are told, and all of them where all scripts have ended
    pub told_first : (t : ℕ) (l : Beside NodeLocal) → slice_get (run (numa_rules nodes input) order).locals t ≡ Some l
        → TellsFirst input.asked t (l.ended + under_now (local_now l)) (numa_calls (run (numa_rules nodes input) order).locals order)
    pub all_told : HaveEnded (numa_rules nodes input) (run (numa_rules nodes input) order)
        → TellsScripts input.asked (numa_calls (run (numa_rules nodes input) order).locals order)

  -- the laws of the rules
  pub record AreLawful : Type 0 where
    pub sound : IsSound (numa_rules nodes input) (FitsThread input.rows)
    pub threads : AreThreads (numa_rules nodes input) (turns input.asked)
    pub never_waits : NeverWaits (numa_rules nodes input) (turns input.asked)
    pub rises : Rises (numa_rules nodes input)
    pub ends : Ends (numa_rules nodes input) (turns input.asked)
    pub holds : (order : List ℕ) → IsOrder (numa_rules nodes input) order → HoldsAfter order

-- for every class table, every number of nodes and every trace without a drain and a resize
abbrev pub NodesAreLawful : Type 0
NodesAreLawful = (nodes : ℕ) (input : Input) → 0 < nodes → IsValidInput input → not_taken is_common input.asked.calls ≡ 0 → AreLawful nodes input
