-- What a pick makes of the node and of its thread.
use Rattle.std.proofs.Common.{◌≡◌, ℕ, ◌+◌, ◌<◌, ◌≤◌, List, length, Option, Some, None, refl, sym, ap, ◌∙◌, arith}
use Rattle.std.proofs.Common.{slice_get, slice_set, option_map, map, zero, suc, [], ◌++◌, ◌∷◌}
use Rattle.std.specs.Option.{option_and_then, option_to_list}
use Rattle.tc_model.specs.Run.{World, pick}
use Rattle.alloc_rules.proofs.Common.{ClassRow, FrontCalls, Input, Parts, Shard, Step, first_shard, no_class, number}
use Rattle.alloc_rules.proofs.Common.{Fits, IsReady, fits_step, middle_of, number_of, place_of, shard_at, slice_get-get_or, target_at}
use Rattle.alloc_rules.proofs.Numbers.{get_front, get_heap, get_map, get_names, get_shard, set_heap, set_map, set_names, set_shard}
use Rattle.alloc_rules.specs.declared.part.Part.{Part}
use Rattle.alloc_rules.specs.declared.part.Part.TheVariants as part
use Rattle.call_steps.specs.declared.step.Step.TheVariants as does
use Rattle.call_steps.specs.declared.step.ShardStep.{ShardStep}
use Rattle.no_caches.specs.declared.front.NoPart.{NoPart}
use Rattle.no_caches.specs.declared.front.NoRow.{NoRow}
use Rattle.no_caches.specs.declared.front.NoSeat.{NoSeat}
use Rattle.no_caches.specs.NoCaches.{no_calls, no_caches, about_none, fits}
use Rattle.node_rules.specs.OneNode.{Node, Ask, answer, node_after}
use Rattle.node_rules.specs.Numa.{NodeLocal, NodePart}
use Rattle.node_rules.specs.NodeActs.{asked_by, resumed, HasNode, node_rules}
use Rattle.node_rules.proofs.EachAct.{acts_are_asked}

-- a part that an act at a shard fits is one of the shards that there are
shard_low : (rows : List ClassRow) (l : NodeLocal) (row : ShardStep NoRow) → l.step ≡ does.Shard row → (p : Parts NoPart) (xs : List Shard) (k : ℕ)
    (q : Part NoPart) → slice_get (map part.Shard xs ++ middle_of p) k ≡ Some q → fits_step rows fits q l → k < length xs
shard_low rows l row is p [] k q at fit = grind arith
shard_low rows l row is p (x ∷ xs) zero q at fit = omega arith
shard_low rows l row is p (x ∷ xs) (suc k) q at fit = let low = shard_low rows l row is p xs k q at fit in omega arith

module _ (input : Input) (w : World NodePart NodeLocal) (n : Node) (has : HasNode w n) (as_many : length n.shards ≡ length input.rows) (t : ℕ) where
  abbrev e : FrontCalls NoSeat NoRow
  e = no_calls input.rows

  abbrev p : Parts NoPart
  p = record { fronts = []; shards = n.shards; heap = n.heap; map = n.map; names = has.names }

  abbrev next : World NodePart NodeLocal
  next = pick (node_rules input) w t

  abbrev few : 0 ≤ length p.fronts
  few = omega arith

  -- What the pick leaves where so much is asked: the node that answers, and a thread that goes on by the reply.
  pub record Picked (o : Option Ask) : Type 0 where
    pub node : HasNode next (node_after n (option_to_list o))
    pub goes : (l : NodeLocal) (a : Ask) → slice_get w.locals t ≡ Some l → o ≡ Some a
        → next.locals ≡ slice_set w.locals t (resumed e l l.step (answer n a).1)

  module _ (l : NodeLocal) (local : slice_get w.locals t ≡ Some l) where
    wants : (step : Step NoRow) → l.step ≡ step
        → place_of (no_caches input.rows) about_none l ≡ option_map (number_of 0 (length n.shards)) (target_at (no_caches input.rows).place l step)
    wants step is = grind arith

    picked_at : IsReady (node_rules input) (Fits input.rows fits) w t → (step : Step NoRow) → l.step ≡ step → Picked (asked_by input.rows l)
    picked_at ready (does.Front row) is = grind (arith, wants (does.Front row) is, does.Front row, get_front 0 p few 0)
    picked_at ready (does.Shard row) is =
        let k : ℕ = l.regs.class.0 in
        let want = wants (does.Shard row) is in
        let found = ready l (number (0 + k)) local want in
        let there = ap (λ (qs : List (Part NoPart)). slice_get qs (0 + k)) (sym has.is) ∙ found.there in
        let low = shard_low input.rows l row is p n.shards (0 + k) found.part there found.fit.step in
        let within : k < length n.shards = omega arith in
        let at = get_shard 0 p few k within ∙ ap (option_map part.Shard) (slice_get-get_or n.shards k (first_shard 0 0 no_class) within) in
        let law = (acts_are_asked e).shard (shard_at n.shards k) l in
        record { node = record { names = has.names; is = grind (arith, set_shard 0 p few) }; goes = λ j a local' asks. grind arith }
    picked_at ready (does.Heap row) is = grind (arith, wants (does.Heap row) is, does.Heap row, get_heap 0 p few, acts_are_asked e, set_heap 0 p few)
    picked_at ready (does.Map row) is = grind (arith, wants (does.Map row) is, does.Map row, get_map 0 p few, acts_are_asked e, set_map 0 p few)
    picked_at ready (does.Names row) is =
        let want = wants (does.Names row) is in
        grind (arith, get_names 0 p few, set_names 0 p few)
    picked_at ready does.Ended is = grind (arith, wants)

  -- of any thread, which is ready
  pub picked : IsReady (node_rules input) (Fits input.rows fits) w t → (o : Option NodeLocal) → slice_get w.locals t ≡ o
      → Picked (option_and_then (asked_by input.rows) o)
  picked ready None local = record { node = record { names = has.names; is = grind arith }; goes = λ j a local' asks. grind arith }
  picked ready (Some l) local = picked_at l local ready l.step refl
