-- The parts and the replies of a run are those of its acts.
use Rattle.std.proofs.Common.{◌≡◌, ℕ, suc, List, [], ◌∷◌, ◌++◌, length, fold, Some, refl, sym, ap, subst, ◌∙◌, arith, slice_get}
use Rattle.std.specs.Option.{option_and_then, option_to_list}
use Rattle.std.proofs.lemmas.List.{append_assoc}
use Rattle.std.proofs.lemmas.List.Sums.{fold-append}
use Rattle.tc_model.specs.Run.{World, pick, run}
use Rattle.alloc_rules.proofs.Common.{Fits, Input, IsOrder, IsReady, IsValid, Rules, append_snoc, front_moves, length-append}
use Rattle.alloc_rules.proofs.Common.{length-set, shard_at, start}
use Rattle.alloc_rules.specs.FrontLaw.{IsNotOwn}
use Rattle.no_caches.specs.NoCaches.{fits}
use Rattle.no_caches.specs.NoCachesLaw.{no_caches_in_every_order}
use Rattle.node_rules.specs.OneNode.{Node, empty_node, Ask, OfShard, shard_answer, answer, node_after, replies, node}
use Rattle.node_rules.specs.Numa.{NodeLocal, NodePart}
use Rattle.node_rules.specs.NodeActs.{HasNode, node_rules, asked_by, acts_from, acts_of, IsRunOf, NodeIsItsActs}
use Rattle.node_rules.proofs.EachAct.{acts_are_asked}
use Rattle.node_rules.proofs.EachPick.{Picked, picked}
use Rattle.node_rules.proofs.Started.{shards_count}

answer_many : (n : Node) (a : Ask) → length (answer n a).0.shards ≡ length n.shards
answer_many n (OfShard k a) = length-set n.shards k.0 (shard_answer (shard_at n.shards k.0) a).0
answer_many n other = refl

many_after : (n : Node) (acts : List Ask) → length (node_after n acts).shards ≡ length n.shards
many_after n [] = refl
many_after n (a ∷ acts) = many_after (answer n a).0 acts ∙ answer_many n a

-- each act has its reply
reply_at : (n : Node) (earlier : List Ask) (a : Ask) (later : List Ask)
    → slice_get (replies n (earlier ++ a ∷ later)) (length earlier) ≡ Some (answer (node_after n earlier) a).1
reply_at n [] a later = refl
reply_at n (b ∷ earlier) a later = reply_at (answer n b).0 earlier a later

replies_count : (n : Node) (acts : List Ask) → length (replies n acts) ≡ length acts
replies_count n [] = refl
replies_count n (a ∷ acts) = ap (λ (k : ℕ). suc k) (replies_count (answer n a).0 acts)

module _ (input : Input) where
  abbrev r : Rules NodePart NodeLocal
  r = node_rules input

  abbrev empty : Node
  empty = empty_node input.rows input.asked.config

  many_first : length empty.shards ≡ length input.rows
  many_first = shards_count input.asked.config.transfer 0 input.rows

  -- one order behind another
  acts_append : (w : World NodePart NodeLocal) (earlier later : List ℕ)
      → acts_from input w (earlier ++ later) ≡ acts_from input w earlier ++ acts_from input (fold (pick r) w earlier) later
  acts_append w [] later = refl
  acts_append w (t ∷ earlier) later = rw (acts_append (pick r w t) earlier later, append_assoc) refl

  run_push : (past : List ℕ) (t : ℕ) → run r (past ++ t ∷ []) ≡ pick r (run r past) t
  run_push past t = fold-append (pick r) (start r) past (t ∷ [])

  first_picks : (earlier later : List ℕ) → IsOrder r (earlier ++ later) → IsOrder r earlier
  first_picks earlier later order =
      record { moves = front_moves r (start r) earlier later order.moves; few = omega (arith, length-append earlier later, order.few) }

  module _ (valid : IsValid input.rows IsNotOwn input.asked) where
    -- a pick behind an order, and the picks of one
    picked_behind : (past : List ℕ) (w : World NodePart NodeLocal) → run r past ≡ w → IsOrder r past → (n : Node) (has : HasNode w n)
        (many : length n.shards ≡ length input.rows) (t : ℕ) → Picked input w n has many t (option_and_then (asked_by input.rows) (slice_get w.locals t))
    picked_behind past w is order n has many t =
        let ready = (no_caches_in_every_order input.rows input.asked valid).sound past t order in
        picked input w n has many t (subst (λ (v : World NodePart NodeLocal). IsReady r (Fits input.rows fits) v t) is ready) (slice_get w.locals t) refl

    has_after : (past order : List ℕ) (w : World NodePart NodeLocal) → run r past ≡ w → IsOrder r (past ++ order) → (n : Node) → HasNode w n
        → length n.shards ≡ length input.rows → HasNode (fold (pick r) w order) (node_after n (acts_from input w order))
    has_after past [] w is ordered n has many = has
    has_after past (t ∷ order) w is ordered n has many =
        let asked : List Ask = option_to_list (option_and_then (asked_by input.rows) (slice_get w.locals t)) in
        let now = picked_behind past w is (first_picks past (t ∷ order) ordered) n has many t in
        let is' = run_push past t ∙ ap (λ (v : World NodePart NodeLocal). pick r v t) is in
        let ordered' = subst (IsOrder r) (sym (append_snoc past t order)) ordered in
        let more = has_after (past ++ t ∷ []) order (pick r w t) is' ordered' (node_after n asked) now.node (many_after n asked ∙ many) in
        rw (fold-append (λ (m : Node) (a : Ask). (answer m a).0) n asked) more

    has_behind : (order : List ℕ) → IsOrder r order → HasNode (run r order) (node_after empty (acts_of input order))
    has_behind order ordered = has_after [] order (start r) refl ordered empty (record { names = _; is = refl }) many_first

    pub is_run_of : (order : List ℕ) → IsOrder r order → IsRunOf input order (node input.rows input.asked.config (acts_of input order))
    is_run_of order ordered =
        record {
          parts = has_behind order ordered;
          many = replies_count empty (acts_of input order);
          replies = λ earlier t later l a is local asks.
              (let w : World NodePart NodeLocal = run r earlier in
              let before : List Ask = acts_of input earlier in
              let first = first_picks earlier (t ∷ later) (subst (IsOrder r) (sym is) ordered) in
              let now = picked_behind earlier w refl first (node_after empty before) (has_behind earlier first) (many_after empty before ∙ many_first) t in
              let asked : option_and_then (asked_by input.rows) (slice_get w.locals t) ≡ Some a = rw local asks in
              let rest : List Ask = acts_from input (pick r w t) later in
              let acts : acts_of input order ≡ before ++ a ∷ rest = rw (← is, acts_append (start r) earlier (t ∷ later), asked) refl in
              ((answer (node_after empty before) a).1, rw acts (reply_at empty before a rest), rw (run_push earlier t) (now.goes l a local asked)));
        }

pub node_is_its_acts : NodeIsItsActs
node_is_its_acts = grind (arith, acts_are_asked, is_run_of)
