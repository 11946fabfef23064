-- A thread behind one act at the node of its call: it goes on within the call, or comes to the next one, at whichever node.
use Rattle.std.proofs.Common.{◌≡◌, ℕ, ◌+◌, ◌<◌, ◌≤◌, eqb, List, [], ◌∷◌, ◌++◌, length, map, take, Option, Some, refl, sym, ap, ◌∙◌, arith}
use Rattle.std.specs.Prelude.{slice_get, count_by, option_map}
use Rattle.std.specs.Option.{option_flatten}
use Rattle.std.proofs.Math.Seq.{drop-append_seam}
use Rattle.std.proofs.lemmas.List.{append-nil, length-append, length-map, length-set, map-append}
use Rattle.std.proofs.lemmas.Option.{slice_get-map, slice_get_within}
use Rattle.std.proofs.lemmas.Bool.Decides.{nat_tests}
use Rattle.tc_model.specs.declared.calls.Planned.{Planned}
use Rattle.tc_model.specs.Input.{Input, script_of}
use Rattle.tc_model.proofs.CallSteps.{picks-push_same}
use Rattle.tc_model.proofs.Lists.{set_here, set_elsewhere}
use Rattle.call_steps.specs.Local.{Decided}
use Rattle.call_steps.specs.Rows.{under}
use Rattle.call_steps.specs.Kept.{call_at}
use Rattle.alloc_rules.specs.Law.{IsAmong, IsPick}
use Rattle.alloc_rules.specs.Told.{calls_in}
use Rattle.no_caches.specs.NoCaches.{no_caches, about_none}
use Rattle.node_rules.specs.Nodes.{asked_at}
use Rattle.node_rules.specs.Beside.{Beside, node_now, local_now, decided_at, with_act}
use Rattle.node_rules.specs.Numa.{NodeLocal, width_of, rules_at}
use Rattle.node_rules.specs.NumaLaw.{under_now, IsThread}
use Rattle.node_rules.proofs.Counted.{count_push, take_next}
use Rattle.node_rules.proofs.Routes.{IsCallAt, call_at_node, call_there}

-- at most one call is under way and decided
under_few : (x : NodeLocal) → under about_none x.step ≤ 1
under_few x = grind arith

-- the element behind others
at_end : {X : Type 0} (xs : List X) (x : X) → slice_get (xs ++ x ∷ []) (length xs) ≡ Some x
at_end [] x = refl
at_end (y ∷ ys) x = at_end ys x

-- what a thread has at its node, by that
now_is : {L : Type 0} (l : Beside L) (o : Option ℕ) → node_now l ≡ o → local_now l ≡ option_flatten (option_map (slice_get l.here) o)
now_is l o is = ap (λ o. option_flatten (option_map (slice_get l.here) o)) is

module _ (nodes : ℕ) (input : Input) where
  abbrev script : ℕ → List Planned
  script t = script_of t input.asked.calls

  -- Besides what is told of a thread: at nodes other than that of its call it has no decided call under way; and which calls
  -- it decided.
  pub record IsSeen (order : List ℕ) (t : ℕ) (l : Beside NodeLocal) : Type 0 where
    pub thread : IsThread nodes input order t l
    pub quiet : (k : ℕ) (x : NodeLocal) → slice_get l.here k ≡ Some x → (node_now l ≡ Some k → ⊥) → under about_none x.step ≡ 0
    pub calls : map (λ (d : Decided). d.call) l.answers ≡ take (length l.answers) (calls_in input.asked t)

  -- Thread t acts at node k, where it had x and has `new`, whose decided calls are the first ones of its script there.
  module _ (order ord : List ℕ) (locals : List NodeLocal) (t k : ℕ) (l : Beside NodeLocal) (x new : NodeLocal) (h : IsSeen order t l)
      (now : node_now l ≡ Some k) (here : slice_get l.here k ≡ Some x)
      (pick : IsPick (no_caches input.rows) about_none (asked_at nodes input.asked k) locals ord t x new)
      (was : IsAmong about_none (script_of t (asked_at nodes input.asked k).calls) x)
      (is : IsAmong about_none (script_of t (asked_at nodes input.asked k).calls) new) where
    abbrev huge : ℕ
    huge = input.asked.config.huge

    abbrev pub left : Beside NodeLocal
    left = with_act (rules_at nodes input 0) (λ (y : NodeLocal). y.answers) (width_of input) huge l k x new

    abbrev pub added : List Decided
    added = map (decided_at huge k l.acts) pick.new

    pub answers_are : left.answers ≡ l.answers ++ added
    answers_are = grind (arith, drop-append_seam)

    more : length left.answers ≡ length l.answers + length pick.new
    more = omega (arith, ap length answers_are, length-append l.answers added, length-map pick.new (decided_at huge k l.acts))

    node_more : length new.answers ≡ length x.answers + length pick.new
    node_more = omega (arith, ap length pick.answers, length-append x.answers pick.new)

    now_x : local_now l ≡ Some x
    now_x = now_is l (Some k) now ∙ here

    -- its decided calls were those that ended, and the one under way
    had : length l.answers ≡ l.ended + under about_none x.step
    had = h.thread.decided ∙ ap (λ o. l.ended + under_now o) now_x

    in_route : l.ended < length l.route
    in_route = slice_get_within l.route l.ended k now

    set_k : slice_get left.here k ≡ Some new
    set_k = set_here l.here k new x here

    set_j : (j : ℕ) → (j ≡ k → ⊥) → slice_get left.here j ≡ slice_get l.here j
    set_j j other = set_elsewhere l.here k j new (λ e. other (sym e))

    not_now : (j : ℕ) → (j ≡ k → ⊥) → node_now l ≡ Some j → ⊥
    not_now j other at = let e : Some k ≡ Some j = sym now ∙ at in other (let same : k ≡ j = cc in sym same)

    -- where it decides a call, none was under way that was decided
    nothing_under : (d : Decided) → pick.new ≡ d ∷ [] → under about_none x.step ≡ 0
    nothing_under d one = grind (arith, under_few, node_more)

    -- what it decides is the call under way
    decides : (d : Decided) → pick.new ≡ d ∷ [] → call_at (script t) (length l.answers) ≡ Some d.call
    decides d one = grind (arith, nothing_under d one, at_end x.answers d, had, call_at_node nodes input t l.ended k)

    -- where it is in the trace
    pub decided_there : (d : Decided) → pick.new ≡ d ∷ [] → IsCallAt nodes input t k d.call
    decided_there d one = grind (arith, had, nothing_under, call_there, decides)

    calls_by : (ds : List Decided) → pick.new ≡ ds → length ds ≤ 1
        → map (λ (d : Decided). d.call) left.answers ≡ take (length left.answers) (calls_in input.asked t)
    calls_by [] none few = grind (arith, answers_are, append-nil)
    calls_by (d ∷ []) one few = grind (arith, answers_are, slice_get-map, decides, more, map-append, take_next)
    calls_by (d ∷ e ∷ more_ds) one few = absurd (omega (arith, few))

    -- The call goes on.
    module _ (same : new.ended ≡ x.ended) where
      still : left.ended ≡ l.ended
      still = omega (arith, same)

      still_now : node_now left ≡ Some k
      still_now = ap (slice_get l.route) still ∙ now

      goes_ended : (j : ℕ) (y : NodeLocal) → slice_get left.here j ≡ Some y → y.ended ≡ count_by (λ i. eqb i j) (take left.ended l.route)
      goes_ended j y at = grind (arith, nat_tests, still, set_k, set_j)

      goes_on : IsSeen (order ++ t ∷ []) t left
      goes_on =
          record {
            thread = grind (
              arith,
              length-set l.here k new,
              picks-push_same t order,
              now_is left (Some k) still_now,
              set_k,
              more,
              node_more,
              had,
              still,
              goes_ended,
            );
            quiet = grind (arith, still_now, set_j, not_now);
            calls = calls_by pick.new refl pick.few;
          }

    -- The call has ended.
    module _ (next : (new.ended ≡ x.ended + 1) × (under about_none new.step ≡ 0)) where
      one_more : left.ended ≡ l.ended + 1
      one_more = omega (arith, next.0)

      all_quiet : (j : ℕ) (y : NodeLocal) → slice_get left.here j ≡ Some y → under about_none y.step ≡ 0
      all_quiet j y at = grind (arith, nat_tests, set_k, set_j, not_now)

      none_under : under_now (local_now left) ≡ 0
      none_under = grind (arith, all_quiet)

      taken : take left.ended l.route ≡ take l.ended l.route ++ k ∷ []
      taken = ap (λ n. take n l.route) one_more ∙ take_next l.route l.ended k now

      ends_ended : (j : ℕ) (y : NodeLocal) → slice_get left.here j ≡ Some y → y.ended ≡ count_by (λ i. eqb i j) (take left.ended l.route)
      ends_ended j y at = grind (arith, nat_tests, taken, count_push j k (take l.ended l.route), set_k, set_j j)

      comes_on : IsSeen (order ++ t ∷ []) t left
      comes_on =
          record {
            thread = grind (arith, length-set l.here k new, picks-push_same t order, more, node_more, had, one_more, none_under, ends_ended, in_route);
            quiet = λ j y at away. all_quiet j y at;
            calls = calls_by pick.new refl pick.few;
          }

    pub thread_goes : IsSeen (order ++ t ∷ []) t left
    thread_goes = grind (arith, goes_on, comes_on)
