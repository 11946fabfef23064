-- The law of memory nodes: all that holds between two picks, that each pick fits, that the earliest call moves, and that scripts end.
use Rattle.std.proofs.Common.{◌≡◌, ℕ, zero, suc, ◌+◌, ◌*◌, ◌<◌, ◌≤◌, false, eqb, List, [], ◌∷◌, ◌++◌, length}
use Rattle.std.proofs.Common.{map, take, drop, filter, get_or, Option, Some, None, refl, sym, ap, ◌∙◌, subst, arith, All}
use Rattle.std.specs.Prelude.{slice_get, option_map, count_by}
use Rattle.std.specs.Option.{option_flatten, option_map_or}
use Rattle.std.specs.List.{range_with_len}
use Rattle.std.proofs.lemmas.List.{length-append, length-map, map-append, take_all}
use Rattle.std.proofs.lemmas.List.Elements.{All-nil, filter-append}
use Rattle.std.proofs.lemmas.List.FromFn.{length-range_with_len}
use Rattle.std.proofs.lemmas.List.Sums.{fold-append}
use Rattle.std.proofs.lemmas.Option.{slice_get-get_or, slice_get-map, slice_get_past, slice_get_within}
use Rattle.tc_units.specs.Classes.{length_of}
use Rattle.tc_model.specs.declared.machine.PartNo.{PartNo}
use Rattle.tc_model.specs.Limits.{most_picks}
use Rattle.tc_model.specs.declared.calls.Call.{Call}
use Rattle.tc_units.specs.declared.spans.ClassRow.{ClassRow}
use Rattle.holdings.proofs.Sums.{of_all}
use Rattle.tc_model.specs.declared.answers.CallLine.{CallLine}
use Rattle.tc_model.specs.declared.steps.Stepped.TheVariants as step
use Rattle.tc_model.specs.Blocks.{IsBlockRun}
use Rattle.tc_model.specs.Calls.{picks_of, AreBelow}
use Rattle.tc_model.specs.Input.{Asked, Input, ThreadCall, script_of}
use Rattle.std.proofs.Math.Seq.{drop-append_seam}
use Rattle.std.proofs.lemmas.List.Sums.{count_by-le-length}
use Rattle.std.proofs.lemmas.Bool.Decides.{nat_tests}
use Rattle.node_rules.proofs.LowAnswers.{low_last}
use Rattle.tc_model.specs.Replays.{HaveEnded, done_in}
use Rattle.tc_model.specs.Run.{Rules, World, start, pick, run, with_pair}
use Rattle.tc_model.specs.Serial.{AreThreads, NeverWaits, Rises, Ends, next_turn}
use Rattle.tc_model.specs.Sound.{IsOrder, IsSound, FitsThere}
use Rattle.tc_model.specs.Steps.{stepped}
use Rattle.tc_model.proofs.MovingFacts.{IsKeptWith, move_of, run_keeps_with}
use Rattle.tc_model.proofs.RisesBy.{rises_by, turns_none}
use Rattle.tc_model.proofs.SerialSteps.{turn_from, turn_here}
use Rattle.call_steps.specs.Local.{Decided, told}
use Rattle.call_steps.specs.Kept.{call_at}
use Rattle.call_steps.specs.declared.step.Step.TheVariants as does
use Rattle.alloc_rules.specs.Fits.{Fits}
use Rattle.alloc_rules.specs.Inputs.{IsValidInput, is_common, not_taken}
use Rattle.alloc_rules.specs.Law as allocator
use Rattle.alloc_rules.specs.Machine.{after, turns, place_of, waits}
use Rattle.alloc_rules.specs.Told.{TellsFirst, TellsScripts, calls_in}
use Rattle.alloc_rules.proofs.Reached.{there_is}
use Rattle.alloc_rules.proofs.SerialLaws.{thread_below}
use Rattle.call_steps.specs.declared.step.Step.{Step}
use Rattle.no_caches.specs.declared.front.NoRow.{NoRow}
use Rattle.no_caches.specs.NoCaches.{no_caches, about_none, Holds, fits}
use Rattle.node_rules.specs.Joined.{NodeLine, IsAbout, lines_at}
use Rattle.node_rules.specs.Nodes.{node_of, acts_at, asked_at, input_at, route_of}
use Rattle.node_rules.specs.Beside.{Beside, local_now, node_now, part_at, want_by, after_by}
use Rattle.node_rules.specs.Numa.{NodeLocal, NodePart, width_of, rules_at, numa_rules, numa_calls, first_parts, first_thread}
use Rattle.node_rules.specs.NumaLaw.{NodesAreLawful, HoldsAfter, FitsThread, IsLow, IsOneAct, order_at, world_at, under_now}
use Rattle.node_rules.proofs.Going.{IsAt, IsRun, goes_on, law}
use Rattle.node_rules.proofs.JoinedRun.{block_runs_join}
use Rattle.node_rules.proofs.Moving.{does_move, moves}
use Rattle.alloc_rules.proofs.CommonCalls.{valid_common}
use Rattle.node_rules.specs.OneNode.{node}
use Rattle.node_rules.specs.NodeActs.{acts_of, IsRunOf}
use Rattle.node_rules.proofs.NodeRuns.{node_is_its_acts}
use Rattle.node_rules.proofs.NodeInputs.{owner, valid_at, taken_at}
use Rattle.node_rules.proofs.Routes.{call_at_node, map_some, place_at}
use Rattle.node_rules.proofs.Started.{is_number, node_starts, thread_starts}
use Rattle.node_rules.proofs.Turns.{IsTurn, turn_is, thread_of, own_at, own_count, own_kept, count_less}

-- a call acts at a node that is there
acts_low : (nodes : ℕ) (input : Input) (t : ℕ) (call : Call) → 0 < nodes → acts_at nodes input.asked t call < nodes
acts_low nodes input t call some = grind (arith)

none_by : (rows : List ClassRow) (x : NodeLocal) (s : Step NoRow) → x.step ≡ s → place_of (no_caches rows) about_none x ≡ None → s ≡ does.Ended
none_by rows x s is none = grind arith

-- a thread that wants no part has no call
wants_none : (rows : List ClassRow) (x : NodeLocal) → place_of (no_caches rows) about_none x ≡ None → x.step ≡ does.Ended
wants_none rows x none = none_by rows x x.step refl none

map_none : {X Y : Type 0} (f : X → Y) (o : Option X) → option_map f o ≡ None → o ≡ None
map_none f None is = refl
map_none f (Some x) is = absurd (cc)

-- a place with nothing is past the end
past_end : {X : Type 0} (xs : List X) (n : ℕ) → slice_get xs n ≡ None → length xs ≤ n
past_end [] n at = omega arith
past_end (x ∷ xs) zero at = absurd (cc)
past_end (x ∷ xs) (suc n) at = omega (arith, past_end xs n at)

told_calls : (t : ℕ) (ds : List Decided) → map (λ (c : CallLine). c.call) (map (told t) ds) ≡ map (λ (d : Decided). d.call) ds
told_calls t [] = refl
told_calls t (d ∷ ds) = ap (λ (cs : List Call). d.call ∷ cs) (told_calls t ds)

module _ (nodes : ℕ) (input : Input) (valid : IsValidInput input) (taken : not_taken is_common input.asked.calls ≡ 0) (some : 0 < nodes) where
  abbrev numa : Rules NodePart (Beside NodeLocal)
  numa = numa_rules nodes input

  abbrev one : Rules NodePart NodeLocal
  one = rules_at nodes input 0

  abbrev answers : NodeLocal → List Decided
  answers l = l.answers

  abbrev huge : ℕ
  huge = input.asked.config.huge

  abbrev width : ℕ
  width = width_of input

  abbrev threads : ℕ
  threads = input.asked.config.threads

  abbrev first : List (Beside NodeLocal)
  first = map (first_thread nodes input) (range_with_len 0 threads)

  abbrev Run : List ℕ → Type 0
  Run = IsRun nodes input valid taken some

  -- the start, and each run
  none_told : (t : ℕ) (o : Option (Beside NodeLocal)) → slice_get first t ≡ o → [] ≡ map (told t) (option_map_or (λ (l : Beside NodeLocal). l.answers) o [])
  none_told t o at = grind (arith, is_number (first_thread nodes input) threads t)

  none_below : (t : ℕ) (o : Option (Beside NodeLocal)) → slice_get first t ≡ o
      → AreBelow (λ (d : Decided). d.act) 0 (option_map_or (λ (l : Beside NodeLocal). l.answers) o [])
  none_below t o at = grind (arith, is_number (first_thread nodes input) threads t)

  started : Run []
  started = grind (
    arith,
    moves,
    node_starts nodes input,
    length-map (range_with_len 0 threads) (first_thread nodes input),
    length-range_with_len 0 threads,
    thread_starts nodes input,
    none_below,
    is_number (first_thread nodes input) threads,
    none_told,
    All-nil (λ (x : NodeLine). x.node ≡ acts_at nodes input.asked x.line.thread.0 x.line.call),
    All-nil (λ (x : NodeLine). x.node < nodes),
    All-nil (λ (x : NodeLine). (label : ℕ) → IsAbout label x → x.node ≡ owner nodes input valid label),
  )

  pub each_run : (order : List ℕ) → IsOrder numa order → Run order
  each_run order of =
      let Q : World NodePart (Beside NodeLocal) → List ℕ → Type 0 = λ w past. (w ≡ run numa past) × Run past in
      let kept : IsKeptWith most_picks numa Q =
      λ w past t l place p few q local want there waits.
      let picked : pick numa w t ≡ with_pair w place.0 t (numa.after p l) = rw (local, want, there, waits) refl in
      let moved : stepped numa w t ≡ step.Moved = rw (local, want, there, waits) refl in
      let goes : run numa (past ++ t ∷ []) ≡ pick numa w t =
      fold-append (pick numa) (start numa) past (t ∷ []) ∙ ap (λ (v : World NodePart (Beside NodeLocal)). pick numa v t) (sym q.0) in
      let m = moves one answers width huge (first_parts nodes input) first (run numa past) t
      (ap (λ (v : World NodePart (Beside NodeLocal)). stepped numa v t) (sym q.0) ∙ moved) in
      (sym (goes ∙ picked), goes_on nodes input valid taken some past few q.1 t m)
      in
      (run_keeps_with most_picks numa Q kept (refl, started) order of.few of.moves).1

  -- What a thread wants is wanted at the node of its call.
  record IsWant (l : Beside NodeLocal) (part : PartNo) : Type 0 where
    node : ℕ
    now : node_now l ≡ Some node
    x : NodeLocal
    here : slice_get l.here node ≡ Some x
    place : PartNo
    want : one.want x ≡ Some place
    is : part.0 ≡ node * width + place.0

  want_is : (l : Beside NodeLocal) (part : PartNo) (o : Option ℕ) → node_now l ≡ o → want_by one answers width huge l o ≡ Some part → IsWant l part
  want_is l part o now is = grind (arith)

  -- an act of a node ends at most one call and decides at most one
  one_act : (asked : Asked) → asked.config.huge ≤ 4096 → (locals : List NodeLocal) (order : List ℕ) (t : ℕ) (x new : NodeLocal)
      → allocator.IsPick (no_caches input.rows) about_none asked locals order t x new → IsOneAct x new
  one_act asked low locals order t x new pick =
      let more = length-append x.answers pick.new in
      let grown = ap length pick.answers in
      let rest : drop (length x.answers) new.answers ≡ pick.new = ap (drop (length x.answers)) pick.answers ∙ drop-append_seam x.answers pick.new in
      let round = length_of input.rows in
      let run = subst (IsBlockRun asked.config.huge round) pick.told pick.blocks in
      record {
        kept = omega (arith, more, grown);
        few = omega (arith, more, grown, pick.few);
        rises = grind (arith, pick.ended);
        next = grind (arith, pick.ended);
        low = subst (λ (ds : List Decided). All (λ (d : Decided). IsLow d.answer) ds) (sym rest)
            (low_last asked.config.huge low round (allocator.calls locals order) t pick.new pick.few run);
      }

  sound : IsSound numa (FitsThread input.rows)
  sound order t of l part at want =
      let h = each_run order of in
      let w = want_is l part (node_now l) refl want in
      let seen = h.threads t l at in
      let low : w.node < nodes = omega (arith, slice_get_within l.here w.node w.x w.here, seen.thread.here) in
      let a = h.at_nodes w.node low in
      let v : World NodePart NodeLocal = world_at nodes input w.node order in
      let local : slice_get v.locals t ≡ Some w.x = sym (a.of.locals t l at) ∙ w.here in
      let found : FitsThere (Fits input.rows fits) v w.place.0 w.x =
      (law nodes input valid taken some w.node).sound (order_at nodes input w.node order) t a.moves w.x w.place local w.want in
      let in_width : w.place.0 < width = omega (arith, slice_get_within v.parts w.place.0 found.part found.there, a.of.width_is) in
      let now : local_now l ≡ Some w.x = ap (λ o. option_flatten (option_map (slice_get l.here) o)) w.now ∙ w.here in
      record {
        part = found.part;
        there = ap (slice_get (run numa order).parts) w.is ∙ (a.of.parts w.place.0 in_width ∙ found.there);
        fit = record {
          now = rw now found.fit;
          acts = omega (arith, seen.thread.acts, count_by-le-length (λ u. eqb u t) order, of.few);
          ended = omega (arith, seen.thread.slow, seen.thread.acts, count_by-le-length (λ u. eqb u t) order, of.few);
          goes = λ x is goes.
              (let same : w.x ≡ x = let e : Some w.x ≡ Some x = sym now ∙ is in cc in
              subst (λ (y : NodeLocal). IsOneAct y (after (no_caches input.rows) about_none found.part y).1) same
              (one_act (asked_at nodes input.asked w.node) valid.limits.few v.locals (order_at nodes input w.node order) t w.x
              (after (no_caches input.rows) about_none found.part w.x).1
              ((law nodes input valid taken some w.node).picks (order_at nodes input w.node order) t w.x w.place found.part a.moves local w.want found.there
              (subst (λ (y : NodeLocal). waits found.part y ≡ false) (sym same) goes))));
        };
      }

  are_threads : AreThreads numa (turns input.asked)
  are_threads i within =
      let count : length numa.locals ≡ threads = length-map (range_with_len 0 threads) (first_thread nodes input) ∙ length-range_with_len 0 threads in
      omega (arith, count, thread_below threads input.asked.calls (λ earlier c later is. (valid.calls earlier c later is).thread) i within)

  -- no act lowers a number of ended calls
  rises_at : (p : NodePart) (l : Beside NodeLocal) (o : Option ℕ) → l.ended ≤ (after_by one answers width huge p l o).1.ended
  rises_at p l o = grind (arith)

  rises : Rises numa
  rises = rises_by numa (λ p l. rises_at p l (node_now l))

  -- The thread of the earliest call that hasn't ended.
  module _ (order : List ℕ) (of : IsOrder numa order) (t : ℕ) (turn : IsTurn (done_in numa (run numa order)) input.asked.calls t) where
    abbrev w : World NodePart (Beside NodeLocal)
    w = run numa order

    h : Run order
    h = each_run order of

    abbrev before : List ThreadCall
    before = turn.before

    abbrev k : ℕ
    k = node_of nodes input.asked turn.c

    below : t < threads
    below = omega (arith, (valid.calls turn.before turn.c turn.behind turn.is).thread, turn.thread)

    own : (l : Beside NodeLocal) × (slice_get w.locals t ≡ Some l)
    own = there_is w.locals t (omega (arith, below, h.count))

    low : k < nodes
    low = acts_low nodes input turn.c.thread.0 turn.c.planned.call some

    a : IsAt nodes input valid taken some order k
    a = h.at_nodes k low

    abbrev v : World NodePart NodeLocal
    v = world_at nodes input k order

    -- as many of its calls have ended as stand before that one
    ended : own.0.ended ≡ picks_of t (map thread_of before)
    ended = omega (arith, turn.ended t, turn.next, ap (λ o. option_map_or numa.done o 0) own.1)

    route : (u : ℕ) → route_of nodes input.asked u
        ≡ map (node_of nodes input.asked) (filter (λ (c : ThreadCall). eqb c.thread.0 u) (before ++ turn.c ∷ turn.behind))
    route u = ap (λ (cs : List ThreadCall). map (node_of nodes input.asked) (filter (λ (c : ThreadCall). eqb c.thread.0 u) cs)) (sym turn.is)

    now : node_now own.0 ≡ Some k
    now = rw ((h.threads t own.0 own.1).thread.route, route t, ended) (own_at (node_of nodes input.asked) t before turn.c turn.behind turn.thread)

    -- the node's calls before it
    abbrev kept : List ThreadCall
    kept = filter (λ (c : ThreadCall). eqb (node_of nodes input.asked c) k) before

    kept_is : (u : ℕ) → picks_of u (map thread_of kept) ≡ count_by (λ j. eqb j k) (take (picks_of u (map thread_of before)) (route_of nodes input.asked u))
    kept_is u = grind (arith, own_kept (node_of nodes input.asked) u k before (turn.c ∷ turn.behind), route u)

    done_here : (u : ℕ) (l : Beside NodeLocal) → slice_get w.locals u ≡ Some l
        → done_in (rules_at nodes input k) v u ≡ count_by (λ j. eqb j k) (take l.ended (route_of nodes input.asked u))
    done_here u l at =
        let s = (h.threads u l at).thread in
        let x = there_is l.here k (omega (arith, low, s.here)) in
        let local : slice_get v.locals u ≡ Some x.0 = sym (a.of.locals u l at) ∙ x.1 in
        rw (local, ← s.route) (s.ended k x.0 x.1)

    kept_done : (u : ℕ) (o : Option (Beside NodeLocal)) → slice_get w.locals u ≡ o → picks_of u (map thread_of kept) ≤ done_in (rules_at nodes input k) v u
    kept_done u None at = grind (arith, kept_is u)
    kept_done u (Some l) at =
        let less = count_less k (picks_of u (map thread_of before)) l.ended (route_of nodes input.asked u) in
        omega (arith, kept_is u, done_here u l at, less, turn.ended u, ap (λ o. option_map_or numa.done o 0) at)

    own_done : done_in (rules_at nodes input k) v t ≤ picks_of t (map thread_of kept)
    own_done = omega (arith, kept_is t, done_here t own.0 own.1, ap (λ n. count_by (λ j. eqb j k) (take n (route_of nodes input.asked t))) ended)

    turns_are : turns (asked_at nodes input.asked k)
        ≡ map thread_of kept ++ t ∷ map thread_of (filter (λ (c : ThreadCall). eqb (node_of nodes input.asked c) k) turn.behind)
    turns_are = grind (arith, nat_tests, filter-append, map-append)

    node_next : next_turn (done_in (rules_at nodes input k) v) [] (turns (asked_at nodes input.asked k)) ≡ Some t
    node_next = grind (arith, turns_are, turn_from, kept_done, turn_here, own_done)

    -- so it moves
    pub turn_moves : stepped numa w t ≡ step.Moved
    turn_moves =
        let moved = (law nodes input valid taken some k).never_waits (order_at nodes input k order) t a.moves node_next in
        let m = move_of (rules_at nodes input k) v t moved in
        let here : slice_get own.0.here k ≡ Some m.local = a.of.locals t own.0 own.1 ∙ m.local_there in
        let in_width : m.place.0 < width = omega (arith, slice_get_within v.parts m.place.0 m.part m.part_there, a.of.width_is) in
        does_move one answers width huge (first_parts nodes input) first w t (record {
          l = own.0;
          at = own.1;
          node = k;
          now = now;
          x = m.local;
          here = here;
          place = m.place;
          want = m.wants;
          p = m.part;
          there = a.of.parts m.place.0 in_width ∙ m.part_there;
          goes = m.goes;
        })

  never_waits : NeverWaits numa (turns input.asked)
  never_waits order t of next = turn_moves order of t (turn_is (done_in numa (run numa order)) input.asked.calls t next)

  -- a thread has as many calls as it has turns
  route_length : (t : ℕ) → length (route_of nodes input.asked t) ≡ picks_of t (turns input.asked)
  route_length t = length-map (filter (λ (c : ThreadCall). eqb c.thread.0 t) input.asked.calls) (node_of nodes input.asked) ∙ own_count t input.asked.calls

  ends : Ends numa (turns input.asked)
  ends order of next t d within =
      let w : World NodePart (Beside NodeLocal) = run numa order in
      let h = each_run order of in
      let l : Beside NodeLocal = get_or w.locals t d in
      let at : slice_get w.locals t ≡ Some l = slice_get-get_or w.locals t d within in
      let s = (h.threads t l at).thread in
      let all = turns_none (done_in numa w) [] (turns input.asked) next (λ u. omega arith) t in
      let ended = ap (λ o. option_map_or numa.done o 0) at in
      let past : node_now l ≡ None = slice_get_past l.route l.ended (omega (arith, all, route_length t, ap length s.route, ended)) in
      ap (want_by one answers width huge l) past

  script_length : (t : ℕ) → length (calls_in input.asked t) ≡ length (route_of nodes input.asked t)
  script_length t = grind (arith, length-map)

  past_calls : (t n : ℕ) → call_at (script_of t input.asked.calls) n ≡ None → length (calls_in input.asked t) ≤ n
  past_calls t n none = grind (arith, past_end, map_none, length-map)

  -- a thread's call acts at a node that is there
  node_low : (order : List ℕ) (h : Run order) (t : ℕ) (l : Beside NodeLocal) → slice_get (run numa order).locals t ≡ Some l
      → (k : ℕ) → node_now l ≡ Some k → k < nodes
  node_low order h t l at k now =
      grind (arith, h.threads t l, map_some (node_of nodes input.asked), slice_get-map (node_of nodes input.asked), acts_low nodes input)

  -- what is told of a thread
  told_first : (order : List ℕ) (h : Run order) (t : ℕ) (l : Beside NodeLocal) → slice_get (run numa order).locals t ≡ Some l
      → TellsFirst input.asked t (l.ended + under_now (local_now l)) (numa_calls (run numa order).locals order)
  told_first order h t l at = grind (arith, h.threads t l, h.tells t, told_calls t l.answers)

  -- where a thread wants nothing, its script has ended
  over : (order : List ℕ) (h : Run order) (of : IsOrder numa order) (t : ℕ) (l : Beside NodeLocal) → slice_get (run numa order).locals t ≡ Some l
      → (o : Option ℕ) → node_now l ≡ o → want_by one answers width huge l o ≡ None → length (calls_in input.asked t) ≤ l.ended
  over order h of t l at None now none = grind (arith, h.threads t l, past_end l.route l.ended now, script_length t)
  over order h of t l at (Some k) now none =
      let s = (h.threads t l at).thread in
      let low : k < nodes = node_low order h t l at k now in
      let x = there_is l.here k (omega (arith, low, s.here)) in
      let a = h.at_nodes k low in
      let none_x : one.want x.0 ≡ None = map_none (part_at one answers width huge k) (one.want x.0) (rw x.1 at none) in
      let holds = (law nodes input valid taken some k).holds (order_at nodes input k order) a.moves in
      let local : slice_get holds.locals t ≡ Some x.0 =
      ap (λ (z : World NodePart NodeLocal). slice_get z.locals t) (sym holds.is) ∙ (sym (a.of.locals t l at) ∙ x.1) in
      let ended : call_at (script_of t (asked_at nodes input.asked k).calls) x.0.ended ≡ None =
      (holds.decided t x.0 local).over (wants_none input.rows x.0 none_x) in
      let at_route : slice_get (route_of nodes input.asked t) l.ended ≡ Some k = ap (λ (r : List ℕ). slice_get r l.ended) (sym s.route) ∙ now in
      let same : x.0.ended ≡ place_at nodes input t l.ended k = rw (← s.route) (s.ended k x.0 x.1) in
      let gone : call_at (script_of t input.asked.calls) l.ended ≡ None =
      rw (← call_at_node nodes input t l.ended k at_route, ← same) ended in
      past_calls t l.ended gone

  all_told : (order : List ℕ) (of : IsOrder numa order) (h : Run order) → HaveEnded numa (run numa order)
      → TellsScripts input.asked (numa_calls (run numa order).locals order)
  all_told order of h ended =
      record {
        each = λ t low.
            (let own = there_is (run numa order).locals t (omega (arith, low, h.count)) in
            let none : numa.want own.0 ≡ None = of_all (λ (l : Beside NodeLocal). numa.want l ≡ None) (run numa order).locals t own.0 ended own.1 in
            let long = over order h of t own.0 own.1 (node_now own.0) refl none in
            told_first order h t own.0 own.1 ∙ take_all (own.0.ended + under_now (local_now own.0)) (calls_in input.asked t) (omega (arith, long)));
        others = λ t high.
            h.tells t ∙ ap (λ o. map (told t) (option_map_or (λ (l : Beside NodeLocal). l.answers) o []))
            (slice_get_past (run numa order).locals t (omega (arith, high, h.count)));
      }

  -- after every order
  holds_after : (order : List ℕ) → IsOrder numa order → HoldsAfter nodes input order
  holds_after order of =
      let h = each_run order of in
      let at : (k : ℕ) → (low : k < nodes)
      → allocator.HoldsAfter (no_caches input.rows) about_none Holds (asked_at nodes input.asked k) (order_at nodes input k order) =
      λ k low. (law nodes input valid taken some k).holds (order_at nodes input k order) (h.at_nodes k low).moves in
      let made : (k : ℕ) → (low : k < nodes) → (let at_k = input_at nodes input k in let o = order_at nodes input k order in
      IsRunOf at_k o (node input.rows input.asked.config (acts_of at_k o))) =
      λ k low. (let common = valid_common (input_at nodes input k) (valid_at nodes input valid k) (taken_at nodes input is_common k taken) in
      node_is_its_acts.runs (input_at nodes input k) (order_at nodes input k order) (record { valid = common; moves = (h.at_nodes k low).moves })) in
      let blocks : (k : ℕ) → k < nodes → IsBlockRun huge (length_of input.rows) (lines_at k h.lines) =
      λ k low. rw (h.told_at k low, (at k low).is) (at k low).blocks in
      record {
        at_nodes = λ k low. record { moves = (h.at_nodes k low).moves; of = (h.at_nodes k low).of; holds = at k low; made = made k low };
        count = h.count;
        threads = λ t l there. (h.threads t l there).thread;
        rising = h.rising;
        lines = h.lines;
        told = h.told;
        told_at = h.told_at;
        at_home = h.at_home;
        joined = block_runs_join nodes huge (length_of input.rows) (owner nodes input valid) h.lines h.owned blocks;
        told_first = told_first order h;
        all_told = all_told order of h;
      }

pub nodes_are_lawful : NodesAreLawful
nodes_are_lawful nodes input some valid taken =
    record {
      sound = sound nodes input valid taken some;
      threads = are_threads nodes input valid taken some;
      never_waits = never_waits nodes input valid taken some;
      rises = rises nodes input valid taken some;
      ends = ends nodes input valid taken some;
      holds = holds_after nodes input valid taken some;
    }

pub threads_count : (nodes : ℕ) (input : Input) → length (numa_rules nodes input).locals ≡ input.asked.config.threads
threads_count nodes input = rw (length-map, length-range_with_len)
