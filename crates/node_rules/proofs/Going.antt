-- One pick more of memory nodes side by side: the world of its node goes on by it, those of the others stay, and what it decided is
-- told.
use Rattle.std.proofs.Common.{◌≡◌, ℕ, ◌+◌, ◌*◌, ◌<◌, ◌≤◌, ◌==◌, false, cond, eqb, List, [], ◌∷◌, ◌++◌, length}
use Rattle.std.proofs.Common.{map, fold, Some, refl, sym, ap, ◌∙◌, subst, arith, inl, inr, All}
use Rattle.std.specs.Prelude.{slice_get, slice_set}
use Rattle.std.specs.Option.{option_map_or}
use Rattle.std.specs.List.{range_with_len}
use Rattle.std.proofs.lemmas.Bool.{cases_eq, eq-eqb, ne_eqb}
use Rattle.std.proofs.lemmas.List.{append-nil, length-append, length-map, length-set, map-append}
use Rattle.std.proofs.lemmas.List.Elements.{All-append, All-cons, All-nil, filter-append}
use Rattle.std.proofs.lemmas.List.Sums.{fold-append}
use Rattle.std.proofs.lemmas.Option.{slice_get_within}
use Rattle.std.proofs.lemmas.Bool.Decides.{nat_tests}
use Rattle.tc_model.specs.Limits.{most_picks}
use Rattle.tc_model.specs.declared.steps.Stepped.TheVariants as step
use Rattle.tc_model.specs.declared.answers.CallLine.{CallLine}
use Rattle.tc_model.specs.Calls.{picks_of, AreAt, AreOfPicks, AreRising}
use Rattle.alloc_rules.proofs.Serving.{rising_with}
use Rattle.alloc_rules.specs.Told.{lines_by}
use Rattle.tc_model.specs.Input.{Input, script_of}
use Rattle.tc_model.specs.Run.{Rules, World, start, pick, run, with_pair}
use Rattle.tc_model.specs.Sound.{IsOrder, FitsThere}
use Rattle.tc_model.specs.Steps.{stepped, AllMove}
use Rattle.tc_model.proofs.CallSteps.{calls-step, picks-step, picks-push_other}
use Rattle.tc_model.proofs.Lists.{set_here, set_elsewhere}
use Rattle.tc_model.proofs.MovingFacts.{all_move-push}
use Rattle.call_steps.specs.Local.{Decided, told}
use Rattle.alloc_rules.specs.Fits.{Fits}
use Rattle.alloc_rules.specs.Inputs.{IsValidInput, is_common, not_taken}
use Rattle.alloc_rules.specs.Law as allocator
use Rattle.alloc_rules.specs.Law.{IsAmong, IsPick}
use Rattle.no_caches.specs.NoCaches.{no_caches, about_none, Holds, fits}
use Rattle.no_caches.specs.NoCachesLaw.{lawful_in}
use Rattle.node_rules.specs.Joined.{NodeLine, told_line, lines_at, AreOfNodes, IsAbout}
use Rattle.node_rules.specs.Nodes.{acts_at, asked_at, input_at}
use Rattle.node_rules.specs.Beside.{Beside, node_next, decided_at, picks_from, with_act, IsNodeOf}
use Rattle.node_rules.specs.Numa.{NodeLocal, NodePart, width_of, rules_at, numa_rules, numa_calls, first_parts, first_thread}
use Rattle.node_rules.specs.NumaLaw.{order_at, world_at}
use Rattle.node_rules.proofs.Moving.{IsMove, moves, pick_is, does_move, own_moves, own_pick}
use Rattle.node_rules.proofs.NodeInputs.{owner, valid_at, taken_at}
use Rattle.node_rules.proofs.NodeOf.{own_world, other_world}
use Rattle.node_rules.proofs.Routes.{IsCallAt, acts_there, label_there}
use Rattle.node_rules.proofs.ThreadGoes.{IsSeen, answers_are, decided_there, thread_goes}

-- The picks of a node, with one pick more.
module _ {P L : Type 0} (r : Rules P (Beside L)) (k : ℕ) where
  pub picks_push : (w : World P (Beside L)) (ts : List ℕ) (t : ℕ)
      → picks_from r w k (ts ++ t ∷ []) ≡ picks_from r w k ts ++ cond (option_map_or (λ j. j == k) (node_next (fold (pick r) w ts) t) false) (t ∷ []) []
  picks_push w [] t = refl
  picks_push w (u ∷ us) t = grind (arith, picks_push (pick r w u) us t)

  picks_less : (w : World P (Beside L)) (ts : List ℕ) → length (picks_from r w k ts) ≤ length ts
  picks_less w [] = omega arith
  picks_less w (u ∷ us) = grind (arith, picks_less (pick r w u) us)

-- what was decided at a node, as it is told
told_there : (huge k act t : ℕ) (ds : List Decided)
    → map (told t) (map (decided_at huge k act) ds) ≡ map (told_line huge) (map (λ d. record { node = k; line = told t d }) ds)
told_there huge k act t [] = refl
told_there huge k act t (d ∷ ds) = ap (λ (xs : List CallLine). told_line huge (record { node = k; line = told t d }) ∷ xs) (told_there huge k act t ds)

acts_are : (huge k act n : ℕ) (ds : List Decided) → act ≡ n → AreAt (λ (d : Decided). d.act) n (map (decided_at huge k act) ds)
acts_are huge k act n [] is = tt
acts_are huge k act n (d ∷ ds) is = (is, acts_are huge k act n ds is)

-- calls that were told at a node, among those of a node
abbrev new_lines : ℕ → ℕ → List Decided → List NodeLine
new_lines k t ds = map (λ d. record { node = k; line = told t d }) ds

lines_own : (k t : ℕ) (ds : List Decided) → lines_at k (new_lines k t ds) ≡ map (told t) ds
lines_own k t [] = refl
lines_own k t (d ∷ ds) = rw (eq-eqb k k refl) (ap (λ (xs : List CallLine). told t d ∷ xs) (lines_own k t ds))

lines_other : (j k t : ℕ) (ds : List Decided) → (j ≡ k → ⊥) → lines_at j (new_lines k t ds) ≡ []
lines_other j k t [] other = refl
lines_other j k t (d ∷ ds) other = rw (ne_eqb k j (λ e. other (sym e))) (lines_other j k t ds other)

lines_both : (j : ℕ) (xs ys : List NodeLine) → lines_at j (xs ++ ys) ≡ lines_at j xs ++ lines_at j ys
lines_both j xs ys = grind (arith, filter-append, map-append)

-- what is told of a thread's calls is told of it, and of no other thread
own_told : (t : ℕ) (ds : List Decided) → lines_by t (map (told t) ds) ≡ map (told t) ds
own_told t [] = refl
own_told t (d ∷ ds) = rw (eq-eqb t t refl) (ap (λ (xs : List CallLine). told t d ∷ xs) (own_told t ds))

other_told : (t u : ℕ) (ds : List Decided) → (t ≡ u → ⊥) → lines_by u (map (told t) ds) ≡ []
other_told t u [] apart = refl
other_told t u (d ∷ ds) apart = rw (ne_eqb t u apart) (other_told t u ds apart)

all_new : (Q : NodeLine → Type 0) (k t : ℕ) (ds : List Decided)
    → length ds ≤ 1 → ((d : Decided) → ds ≡ d ∷ [] → Q (record { node = k; line = told t d })) → All Q (new_lines k t ds)
all_new Q k t [] few each = λ i d within. absurd (omega (arith, within))
all_new Q k t (d ∷ []) few each = All-cons Q (record { node = k; line = told t d }) [] (each d refl) (All-nil Q)
all_new Q k t (d ∷ e ∷ more) few each = absurd (omega (arith, few))

module _ (nodes : ℕ) (input : Input) (valid : IsValidInput input) (taken : not_taken is_common input.asked.calls ≡ 0) (some : 0 < nodes) where
  abbrev numa : Rules NodePart (Beside NodeLocal)
  numa = numa_rules nodes input

  abbrev huge : ℕ
  huge = input.asked.config.huge

  abbrev pub law : (k : ℕ) → (let asked = asked_at nodes input.asked k in let front = no_caches input.rows in
      allocator.AreLawful front about_none asked fits (allocator.HoldsAfter front about_none Holds asked))
  law k = lawful_in (input_at nodes input k) (valid_at nodes input valid k) (taken_at nodes input is_common k taken)

  -- node k's world, after an order
  pub record IsAt (order : List ℕ) (k : ℕ) : Type 0 where
    pub moves : IsOrder (rules_at nodes input k) (order_at nodes input k order)
    pub of : IsNodeOf (width_of input) k (run numa order) (world_at nodes input k order)

  -- all that holds after an order
  pub record IsRun (order : List ℕ) : Type 0 where
    pub all_move : AllMove numa (start numa) order
    pub at_nodes : (k : ℕ) → k < nodes → IsAt order k
    pub count : length (run numa order).locals ≡ input.asked.config.threads
    pub threads : (t : ℕ) (l : Beside NodeLocal) → slice_get (run numa order).locals t ≡ Some l → IsSeen nodes input order t l
    pub of_picks : AreOfPicks (λ (l : Beside NodeLocal). l.answers) (λ (d : Decided). d.act) (run numa order).locals order
    pub rising : (t : ℕ) (l : Beside NodeLocal) → slice_get (run numa order).locals t ≡ Some l → AreRising (λ (d : Decided). d.act) 0 l.answers
    pub tells : (t : ℕ) → lines_by t (numa_calls (run numa order).locals order)
        ≡ map (told t) (option_map_or (λ (l : Beside NodeLocal). l.answers) (slice_get (run numa order).locals t) [])
    pub lines : List NodeLine
    pub told : numa_calls (run numa order).locals order ≡ map (told_line huge) lines
    pub told_at : (k : ℕ) → k < nodes → lines_at k lines ≡ allocator.calls (world_at nodes input k order).locals (order_at nodes input k order)
    pub at_home : All (λ (x : NodeLine). x.node ≡ acts_at nodes input.asked x.line.thread.0 x.line.call) lines
    pub owned : AreOfNodes nodes (owner nodes input valid) lines

  -- Behind an order one pick more moves.
  module _ (order : List ℕ) (few : length order < most_picks) (h : IsRun order) (t : ℕ)
      (m : IsMove (rules_at nodes input 0) (λ (l : NodeLocal). l.answers) (width_of input) huge (first_parts nodes input)
      (map (first_thread nodes input) (range_with_len 0 input.asked.config.threads)) (run numa order) t) where
    abbrev w : World NodePart (Beside NodeLocal)
    w = run numa order

    abbrev k : ℕ
    k = m.node

    abbrev next : List ℕ
    next = order ++ t ∷ []

    seen : IsSeen nodes input order t m.l
    seen = h.threads t m.l m.at

    low : k < nodes
    low = omega (arith, slice_get_within m.l.here k m.x m.here, seen.thread.here)

    here : IsAt order k
    here = h.at_nodes k low

    abbrev v : World NodePart NodeLocal
    v = world_at nodes input k order

    local : slice_get v.locals t ≡ Some m.x
    local = sym (here.of.locals t m.l m.at) ∙ m.here

    found : FitsThere (Fits input.rows fits) v m.place.0 m.x
    found = (law k).sound (order_at nodes input k order) t here.moves m.x m.place local m.want

    in_width : m.place.0 < width_of input
    in_width = omega (arith, slice_get_within v.parts m.place.0 found.part found.there, here.of.width_is)

    part : slice_get v.parts m.place.0 ≡ Some m.p
    part = sym (here.of.parts m.place.0 in_width) ∙ m.there

    pub fit : Fits input.rows fits m.p m.x
    fit =
        let same : found.part ≡ m.p = let e : Some found.part ≡ Some m.p = sym found.there ∙ part in cc in
        subst (λ p. Fits input.rows fits p m.x) same found.fit

    -- the node's own pick
    picked : IsPick (no_caches input.rows) about_none (asked_at nodes input.asked k) v.locals (order_at nodes input k order) t m.x
        ((rules_at nodes input 0).after m.p m.x).1
    picked = (law k).picks (order_at nodes input k order) t m.x m.place m.p here.moves local m.want part m.goes

    -- what the act leaves at the node, and of the thread
    abbrev act : NodePart × NodeLocal
    act = (rules_at nodes input 0).after m.p m.x

    abbrev gone : Beside NodeLocal
    gone = with_act (rules_at nodes input 0) (λ (l : NodeLocal). l.answers) (width_of input) huge m.l k m.x act.1

    goes : run numa next ≡ with_pair w (k * width_of input + m.place.0) t (act.0, gone)
    goes = grind (arith, fold-append, pick_is)

    -- the nodes' picks
    node_is : node_next w t ≡ Some k
    node_is = rw (m.at, m.now)

    order_here : order_at nodes input k next ≡ order_at nodes input k order ++ t ∷ []
    order_here = grind (arith, nat_tests, node_is, picks_push)

    order_there : (j : ℕ) → (j ≡ k → ⊥) → order_at nodes input j next ≡ order_at nodes input j order
    order_there j other = grind (arith, nat_tests, node_is, picks_push, append-nil)

    world_here : world_at nodes input k next ≡ with_pair v m.place.0 t act
    world_here = grind (arith, order_here, fold-append, own_pick, local, part)

    at_here : IsAt next k
    at_here =
        let moved : stepped (rules_at nodes input k) v t ≡ step.Moved = own_moves (rules_at nodes input k) v t m.x m.place m.p local m.want part m.goes in
        let of : IsNodeOf (width_of input) k (with_pair w (k * width_of input + m.place.0) t (act.0, gone)) (with_pair v m.place.0 t act) =
        own_world (width_of input) k w t m.place.0 m.l gone m.x act.1 m.p act.0 m.at m.here m.there in_width refl v here.of part local in
        record {
          moves = record {
            moves = rw order_here
                (all_move-push (rules_at nodes input k) (start (rules_at nodes input k)) (order_at nodes input k order) t here.moves.moves moved);
            few = omega (arith, few, ap length order_here, length-append (order_at nodes input k order) (t ∷ []), picks_less numa k (start numa) order);
          };
          of = rw (goes, world_here) of;
        }

    at_other : (j : ℕ) → j < nodes → (j ≡ k → ⊥) → IsAt next j
    at_other j in_nodes other =
        let a = h.at_nodes j in_nodes in
        let stays : world_at nodes input j next ≡ world_at nodes input j order = ap (run (rules_at nodes input j)) (order_there j other) in
        let one = world_at nodes input j order in
        let of = other_world (width_of input) k w t m.place.0 m.l gone m.x act.1 m.p act.0 m.at m.here m.there in_width refl j one other a.of in
        grind (arith, moves, order_there j other, goes)

    each_at : (j : ℕ) → j < nodes → IsAt next j
    each_at j in_nodes = elim (cases_eq j k) [ inl same ↦ subst (IsAt next) (sym same) at_here | inr other ↦ at_other j in_nodes other ]

    -- the thread
    among : (o : List ℕ) (x : NodeLocal) → IsOrder (rules_at nodes input k) o → slice_get (run (rules_at nodes input k) o).locals t ≡ Some x
        → IsAmong about_none (script_of t (asked_at nodes input.asked k).calls) x
    among o x moves at =
        let holds = (law k).holds o moves in
        holds.decided t x (ap (λ (z : World NodePart NodeLocal). slice_get z.locals t) (sym holds.is) ∙ at)

    was : IsAmong about_none (script_of t (asked_at nodes input.asked k).calls) m.x
    was = among (order_at nodes input k order) m.x here.moves local

    is : IsAmong about_none (script_of t (asked_at nodes input.asked k).calls) act.1
    is = grind (arith, world_here, set_here v.locals t act.1 m.x local, local, among (order_at nodes input k next) act.1 at_here.moves)

    this_seen : IsSeen nodes input next t gone
    this_seen = thread_goes nodes input order (order_at nodes input k order) v.locals t k m.l m.x act.1 seen m.now m.here picked was is

    other_seen : (u : ℕ) (l : Beside NodeLocal) → (t ≡ u → ⊥) → IsSeen nodes input order u l → IsSeen nodes input next u l
    other_seen u l apart s = grind (arith, here, picks-push_other u t order apart)

    each_seen : (u : ℕ) (l : Beside NodeLocal) → slice_get (slice_set w.locals t gone) u ≡ Some l → IsSeen nodes input next u l
    each_seen u l at = grind (arith, nat_tests, set_here w.locals t gone m.l m.at, this_seen, other_seen u l, set_elsewhere w.locals t u gone)

    -- what it decided
    abbrev says : List Decided
    says = map (decided_at huge k m.l.acts) picked.new

    pushed : gone.answers ≡ m.l.answers ++ says
    pushed = answers_are nodes input order (order_at nodes input k order) v.locals t k m.l m.x act.1 seen m.now m.here picked was is

    at_pick : AreAt (λ (d : Decided). d.act) (picks_of t order) says
    at_pick = acts_are huge k m.l.acts (picks_of t order) picked.new seen.thread.acts

    this_rises : AreRising (λ (d : Decided). d.act) 0 gone.answers
    this_rises = grind (arith, pushed, rising_with, at_pick, length-map)

    each_rises : (u : ℕ) (l : Beside NodeLocal) → slice_get (slice_set w.locals t gone) u ≡ Some l → AreRising (λ (d : Decided). d.act) 0 l.answers
    each_rises u l at = grind (arith, nat_tests, set_here, this_rises, set_elsewhere)

    abbrev next_lines : List NodeLine
    next_lines = h.lines ++ new_lines k t picked.new

    calls_next : numa_calls (slice_set w.locals t gone) next ≡ numa_calls w.locals order ++ map (told t) says
    calls_next = calls-step (λ (l : Beside NodeLocal). l.answers) (λ (d : Decided). d.act) told w.locals order t m.l gone says h.of_picks m.at pushed at_pick

    -- of each thread its answers are told
    lines_next : (u : ℕ) → lines_by u (numa_calls (slice_set w.locals t gone) next) ≡ lines_by u (numa_calls w.locals order) ++ lines_by u (map (told t) says)
    lines_next u = ap (lines_by u) calls_next ∙ filter-append (λ (c : CallLine). eqb c.thread.0 u) (numa_calls w.locals order) (map (told t) says)

    abbrev Tells : ℕ → Type 0
    Tells u =
        lines_by u (numa_calls (slice_set w.locals t gone) next)
        ≡ map (told u) (option_map_or (λ (l : Beside NodeLocal). l.answers) (slice_get (slice_set w.locals t gone) u) [])

    tells_this : Tells t
    tells_this = grind (arith, set_here, lines_next, own_told, map-append, pushed)

    tells_other : (u : ℕ) → (t ≡ u → ⊥) → Tells u
    tells_other u apart = grind (arith, lines_next, other_told, append-nil, set_elsewhere)

    each_tells : (u : ℕ) → Tells u
    each_tells u = grind (arith, nat_tests, tells_this, tells_other)

    told_next : numa_calls (slice_set w.locals t gone) next ≡ map (told_line huge) next_lines
    told_next = grind (arith, calls_next, told_there huge k m.l.acts t picked.new, map-append (told_line huge) h.lines (new_lines k t picked.new))

    told_here : lines_at k next_lines ≡ allocator.calls (world_at nodes input k next).locals (order_at nodes input k next)
    told_here = grind (arith, lines_both, low, lines_own, world_here, order_here)

    told_other : (j : ℕ) → j < nodes → (j ≡ k → ⊥) → lines_at j next_lines ≡ allocator.calls (world_at nodes input j next).locals (order_at nodes input j next)
    told_other j in_nodes other = grind (arith, lines_both, lines_other, append-nil, order_there)

    each_told : (j : ℕ) → j < nodes → lines_at j next_lines ≡ allocator.calls (world_at nodes input j next).locals (order_at nodes input j next)
    each_told j in_nodes = elim (cases_eq j k) [ inl same ↦ rw same told_here | inr other ↦ told_other j in_nodes other ]

    -- where that is
    there_is : (d : Decided) → picked.new ≡ d ∷ [] → IsCallAt nodes input t k d.call
    there_is d one = decided_there nodes input order (order_at nodes input k order) v.locals t k m.l m.x act.1 seen m.now m.here picked was is d one

    home_next : All (λ (x : NodeLine). x.node ≡ acts_at nodes input.asked x.line.thread.0 x.line.call) next_lines
    home_next =
        let AtHome : NodeLine → Type 0 = λ x. x.node ≡ acts_at nodes input.asked x.line.thread.0 x.line.call in
        All-append AtHome h.lines (new_lines k t picked.new) h.at_home
        (all_new AtHome k t picked.new picked.few (λ d one. acts_there nodes input t k d.call (there_is d one)))

    owned_next : AreOfNodes nodes (owner nodes input valid) next_lines
    owned_next =
        let Owned : NodeLine → Type 0 = λ x. (label : ℕ) → IsAbout label x → x.node ≡ owner nodes input valid label in
        record {
          there = All-append (λ (x : NodeLine). x.node < nodes) h.lines (new_lines k t picked.new) h.owned.there
              (all_new (λ (x : NodeLine). x.node < nodes) k t picked.new picked.few (λ d one. low));
          own = All-append Owned h.lines (new_lines k t picked.new) h.owned.own
              (all_new Owned k t picked.new picked.few
              (λ d one. label_there nodes input valid t k d.call (there_is d one) (record { node = k; line = told t d }) refl refl));
        }

    moved_on : stepped numa w t ≡ step.Moved
    moved_on = does_move (rules_at nodes input 0) (λ (l : NodeLocal). l.answers) (width_of input) huge (first_parts nodes input)
        (map (first_thread nodes input) (range_with_len 0 input.asked.config.threads)) w t m

    pub goes_on : IsRun next
    goes_on =
        let by : (Q : List (Beside NodeLocal) → Type 0) → Q (slice_set w.locals t gone) → Q (run numa next).locals =
        λ Q q. subst (λ (z : World NodePart (Beside NodeLocal)). Q z.locals) (sym goes) q in
        record {
          all_move = all_move-push numa (start numa) order t h.all_move moved_on;
          at_nodes = each_at;
          count = by (λ ls. length ls ≡ input.asked.config.threads) (length-set w.locals t gone ∙ h.count);
          threads = by (λ ls. (u : ℕ) (l : Beside NodeLocal) → slice_get ls u ≡ Some l → IsSeen nodes input next u l) each_seen;
          of_picks = by (λ ls. AreOfPicks (λ (l : Beside NodeLocal). l.answers) (λ (d : Decided). d.act) ls next)
              (picks-step (λ (l : Beside NodeLocal). l.answers) (λ (d : Decided). d.act) told w.locals order t m.l gone says h.of_picks m.at pushed at_pick);
          rising = by (λ ls. (u : ℕ) (l : Beside NodeLocal) → slice_get ls u ≡ Some l → AreRising (λ (d : Decided). d.act) 0 l.answers) each_rises;
          tells = by (λ ls. (u : ℕ) → lines_by u (numa_calls ls next)
              ≡ map (told u) (option_map_or (λ (l : Beside NodeLocal). l.answers) (slice_get ls u) [])) each_tells;
          lines = next_lines;
          told = by (λ ls. numa_calls ls next ≡ map (told_line huge) next_lines) told_next;
          told_at = each_told;
          at_home = home_next;
          owned = owned_next;
        }
