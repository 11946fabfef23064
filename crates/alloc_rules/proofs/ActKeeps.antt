-- Each act, at whatever part, leaves the local its shape and keeps the front-end's invariant.
use Rattle.std.proofs.Common.{◌≡◌, ℕ, ◌+◌, ◌<◌, ◌≤◌, List, [], ◌∷◌, ◌++◌, length, Option, Some, None, refl, sym, ap, ◌∙◌, subst, arith, slice_get}
use Rattle.alloc_rules.proofs.Common.{Call, length-append, Contents, Addr, Label, ThreadNo, SpanRef, SpanKind, Small, Large, Free, Planned, Answer, at_hand}
use Rattle.alloc_rules.proofs.Common.{Freed, SpanMap, holds, NameState, state_of, Placed, new, Regs, LOADED_ROOM, room, appended, opening, IsFetched}
use Rattle.alloc_rules.proofs.Common.{fetch_moves, add_moves, give_moves, small, run_of, Asking, Freeing, Giving, Onward, Next, Step, ShardStep, HeapStep}
use Rattle.alloc_rules.proofs.Common.{MapStep, Local, step_or, no_class, class_row, decided, goes, ends, serves, with_more, fetches}
use Rattle.alloc_rules.proofs.Common.{shard_after, after_new, after_new_span, frees_span, heap_after, found, map_after, after_take, MayDecide}
use Rattle.alloc_rules.proofs.Common.{MayGoOnDecided, follows, About, call_about, IsClassRow, AreRows, BeginsWith, most_slots, At, Here}
use Rattle.alloc_rules.proofs.Common.{Away, Standing, stand, at_row, at_next, regs_next, at_step, IsAsked, HandAbout, HasNone, HasSpans, IsOnward}
use Rattle.alloc_rules.proofs.Common.{StepShape, IsShaped, IsAct, IsLawful, FrontRules, Left, FitsShard, FitsMap, IsKept, IsLowRun, ShardActsKeep}
use Rattle.alloc_rules.proofs.Common.{HeapActsKeep, IsKindThere, IsFoundClass, MapActsKeep, NamesActsKeep, FrontActsKeep}
use Rattle.alloc_rules.specs.FrontLaw.{IsReady}
use Rattle.central_free.specs.Central.{IsSound}
use Rattle.class_shard.specs.Laws.{IsGiven}
use Rattle.heap_rules.specs.Heap as heaps
use Rattle.class_shard.specs.Shard as shards
use Rattle.call_steps.specs.declared.step.Giving.TheVariants as giving
use Rattle.call_steps.specs.declared.step.Next.TheVariants as next
use Rattle.call_steps.specs.declared.step.Step.TheVariants as does
use Rattle.call_steps.specs.declared.step.ShardStep.TheVariants as shard
use Rattle.call_steps.specs.declared.step.MapStep.TheVariants as map
use Rattle.call_steps.specs.declared.step.NamesStep.TheVariants as names
use Rattle.call_steps.specs.Calls as calls
use Rattle.call_steps.specs.Rows as has
use Rattle.alloc_rules.specs.FrontLaw as fronts
use Rattle.alloc_rules.proofs.Keeping.{Common, IsNext, NotHere, behind, changed, clears_next, common_of, ends_next, entry_at, entry_shape, gave_next}
use Rattle.alloc_rules.proofs.Keeping.{given_back_next, giving_not, goes_quiet, kept_by, later_shape, onward_not, publishes_next, same_next, serves_next}
use Rattle.alloc_rules.proofs.Keeping.{shape_of, stays_away, waits_at}

shard_not : {R : Type 0} (row : ShardStep R) → NotHere (at_step (does.Shard row))
shard_not row = grind (arith, giving_not)

heap_not : {R : Type 0} (row : HeapStep R) → NotHere (at_step (does.Heap row))
heap_not row = grind (arith, onward_not)

map_not : {R : Type 0} (row : MapStep R) → NotHere (at_step (does.Map row))
map_not row = grind (arith, onward_not)

module _ {P V R : Type 0} {r : FrontRules P V R} {about : R → About} {planned : Planned → Type 0} {Holds : ℕ → List P → List (Standing V R) → Type 0}
    {fits : P → V → Regs → R → Type 0} (law : IsLawful r about planned Holds fits) where
  abbrev away : Local V R → Standing V R
  away l = stand l.seat l.regs (l.acts + 1) Away

  module _ (table : AreRows r.calls.rows) (t : ℕ) where
    abbrev Next' : Standing V R → Local V R → Type 0
    Next' base new = IsNext law table t base new

    abbrev Common' : Local V R → Type 0
    Common' l = Common law table t l

    -- from a step at which the thread stands so
    kept : (l new : Local V R) (a : At R) → at_step l.step ≡ a → NotHere a → Common' l → Next' (stand l.seat l.regs (l.acts + 1) a) new → IsKept r about planned Holds t l new
    kept l new a is not_here c n = grind (arith, waits_at)

    row_there : (l : Local V R) → Common' l → IsClassRow (class_row r.calls.rows l)
    row_there l c = table.each l.regs.class.0 no_class c.class

    -- objects come to an empty hand, and serve the allocation
    more_next : (l : Local V R) (a : Asking) (xs : List Addr) → Common' l → HasNone l → 0 < length xs → length xs ≤ LOADED_ROOM → Next' (away l) (serves r.calls (with_more l xs) a)
    more_next l a xs c n some few =
        let l' : Local V R = with_more l xs in
        let none : length l.regs.hand.items ≡ 0 = ap length n.hand in
        let size : length (l.regs.hand.items ++ xs) ≡ length xs = omega (arith, none, length-append l.regs.hand.items xs) in
        let same : room l'.regs.hand ≡ room l.regs.hand = omega (arith, c.hand, none, size, few) in
        behind law table t (away l) (away l') (serves r.calls l' a) (stays_away law table t l.seat l.regs (l.acts + 1) (l.acts + 1) l.regs.class l'.regs.hand (omega arith) c.class same)
        (serves_next law table t l' a l'.regs.hand.items refl (omega (arith, size, some)) (omega (arith, size, few)) (changed law table t c c.class (same ∙ c.hand) c.freed) n.freed)

    -- the call goes on elsewhere, with nothing in hand; or it is decided, and ends
    to : (l : Local V R) (next : Step R) → Common' l → HasNone l → at_step next ≡ Away
        → (HasNone (goes l next) → StepShape r.calls.rows about (goes l next) next) → Next' (away l) (goes l next)
    to l next c n is shape = goes_quiet law table t l next c n is shape

    ends_decided : (l : Local V R) (call : Call) (answer : Answer) → Common' l → HasNone l → Next' (away l) (ends r.calls (decided l call answer))
    ends_decided l call answer c n = ends_next law table t (decided l call answer) c (record { hand = n.hand; freed = n.freed })

    -- shards
    fetches_next : (l : Local V R) (a : Asking) (xs : List Addr) → Common' l → HasNone l → IsAsked r.calls.rows l.regs a → length xs ≤ LOADED_ROOM → Next' (away l) (fetches r.calls l a xs)
    fetches_next l a xs c n asked few = grind (arith, more_next, to)

    shard_next : (s : shards.Shard) (l : Local V R) (row : ShardStep R) → Common' l → StepShape r.calls.rows about l (does.Shard row) → IsSound s.central
        → s.central.row ≡ class_row r.calls.rows l → IsLowRun row → FitsShard r.calls.rows s l (does.Shard row)
        → Next' (stand l.seat l.regs (l.acts + 1) (at_step (does.Shard row))) (shard_after r.calls s l (does.Shard row)).1
    shard_next s l (shard.Fetch a) c shape sound same low fit =
        let is : IsClassRow (class_row r.calls.rows l) = row_there l c in
        let n : ℕ = (class_row r.calls.rows l).batch in
        let got : IsFetched n s = fetch_moves n s is.batch sound in
        fetches_next l a (shards.fetched n s) c shape.0 shape.1 (omega (arith, got.few, is.few))
    shard_next s l (shard.AddFetch a run) c shape sound same low fit =
        let is : IsClassRow (class_row r.calls.rows l) = row_there l c in
        let n : ℕ = (class_row r.calls.rows l).batch in
        let span : SpanRef = small l.regs.class run in
        grind (arith, add_moves n s span is.batch sound fit.0.pages low, more_next l a (opening span s.central.row.size n) c shape.0)
    shard_next s l (shard.Give g) c shape sound same low fit =
        let spans : List SpanRef = shards.freed_by l.regs.hand.items s in
        let got : IsGiven l.regs.hand.items s = give_moves l.regs.hand.items s sound fit.taken fit.different in
        given_back_next law table t l g (appended l.freed spans) c (omega (arith, length-append l.freed.items spans, got.few, fit.room, c.freed)) shape.1

    -- the heap
    new_next : (h : heaps.Heap) (l : Local V R) (label : Label) (size : ℕ) (o : Option Placed) → Common' l → HasNone l → Next' (away l) (after_new h l label size o).1
    new_next h l label size o c n = grind (arith, to)

    span_next : (h : heaps.Heap) (l : Local V R) (a : Asking) (o : Option Placed) → Common' l → HasNone l → IsAsked r.calls.rows l.regs a → Next' (away l) (after_new_span h l a o).1
    span_next h l a o c n asked = grind (arith, new_next, to)

    frees_next : (h : heaps.Heap) (l : Local V R) (o : Onward R) (spans : List SpanRef) → l.freed.items ≡ spans → Common' l → HasSpans l → IsOnward r.calls.rows about o
        → Next' (stand l.seat l.regs (l.acts + 1) (at_hand (has.GivesSpans o))) (frees_span r.calls h l o spans).1
    frees_next h l o [] freed c n is = absurd (let e = ap length freed in omega (arith, e, n.some))
    frees_next h l o (s ∷ others) freed c n is =
        let l' : Local V R = record l { freed = record { items = others; spare = l.freed.spare + 1 } } in
        clears_next law table t l' o others refl (changed law table t c c.class c.hand (let e = ap length freed in omega (arith, e, c.freed))) n.hand is

    heap_next : (h : heaps.Heap) (l : Local V R) (row : HeapStep R) → Common' l → StepShape r.calls.rows about l (does.Heap row)
        → Next' (stand l.seat l.regs (l.acts + 1) (at_step (does.Heap row))) (heap_after r.calls h l (does.Heap row)).1
    heap_next h l row c shape = grind (arith, ends_decided, frees_next, new_next, span_next)

    -- the map
    found_kind : (l : Local V R) (label : Label) (addr : Addr) (span : SpanRef) (k : SpanKind) → IsKindThere r.calls.rows k → 0 < l.regs.hand.spare → Common' l → HasNone l
        → Next' (away l) (found r.calls l label addr span k)
    found_kind l label addr span (Small k) there space c n =
        let f : Freeing = record { label = label; addr = addr } in
        let hand : Contents Addr = appended l.regs.hand (addr ∷ []) in
        let g1 : Regs = record l.regs { class = k; hand = hand } in
        let g : Regs = r.calls.to_free g1 in
        let kept = law.entries.to_free g1 in
        let only : hand.items ≡ addr ∷ [] = ap (λ (xs : List Addr). xs ++ addr ∷ []) n.hand in
        let same : room hand ≡ room l.regs.hand = omega (arith, space, length-append l.regs.hand.items (addr ∷ [])) in
        let in_hand : g.hand.items ≡ addr ∷ [] = ap (λ (h : Contents Addr). h.items) kept.hand ∙ only in
        let few : length g.hand.items ≤ most_slots = let e = ap length in_hand in omega (arith, e) in
        let begins : BeginsWith addr g.hand.items = subst (BeginsWith addr) (sym in_hand) refl in
        let other : Step R = does.Shard (shard.Give (giving.Freed f)) in
        let more = stays_away law table t l.seat l.regs (l.acts + 1) (l.acts + 1) k hand (omega arith) there same in
        let new : Local V R = goes (record l { regs = g }) (step_or other (r.calls.free l.seat f)) in
        let step = entry_shape law table t (calls.Frees f) other new (r.calls.free l.seat f) (law.entries.free_about l.seat f) (begins, few) n.freed
        (record { few = few; freed = n.freed }, begins) in
        record {
          shaped = shape_of law table t new (kept_by law table t kept (changed law table t c there (same ∙ c.hand) c.freed)) step;
          stands = entry_at law table t (away l) l.seat g (l.acts + 1) other (r.calls.free l.seat f) refl (λ m ps us holds. law.frees m ps us t l.seat g1 (l.acts + 1) f only (more m ps us holds));
        }
    found_kind l label addr span Large there space c n = to l (does.Map (map.Clear label (run_of span))) c n refl (λ none. none)

    map_next : (x : SpanMap) (l : Local V R) (row : MapStep R) → Common' l → StepShape r.calls.rows about l (does.Map row) → FitsMap x l (does.Map row) → IsFoundClass r.calls.rows x row
        → Next' (stand l.seat l.regs (l.acts + 1) (at_step (does.Map row))) (map_after r.calls x l (does.Map row)).1
    map_next x l row c shape fit there = grind (arith, same_next, found_kind, to)

    -- from a step that is written out
    kept_at : (l new : Local V R) (s : Step R) → IsShaped r.calls.rows about planned t l → l.step ≡ s → NotHere (at_step s)
        → (Common' l → StepShape r.calls.rows about l s → Next' (stand l.seat l.regs (l.acts + 1) (at_step s)) new) → IsKept r about planned Holds t l new
    kept_at l new s shaped is not_here next = grind (arith, common_of, kept)

    -- the names
    take_kept : (all : List NameState) (l : Local V R) (label : Label) (o : NameState) → IsShaped r.calls.rows about planned t l
        → l.step ≡ does.Names (names.Take label)
        → IsKept r about planned Holds t l (after_take r.calls all l label o).1
    take_kept all l label o shaped is = grind (arith, ends_decided, kept_at, to)

  pub shard_acts_keep : ShardActsKeep r about planned Holds
  shard_acts_keep t s l row table shaped is sound same low fit =
      kept_at table t l (shard_after r.calls s l (does.Shard row)).1 (does.Shard row) shaped is (shard_not row) (λ c shape. shard_next table t s l row c shape sound same low fit)

  pub heap_acts_keep : HeapActsKeep r about planned Holds
  heap_acts_keep t h l row table shaped is fit =
      kept_at table t l (heap_after r.calls h l (does.Heap row)).1 (does.Heap row) shaped is (heap_not row) (heap_next table t h l row)

  pub map_acts_keep : MapActsKeep r about planned Holds
  map_acts_keep t x l row table shaped is fit there =
      kept_at table t l (map_after r.calls x l (does.Map row)).1 (does.Map row) shaped is (map_not row) (λ c shape. map_next table t x l row c shape fit there)

  pub names_acts_keep : NamesActsKeep r about planned Holds
  names_acts_keep t all l (names.Publish label value) table shaped is fit =
      kept_at table t l (ends r.calls l) (does.Names (names.Publish label value)) shaped is tt (ends_next law table t l)
  names_acts_keep t all l (names.Take label) table shaped is fit = take_kept table t all l label (state_of all label.0) shaped is

  -- what comes behind an act of the front-end
  module _ (table : AreRows r.calls.rows) (t : ℕ) (l : Local V R) (p : P) (row : R) (shaped : IsShaped r.calls.rows about planned t l)
      (none_freed : l.freed.items ≡ []) (act : IsAct r about p l.regs row (r.acts p l.seat l.regs row)) where
    abbrev x : Left P V R
    x = r.acts p l.seat l.regs row

    abbrev then : Local V R
    then = record l { seat = x.seat; regs = x.regs }

    abbrev Behind : Next R → Type 0
    Behind n = IsNext law table t (stand x.seat (regs_next x.regs n) (l.acts + 1) (at_next n)) (follows r.calls then (call_about (about row)) n)

    common : Common law table t then
    common = record { thread = ap (λ (y : ThreadNo). y.0) act.thread ∙ shaped.thread; class = act.low; hand = act.room ∙ shaped.hand; freed = shaped.freed; rest = shaped.rest }

    -- at a row of its own
    at_front : (l' : Local V R) (to_row : R) → Common law table t l' → l'.freed.items ≡ [] → HandAbout r.calls.rows l'.regs (about to_row)
        → IsNext law table t (stand l'.seat l'.regs (l'.acts + 1) (Here to_row)) (goes l' (does.Front to_row))
    at_front l' to_row c none has = same_next law table t (goes l' (does.Front to_row)) c (has, none)

    has_none : x.regs.hand.items ≡ [] → HasNone then
    has_none none = record { hand = none; freed = none_freed }

    -- a hand that the front-end took itself: a free is decided, and a row comes for its class
    gave_behind : (g : Giving R) → fronts.IsNext r about row l.regs x.regs (next.Gave g) → Behind (next.Gave g)
    gave_behind (giving.Rest s) may = gave_next law table t then (giving.Rest s) [] common may.1 tt
    gave_behind (giving.Freed f) may = gave_next law table t then (giving.Freed f) (f.addr ∷ []) common may.1 refl
    gave_behind (giving.Row k to_row) may = grind (arith, at_front, changed, common, has_none, later_shape)
    gave_behind giving.End may = gave_next law table t then giving.End [] common may.1 tt

    decides_behind : (a : About) (answer : Answer) (to_row : Option R) → MayDecide a answer → (to_row ≡ None → x.regs.hand.items ≡ [])
        → MayGoOnDecided about to_row
        → length x.regs.hand.items ≤ most_slots
        → IsNext law table t (stand x.seat x.regs (l.acts + 1) (at_row to_row)) (follows r.calls then (call_about a) (next.Decide answer to_row))
    decides_behind (calls.Other (Some call)) answer None may none on few = ends_decided table t then call answer common (has_none (none refl))
    decides_behind (calls.Other (Some call)) answer (Some to_row) may none on few = grind (arith, at_front, common)
    decides_behind a answer to_row may none on few = absurd may

    -- what an allocation asks for is still of its class
    asked_by : (a : Asking) → about row ≡ calls.Asks a → HandAbout r.calls.rows l.regs (about row) → IsAsked r.calls.rows x.regs a
    asked_by a is has = grind arith

    follows_behind : (n : Next R) → fronts.IsNext r about row l.regs x.regs n → HandAbout r.calls.rows l.regs (about row) → Behind n
    follows_behind (next.Row to_row) may has = at_front then to_row common none_freed (subst (HandAbout r.calls.rows x.regs) (sym may.0) may.1)
    follows_behind (next.Serve a) may has = serves_next law table t then a x.regs.hand.items refl may.1 may.2 common none_freed
    follows_behind (next.Fetch a) may has = to table t then (does.Shard (shard.Fetch a)) common (has_none may.1) refl (λ none. (none, asked_by a may.0 has))
    follows_behind (next.Give g) may has =
        same_next law table t (goes then (does.Shard (shard.Give g))) common (record { few = may.1; freed = none_freed }, may.2)
    follows_behind (next.Gave g) may has = gave_behind g may
    follows_behind (next.Publish s) may has = publishes_next law table t then s common (has_none may.1)
    follows_behind (next.Freed f) may has = ends_decided table t then (Free f.label) (Freed f.addr) common (has_none may.1)
    follows_behind (next.Decide answer None) may has =
        decides_behind (about row) answer None may.0 (λ e. may.2) tt (let e = ap length may.2 in omega (arith, e))
    follows_behind (next.Decide answer (Some to_row)) may has = grind (arith, decides_behind)
    follows_behind next.End may has = ends_next law table t then common (has_none may.1)

  pub front_acts_keep : FrontActsKeep r about planned Holds
  front_acts_keep n t ps us l p row table shaped is low few holds at there =
      let shape = subst (λ (s : Step R). StepShape r.calls.rows about l s) is shaped.step in
      let at_here : slice_get us t ≡ Some (stand l.seat l.regs l.acts (Here row)) = at ∙ ap (λ (s : Step R). Some (stand l.seat l.regs l.acts (at_step s))) is in
      let ready : IsReady r t l.regs (about row) = record { thread = shaped.thread; class = shaped.class; room = shaped.hand; hand = shape.0 } in
      let act = law.does n ps us t p l.seat l.regs l.acts row low few holds at_here there ready in
      grind (arith, follows_behind table t l p row shaped shape.1 act (r.acts p l.seat l.regs row).next act.next shape.0)
