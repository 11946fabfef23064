-- Each act goes on within its call, or ends it.
use Rattle.std.proofs.Common.{◌≡◌, ℕ, ◌+◌, ◌/◌, true, false, List, [], ◌∷◌, ◌++◌, length, drop, Option, Some, None, refl, sym, ap, ◌∙◌, subst, arith, ◌<◌, Contains}
use Rattle.std.proofs.Common.{◌*◌, find, slice_get}
use Rattle.alloc_rules.proofs.Common.{false≢true, append-nil, length-append, page_bytes, pages_holding, Addr, Label, SpanRef, SpanKind, Small, Large, Call, run_of, without_span}
use Rattle.alloc_rules.proofs.Common.{Malloc, Free, Release, Answer, Block, NoBlock, Freed, FreedNull, Released, SpanMap, holds, NameState, state_of, Placed}
use Rattle.alloc_rules.proofs.Common.{new, release, opening, without_first, emptied, appended, small, address_of, Regs, Freeing, Asking, Serving, NamesStep}
use Rattle.alloc_rules.proofs.Common.{Local, step_or, Decided, first_act, decided, goes, ends, class_row, with_hand, stock_regs, stock_step, serves_first}
use Rattle.alloc_rules.proofs.Common.{gave, clears, with_more, fetches, shard_after, after_new, after_new_span}
use Rattle.alloc_rules.proofs.Common.{frees_span, heap_after, found, map_after, after_take, names_after, waits_for}
use Rattle.alloc_rules.proofs.Common.{front_after, is_unpublished, About, undecided, under, without_call, about_giving, about_onward, call_about, MayDecide}
use Rattle.alloc_rules.proofs.Common.{MayGoOnDecided, Planned, follows, Onward, Giving, Next, Step, ShardStep, HeapStep, MapStep, FrontCalls}
use Rattle.alloc_rules.proofs.Common.{AreEntries, FrontRules, IsEntry, FitsNames, FitsHeap, FitsMap, IsNext, IsAct, AddsSome}
use Rattle.alloc_rules.proofs.Common.{GoesOn, Closes, Path, Stays, Comes, is_under_way, IsSomeAnd, option_map_or}
use Rattle.name_table.specs.declared.table.NameState.TheVariants as name
use Rattle.heap_rules.specs.Heap as heaps
use Rattle.class_shard.specs.Shard as shards
use Rattle.call_steps.specs.declared.step.Giving.TheVariants as giving
use Rattle.call_steps.specs.declared.step.Onward.TheVariants as onward
use Rattle.call_steps.specs.declared.step.Step.TheVariants as does
use Rattle.call_steps.specs.declared.step.Next.TheVariants as next
use Rattle.call_steps.specs.declared.step.ShardStep.TheVariants as shard
use Rattle.call_steps.specs.declared.step.HeapStep.TheVariants as heap
use Rattle.call_steps.specs.declared.step.MapStep.TheVariants as map
use Rattle.call_steps.specs.declared.step.NamesStep.TheVariants as names
use Rattle.call_steps.specs.Calls as calls
use Rattle.alloc_rules.proofs.ScriptFacts.{closes}

first_some : (h : heaps.Heap) (xs : List SpanRef) → IsSomeAnd (slice_get xs 0) (λ (x : SpanRef). Contains h.runs (run_of x)) → 0 < length xs
first_some h [] lives = absurd lives
first_some h (s ∷ others) lives = omega arith

-- a local that has decided no more
record Keeps {V R : Type 0} (l x : Local V R) : Type 0 where
  answers : x.answers ≡ l.answers
  ended : x.ended ≡ l.ended
  rest : x.rest ≡ l.rest

keeps : {V R : Type 0} (l : Local V R) → Keeps l l
keeps l = record { answers = refl; ended = refl; rest = refl }

-- within a call of a local: another one that has decided no more than this
record IsFrom {V R : Type 0} (l x : Local V R) (new : List Decided) : Type 0 where
  answers : x.answers ≡ l.answers ++ new
  ended : x.ended ≡ l.ended
  rest : x.rest ≡ l.rest

same : {V R : Type 0} {l x : Local V R} → Keeps l x → IsFrom l x []
same {l = l} kept = record { answers = kept.answers ∙ sym (append-nil l.answers); ended = kept.ended; rest = kept.rest }

answered : {V R : Type 0} {l x : Local V R} → Keeps l x → (call : Call) (answer : Answer) → IsFrom l (decided x call answer) (record { act = x.acts; call = call; answer = answer } ∷ [])
answered {x = x} kept call answer = record { answers = ap (λ xs. xs ++ record { act = x.acts; call = call; answer = answer } ∷ []) kept.answers; ended = kept.ended; rest = kept.rest }

-- what the next step may be of, where this was decided
abbrev Of : {R : Type 0} → (R → About) → Step R → Option Call → List Decided → Type 0
Of about s o [] = (undecided about s ≡ o) × (under about s ≡ without_call o)
Of about s o (d ∷ []) = (undecided about s ≡ Some d.call) × (o ≡ None)
Of about s o (d ∷ e ∷ more) = ⊥

module _ {V R : Type 0} (e : FrontCalls V R) (about : R → About) (s : Step R) where
  goes_of : (next : Step R) → is_under_way next ≡ true → (new : List Decided) → Of about s (undecided about next) new → GoesOn e about s next new
  goes_of next way new of = grind (arith)

  -- with a row of the front-end
  enters : (row : R) (a : About) → about row ≡ a → (new : List Decided) → Of about s (call_about a) new → GoesOn e about s (does.Front row) new
  enters row a is new of = goes_of (does.Front row) refl new (subst (λ (b : About). Of about s (call_about b) new) (sym is) of)

  closes_of : (new : List Decided) → Of about s None new → Closes e about s new
  closes_of new of = grind (arith)

module _ {V R : Type 0} {e : FrontCalls V R} {about : R → About} (entries : AreEntries e about) {l : Local V R} where
  go : {x : Local V R} {new : List Decided} (next : Step R) → IsFrom l x new → is_under_way next ≡ true → Of about l.step (undecided about next) new → Path e about l (goes x next)
  go {new = new} next from way of = Stays new from.answers from.ended from.rest way (goes_of e about l.step next way new of)

  closed_by : {x : Local V R} {new : List Decided} → IsFrom l x new → Of about l.step None new → (o : Option R) → IsEntry about (calls.Other None) o → Path e about l (closes e x o)
  closed_by {x} {new} from of None entry =
      let begun = ap (λ (xs : List Planned). first_act e (e.begins x.seat (slice_get x.rest 0)) (slice_get xs 0)) from.rest in
      Comes new from.answers (ap (λ n. n + 1) from.ended) (ap (drop 1) from.rest) begun (closes_of e about l.step new of)
  closed_by {new = new} from of (Some row) entry = Stays new from.answers from.ended from.rest refl (enters e about l.step row (calls.Other None) entry new of)

  over : {x : Local V R} {new : List Decided} → IsFrom l x new → Of about l.step None new → Path e about l (ends e x)
  over {x} from of = closed_by {x = record x { acts = x.acts + 1 }} (record { answers = from.answers; ended = from.ended; rest = from.rest }) of (e.last x.seat) (entries.last_about x.seat)

  -- one that is decided by the act that ends it
  ends_deciding : {x : Local V R} → Keeps l x → (call : Call) (answer : Answer) → undecided about l.step ≡ Some call → Path e about l (ends e (decided x call answer))
  ends_deciding kept call answer of = over (answered kept call answer) (of, refl)

  -- a step that is a row of the front-end or another one
  rested : {x : Local V R} {new : List Decided} (s : Serving) (o : Option R) → IsEntry about (calls.Publishes s) o → IsFrom l x new → Of about l.step None new
      → Path e about l (goes (record x { regs = e.to_rest x.regs }) (step_or (does.Shard (shard.Give (giving.Rest s))) o))
  rested {new = new} s None entry from of = Stays new from.answers from.ended from.rest refl (goes_of e about l.step (does.Shard (shard.Give (giving.Rest s))) refl new of)
  rested {new = new} s (Some row) entry from of = Stays new from.answers from.ended from.rest refl (enters e about l.step row (calls.Publishes s) entry new of)

  -- the hand is the answer's, and the rest's
  stocked : {x : Local V R} {new : List Decided} (s : Serving) (others : List Addr) → IsFrom l x new → Of about l.step None new → Path e about l (goes (record x { regs = stock_regs e x.regs others }) (stock_step e x.seat s others))
  stocked s [] from of = go (does.Names (names.Publish s.label (Some s.addr))) from refl of
  stocked {x} s (a ∷ others) from of = rested s (e.rest x.seat s) (entries.rest_about x.seat s) from of

  goes_to : {x : Local V R} {new : List Decided} (next : Onward R) → IsFrom l x new → Of about l.step (call_about (about_onward about next)) new → Path e about l (clears e x next [])
  goes_to (onward.Publish s) from of = go (does.Names (names.Publish s.label (Some s.addr))) from refl of
  goes_to {new = new} (onward.Row k row) from of = Stays new from.answers from.ended from.rest refl (goes_of e about l.step (does.Front row) refl new of)
  goes_to onward.End from of = over from of

  cleared : {x : Local V R} {new : List Decided} (next : Onward R) (spans : List SpanRef) → IsFrom l x new → Of about l.step (call_about (about_onward about next)) new
      → Path e about l (clears e x next spans)
  cleared next [] from of = goes_to next from of
  cleared next (s ∷ others) from of = go (does.Map (map.ClearSpan next)) from refl of

  -- an allocation is served by what is in hand
  served : {x : Local V R} (a : Asking) (hand : List Addr) → Keeps l x → 0 < length hand → Of about l.step (Some (Malloc a.label a.size)) [] → Path e about l (serves_first e x a hand)
  served a [] kept some of = absurd (omega arith)
  served {x} a (o ∷ others) kept some of =
      let kept' : Keeps l (with_hand x (without_first 1 x.regs.hand)) = record { answers = kept.answers; ended = kept.ended; rest = kept.rest } in
      stocked (record { label = a.label; addr = o }) others (answered kept' (Malloc a.label a.size) (Block o (class_row e.rows x).size)) (of.0, refl)

  -- the hand was given, which decides a free
  gave_path : {x : Local V R} (g : Giving R) → Keeps l x → Of about l.step (call_about (about_giving about g)) [] → Path e about l (gave e x g x.freed.items)
  gave_path {x} (giving.Rest s) kept of = cleared (onward.Publish s) x.freed.items (same kept) of
  gave_path {x} (giving.Freed f) kept of = cleared onward.End x.freed.items (answered kept (Free f.label) (Freed f.addr)) (of.0, refl)
  gave_path {x} (giving.Row k row) kept of = cleared (onward.Row k row) x.freed.items (same kept) of
  gave_path {x} giving.End kept of = cleared onward.End x.freed.items (same kept) of

  -- a call without a label is decided, and goes on or ends
  decides_path : {x : Local V R} (a : About) (answer : Answer) (row : Option R) → Keeps l x → Of about l.step (call_about a) [] → MayDecide a answer → MayGoOnDecided about row
      → Path e about l (follows e x (call_about a) (next.Decide answer row))
  decides_path (calls.Other (Some call)) answer None kept of decides may = ends_deciding kept call answer of.0
  decides_path (calls.Other (Some call)) answer (Some row) kept of decides may = go (does.Front row) (answered kept call answer) refl (of.0, ap call_about may)
  decides_path a answer row kept of decides may = absurd decides

-- what may come behind an act of the front-end
module _ {P V R : Type 0} (r : FrontRules P V R) {about : R → About} (entries : AreEntries r.calls about) {l x : Local V R} (row : R) (old : Regs) (kept : Keeps l x)
    (of : Of about l.step (call_about (about row)) []) where
  now : {a : About} → a ≡ about row → Of about l.step (call_about a) []
  now is = subst (λ (b : About). Of about l.step (call_about b) []) (sym is) of

  follows_path : (n : Next R) → IsNext r about row old x.regs n → Path r.calls about l (follows r.calls x (call_about (about row)) n)
  follows_path (next.Row to) may = go entries (does.Front to) (same kept) refl (now may.0)
  follows_path (next.Serve asking) may = served entries asking x.regs.hand.items kept may.1 (now (sym may.0))
  follows_path (next.Fetch asking) may = go entries (does.Shard (shard.Fetch asking)) (same kept) refl (now (sym may.0))
  follows_path (next.Give g) may = go entries (does.Shard (shard.Give g)) (same kept) refl (now (sym may.0))
  follows_path (next.Gave (giving.Rest s)) may = gave_path entries (giving.Rest s) kept (now (sym may.0))
  follows_path (next.Gave (giving.Freed f)) may = gave_path entries (giving.Freed f) kept (now (sym may.0))
  follows_path (next.Gave (giving.Row k to)) may = gave_path entries (giving.Row k to) kept (now (sym may.0))
  follows_path (next.Gave giving.End) may = gave_path entries giving.End kept (now (sym may.0))
  follows_path (next.Publish s) may = go entries (does.Names (names.Publish s.label (Some s.addr))) (same kept) refl (now (sym may.0))
  follows_path (next.Freed f) may = ends_deciding entries kept (Free f.label) (Freed f.addr) (of.0 ∙ ap call_about may.0)
  follows_path (next.Decide answer None) may = decides_path entries (about row) answer None kept of may.0 tt
  follows_path (next.Decide answer (Some to)) may = decides_path entries (about row) answer (Some to) kept of may.0 may.2
  follows_path next.End may = over entries (same kept) (now (sym may.0))

pub front_path : {P V R : Type 0} (r : FrontRules P V R) (about : R → About) (entries : AreEntries r.calls about) (l : Local V R) (q : P) (row : R) → l.step ≡ does.Front row
    → IsAct r about q l.regs row (r.acts q l.seat l.regs row) → Path r.calls about l (front_after r about q l (does.Front row)).1
front_path r about entries l q row step act =
    let x = r.acts q l.seat l.regs row in
    follows_path r entries {l = l} {x = record l { seat = x.seat; regs = x.regs }} row l.regs (record { answers = refl; ended = refl; rest = refl })
    (ap (undecided about) step, ap (under about) step) x.next act.next

-- The acts by their parts. A local with another step, for a part's row.
some_more : (hand : List Addr) (o : Addr) (others : List Addr) → 0 < length (hand ++ o ∷ others)
some_more hand o others = omega (arith, length-append hand (o ∷ others))

module _ {V R : Type 0} (e : FrontCalls V R) (about : R → About) (entries : AreEntries e about) (l : Local V R) where
  -- a path from the local with this step
  abbrev From : Step R → Local V R → Type 0
  From s = Path e about (record l { step = s })

  abbrev silent : l.answers ≡ l.answers ++ []
  silent = sym (append-nil l.answers)

  abbrev on_heap : HeapStep R → Local V R
  on_heap row = record l { step = does.Heap row }

  new_path : (h : heaps.Heap) (label : Label) (size : ℕ) (o : Option Placed) → From (does.Heap (heap.New label size)) (after_new h (on_heap (heap.New label size)) label size o).1
  new_path h label size None = Stays (record { act = l.acts; call = Malloc label size; answer = NoBlock } ∷ []) refl refl refl refl (refl, refl, refl)
  new_path h label size (Some p) = Stays (record { act = l.acts; call = Malloc label size; answer = Block (address_of p.run) (p.run.pages * page_bytes) } ∷ []) refl refl refl refl (refl, refl, refl)

  span_path : (h : heaps.Heap) (a : Asking) (o : Option Placed) → From (does.Heap (heap.NewSpan a)) (after_new_span h (on_heap (heap.NewSpan a)) a o).1
  span_path h a None = Stays (record { act = l.acts; call = Malloc a.label a.size; answer = NoBlock } ∷ []) refl refl refl refl (refl, refl, refl)
  span_path h a (Some p) = Stays [] (sym (append-nil l.answers)) refl refl refl (refl, refl)

  free_path : (h : heaps.Heap) (next : Onward R) (xs : List SpanRef) → 0 < length xs → From (does.Heap (heap.FreeSpan next)) (frees_span e h (on_heap (heap.FreeSpan next)) next xs).1
  free_path h next [] some = absurd (omega arith)
  free_path h next (s ∷ others) some =
      cleared entries {x = record (on_heap (heap.FreeSpan next)) { freed = record { items = others; spare = l.freed.spare + 1 } }} next others (record { answers = silent; ended = refl; rest = refl }) (refl, refl)

  pub heap_path : (h : heaps.Heap) (row : HeapStep R) → FitsHeap e.rows h (on_heap row) (does.Heap row) → From (does.Heap row) (heap_after e h (on_heap row) (does.Heap row)).1
  heap_path h (heap.New label size) fits = new_path h label size (new h (pages_holding size))
  heap_path h (heap.NewSpan a) fits = span_path h a (new h (class_row e.rows l).pages)
  heap_path h (heap.GiveBack label run) fits = ends_deciding entries (keeps (on_heap (heap.GiveBack label run))) (Free label) (Freed (address_of run)) refl
  heap_path h (heap.FreeSpan next) fits = free_path h next l.freed.items (first_some h l.freed.items fits)
  heap_path h (heap.Unback pages) fits = ends_deciding entries (keeps (on_heap (heap.Unback pages))) (Release pages) (Released (release h pages).pages) refl

  -- the page map
  abbrev on_map : MapStep R → Local V R
  on_map row = record l { step = does.Map row }

  -- the object of a free is in hand
  freed_path : (label : Label) (addr : Addr) (x : Local V R) → Keeps l x → (o : Option R) → IsEntry about (calls.Frees (record { label = label; addr = addr })) o
      → From (does.Map (map.Lookup label addr)) (goes x (step_or (does.Shard (shard.Give (giving.Freed (record { label = label; addr = addr })))) o))
  freed_path label addr x kept None entry = Stays [] (kept.answers ∙ silent) kept.ended kept.rest refl (refl, refl)
  freed_path label addr x kept (Some row) entry = Stays [] (kept.answers ∙ silent) kept.ended kept.rest refl (ap call_about entry, ap without_call (ap call_about entry))

  found_path : (label : Label) (addr : Addr) (span : SpanRef) (kind : SpanKind) → From (does.Map (map.Lookup label addr)) (found e (on_map (map.Lookup label addr)) label addr span kind)
  found_path label addr span (Small k) =
      let f : Freeing = record { label = label; addr = addr } in
      freed_path label addr (record (on_map (map.Lookup label addr)) { regs = e.to_free (record l.regs { class = k; hand = appended l.regs.hand (addr ∷ []) }) })
      (record { answers = refl; ended = refl; rest = refl }) (e.free l.seat f) (entries.free_about l.seat f)
  found_path label addr span Large = Stays [] silent refl refl refl (refl, refl)

  lookup_path : (x : SpanMap) (label : Label) (addr : Addr) (o : Option SpanRef) → find (holds (addr.0 / page_bytes)) x.spans ≡ o
      → FitsMap x (on_map (map.Lookup label addr)) (does.Map (map.Lookup label addr)) → From (does.Map (map.Lookup label addr)) (option_map_or (λ (s : SpanRef). found e (on_map (map.Lookup label addr)) label addr s s.kind) o (on_map (map.Lookup label addr)))
  lookup_path x label addr None is fits = let wrong : None ≡ Some fits.0 = sym is ∙ fits.1 in absurd (cc)
  lookup_path x label addr (Some span) is fits = found_path label addr span span.kind

  clear_path : (x : SpanMap) (next : Onward R) (xs : List SpanRef) → IsSomeAnd (slice_get xs 0) (Contains x.spans) → From (does.Map (map.ClearSpan next)) (option_map_or {U = SpanMap × Local V R} (λ (s : SpanRef). (record x { spans = without_span s x.spans }, goes (on_map (map.ClearSpan next)) (does.Heap (heap.FreeSpan next)))) (slice_get xs 0) (x, (on_map (map.ClearSpan next)))).1
  clear_path x next [] there = absurd there
  clear_path x next (s ∷ others) there = Stays [] silent refl refl refl (refl, refl)

  pub map_path : (x : SpanMap) (row : MapStep R) → FitsMap x (on_map row) (does.Map row) → From (does.Map row) (map_after e x (on_map row) (does.Map row)).1
  map_path x (map.Set label run) fits = Stays [] silent refl refl refl (refl, refl)
  map_path x (map.SetSpan a run) fits = Stays [] silent refl refl refl (refl, refl)
  map_path x (map.Lookup label addr) fits = lookup_path x label addr (find (holds (addr.0 / page_bytes)) x.spans) refl fits
  map_path x (map.Clear label run) fits = Stays [] silent refl refl refl (refl, refl)
  map_path x (map.ClearSpan next) fits = clear_path x next l.freed.items fits

  -- the names
  abbrev on_names : NamesStep → Local V R
  on_names row = record l { step = does.Names row }

  take_path : (ns : List NameState) (label : Label) (s : NameState) → is_unpublished s ≡ false → (s ≡ name.Taken → ⊥)
      → From (does.Names (names.Take label)) (after_take e ns (on_names (names.Take label)) label s).1
  take_path ns label name.Unpublished out fresh = absurd (false≢true (sym out))
  take_path ns label name.Taken out fresh = absurd (fresh refl)
  take_path ns label (name.Published None) out fresh = ends_deciding entries (keeps (on_names (names.Take label))) (Free label) FreedNull refl
  take_path ns label (name.Published (Some addr)) out fresh = Stays [] silent refl refl refl (refl, refl)

  pub names_path : (ns : List NameState) (row : NamesStep) → FitsNames {R = R} ns (does.Names row) → waits_for {R = R} ns (does.Names row) ≡ false → From (does.Names row) (names_after e ns (on_names row) (does.Names row)).1
  names_path ns (names.Publish label value) fits out = over entries (same (keeps (on_names (names.Publish label value)))) (refl, refl)
  names_path ns (names.Take label) fits out = take_path ns label (state_of ns label.0) out fits.1

  -- a shard
  abbrev on_shard : ShardStep R → Local V R
  on_shard row = record l { step = does.Shard row }

  fetch_path : (a : Asking) (objects : List Addr) → From (does.Shard (shard.Fetch a)) (fetches e (on_shard (shard.Fetch a)) a objects)
  fetch_path a [] = Stays [] silent refl refl refl (refl, refl)
  fetch_path a (o ∷ others) =
      let x : Local V R = with_more (on_shard (shard.Fetch a)) (o ∷ others) in
      served entries {x = x} a x.regs.hand.items (record { answers = refl; ended = refl; rest = refl }) (some_more l.regs.hand.items o others) (refl, refl)

  pub shard_path : (s : shards.Shard) (row : ShardStep R) → AddsSome e.rows s (on_shard row) row → From (does.Shard row) (shard_after e s (on_shard row) (does.Shard row)).1
  shard_path s (shard.Fetch a) adds = fetch_path a (shards.fetched (class_row e.rows l).batch s)
  shard_path s (shard.AddFetch a run) adds =
      let came : List Addr = opening (small l.regs.class run) s.central.row.size (class_row e.rows l).batch in
      let x : Local V R = with_more (on_shard (shard.AddFetch a run)) came in
      served entries {x = x} a x.regs.hand.items (record { answers = refl; ended = refl; rest = refl }) (omega (arith, adds, length-append l.regs.hand.items came)) (refl, refl)
  shard_path s (shard.Give g) adds =
      let x : Local V R = record (with_hand (on_shard (shard.Give g)) (emptied l.regs.hand)) { freed = appended l.freed (shards.freed_by l.regs.hand.items s) } in
      gave_path entries {x = x} g (record { answers = refl; ended = refl; rest = refl }) (refl, refl)
