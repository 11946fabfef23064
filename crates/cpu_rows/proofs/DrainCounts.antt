-- A drain's count is that of the objects that left the CPU's slab in the acts of its call.
use Rattle.std.proofs.Common.{◌≡◌, ℕ, suc, ◌+◌, ◌-◌, ◌<◌, ◌≤◌, ◌⊎◌, Bool, true, false, eqb, cond, List, [], ◌∷◌, ◌++◌, Option, Some, None, refl, sym, ap, ◌∙◌, subst, inl, inr}
use Rattle.std.proofs.Common.{arith, slice_get, slice_set, get_or, reverse, take, ◌&&◌, fold, length}
use Rattle.std.specs.List.{flat_map}
use Rattle.std.proofs.lemmas.Bool.{eq-eqb, ne_eqb, lt-ltb}
use Rattle.std.proofs.lemmas.List.{length-append, length-reverse}
use Rattle.tc_units.specs.Bag.{Contents}
use Rattle.tc_units.specs.declared.units.Addr.{Addr}
use Rattle.tc_units.specs.declared.units.Class.{Class}
use Rattle.tc_units.specs.declared.units.CpuNo.{CpuNo}
use Rattle.tc_units.specs.declared.units.ThreadNo.{ThreadNo}
use Rattle.tc_model.specs.declared.calls.MoveTo.{MoveTo}
use Rattle.tc_model.specs.Input.{Input, script_of}
use Rattle.tc_model.specs.Run.{Rules, World, start, pick, run, with_pair}
use Rattle.tc_model.proofs.Lists.{set_elsewhere, set_here}
use Rattle.tc_model.proofs.MovingFacts.{pick_moves}
use Rattle.tc_model.specs.declared.answers.Answer.TheVariants.{Drained}
use Rattle.cpu_slab.specs.Slots.{SlabRow, held, no_row, row_at}
use Rattle.cpu_drain.specs.Drains as drains
use Rattle.cpu_drain.specs.Seats.{objects_of}
use Rattle.rseq_core.specs.Bags.{appended}
use Rattle.call_steps.specs.Calls.{call_about}
use Rattle.call_steps.specs.Rows.{undecided}
use Rattle.cpu_rows.proofs.Common.{CpuPart, CpuSeat, Planned, ClassRow, Regs, IsValidInput, IsOrder, Local, Step, Next, Giving, Call, Drain, Part, PartNo, after, rules, number, Stopping}
use Rattle.cpu_rows.proofs.Common.{cpu_calls, cpu_acts, front_acts, front_of, about_row, follows, ends, goes, drained, drains_on, CpuStep, CpuFrontPart, Cpu, Domain, Draining, as_row, at_step}
use Rattle.cpu_rows.proofs.Common.{RegsAt, CpuShape, IsSeated, limits_of, standing_of, slice_get-map, taken_by, Transfer}
use Rattle.alloc_rules.proofs.Common.{Onward, SpanRef, SpanMap, FrontCalls, clears, gave, frees_span, heap_after, map_after, shard_after, names_after, front_after, first_act, option_map_or}
use Rattle.alloc_rules.proofs.Common.{Path, Stays, Comes, without_span}
use Rattle.alloc_rules.proofs.Along.{Picks, IsKeptAlong, along, path_of}
use Rattle.call_steps.specs.Hands.{given_back}
use Rattle.alloc_rules.proofs.Common.{decided, Free, Freed, NameState, cases_eq, with_hand, emptied}
use Rattle.cpu_rows.proofs.Common.{with_move, Limits, SeatOk, IsHeld, seat_at, stopping_at, thread_no, Decides}
use Rattle.std.specs.Prelude.{IfSome}
use Rattle.cpu_drain.specs.Seats as seats
use Rattle.alloc_rules.proofs.Answering.{decides_by, ends_goes}
use Rattle.cpu_rows.specs.Effects.{DrainsAll, DrainsThere}
use Rattle.std.proofs.Common.{option_map}
use Rattle.alloc_rules.specs.Machine as machine
use Rattle.call_steps.specs.declared.step.NamesStep.TheVariants as names
use Rattle.cpu_rows.proofs.Common.{stops, call_of, Busy}
use Rattle.std.proofs.Common.{zero, leb, ltb}
use Rattle.call_steps.specs.declared.step.Giving.TheVariants as giving
use Rattle.call_steps.specs.declared.step.Onward.TheVariants as onward
use Rattle.call_steps.specs.declared.step.Step.TheVariants as does
use Rattle.call_steps.specs.declared.step.Next.TheVariants as next
use Rattle.call_steps.specs.declared.step.HeapStep.TheVariants as heap
use Rattle.call_steps.specs.declared.step.MapStep.TheVariants as mapped
use Rattle.call_steps.specs.declared.step.ShardStep.TheVariants as shard
use Rattle.alloc_rules.specs.declared.part.Part.TheVariants as part
use Rattle.heap_rules.specs.Heap as heaps
use Rattle.class_shard.specs.Shard as shards
use Rattle.cpu_rows.specs.declared.row.CpuRow.{CpuRow}
use Rattle.cpu_rows.specs.declared.row.CpuRow.TheVariants as front
use Rattle.cpu_rows.specs.declared.row.CpuStep.TheVariants as cpu
use Rattle.cpu_rows.specs.declared.row.DomainStep.TheVariants as domain
use Rattle.cpu_rows.specs.declared.row.Stopping.TheVariants as stopping
use Rattle.cpu_rows.specs.Effects.{objects_in, objects_at_cpu, ended_of, left_in_pick, left_in_call}
use Rattle.cpu_rows.proofs.CpuLaw.{lawful_in}

-- what a call that stops a CPU has taken, by the step at which it is
abbrev taken_cpu : CpuStep → ℕ
taken_cpu (cpu.Stop s) = taken_by s
taken_cpu (cpu.Fence s) = taken_by s
taken_cpu (cpu.Take s) = taken_by s
taken_cpu (cpu.Start s) = taken_by s
taken_cpu row = 0

abbrev taken_behind : Giving CpuStep → ℕ
taken_behind (giving.Row k row) = taken_cpu row
taken_behind g = 0

abbrev taken_row : CpuRow → ℕ
taken_row (front.Cpu row) = taken_cpu row
taken_row (front.Domain (domain.Put g)) = taken_behind g
taken_row (front.Domain (domain.Take a)) = 0

abbrev taken_giving : Giving CpuRow → ℕ
taken_giving (giving.Row k row) = taken_row row
taken_giving g = 0

abbrev taken_onward : Onward CpuRow → ℕ
taken_onward (onward.Row k row) = taken_row row
taken_onward o = 0

abbrev pub taken_step : Step → ℕ
taken_step (does.Front row) = taken_row row
taken_step (does.Shard (shard.Give g)) = taken_giving g
taken_step (does.Map (mapped.ClearSpan o)) = taken_onward o
taken_step (does.Heap (heap.FreeSpan o)) = taken_onward o
taken_step s = 0

-- a step is of a drain of CPU c that isn't answered
abbrev pub IsDrain : CpuNo → Step → Type 0
IsDrain c s = undecided about_row s ≡ Some (Drain c)

-- a step takes the objects of a class, in a drain
abbrev IsTake : Step → Type 0
IsTake s = (d : Draining) × (s ≡ does.Front (front.Cpu (cpu.Take (stopping.Drain d))))

-- Of an act: so many objects leave its part and are counted, where it takes a class.
record Adds (s : Step) (q : Part) (y : Step) (q' : Part) : Type 0 where
  more : ℕ
  counted : taken_step y ≡ taken_step s + more
  gone : objects_in q ≡ objects_in q' + more
  only : (more ≡ 0) ⊎ IsTake s

adds_none : (s : Step) (q : Part) (y : Step) (q' : Part) → taken_step y ≡ taken_step s → objects_in q' ≡ objects_in q → Adds s q y q'
adds_none s q y q' same kept = record { more = 0; counted = omega (arith, same); gone = omega (arith, kept); only = inl refl }

no_drain : {X : Type 0} (c : CpuNo) → None ≡ Some (Drain c) → X
no_drain c is = absurd (let e : None ≡ Some (Drain c) = is in cc)

module _ (rows : List ClassRow) where
  abbrev e : FrontCalls CpuSeat CpuRow
  e = cpu_calls rows

  -- a local that goes on in a drain has counted so many
  abbrev Carries : Local → Local → ℕ → Type 0
  Carries x y n = (c : CpuNo) → y.ended ≡ x.ended → IsDrain c y.step → taken_step y.step ≡ n

  -- behind a call's end no drain is under way
  over_no : (x : Local) (o : Option MoveTo) → x.seat.moved ≡ o → (n : ℕ) → Carries x (ends e x) n
  over_no x None is n c same drain = let ended : (ends e x).ended ≡ x.ended + 1 = rw is refl in absurd (omega (arith, ended, same))
  over_no x (Some move) is n c same drain =
      let step : (ends e x).step ≡ does.Front (front.Cpu cpu.Leave) = rw is refl in no_drain c (sym (ap (undecided about_row) step) ∙ drain)

  ends_no : (x : Local) (n : ℕ) → Carries x (ends e x) n
  ends_no x n = over_no x x.seat.moved refl n

  clears_carry : (x : Local) (o : Onward CpuRow) (spans : List SpanRef) → Carries x (clears e x o spans) (taken_onward o)
  clears_carry x o (s ∷ others) c same drain = refl
  clears_carry x (onward.Publish s) [] c same drain = no_drain c drain
  clears_carry x (onward.Row k row) [] c same drain = refl
  clears_carry x onward.End [] c same drain = ends_no x 0 c same drain

  gave_carry : (x : Local) (g : Giving CpuRow) (spans : List SpanRef) → Carries x (gave e x g spans) (taken_giving g)
  gave_carry x (giving.Rest s) spans c same drain = clears_carry x (onward.Publish s) spans c same drain
  gave_carry x (giving.Freed f) spans c same drain = clears_carry (decided x (Free f.label) (Freed f.addr)) onward.End spans c same drain
  gave_carry x (giving.Row k row) spans c same drain = clears_carry x (onward.Row k row) spans c same drain
  gave_carry x giving.End spans c same drain = clears_carry x onward.End spans c same drain

  as_taken : (g : Giving CpuStep) → taken_giving (as_row g) ≡ taken_behind g
  as_taken (giving.Rest s) = refl
  as_taken (giving.Freed f) = refl
  as_taken (giving.Row k row) = refl
  as_taken giving.End = refl

  -- Take
  given_on : (x : Local) (call : Option Call) (b : Bool) (k : Class) (row : CpuStep)
      → taken_step (follows e x call (cond b (next.Give (as_row (giving.Row k row))) (next.Row (front.Domain (domain.Put (giving.Row k row)))))).step ≡ taken_cpu row
  given_on x call true k row = refl
  given_on x call false k row = refl

  drained_on : (x : Local) (call : Option Call) (v : CpuSeat) (g : Regs) (items : List Addr) (to : Class × CpuStep)
      → taken_step (follows e (record x { seat = v; regs = (drained v g items to).0 }) call (drained v g items to).1).step ≡ taken_cpu to.1
  drained_on x call v g [] to = refl
  drained_on x call v g (a ∷ others) to = given_on (record x { seat = v; regs = g }) call (eqb v.domains 0) to.0 to.1

  on_taken : (b : Bool) (k k' : Class) (d : Draining) → taken_cpu (cond {A = Class × CpuStep} b (k', cpu.Take (stopping.Drain d)) (k, cpu.Start (stopping.Drain d))).1 ≡ d.taken
  on_taken true k k' d = refl
  on_taken false k k' d = refl

  flat_set : (slots : List SlabRow) (k : ℕ) → length (flat_map held slots) ≡ length (flat_map held (slice_set slots k (record (get_or slots k no_row) { top = 0 }))) + length (held (get_or slots k no_row))
  flat_set [] k = refl
  flat_set (r ∷ rs) zero = omega (arith, length-append (held r) (flat_map held rs))
  flat_set (r ∷ rs) (suc k) =
      omega (arith, flat_set rs k, length-append (held r) (flat_map held rs), length-append (held r) (flat_map held (slice_set rs k (record (get_or rs k no_row) { top = 0 }))))

  take_adds : (p : CpuPart) (l : Local) (d : Draining) → l.regs.hand.items ≡ []
      → (let x = cpu_acts rows p l.seat l.regs (cpu.Take (stopping.Drain d)) in
      Adds (does.Front (front.Cpu (cpu.Take (stopping.Drain d)))) (part.Front (Cpu p)) (follows e (record l { seat = x.seat; regs = x.regs }) (Some (Drain d.cpu)) x.next).step (part.Front (Cpu x.part)))
  take_adds p l d none =
      let k : ℕ = l.regs.class.0 in
      let there : List Addr = held (row_at p.slab k) in
      let h : Contents Addr = drains.taken_to p k l.regs.hand in
      let g : Regs = record l.regs { hand = h } in
      let d' : Draining = record d { taken = d.taken + length h.items } in
      let all : length h.items ≡ length there = omega (arith, ap length none, length-append l.regs.hand.items (reverse there), length-reverse there) in
      let on = drained_on l (Some (Drain d.cpu)) l.seat g h.items (drains_on rows l.regs.class d') in
      let told = on_taken (ltb (k + 1) (length rows)) l.regs.class (record { 0 = k + 1 }) d' in
      record {
        more = length there;
        counted = on ∙ (told ∙ ap (λ n. d.taken + n) all);
        gone = flat_set p.slab.rows k;
        only = inr (d, refl);
      }

  -- Stop
  stop_carry : (p : CpuPart) (l : Local) (s : Stopping) (o : Option ThreadNo) → (let n = stops p l.regs.thread s o in Carries l (follows e (record l { seat = l.seat; regs = l.regs }) (Some (call_of s)) n.1) (taken_by s))
  stop_carry p l s None c same drain = refl
  stop_carry p l s (Some owner) c same drain = ends_no (decided l (call_of s) (Busy owner)) (taken_by s) c same drain

  stop_keeps : (p : CpuPart) (t : ThreadNo) (s : Stopping) (o : Option ThreadNo) → objects_in (part.Front (Cpu (stops p t s o).0)) ≡ objects_in (part.Front (Cpu p))
  stop_keeps p t s None = refl
  stop_keeps p t s (Some owner) = refl

  -- Put
  put_carry : (x : Local) (call : Option Call) (g : Giving CpuStep) (b : Bool) (t t' : Transfer) (r r' : Regs)
      → (let n : Transfer × Regs × Next = cond b (t, r, next.Gave (as_row g)) (t', r', next.Give (as_row g)) in Carries x (follows e (record x { regs = n.1 }) call n.2) (taken_behind g))
  put_carry x call g true t t' r r' c same drain = gave_carry (record x { regs = r }) (as_row g) x.freed.items c same drain ∙ as_taken g
  put_carry x call g false t t' r r' c same drain = as_taken g

  -- what a row at a CPU or at a domain's cache adds
  row_adds : (p : CpuFrontPart) (l : Local) (row : CpuRow) (c : CpuNo) → IsDrain c (does.Front row) → ((d : Draining) → row ≡ front.Cpu (cpu.Take (stopping.Drain d)) → l.regs.hand.items ≡ [])
      → (let x = front_acts rows p l.seat l.regs row in let y : Local = follows e (record l { seat = x.seat; regs = x.regs }) (call_about (about_row row)) x.next in
      y.ended ≡ l.ended → IsDrain c y.step → Adds (does.Front row) (part.Front p) y.step (part.Front x.part))
  row_adds (Cpu p) l (front.Cpu (cpu.Stop s)) c is hand same drain =
      adds_none _ (part.Front (Cpu p)) _ _ (stop_carry p l s p.stopper c same drain) (stop_keeps p l.regs.thread s p.stopper)
  row_adds (Cpu p) l (front.Cpu (cpu.Fence s)) c is hand same drain = adds_none _ (part.Front (Cpu p)) _ _ refl refl
  row_adds (Cpu p) l (front.Cpu (cpu.Take (stopping.Drain d))) c is hand same drain = take_adds p l d (hand d refl)
  row_adds (Cpu p) l (front.Cpu (cpu.Take (stopping.Resize x))) c is hand same drain = absurd (cc)
  row_adds (Cpu p) l (front.Cpu (cpu.Start (stopping.Drain d))) c is hand same drain =
      adds_none _ (part.Front (Cpu p)) _ _ (ends_no (decided l (Drain d.cpu) (Drained d.taken)) d.taken c same drain) refl
  row_adds (Cpu p) l (front.Cpu (cpu.Start (stopping.Resize x))) c is hand same drain = no_drain c is
  row_adds (Cpu p) l (front.Cpu (cpu.Pop a)) c is hand same drain = absurd (cc)
  row_adds (Cpu p) l (front.Cpu (cpu.Grow a)) c is hand same drain = absurd (cc)
  row_adds (Cpu p) l (front.Cpu (cpu.Stock s)) c is hand same drain = no_drain c is
  row_adds (Cpu p) l (front.Cpu (cpu.Push f)) c is hand same drain = absurd (cc)
  row_adds (Cpu p) l (front.Cpu (cpu.PopBatch f)) c is hand same drain = absurd (cc)
  row_adds (Cpu p) l (front.Cpu (cpu.SetCap x)) c is hand same drain = absurd (cc)
  row_adds (Cpu p) l (front.Cpu cpu.Leave) c is hand same drain = no_drain c is
  row_adds (Domain k t) l (front.Domain (domain.Put g)) c is hand same drain =
      adds_none _ (part.Front (Domain k t)) _ _ (put_carry l _ g (leb (length t.objects + length l.regs.hand.items) t.room) _ _ _ _ c same drain) refl
  row_adds (Domain k t) l (front.Domain (domain.Take a)) c is hand same drain = absurd (cc)
  row_adds (Cpu p) l (front.Domain row) c is hand same drain = adds_none _ (part.Front (Cpu p)) _ _ refl refl
  row_adds (Domain k t) l (front.Cpu row) c is hand same drain = adds_none _ (part.Front (Domain k t)) _ _ refl refl

  -- elsewhere
  still : (l : Local) (s : Step) (q : Part) → l.step ≡ s → Adds s q l.step q
  still l s q step = adds_none s q l.step q (ap taken_step step) refl

  given_carry : (l : Local) (g : Giving CpuRow) (freed : Contents SpanRef) → Carries l (given_back e l g freed) (taken_giving g)
  given_carry l g freed c same drain = gave_carry (record (with_hand l (emptied l.regs.hand)) { freed = freed }) g freed.items c same drain

  shard_adds : (x : shards.Shard) (l : Local) (s : Step) (c : CpuNo) → l.step ≡ s → IsDrain c s → (let z = shard_after e x l s in z.1.ended ≡ l.ended → IsDrain c z.1.step → Adds s (part.Shard x) z.1.step (part.Shard z.0))
  shard_adds x l (does.Shard (shard.Give g)) c step is same drain =
      adds_none _ (part.Shard x) _ _ (given_carry l g (appended l.freed (shards.freed_by l.regs.hand.items x)) c same drain) refl
  shard_adds x l (does.Shard (shard.Fetch a)) c step is same drain = absurd (cc)
  shard_adds x l (does.Shard (shard.AddFetch a run)) c step is same drain = absurd (cc)
  shard_adds x l (does.Front row) c step is same drain = still l _ (part.Shard x) step
  shard_adds x l (does.Heap row) c step is same drain = still l _ (part.Shard x) step
  shard_adds x l (does.Map row) c step is same drain = still l _ (part.Shard x) step
  shard_adds x l (does.Names row) c step is same drain = still l _ (part.Shard x) step
  shard_adds x l does.Ended c step is same drain = still l _ (part.Shard x) step

  frees_adds : (h : heaps.Heap) (l : Local) (o : Onward CpuRow) (spans : List SpanRef) (c : CpuNo) → l.step ≡ does.Heap (heap.FreeSpan o)
      → (let z = frees_span e h l o spans in z.1.ended ≡ l.ended → IsDrain c z.1.step → Adds (does.Heap (heap.FreeSpan o)) (part.Heap h) z.1.step (part.Heap z.0))
  frees_adds h l o [] c step same drain = still l _ (part.Heap h) step
  frees_adds h l o (s ∷ others) c step same drain =
      adds_none _ (part.Heap h) _ _ (clears_carry (record l { freed = record { items = others; spare = l.freed.spare + 1 } }) o others c same drain) refl

  heap_adds : (h : heaps.Heap) (l : Local) (s : Step) (c : CpuNo) → l.step ≡ s → IsDrain c s → (let z = heap_after e h l s in z.1.ended ≡ l.ended → IsDrain c z.1.step → Adds s (part.Heap h) z.1.step (part.Heap z.0))
  heap_adds h l (does.Heap (heap.FreeSpan o)) c step is same drain = frees_adds h l o l.freed.items c step same drain
  heap_adds h l (does.Heap (heap.New label size)) c step is same drain = absurd (cc)
  heap_adds h l (does.Heap (heap.NewSpan a)) c step is same drain = absurd (cc)
  heap_adds h l (does.Heap (heap.GiveBack label run)) c step is same drain = absurd (cc)
  heap_adds h l (does.Heap (heap.Unback pages)) c step is same drain = absurd (cc)
  heap_adds h l (does.Front row) c step is same drain = still l _ (part.Heap h) step
  heap_adds h l (does.Shard row) c step is same drain = still l _ (part.Heap h) step
  heap_adds h l (does.Map row) c step is same drain = still l _ (part.Heap h) step
  heap_adds h l (does.Names row) c step is same drain = still l _ (part.Heap h) step
  heap_adds h l does.Ended c step is same drain = still l _ (part.Heap h) step

  cleared_adds : (m : SpanMap) (l : Local) (o : Onward CpuRow) (first : Option SpanRef) → l.step ≡ does.Map (mapped.ClearSpan o)
      → (let z = option_map_or {U = SpanMap × Local} (λ s. (record m { spans = without_span s m.spans }, goes l (does.Heap (heap.FreeSpan o)))) first (m, l) in Adds (does.Map (mapped.ClearSpan o)) (part.Map m) z.1.step (part.Map z.0))
  cleared_adds m l o None step = still l _ (part.Map m) step
  cleared_adds m l o (Some s) step = adds_none _ (part.Map m) _ _ refl refl

  map_adds : (m : SpanMap) (l : Local) (s : Step) (c : CpuNo) → l.step ≡ s → IsDrain c s → (let z = map_after e m l s in z.1.ended ≡ l.ended → IsDrain c z.1.step → Adds s (part.Map m) z.1.step (part.Map z.0))
  map_adds m l (does.Map (mapped.ClearSpan o)) c step is same drain = cleared_adds m l o (slice_get l.freed.items 0) step
  map_adds m l (does.Map (mapped.Set label run)) c step is same drain = no_drain c is
  map_adds m l (does.Map (mapped.SetSpan a run)) c step is same drain = absurd (cc)
  map_adds m l (does.Map (mapped.Lookup label addr)) c step is same drain = absurd (cc)
  map_adds m l (does.Map (mapped.Clear label run)) c step is same drain = absurd (cc)
  map_adds m l (does.Front row) c step is same drain = still l _ (part.Map m) step
  map_adds m l (does.Shard row) c step is same drain = still l _ (part.Map m) step
  map_adds m l (does.Heap row) c step is same drain = still l _ (part.Map m) step
  map_adds m l (does.Names row) c step is same drain = still l _ (part.Map m) step
  map_adds m l does.Ended c step is same drain = still l _ (part.Map m) step

  names_adds : (all : List NameState) (l : Local) (s : Step) (c : CpuNo) → l.step ≡ s → IsDrain c s → (let z = names_after e all l s in z.1.ended ≡ l.ended → IsDrain c z.1.step → Adds s (part.Names all) z.1.step (part.Names z.0))
  names_adds all l (does.Names (names.Publish label value)) c step is same drain = no_drain c is
  names_adds all l (does.Names (names.Take label)) c step is same drain = absurd (cc)
  names_adds all l (does.Front row) c step is same drain = still l _ (part.Names all) step
  names_adds all l (does.Shard row) c step is same drain = still l _ (part.Names all) step
  names_adds all l (does.Heap row) c step is same drain = still l _ (part.Names all) step
  names_adds all l (does.Map row) c step is same drain = still l _ (part.Names all) step
  names_adds all l does.Ended c step is same drain = still l _ (part.Names all) step

  -- a call begins with nothing counted
  first_taken : (v : CpuSeat) (o : Option Planned) → taken_step (first_act e v o) ≡ 0
  first_taken v o = grind arith

-- nothing is in hand where a drain is to take a class
abbrev HasNoHand : Local → Step → Type 0
HasNoHand l s = (d : Draining) → s ≡ does.Front (front.Cpu (cpu.Take (stopping.Drain d))) → l.regs.hand.items ≡ []

front_adds : (input : Input) (p : CpuFrontPart) (l : Local) (s : Step) (c : CpuNo) → l.step ≡ s → IsDrain c s → HasNoHand l s
    → (let z = front_after (front_of input) about_row p l s in z.1.ended ≡ l.ended → IsDrain c z.1.step → Adds s (part.Front p) z.1.step (part.Front z.0))
front_adds input p l (does.Front row) c step is hand same drain = row_adds input.rows p l row c is (λ d e. hand d (ap (λ x. does.Front x) e)) same drain
front_adds input p l (does.Shard row) c step is hand same drain = still input.rows l _ (part.Front p) step
front_adds input p l (does.Heap row) c step is hand same drain = still input.rows l _ (part.Front p) step
front_adds input p l (does.Map row) c step is hand same drain = still input.rows l _ (part.Front p) step
front_adds input p l (does.Names row) c step is hand same drain = still input.rows l _ (part.Front p) step
front_adds input p l does.Ended c step is hand same drain = still input.rows l _ (part.Front p) step

act_adds : (input : Input) (q : Part) (l : Local) (c : CpuNo) → IsDrain c l.step → HasNoHand l l.step → (let z = after input q l in z.1.ended ≡ l.ended → IsDrain c z.1.step → Adds l.step q z.1.step z.0)
act_adds input (part.Front p) l c is hand same drain = front_adds input p l l.step c refl is hand same drain
act_adds input (part.Shard x) l c is hand same drain = shard_adds input.rows x l l.step c refl is same drain
act_adds input (part.Heap h) l c is hand same drain = heap_adds input.rows h l l.step c refl is same drain
act_adds input (part.Map m) l c is hand same drain = map_adds input.rows m l l.step c refl is same drain
act_adds input (part.Names all) l c is hand same drain = names_adds input.rows all l l.step c refl is same drain

-- Over an order: one pick more.
left_snoc : (r : Rules Part Local) (c t n : ℕ) (w : World Part Local) (us : List ℕ) (u : ℕ) → left_in_call r c t n w (us ++ u ∷ []) ≡ left_in_call r c t n w us + left_in_pick r c t n (fold (pick r) w us) u
left_snoc r c t n w [] u = omega arith
left_snoc r c t n w (v ∷ us) u = omega (arith, left_snoc r c t n (pick r w v) us u)

none_if : (a b : Bool) (x : ℕ) → b ≡ false → cond (a && b) x 0 ≡ 0
none_if true b x is = rw is refl
none_if false b x is = refl

all_if : (a b : Bool) (x : ℕ) → a ≡ true → b ≡ true → cond (a && b) x 0 ≡ x
all_if a b x is also = rw (is, also) refl

-- a step of a drain is at its CPU where it takes a class
take_place : (input : Input) (l : Local) (s : Step) (d : Draining) → l.step ≡ s → s ≡ does.Front (front.Cpu (cpu.Take (stopping.Drain d))) → d.cpu.0 < input.asked.config.cpus
    → machine.place_of (front_of input) about_row l ≡ Some (number d.cpu.0)
take_place input l s d step is low = grind (arith, lt-ltb)

-- how a call goes on in a drain
by_path : (rows : List ClassRow) (l y : Local) (c : CpuNo) → Path (cpu_calls rows) about_row l y → IsDrain c y.step → ((y.ended ≡ l.ended + 1) × (taken_step y.step ≡ 0)) ⊎ ((y.ended ≡ l.ended) × IsDrain c l.step)
by_path rows l y c (Stays [] answers ended rest way goes) drain = inr (ended, sym goes.0 ∙ drain)
by_path rows l y c (Stays (d ∷ []) answers ended rest way goes) drain = no_drain c (sym goes.1 ∙ drain)
by_path rows l y c (Stays (d ∷ x ∷ more) answers ended rest way goes) drain = absurd goes
by_path rows l y c (Comes new answers ended rest step closes) drain = inl (ended, ap taken_step step ∙ first_taken rows y.seat (slice_get l.rest 0))

rises : (rows : List ClassRow) (l y : Local) → Path (cpu_calls rows) about_row l y → l.ended ≤ y.ended
rises rows l y (Stays new answers ended rest way goes) = omega (arith, ended)
rises rows l y (Comes new answers ended rest step closes) = omega (arith, ended)

shape_none : (m : Limits) (v : CpuSeat) (g : Regs) (d : Draining) → CpuShape m v g (cpu.Take (stopping.Drain d)) → (g.hand.items ≡ []) × (d.cpu.0 < m.cpus)
shape_none m v g d (none, (low, few)) = (none.hand, low)

module _ (input : Input) (valid : IsValidInput input) where
  abbrev r : Rules Part Local
  r = rules input

  -- What thread t, which stands so, has counted: nothing left a CPU's slab in calls to come, and in a drain under way as much as
  -- is counted.
  pub record Counts (past : List ℕ) (t : ℕ) (l : Local) : Type 0 where
    pub none : (n c : ℕ) → l.ended < n → left_in_call r c t n (start r) past ≡ 0
    pub some : (c : CpuNo) → IsDrain c l.step → taken_step l.step ≡ left_in_call r c.0 t l.ended (start r) past

  module _ (past : List ℕ) (w : World Part Local) (t : ℕ) (l : Local) (place : PartNo) (q : Part) (picks : Picks (lawful_in input valid) {asked = input.asked} valid Counts past w t l place q) where
    abbrev y : Local
    y = (after input q l).1

    path : Path (cpu_calls input.rows) about_row l y
    path = path_of (lawful_in input valid) {asked = input.asked} valid Counts past w t l place q picks

    ended_is : ended_of t w ≡ l.ended
    ended_is = ap (λ o. option_map_or (λ (x : Local). x.ended) o 0) picks.local

    snoc : (c u n : ℕ) → left_in_call r c u n (start r) (past ++ t ∷ []) ≡ left_in_call r c u n (start r) past + left_in_pick r c u n w t
    snoc c u n = left_snoc r c u n (start r) past t ∙ ap (λ v. left_in_call r c u n (start r) past + left_in_pick r c u n v t) (sym picks.is)

    pick_none : (c n : ℕ) → (l.ended ≡ n → ⊥) → left_in_pick r c t n w t ≡ 0
    pick_none c n apart = none_if (eqb t t) (eqb (ended_of t w) n) _ (ap (λ k. eqb k n) ended_is ∙ ne_eqb l.ended n apart)

    pick_all : (c n : ℕ) → l.ended ≡ n → left_in_pick r c t n w t ≡ objects_at_cpu c w - objects_at_cpu c (pick r w t)
    pick_all c n same = all_if (eqb t t) (eqb (ended_of t w) n) _ (eq-eqb t t refl) (ap (λ k. eqb k n) ended_is ∙ eq-eqb l.ended n same)

    moved : pick r w t ≡ with_pair w place.0 t (after input q l)
    moved = pick_moves r w t (record { local = l; place = place; part = q; local_there = picks.local; wants = picks.want; part_there = picks.there; goes = picks.goes })

    here : slice_get picks.served.locals t ≡ Some l
    here = ap (λ (u : World Part Local). slice_get u.locals t) (sym picks.served.is) ∙ picks.local

    shape : (d : Draining) → l.step ≡ does.Front (front.Cpu (cpu.Take (stopping.Drain d))) → (l.regs.hand.items ≡ []) × (d.cpu.0 < input.asked.config.cpus)
    shape d step =
        let seat : IsSeated input.rows input.asked.config t (standing_of l) = picks.served.front.threads t (standing_of l) (slice_get-map standing_of picks.served.locals t ∙ ap (option_map standing_of) here) in
        shape_none (limits_of input.rows input.asked.config) l.seat l.regs d (subst (λ (x : Step). RegsAt (limits_of input.rows input.asked.config) l.seat l.regs (at_step x)) step seat.regs)

    -- what left the slab of the drain's CPU in this pick
    gone_here : (c : ℕ) (k : ℕ) → place.0 ≡ c → objects_in q ≡ objects_in (after input q l).0 + k → objects_at_cpu c w - objects_at_cpu c (pick r w t) ≡ k
    gone_here c k at gone =
        let before : objects_at_cpu c w ≡ objects_in q = ap (λ i. objects_at_cpu i w) (sym at) ∙ ap (λ o. option_map_or objects_in o 0) picks.there in
        let now : objects_at_cpu c (pick r w t) ≡ objects_in (after input q l).0 =
        ap (objects_at_cpu c) moved ∙ (ap (λ i. objects_at_cpu i (with_pair w place.0 t (after input q l))) (sym at) ∙ ap (λ o. option_map_or objects_in o 0) (set_here w.parts place.0 (after input q l).0 q picks.there)) in
        omega (arith, before, now, gone)

    gone_not : (c : ℕ) → (place.0 ≡ c → ⊥) → objects_at_cpu c w - objects_at_cpu c (pick r w t) ≡ 0
    gone_not c apart =
        let now : objects_at_cpu c (pick r w t) ≡ objects_at_cpu c w = ap (objects_at_cpu c) moved ∙ ap (λ o. option_map_or objects_in o 0) (set_elsewhere w.parts place.0 c (after input q l).0 apart) in
        omega (arith, now)

    taken_there : (c : CpuNo) → IsDrain c l.step → IsTake l.step → place.0 ≡ c.0
    taken_there c drain (d, step) =
        let want : Some place ≡ Some (number d.cpu.0) = sym picks.want ∙ take_place input l l.step d refl step (shape d step).1 in
        let named : Some (Drain d.cpu) ≡ Some (Drain c) = sym (ap (undecided about_row) step) ∙ drain in
        let there : place ≡ number d.cpu.0 = cc in
        let same : d.cpu ≡ c = cc in
        ap (λ (x : PartNo). x.0) there ∙ ap (λ (x : CpuNo). x.0) same

    gone_by : (c : CpuNo) (k : ℕ) → IsDrain c l.step → objects_in q ≡ objects_in (after input q l).0 + k → (k ≡ 0) ⊎ IsTake l.step → objects_at_cpu c.0 w - objects_at_cpu c.0 (pick r w t) ≡ k
    gone_by c k drain gone (inr takes) = gone_here c.0 k (taken_there c drain takes) gone
    gone_by c k drain gone (inl none) = elim (cases_eq place.0 c.0) [
      | inl at ↦ gone_here c.0 k at gone
      | inr apart ↦ gone_not c.0 apart ∙ sym none
    ]

    own_some : Counts past t l → (c : CpuNo) → IsDrain c y.step → taken_step y.step ≡ left_in_call r c.0 t y.ended (start r) (past ++ t ∷ [])
    own_some counts c drain = elim (by_path input.rows l y c path drain) [
      | inl begins ↦
          (let low : l.ended < y.ended = omega (arith, begins.0) in
          omega (arith, begins.1, snoc c.0 t y.ended, counts.none y.ended c.0 low, pick_none c.0 y.ended (λ same. omega (arith, same, low))))
      | inr goes ↦
          (let adds = act_adds input q l c goes.1 (λ d step. (shape d step).0) goes.0 drain in
          let left : left_in_call r c.0 t y.ended (start r) past ≡ left_in_call r c.0 t l.ended (start r) past = ap (λ n. left_in_call r c.0 t n (start r) past) goes.0 in
          omega (arith, adds.counted, counts.some c goes.1, snoc c.0 t y.ended, left, pick_all c.0 y.ended (sym goes.0), gone_by c adds.more goes.1 adds.gone adds.only))
    ]

    own_counts : Counts past t l → Counts (past ++ t ∷ []) t y
    own_counts counts =
        record {
          none = λ n c low. (let up = rises input.rows l y path in let more : l.ended < n = omega (arith, up, low) in
              omega (arith, snoc c t n, counts.none n c more, pick_none c n (λ same. omega (arith, same, more))));
          some = own_some counts;
        }

  other_pick : (c t u n : ℕ) (w : World Part Local) → (t ≡ u → ⊥) → left_in_pick r c u n w t ≡ 0
  other_pick c t u n w apart = rw (ne_eqb t u apart) refl

  other_left : (past : List ℕ) (c t u n : ℕ) → (t ≡ u → ⊥) → left_in_call r c u n (start r) (past ++ t ∷ []) ≡ left_in_call r c u n (start r) past
  other_left past c t u n apart = omega (arith, left_snoc r c u n (start r) past t, other_pick c t u n (fold (pick r) (start r) past) apart)

  kept : IsKeptAlong (lawful_in input valid) {asked = input.asked} valid Counts
  kept =
      record {
        first = λ t. record { none = λ n c low. refl; some = λ c drain. first_taken input.rows (with_move ((front_of input).seats t) (slice_get (script_of t input.asked.calls) 0)) (slice_get (script_of t input.asked.calls) 0) };
        own = own_counts;
        other = λ past t u k apart counts. record {
          none = λ n c low. other_left past c t u n apart ∙ counts.none n c low;
          some = λ c drain. counts.some c drain ∙ sym (other_left past c.0 t u k.ended apart);
        };
      }

  -- after every order
  pub counted : (order : List ℕ) → IsOrder (rules input) order → (t : ℕ) (l : Local) → slice_get (run (rules input) order).locals t ≡ Some l → Counts order t l
  counted order of t l at = along (lawful_in input valid) {asked = input.asked} valid Counts kept order of t l at

-- where a drain is to be answered, behind an order
module _ (input : Input) (valid : IsValidInput input) (order : List ℕ) (t : ℕ) (l : Local) (p : CpuPart) (c : CpuNo)
    (pair : SeatOk c.0 (thread_no t) p (seat_at input.rows (standing_of l))) (counts : Counts input valid order t l) where
  module _ (d : Draining) (step : l.step ≡ does.Front (front.Cpu (cpu.Start (stopping.Drain d)))) (same : d.cpu ≡ c) where
    emptied_all : (k : ℕ) → k < length input.rows → held (row_at p.slab k) ≡ []
    emptied_all k low =
        let Stage : Step → Type 0 = λ s. IfSome (stopping_at input.rows l.regs (at_step s)) (λ (o : seats.Standing). o.cpu ≡ c.0 → IsHeld (thread_no t) p o) in
        let stage : Stage (does.Front (front.Cpu (cpu.Start (stopping.Drain d)))) = subst Stage step pair.stage in
        let none = ((stage (ap (λ (x : CpuNo). x.0) same)).empty k (lt-ltb k (length input.rows) low)).1 in
        ap (λ n. take n (row_at p.slab k).slots) none

    told : d.taken ≡ left_in_call (rules input) c.0 t l.ended (start (rules input)) order
    told = sym (ap taken_step step) ∙ counts.some c (ap (undecided about_row) step ∙ ap (λ x. Some (Drain x)) same)

    answered : Decides l (after input (part.Front (Cpu p)) l).1 (Drained d.taken)
    answered =
        subst (λ (s : Step). Decides l (front_after (front_of input) about_row (Cpu p) l s).1 (Drained d.taken)) (sym step)
        (record { call = Drain d.cpu; answers = (ends_goes (cpu_calls input.rows) (decided l (Drain d.cpu) (Drained d.taken))).answers })

  pub drains_there : DrainsThere input order t l p c
  drains_there d step same =
      record {
        empty = emptied_all d step same;
        answer = subst (λ n. Decides l (after input (part.Front (Cpu p)) l).1 (Drained n)) (told d step same) (answered d step same);
      }

-- A rule by which a drain is answered another number than the objects that left does less.
pub uncounted : (input : Input) (order : List ℕ) (t : ℕ) (l : Local) (p : CpuPart) (c : CpuNo) (other : ℕ) → (other ≡ left_in_call (rules input) c.0 t l.ended (start (rules input)) order → ⊥)
    → Decides l (after input (part.Front (Cpu p)) l).1 (Drained other) → DrainsAll input order t l p c → ⊥
uncounted input order t l p c other apart decides all =
    let said : Drained other ≡ Drained (left_in_call (rules input) c.0 t l.ended (start (rules input)) order) = (decides_by l _ decides.call (Drained other) (Drained _) decides.answers).0 all.answer in
    apart (cc)
