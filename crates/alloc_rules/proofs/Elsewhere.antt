-- What no act does, over any front-end: it lowers no number of ended calls, and refuses a call only where its step may.
use Rattle.std.proofs.Common.{◌≡◌, ℕ, ◌+◌, ◌*◌, ◌/◌, ◌≤◌, Bool, true, false, List, [], ◌∷◌, Option, Some, None, refl, sym, ap, ◌∙◌, arith, find, slice_get}
use Rattle.alloc_rules.proofs.Common.{false≢true, page_bytes, Addr, Label, SpanRef, SpanKind, Small, Large, Call, Malloc, Free, Answer, Block, Freed, FreedNull, without_span}
use Rattle.alloc_rules.proofs.Common.{NoBlock, SpanMap, holds, NameState, Placed, Regs, without_first, address_of, Asking, Serving, Giving, Onward, Step, Next}
use Rattle.alloc_rules.proofs.Common.{ShardStep, HeapStep, MapStep, NamesStep, FrontCalls, FrontRules, Local, decided, ends, class_row, About, call_about}
use Rattle.alloc_rules.proofs.Common.{with_hand, stock_regs, stock_step, goes, serves_first, gave, clears, follows, with_more, fetches, shard_after}
use Rattle.alloc_rules.proofs.Common.{after_new, after_new_span, frees_span, heap_after, found, map_after}
use Rattle.alloc_rules.proofs.Common.{after_take, names_after, front_after, Decides, RefusesThere, Part}
use Rattle.alloc_rules.proofs.Common.{RefusesAs, after, option_map_or}
use Rattle.call_steps.specs.Refusals.{is_refusal, may_refuse}
use Rattle.name_table.specs.declared.table.NameState.TheVariants as name
use Rattle.heap_rules.specs.Heap as heaps
use Rattle.class_shard.specs.Shard as shards
use Rattle.call_steps.specs.declared.step.Giving.TheVariants as giving
use Rattle.call_steps.specs.declared.step.Onward.TheVariants as onward
use Rattle.call_steps.specs.declared.step.Step.TheVariants as does
use Rattle.call_steps.specs.declared.step.Next.TheVariants as next
use Rattle.call_steps.specs.declared.step.HeapStep.TheVariants as heap
use Rattle.call_steps.specs.declared.step.MapStep.TheVariants as mapped
use Rattle.alloc_rules.specs.declared.part.Part.TheVariants as part
use Rattle.alloc_rules.proofs.Answering.{Answers, GoesAs, decides_by, decides_none, ends_goes}

-- An act leaves no fewer ended calls, and refused none.
pub record Plain {V R : Type 0} (l y : Local V R) : Type 0 where
  pub ended : l.ended ≤ y.ended
  pub plain : (x : Answer) → is_refusal x ≡ true → Decides l y x → ⊥

-- it answered nothing, or something else
pub quiet : {V R : Type 0} (l y : Local V R) → l.ended ≤ y.ended → y.answers ≡ l.answers → Plain l y
quiet l y ended same = record { ended = ended; plain = λ x refusal. decides_none l y x same }

says : {V R : Type 0} (l y : Local V R) (call : Call) (answer : Answer) → is_refusal answer ≡ false → l.ended ≤ y.ended → Answers l y call answer → Plain l y
says l y call answer other ended is = record { ended = ended; plain = λ x refusal d. absurd (false≢true (sym other ∙ (ap is_refusal ((decides_by l y call answer x is).0 d) ∙ refusal))) }

-- so it is for a local with other registers
from : {V R : Type 0} (l x y : Local V R) → x.answers ≡ l.answers → x.acts ≡ l.acts → x.ended ≡ l.ended → Plain x y → Plain l y
from l x y answers acts ended leaves = grind arith

-- An act of a step leaves no fewer ended calls, and refused a call only as its step may.
pub record Leaves {V R : Type 0} (refuses : R → Answer → Bool) (s : Step R) (l y : Local V R) : Type 0 where
  pub ended : l.ended ≤ y.ended
  pub there : (x : Answer) → is_refusal x ≡ true → may_refuse refuses s x ≡ false → Decides l y x → ⊥

pub leaves_of : {V R : Type 0} (refuses : R → Answer → Bool) (s : Step R) (l y : Local V R) → Plain l y → Leaves refuses s l y
leaves_of refuses s l y is = record { ended = is.ended; there = λ x refusal _. is.plain x refusal }

tells : {V R : Type 0} (refuses : R → Answer → Bool) (s : Step R) (l y : Local V R) (call : Call) (answer : Answer) → (is_refusal answer ≡ true → may_refuse refuses s answer ≡ true)
    → l.ended ≤ y.ended → Answers l y call answer → Leaves refuses s l y
tells refuses s l y call answer may ended is =
    record {
      ended = ended;
      there = λ x refusal none d.
          (let same : answer ≡ x = (decides_by l y call answer x is).0 d in
          absurd (false≢true (sym none ∙ (ap (may_refuse refuses s) (sym same) ∙ may (ap is_refusal same ∙ refusal)))));
    }

module _ {V R : Type 0} (e : FrontCalls V R) (about : R → About) (refuses : R → Answer → Bool) where
  -- the ways in which a call goes on
  stocks_goes : (x : Local V R) (s : Serving) (others : List Addr) → GoesAs x (goes (record x { regs = stock_regs e x.regs others }) (stock_step e x.seat s others))
  stocks_goes x s others = grind arith

  clears_goes : (x : Local V R) (next : Onward R) (spans : List SpanRef) → GoesAs x (clears e x next spans)
  clears_goes x next spans = grind (arith, ends_goes)

  -- an act that decides a call and ends it
  ends_saying : (l : Local V R) (call : Call) (answer : Answer) → is_refusal answer ≡ false → Plain l (ends e (decided l call answer))
  ends_saying l call answer other = let g = ends_goes e (decided l call answer) in says l _ call answer other g.ended g.answers

  ends_quietly : (l : Local V R) → Plain l (ends e l)
  ends_quietly l = let g = ends_goes e l in quiet l _ g.ended g.answers

  serves_leaves : (x : Local V R) (a : Asking) (hand : List Addr) → Plain x (serves_first e x a hand)
  serves_leaves x a [] = quiet x x (omega arith) refl
  serves_leaves x a (o ∷ others) =
      let g = stocks_goes (decided (with_hand x (without_first 1 x.regs.hand)) (Malloc a.label a.size) (Block o (class_row e.rows x).size)) (record { label = a.label; addr = o }) others in
      says x _ (Malloc a.label a.size) (Block o (class_row e.rows x).size) refl g.ended g.answers

  gave_leaves : (x : Local V R) (g : Giving R) → Plain x (gave e x g x.freed.items)
  gave_leaves x (giving.Rest s) = let g = clears_goes x (onward.Publish s) x.freed.items in quiet x _ g.ended g.answers
  gave_leaves x (giving.Freed f) =
      let g = clears_goes (decided x (Free f.label) (Freed f.addr)) onward.End x.freed.items in
      says x _ (Free f.label) (Freed f.addr) refl g.ended g.answers
  gave_leaves x (giving.Row k row) = let g = clears_goes x (onward.Row k row) x.freed.items in quiet x _ g.ended g.answers
  gave_leaves x giving.End = let g = clears_goes x onward.End x.freed.items in quiet x _ g.ended g.answers

  -- the page heap
  frees_leaves : (h : heaps.Heap) (l : Local V R) (next : Onward R) (xs : List SpanRef) → Plain l (frees_span e h l next xs).1
  frees_leaves h l next [] = quiet l l (omega arith) refl
  frees_leaves h l next (s ∷ others) = let g = clears_goes (record l { freed = record { items = others; spare = l.freed.spare + 1 } }) next others in quiet l _ g.ended g.answers

  new_leaves : (h : heaps.Heap) (l : Local V R) (label : Label) (size : ℕ) (o : Option Placed) → Leaves refuses (does.Heap (heap.New label size)) l (after_new h l label size o).1
  new_leaves h l label size None = tells refuses (does.Heap (heap.New label size)) l _ (Malloc label size) NoBlock (λ _. refl) (omega arith) refl
  new_leaves h l label size (Some x) =
      leaves_of refuses (does.Heap (heap.New label size)) l _ (says l _ (Malloc label size) (Block (address_of x.run) (x.run.pages * page_bytes)) refl (omega arith) refl)

  span_leaves : (h : heaps.Heap) (l : Local V R) (a : Asking) (o : Option Placed) → Leaves refuses (does.Heap (heap.NewSpan a)) l (after_new_span h l a o).1
  span_leaves h l a None = tells refuses (does.Heap (heap.NewSpan a)) l _ (Malloc a.label a.size) NoBlock (λ _. refl) (omega arith) refl
  span_leaves h l a (Some x) = leaves_of refuses (does.Heap (heap.NewSpan a)) l _ (quiet l _ (omega arith) refl)

  heap_leaves : (h : heaps.Heap) (l : Local V R) (row : HeapStep R) → Leaves refuses (does.Heap row) l (heap_after e h l (does.Heap row)).1
  heap_leaves h l row = grind (arith, ends_saying, frees_leaves, leaves_of, new_leaves, span_leaves)

  -- the page map
  found_leaves : (l : Local V R) (label : Label) (addr : Addr) (span : SpanRef) (kind : SpanKind) → Plain l (found e l label addr span kind)
  found_leaves l label addr span (Small k) = quiet l _ (omega arith) refl
  found_leaves l label addr span Large = quiet l _ (omega arith) refl

  lookup_leaves : (l : Local V R) (label : Label) (addr : Addr) (o : Option SpanRef) → Plain l (option_map_or (λ (s : SpanRef). found e l label addr s s.kind) o l)
  lookup_leaves l label addr None = quiet l l (omega arith) refl
  lookup_leaves l label addr (Some span) = found_leaves l label addr span span.kind

  clears_span_leaves : (m : SpanMap) (l : Local V R) (next : Onward R) (xs : List SpanRef) → Plain l (option_map_or {U = SpanMap × Local V R} (λ (s : SpanRef). (record m { spans = without_span s m.spans }, goes l (does.Heap (heap.FreeSpan next)))) (slice_get xs 0) (m, l)).1
  clears_span_leaves m l next [] = quiet l l (omega arith) refl
  clears_span_leaves m l next (s ∷ others) = quiet l _ (omega arith) refl

  map_leaves : (m : SpanMap) (l : Local V R) (row : MapStep R) → Plain l (map_after e m l (does.Map row)).1
  map_leaves m l (mapped.Lookup label addr) = lookup_leaves l label addr (find (holds (addr.0 / page_bytes)) m.spans)
  map_leaves m l (mapped.ClearSpan next) = clears_span_leaves m l next l.freed.items
  map_leaves m l row = quiet l _ (omega arith) refl

  -- the names
  take_leaves : (ns : List NameState) (l : Local V R) (label : Label) (s : NameState) → Plain l (after_take e ns l label s).1
  take_leaves ns l label name.Unpublished = quiet l l (omega arith) refl
  take_leaves ns l label name.Taken = quiet l l (omega arith) refl
  take_leaves ns l label (name.Published None) = ends_saying l (Free label) FreedNull refl
  take_leaves ns l label (name.Published (Some addr)) = quiet l _ (omega arith) refl

  names_leaves : (ns : List NameState) (l : Local V R) (row : NamesStep) → Plain l (names_after e ns l (does.Names row)).1
  names_leaves ns l row = grind (arith, ends_quietly, take_leaves)

  -- a shard
  fetch_leaves : (l : Local V R) (a : Asking) (objects : List Addr) → Plain l (fetches e l a objects)
  fetch_leaves l a [] = quiet l _ (omega arith) refl
  fetch_leaves l a (o ∷ others) = from l (with_more l (o ∷ others)) _ refl refl refl (serves_leaves (with_more l (o ∷ others)) a (with_more l (o ∷ others)).regs.hand.items)

  shard_leaves : (s : shards.Shard) (l : Local V R) (row : ShardStep R) → Plain l (shard_after e s l (does.Shard row)).1
  shard_leaves s l row = grind (arith, fetch_leaves, from, gave_leaves, serves_leaves)

  -- an act of the per-CPU caches, by what comes behind it
  decides_leaves : (s : Step R) (x : Local V R) (call : Option Call) (answer : Answer) (row : Option R) → (is_refusal answer ≡ true → may_refuse refuses s answer ≡ true)
      → Leaves refuses s x (follows e x call (next.Decide answer row))
  decides_leaves s x None answer None may = leaves_of refuses s x _ (ends_quietly x)
  decides_leaves s x None answer (Some row) may = leaves_of refuses s x _ (quiet x _ (omega arith) refl)
  decides_leaves s x (Some call) answer None may = let g = ends_goes e (decided x call answer) in tells refuses s x _ call answer may g.ended g.answers
  decides_leaves s x (Some call) answer (Some row) may = tells refuses s x _ call answer may (omega arith) refl

  pub follows_leaves : (row : R) (x : Local V R) (n : Next R) → RefusesAs refuses row n → Leaves refuses (does.Front row) x (follows e x (call_about (about row)) n)
  follows_leaves row x (next.Row to) may = leaves_of refuses (does.Front row) x _ (quiet x _ (omega arith) refl)
  follows_leaves row x (next.Serve a) may = leaves_of refuses (does.Front row) x _ (serves_leaves x a x.regs.hand.items)
  follows_leaves row x (next.Fetch a) may = leaves_of refuses (does.Front row) x _ (quiet x _ (omega arith) refl)
  follows_leaves row x (next.Give g) may = leaves_of refuses (does.Front row) x _ (quiet x _ (omega arith) refl)
  follows_leaves row x (next.Gave g) may = leaves_of refuses (does.Front row) x _ (gave_leaves x g)
  follows_leaves row x (next.Publish s) may = leaves_of refuses (does.Front row) x _ (quiet x _ (omega arith) refl)
  follows_leaves row x (next.Freed f) may = leaves_of refuses (does.Front row) x _ (ends_saying x (Free f.label) (Freed f.addr) refl)
  follows_leaves row x (next.Decide answer to) may = decides_leaves (does.Front row) x (call_about (about row)) answer to may
  follows_leaves row x next.End may = leaves_of refuses (does.Front row) x _ (ends_quietly x)

  pub shard_after_leaves : (x : shards.Shard) (l : Local V R) (s : Step R) → Leaves refuses s l (shard_after e x l s).1
  shard_after_leaves x l (does.Shard row) = leaves_of refuses (does.Shard row) l _ (shard_leaves x l row)
  shard_after_leaves x l s = leaves_of refuses s l l (quiet l l (omega arith) refl)

  pub heap_after_leaves : (h : heaps.Heap) (l : Local V R) (s : Step R) → Leaves refuses s l (heap_after e h l s).1
  heap_after_leaves h l (does.Heap row) = heap_leaves h l row
  heap_after_leaves h l s = leaves_of refuses s l l (quiet l l (omega arith) refl)

  pub map_after_leaves : (m : SpanMap) (l : Local V R) (s : Step R) → Leaves refuses s l (map_after e m l s).1
  map_after_leaves m l (does.Map row) = leaves_of refuses (does.Map row) l _ (map_leaves m l row)
  map_after_leaves m l s = leaves_of refuses s l l (quiet l l (omega arith) refl)

  pub names_after_leaves : (ns : List NameState) (l : Local V R) (s : Step R) → Leaves refuses s l (names_after e ns l s).1
  names_after_leaves ns l (does.Names row) = leaves_of refuses (does.Names row) l _ (names_leaves ns l row)
  names_after_leaves ns l s = leaves_of refuses s l l (quiet l l (omega arith) refl)

-- an act at whatever part
module _ {P V R : Type 0} (r : FrontRules P V R) (about : R → About) (refuses_as : (p : P) (v : V) (g : Regs) (row : R) → RefusesAs r.refuses row (r.acts p v g row).next) where
  front_leaves : (p : P) (l : Local V R) (s : Step R) → Leaves r.refuses s l (front_after r about p l s).1
  front_leaves p l (does.Front row) = grind (arith, follows_leaves)
  front_leaves p l s = leaves_of r.refuses s l l (quiet l l (omega arith) refl)

  after_leaves : (p : Part P) (l : Local V R) → Leaves r.refuses l.step l (after r about p l).1
  after_leaves (part.Front p) l = front_leaves p l l.step
  after_leaves (part.Shard x) l = shard_after_leaves r.calls about r.refuses x l l.step
  after_leaves (part.Heap h) l = heap_after_leaves r.calls about r.refuses h l l.step
  after_leaves (part.Map m) l = map_after_leaves r.calls about r.refuses m l l.step
  after_leaves (part.Names ns) l = names_after_leaves r.calls about r.refuses ns l l.step

  pub after_rises : (p : Part P) (l : Local V R) → l.ended ≤ (after r about p l).1.ended
  after_rises p l = (after_leaves p l).ended

  pub refuses_there : (l : Local V R) → RefusesThere r about l
  refuses_there l p = (after_leaves p l).there
