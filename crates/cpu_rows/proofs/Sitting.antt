-- How an act of a thread changes its seat, and that a planned move happens before its call ends.
use Rattle.std.proofs.Common.{◌≡◌, ℕ, ◌+◌, ◌⊎◌, List, [], ◌∷◌, Option, Some, None, refl, sym, ap, ◌∙◌, inl, inr, arith, slice_get}
use Rattle.cpu_rows.proofs.Common.{CpuPart, CpuSeat, MoveTo, Planned, ClassRow, Regs, Input, IsValidInput, IsOrder, Local, Step, Next, Giving, Call, Addr, Contents, Asking, Part, after, rules}
use Rattle.cpu_rows.proofs.Common.{cpu_calls, cpu_acts, domain_acts, front_acts, front_of, about_row, follows, ends, decided, goes, with_move, due, leaves_or, Left, CpuStep, DomainStep, Transfer}
use Rattle.cpu_rows.proofs.Common.{CpuFrontPart, Cpu, Domain}
use Rattle.alloc_rules.proofs.Common.{Onward, SpanRef, SpanKind, Small, Large, Label, NameState, SpanMap, Placed, FrontCalls, with_hand, serves_first, gave, clears, with_more, fetches, shard_after}
use Rattle.alloc_rules.proofs.Common.{after_new, after_new_span, frees_span, heap_after, found, map_after, after_take, names_after, front_after, run, script_of}
use Rattle.alloc_rules.proofs.Common.{small, Freed, without_span, Answer, Free, emptied, opening, class_row, option_map_or}
use Rattle.cpu_rows.proofs.Common.{sequence, World, PartNo}
use Rattle.alloc_rules.proofs.Along.{Picks, IsKeptAlong, along}
use Rattle.call_steps.specs.Hands.{given_back}
use Rattle.call_steps.specs.ShardActs.{adds}
use Rattle.call_steps.specs.Follows.{says}
use Rattle.call_steps.specs.declared.step.Giving.TheVariants as giving
use Rattle.call_steps.specs.declared.step.Onward.TheVariants as onward
use Rattle.call_steps.specs.declared.step.Step.TheVariants as does
use Rattle.call_steps.specs.declared.step.Next.TheVariants as next
use Rattle.call_steps.specs.declared.step.HeapStep.TheVariants as heap
use Rattle.call_steps.specs.declared.step.MapStep.TheVariants as mapped
use Rattle.call_steps.specs.declared.step.NamesStep.TheVariants as names
use Rattle.call_steps.specs.declared.step.ShardStep.TheVariants as shard
use Rattle.name_table.specs.declared.table.NameState.TheVariants as name
use Rattle.heap_rules.specs.Heap as heaps
use Rattle.class_shard.specs.Shard as shards
use Rattle.cpu_rows.specs.declared.row.CpuRow.{CpuRow}
use Rattle.cpu_rows.specs.declared.row.CpuRow.TheVariants as front
use Rattle.cpu_rows.specs.declared.row.CpuStep.TheVariants as cpu
use Rattle.cpu_rows.specs.declared.row.DomainStep.TheVariants as domain
use Rattle.alloc_rules.specs.declared.part.Part.TheVariants as part
use Rattle.cpu_rows.specs.Effects.{MovesThere}
use Rattle.cpu_rows.proofs.CpuLaw.{lawful_in}

-- A call goes on with its thread's seat as it is; or it ends, which it does with no move that is still to come, and the next
-- one begins with its own.
pub record Within (x y : Local) : Type 0 where
  pub ended : y.ended ≡ x.ended
  pub seat : y.seat ≡ x.seat
  pub rest : y.rest ≡ x.rest

pub record Over (x y : Local) : Type 0 where
  pub ended : y.ended ≡ x.ended + 1
  pub none : x.seat.moved ≡ None
  pub seat : y.seat ≡ with_move x.seat (slice_get x.rest 0)

abbrev pub Sits : Local → Local → Type 0
Sits x y = Within x y ⊎ Over x y

within : (x y : Local) → y.ended ≡ x.ended → y.seat ≡ x.seat → y.rest ≡ x.rest → Sits x y
within x y ended seat rest = inl (record { ended = ended; seat = seat; rest = rest })

-- so it is for a local with other registers and answers
from : (l x y : Local) → Within l x → Sits x y → Sits l y
from l x y w s = grind arith

module _ (rows : List ClassRow) where
  abbrev e : FrontCalls CpuSeat CpuRow
  e = cpu_calls rows

  ends_by : (x : Local) (o : Option MoveTo) → x.seat.moved ≡ o → Sits x (ends e x)
  ends_by x None is = grind arith
  ends_by x (Some move) is = grind arith

  ends_sits : (x : Local) → Sits x (ends e x)
  ends_sits x = ends_by x x.seat.moved refl

  decided_ends : (x : Local) (call : Call) (answer : Answer) → Sits x (ends e (decided x call answer))
  decided_ends x call answer = from x (decided x call answer) _ (record { ended = refl; seat = refl; rest = refl }) (ends_sits (decided x call answer))

  clears_sits : (x : Local) (next : Onward CpuRow) (spans : List SpanRef) → Sits x (clears e x next spans)
  clears_sits x next (s ∷ others) = within x _ refl refl refl
  clears_sits x (onward.Publish s) [] = within x _ refl refl refl
  clears_sits x (onward.Row k row) [] = within x _ refl refl refl
  clears_sits x onward.End [] = ends_sits x

  gave_sits : (x : Local) (g : Giving CpuRow) (spans : List SpanRef) → Sits x (gave e x g spans)
  gave_sits x (giving.Rest s) spans = clears_sits x (onward.Publish s) spans
  gave_sits x (giving.Freed f) spans =
      let y : Local = decided x (Free f.label) (Freed f.addr) in from x y _ (record { ended = refl; seat = refl; rest = refl }) (clears_sits y onward.End spans)
  gave_sits x (giving.Row k row) spans = clears_sits x (onward.Row k row) spans
  gave_sits x giving.End spans = clears_sits x onward.End spans

  serves_sits : (x : Local) (a : Asking) (hand : List Addr) → Sits x (serves_first e x a hand)
  serves_sits x a [] = within x _ refl refl refl
  serves_sits x a (o ∷ others) = within x _ refl refl refl

  says_sits : (x : Local) (call : Option Call) (answer : Answer) → Within x (says x call answer)
  says_sits x None answer = record { ended = refl; seat = refl; rest = refl }
  says_sits x (Some call) answer = record { ended = refl; seat = refl; rest = refl }

  within_step : (x y : Local) (s : Step) → Within x y → Sits x (goes y s)
  within_step x y s w = inl (record { ended = w.ended; seat = w.seat; rest = w.rest })

  follows_sits : (x : Local) (call : Option Call) (n : Next) → Sits x (follows e x call n)
  follows_sits x call (next.Row row) = within x _ refl refl refl
  follows_sits x call (next.Serve a) = serves_sits x a x.regs.hand.items
  follows_sits x call (next.Fetch a) = within x _ refl refl refl
  follows_sits x call (next.Give g) = within x _ refl refl refl
  follows_sits x call (next.Gave g) = gave_sits x g x.freed.items
  follows_sits x call (next.Publish s) = within x _ refl refl refl
  follows_sits x call (next.Freed f) = decided_ends x (Free f.label) (Freed f.addr)
  follows_sits x call (next.Decide answer None) = from x (says x call answer) _ (says_sits x call answer) (ends_sits (says x call answer))
  follows_sits x call (next.Decide answer (Some row)) = within_step x (says x call answer) (does.Front row) (says_sits x call answer)
  follows_sits x call next.End = ends_sits x

  -- at the shards, the heap, the map and the names
  fetches_sits : (x : Local) (a : Asking) (got : List Addr) → Sits x (fetches e x a got)
  fetches_sits x a [] = within x _ refl refl refl
  fetches_sits x a (o ∷ others) =
      let y : Local = with_more x (o ∷ others) in from x y _ (record { ended = refl; seat = refl; rest = refl }) (serves_sits y a y.regs.hand.items)

  given_sits : (x : Local) (g : Giving CpuRow) (freed : Contents SpanRef) → Sits x (given_back e x g freed)
  given_sits x g freed =
      let y : Local = record (with_hand x (emptied x.regs.hand)) { freed = freed } in from x y _ (record { ended = refl; seat = refl; rest = refl }) (gave_sits y g freed.items)

  adds_sits : (s : shards.Shard) (x : Local) (a : Asking) (span : SpanRef) → Sits x (adds e s x a span).1
  adds_sits s x a span =
      let y : Local = with_more x (opening span s.central.row.size (class_row rows x).batch) in
      from x y _ (record { ended = refl; seat = refl; rest = refl }) (serves_sits y a y.regs.hand.items)

  shard_sits : (s : shards.Shard) (x : Local) (step : Step) → Sits x (shard_after e s x step).1
  shard_sits s x (does.Shard (shard.Fetch a)) = fetches_sits x a _
  shard_sits s x (does.Shard (shard.AddFetch a run)) = adds_sits s x a (small x.regs.class run)
  shard_sits s x (does.Shard (shard.Give g)) = given_sits x g _
  shard_sits s x step = within x _ refl refl refl

  new_sits : (h : heaps.Heap) (x : Local) (label : Label) (size : ℕ) (o : Option Placed) → Sits x (after_new h x label size o).1
  new_sits h x label size None = within x _ refl refl refl
  new_sits h x label size (Some p) = within x _ refl refl refl

  span_sits : (h : heaps.Heap) (x : Local) (a : Asking) (o : Option Placed) → Sits x (after_new_span h x a o).1
  span_sits h x a None = within x _ refl refl refl
  span_sits h x a (Some p) = within x _ refl refl refl

  frees_sits : (h : heaps.Heap) (x : Local) (next : Onward CpuRow) (spans : List SpanRef) → Sits x (frees_span e h x next spans).1
  frees_sits h x next [] = within x _ refl refl refl
  frees_sits h x next (s ∷ others) =
      let y : Local = record x { freed = record { items = others; spare = x.freed.spare + 1 } } in
      from x y _ (record { ended = refl; seat = refl; rest = refl }) (clears_sits y next others)

  heap_sits : (h : heaps.Heap) (x : Local) (step : Step) → Sits x (heap_after e h x step).1
  heap_sits h x (does.Heap (heap.New label size)) = new_sits h x label size _
  heap_sits h x (does.Heap (heap.NewSpan a)) = span_sits h x a _
  heap_sits h x (does.Heap (heap.GiveBack label run)) = decided_ends x _ _
  heap_sits h x (does.Heap (heap.FreeSpan next)) = frees_sits h x next x.freed.items
  heap_sits h x (does.Heap (heap.Unback pages)) = decided_ends x _ _
  heap_sits h x step = within x _ refl refl refl

  found_sits : (x : Local) (label : Label) (addr : Addr) (span : SpanRef) (k : SpanKind) → Sits x (found e x label addr span k)
  found_sits x label addr span (Small k) = within x _ refl refl refl
  found_sits x label addr span Large = within x _ refl refl refl

  looked_sits : (x : Local) (label : Label) (addr : Addr) (o : Option SpanRef) → Sits x (option_map_or (λ (s : SpanRef). found e x label addr s s.kind) o x)
  looked_sits x label addr None = within x _ refl refl refl
  looked_sits x label addr (Some s) = found_sits x label addr s s.kind

  cleared_sits : (m : SpanMap) (x : Local) (next : Onward CpuRow) (o : Option SpanRef) → Sits x (option_map_or {U = SpanMap × Local} (λ s. (record m { spans = without_span s m.spans }, goes x (does.Heap (heap.FreeSpan next)))) o (m, x)).1
  cleared_sits m x next None = within x _ refl refl refl
  cleared_sits m x next (Some s) = within x _ refl refl refl

  map_sits : (m : SpanMap) (x : Local) (step : Step) → Sits x (map_after e m x step).1
  map_sits m x (does.Map (mapped.Set label run)) = within x _ refl refl refl
  map_sits m x (does.Map (mapped.SetSpan a run)) = within x _ refl refl refl
  map_sits m x (does.Map (mapped.Lookup label addr)) = looked_sits x label addr _
  map_sits m x (does.Map (mapped.Clear label run)) = within x _ refl refl refl
  map_sits m x (does.Map (mapped.ClearSpan next)) = cleared_sits m x next (slice_get x.freed.items 0)
  map_sits m x step = within x _ refl refl refl

  take_sits : (all : List NameState) (x : Local) (label : Label) (o : NameState) → Sits x (after_take e all x label o).1
  take_sits all x label name.Unpublished = within x _ refl refl refl
  take_sits all x label name.Taken = within x _ refl refl refl
  take_sits all x label (name.Published None) = decided_ends x _ _
  take_sits all x label (name.Published (Some addr)) = within x _ refl refl refl

  names_sits : (all : List NameState) (x : Local) (step : Step) → Sits x (names_after e all x step).1
  names_sits all x (does.Names (names.Publish label value)) = ends_sits x
  names_sits all x (does.Names (names.Take label)) = take_sits all x label _
  names_sits all x step = within x _ refl refl refl

-- An act of a row leaves the seat as it is, or takes the thread to the CPU of its move, which is done then.
pub record Arrives (v w : CpuSeat) : Type 0 where
  pub move : MoveTo
  pub was : v.moved ≡ Some move
  pub cpu : w.cpu ≡ move.cpu
  pub done : w.moved ≡ None

abbrev pub SeatGoes : CpuSeat → CpuSeat → Type 0
SeatGoes v w = (w ≡ v) ⊎ Arrives v w

due_of : (o : Option MoveTo) (ran : ℕ) (move : MoveTo) → due o ran ≡ Some move → o ≡ Some move
due_of o ran move is = grind arith

leaves_goes : (o : Option MoveTo) (p : CpuPart) (v : CpuSeat) (g : Regs) (n : Next) (act : Left CpuPart) → ((move : MoveTo) → o ≡ Some move → v.moved ≡ Some move) → act.seat ≡ v
    → SeatGoes v (leaves_or o p v g n act).seat
leaves_goes None p v g n act was same = inl same
leaves_goes (Some move) p v g n act was same = inr (record { move = move; was = was move refl; cpu = refl; done = refl })

module _ (rows : List ClassRow) where
  sequence_goes : (p : CpuPart) (v : CpuSeat) (g : Regs) (row : CpuStep) → SeatGoes v (sequence rows p v g row).seat
  sequence_goes p v g row = leaves_goes (due v.moved g.ran) p v g _ _ (due_of v.moved g.ran) refl

  cpu_goes : (p : CpuPart) (v : CpuSeat) (g : Regs) (row : CpuStep) → SeatGoes v (cpu_acts rows p v g row).seat
  cpu_goes p v g (cpu.Pop a) = sequence_goes p v g (cpu.Pop a)
  cpu_goes p v g (cpu.Grow a) = inl refl
  cpu_goes p v g (cpu.Stock s) = sequence_goes p v g (cpu.Stock s)
  cpu_goes p v g (cpu.Push f) = sequence_goes p v g (cpu.Push f)
  cpu_goes p v g (cpu.PopBatch f) = sequence_goes p v g (cpu.PopBatch f)
  cpu_goes p v g (cpu.Stop s) = inl refl
  cpu_goes p v g (cpu.Fence s) = inl refl
  cpu_goes p v g (cpu.Take s) = inl refl
  cpu_goes p v g (cpu.SetCap x) = inl refl
  cpu_goes p v g (cpu.Start s) = inl refl
  cpu_goes p v g cpu.Leave = leaves_goes v.moved p v g _ _ (λ move is. is) refl

  domain_goes : (d : Transfer) (v : CpuSeat) (g : Regs) (row : DomainStep) → SeatGoes v (domain_acts rows d v g row).seat
  domain_goes d v g (domain.Take a) = inl refl
  domain_goes d v g (domain.Put x) = inl refl

  front_goes : (q : CpuFrontPart) (v : CpuSeat) (g : Regs) (row : CpuRow) → SeatGoes v (front_acts rows q v g row).seat
  front_goes (Cpu p) v g (front.Cpu row) = cpu_goes p v g row
  front_goes (Domain c d) v g (front.Domain row) = domain_goes d v g row
  front_goes (Cpu p) v g (front.Domain row) = inl refl
  front_goes (Domain c d) v g (front.Cpu row) = inl refl

-- an act of a thread: its seat goes on, and the call goes on or ends with that
pub record Goes (l y : Local) : Type 0 where
  pub mid : Local
  pub ended : mid.ended ≡ l.ended
  pub rest : mid.rest ≡ l.rest
  pub seat : SeatGoes l.seat mid.seat
  pub sits : Sits mid y

elsewhere : (l y : Local) → Sits l y → Goes l y
elsewhere l y sits = record { mid = l; ended = refl; rest = refl; seat = inl refl; sits = sits }

row_goes : (input : Input) (q : CpuFrontPart) (l : Local) (s : Step) → Goes l (front_after (front_of input) about_row q l s).1
row_goes input q l (does.Front row) =
    let x = front_acts input.rows q l.seat l.regs row in
    record { mid = record l { seat = x.seat; regs = x.regs }; ended = refl; rest = refl; seat = front_goes input.rows q l.seat l.regs row; sits = follows_sits input.rows (record l { seat = x.seat; regs = x.regs }) _ x.next }
row_goes input q l s = elsewhere l l (within l l refl refl refl)

pub act_goes : (input : Input) (q : Part) (l : Local) → Goes l (after input q l).1
act_goes input (part.Front q) l = row_goes input q l l.step
act_goes input (part.Shard s) l = elsewhere l _ (shard_sits input.rows s l l.step)
act_goes input (part.Heap h) l = elsewhere l _ (heap_sits input.rows h l l.step)
act_goes input (part.Map m) l = elsewhere l _ (map_sits input.rows m l l.step)
act_goes input (part.Names all) l = elsewhere l _ (names_sits input.rows all l l.step)

-- A thread has the move of its call under way still to come, or it has come to the CPU of that.
pub record HasCome (l : Local) (p : Planned) : Type 0 where
  pub move : MoveTo
  pub planned : p.moved ≡ Some move
  pub none : l.seat.moved ≡ None
  pub cpu : l.seat.cpu ≡ move.cpu

abbrev pub IsOnItsWay : List Planned → Local → Type 0
IsOnItsWay script l = (p : Planned) → slice_get script l.ended ≡ Some p → (l.seat.moved ≡ p.moved) ⊎ HasCome l p

some_none : {X : Type 0} (x : X) (o : Option X) → o ≡ Some x → o ≡ None → ⊥
some_none x o some none = let e : Some x ≡ None = sym some ∙ none in cc

-- it does after its seat goes on
way_goes : (script : List Planned) (l x : Local) → x.ended ≡ l.ended → SeatGoes l.seat x.seat → IsOnItsWay script l → IsOnItsWay script x
way_goes script l x ended (inl same) way p at = elim (way p (ap (slice_get script) (sym ended) ∙ at)) [
  | inl still ↦ inl (ap (λ (v : CpuSeat). v.moved) same ∙ still)
  | inr come ↦ inr (record { move = come.move; planned = come.planned; none = ap (λ (v : CpuSeat). v.moved) same ∙ come.none; cpu = ap (λ (v : CpuSeat). v.cpu) same ∙ come.cpu })
]
way_goes script l x ended (inr arrives) way p at = elim (way p (ap (slice_get script) (sym ended) ∙ at)) [
  | inl still ↦ inr (record { move = arrives.move; planned = sym still ∙ arrives.was; none = arrives.done; cpu = arrives.cpu })
  | inr come ↦ absurd (some_none arrives.move l.seat.moved arrives.was come.none)
]

begins_moved : (v : CpuSeat) (o : Option Planned) (p : Planned) → o ≡ Some p → (with_move v o).moved ≡ p.moved
begins_moved v o p is = rw is refl

way_on : (script : List Planned) (x y : Local) → slice_get x.rest 0 ≡ slice_get script (x.ended + 1) → Sits x y → IsOnItsWay script x → IsOnItsWay script y
way_on script x y behind (inl w) way = way_goes script x y w.ended (inl w.seat) way
way_on script x y behind (inr over) way = λ p at.
    inl (ap (λ (v : CpuSeat). v.moved) over.seat ∙ begins_moved x.seat (slice_get x.rest 0) p (behind ∙ (ap (slice_get script) (sym over.ended) ∙ at)))

-- an act that ends a call with a move
over_at : (script : List Planned) (x y : Local) (p : Planned) (move : MoveTo) → slice_get script x.ended ≡ Some p → p.moved ≡ Some move → y.ended ≡ x.ended + 1 → Sits x y → IsOnItsWay script x
    → y.seat.cpu ≡ move.cpu
over_at script x y p move at planned ended (inl w) way = absurd (let e = w.ended in omega (arith, ended, e))
over_at script x y p move at planned ended (inr over) way = elim (way p at) [
  | inl still ↦ absurd (some_none move x.seat.moved (still ∙ planned) over.none)
  | inr come ↦ (let e : Some come.move ≡ Some move = sym come.planned ∙ planned in let same : come.move ≡ move = cc in ap (λ (v : CpuSeat). v.cpu) over.seat ∙ (come.cpu ∙ ap (λ (m : MoveTo). m.cpu) same))
]

pub moves_by : (input : Input) (t : ℕ) (l : Local) → IsOnItsWay (script_of t input.asked.calls) l → MovesThere input t l
moves_by input t l way q p move at planned ended =
    let g = act_goes input q l in
    let script : List Planned = script_of t input.asked.calls in
    over_at script g.mid (after input q l).1 p move (ap (slice_get script) g.ended ∙ at) planned (ended ∙ ap (λ n. n + 1) (sym g.ended)) g.sits (way_goes script l g.mid g.ended g.seat way)

-- A rule by which threads stay where they are does less: where an act ends a call with a move to another CPU.
pub stays_put : (input : Input) (t : ℕ) (l : Local) (q : Part) (p : Planned) (move : MoveTo) → slice_get (script_of t input.asked.calls) l.ended ≡ Some p → p.moved ≡ Some move
    → (after input q l).1.ended ≡ l.ended + 1 → (after input q l).1.seat.cpu ≡ l.seat.cpu → (l.seat.cpu ≡ move.cpu → ⊥) → MovesThere input t l → ⊥
stays_put input t l q p move at planned ended stays apart moves = apart (sym stays ∙ moves q p move at planned ended)

module _ (input : Input) (valid : IsValidInput input) where
  abbrev On : List ℕ → ℕ → Local → Type 0
  On past t l = IsOnItsWay (script_of t input.asked.calls) l

  abbrev Pick : List ℕ → World Part Local → ℕ → Local → PartNo → Part → Type 0
  Pick = Picks (lawful_in input valid) {asked = input.asked} valid On

  kept : IsKeptAlong (lawful_in input valid) {asked = input.asked} valid On
  kept =
      record {
        first = λ t p at. inl (begins_moved ((front_of input).seats t) (slice_get (script_of t input.asked.calls) 0) p at);
        own = λ past w t l place q picks way.
            (let script : List Planned = script_of t input.asked.calls in
            let g = act_goes input q l in
            let here = ap (λ (u : World Part Local). slice_get u.locals t) (sym picks.served.is) ∙ picks.local in
            let behind = (picks.served.works t l here).inside.rest 0 in
            let place : l.ended + 1 + 0 ≡ g.mid.ended + 1 = let e = g.ended in omega (arith, e) in
            way_on script g.mid (after input q l).1 (ap (λ xs. slice_get xs 0) g.rest ∙ (behind ∙ ap (slice_get script) place)) g.sits (way_goes script l g.mid g.ended g.seat way));
        other = λ past t u k apart way. way;
      }

  -- after every order each thread is on its way
  pub on_their_way : (order : List ℕ) → IsOrder (rules input) order → (t : ℕ) (l : Local) → slice_get (run (rules input) order).locals t ≡ Some l → IsOnItsWay (script_of t input.asked.calls) l
  on_their_way order of t l at = along (lawful_in input valid) {asked = input.asked} valid On kept order of t l at
