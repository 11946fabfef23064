-- What the acts at the page heap do to the books.
use Rattle.std.proofs.Common.{◌≡◌, ℕ, ◌+◌, ◌*◌, ◌<◌, ◌≤◌, List, [], ◌∷◌, drop, Contains, Option, Some, None, refl, sym, ap, ◌∙◌, subst, arith, map, take, slice_get}
use Rattle.alloc_rules.proofs.Common.{append-nil, page_bytes, pages_holding, Label, Run, SpanRef, Free, Release, Freed, Released, CallLine, HeapConfig, Placed}
use Rattle.alloc_rules.proofs.Common.{new, release, free_leaves, release_keeps, address_of, run_of, runs_like, less, Account, WeighSame, Setup, Books, GetsNone}
use Rattle.alloc_rules.proofs.Common.{GetsRun, GetsSpan, FreesRun, FreesSpan, Rests, One, like, less_counts, Asking, New, NewSpan, GiveBack, FreeSpan, Unback}
use Rattle.alloc_rules.proofs.Common.{decided, class_row, Local, clears, heap_after, after_new, after_new_span, frees_span}
use Rattle.alloc_rules.proofs.Common.{FitsHeap, Planned, About, about_onward, account_of, doing_about, AreEntries, FrontRules, Parts}
use Rattle.alloc_rules.proofs.Common.{Does, setup, IsBefore, Onward, HeapStep, IsOnward, HeapActsMove, IsPlaced, IsSomeAnd}
use Rattle.heap_rules.specs.Free.{freed}
use Rattle.heap_rules.specs.Heap as heaps
use Rattle.call_steps.specs.declared.step.Step.TheVariants as does
use Rattle.alloc_rules.proofs.{Lists.one_run, Moved.leaves, Moved.no_row_length, Placing.placed}
use Rattle.alloc_rules.proofs.Likes.{like-with_run, like-without_run, there_counted}
use Rattle.alloc_rules.proofs.{Goings.Silent, Onwards.ends_silent, Onwards.onward_silent, Weighing.bare, Weighing.weighs_same}

module _ {P V R : Type 0} (r : FrontRules P V R) (about : R → About) (planned : Planned → Type 0) (entries : AreEntries r.calls about) where
  module _ (huge labels : ℕ) (limits : HeapConfig) (p : Parts P) (locals : List (Local V R)) (b : Books) (calls : List CallLine) (t : ℕ) (l : Local V R) where
    abbrev m : Setup
    m = setup r huge labels

    abbrev at : HeapStep R → Local V R
    at row = record l { step = does.Heap row }

    abbrev Is : Local V R → Type 0
    Is = IsBefore r about planned huge labels limits p locals b calls t

    abbrev Before : HeapStep R → Type 0
    Before row = Is (at row)

    abbrev Leaves : Local V R → heaps.Heap × Local V R → Type 0
    Leaves x y = Does r about m (record p { heap = y.0 }) b x y.1

    abbrev Goal : HeapStep R → heaps.Heap × Local V R → Type 0
    Goal row = Leaves (at row)

    -- a run that the heap gives is placed, and comes to the live runs
    gets_place : (row : HeapStep R) → Before row → (n : ℕ) → 0 < n → (x : Placed) → new p.heap n ≡ Some x
        → ((q : Run) → runs_like q (x.run ∷ b.heap) ≡ runs_like q x.heap.runs) × IsPlaced m.huge b.heap n x.run
    gets_place row before n some x is =
        let region : 2 ≤ p.heap.config.region = omega (arith, before.region, ap (λ (c : HeapConfig). c.region) before.parts.config) in
        let huge : p.heap.config.huge ≡ m.huge = ap (λ (c : HeapConfig). c.huge) before.parts.config ∙ before.same in
        let at_place = placed p.heap b.heap m.huge n x before.parts.heap region huge before.books.heap some is in
        (λ q. omega (arith, like-with_run x.run p.heap.runs q, ap (runs_like q) at_place.0.runs, before.books.heap q), at_place.1)

    -- New
    gets : (label : Label) (size : ℕ) → Before (New label size) → 0 < pages_holding size → (o : Option Placed) → new p.heap (pages_holding size) ≡ o
        → Goal (New label size) (after_new p.heap (at (New label size)) label size o)
    gets label size before some None is =
        leaves before.books p.heap p.map (λ ns. ns) (GetsNone label size _ refl (weighs_same _)) before.books.heap before.books.spans refl refl
    gets label size before some (Some x) is =
        let at_place = gets_place _ before (pages_holding size) some x is in
        let length_is = no_row_length m.rows size before.shaped.step.1 ∙ ap (λ (n : ℕ). n * page_bytes) (sym at_place.1.pages) in
        leaves before.books x.heap p.map (λ ns. ns) (GetsRun label size x.run _ refl refl at_place.1 length_is (weighs_same _)) at_place.0 before.books.spans refl refl

    -- the run of a new span
    gets_span : (a : Asking) → Before (NewSpan a) → 0 < (class_row m.rows l).pages → (o : Option Placed) → new p.heap (class_row m.rows l).pages ≡ o
        → Goal (NewSpan a) (after_new_span p.heap (at (NewSpan a)) a o)
    gets_span a before some None is =
        leaves before.books p.heap p.map (λ ns. ns) (GetsNone a.label a.size _ refl (weighs_same _)) before.books.heap before.books.spans refl refl
    gets_span a before some (Some x) is =
        let at_place = gets_place _ before (class_row m.rows l).pages some x is in
        leaves before.books x.heap p.map (λ ns. ns) (GetsSpan x.run _ before.shaped.class refl at_place.1 (weighs_same _)) at_place.0 before.books.spans
        refl (sym (append-nil l.answers))

    -- a run that leaves
    less_like : {row : HeapStep R} (x : Run) → Before row → Contains p.heap.runs x → (q : Run) → runs_like q (less x b.heap) ≡ runs_like q (freed p.heap x).runs
    less_like x before there q =
        let sound = before.parts.heap in
        let rid = free_leaves p.heap x sound there in
        let some : 0 < runs_like x b.heap = omega (arith, there_counted x p.heap.runs there, before.books.heap x) in
        omega (arith, like-without_run x p.heap.runs q there (one_run p.heap x sound there), ap (runs_like q) rid.runs, less_counts x b.heap some (like q), before.books.heap q)

    abbrev left_by : HeapStep R → heaps.Heap × Local V R
    left_by row = heap_after r.calls p.heap (at row) (does.Heap row)

    gives_back : (label : Label) (run : Run) → Before (GiveBack label run) → Contains p.heap.runs run → Goal (GiveBack label run) (left_by (GiveBack label run))
    gives_back label run before there =
        let ends = ends_silent r.calls about entries (decided (at (GiveBack label run)) (Free label) (Freed (address_of run))) before.shaped.step.hand in
        leaves before.books (freed p.heap run) p.map (λ ns. ns) (FreesRun label run _ refl refl refl refl ends.weighs)
        (less_like run before there) before.books.spans ends.acts ends.answers

    -- what is left to give back
    abbrev owes : Local V R → Onward R → List SpanRef → List SpanRef → Account
    owes x next apart mapped = record (bare (doing_about (about_onward about next)) x.regs.class.0 x.regs.hand.items x.rest) { apart = apart; mapped = mapped }

    clears_silent : (x : Local V R) (next : Onward R) (xs : List SpanRef) → IsOnward m.rows about next → x.freed.items ≡ xs → x.regs.hand.items ≡ []
        → Silent about x (clears r.calls x next xs) (owes x next xs xs)
    clears_silent x next xs on is none = grind (arith, bare, onward_silent, weighs_same)

    -- the first of the spans that left a shard is given back
    frees : (next : Onward R) → Before (FreeSpan next) → (xs : List SpanRef) → l.freed.items ≡ xs → IsSomeAnd (slice_get xs 0) (λ (x : SpanRef). Contains p.heap.runs (run_of x))
        → Goal (FreeSpan next) (frees_span r.calls p.heap (at (FreeSpan next)) next xs)
    frees next before [] is lives = absurd lives
    frees next before (s ∷ others) is lives =
        let l' : Local V R = record (at (FreeSpan next)) { freed = record { items = others; spare = l.freed.spare + 1 } } in
        let after = clears_silent l' next others before.shaped.step.1 refl before.shaped.step.0.hand in
        leaves before.books (freed p.heap (run_of s)) p.map (λ ns. ns)
        (FreesSpan s others _ (ap (λ xs. map run_of (take 1 xs)) is) is (ap (drop 1) is)
        (subst (λ (xs : List SpanRef). WeighSame (owes l next others xs) (account_of about (clears r.calls l' next others))) (sym (ap (drop 1) is)) after.weighs))
        (less_like (run_of s) before lives) before.books.spans after.acts (after.answers ∙ sym (append-nil l.answers))

    unbacks : (pages : ℕ) → Before (Unback pages) → Goal (Unback pages) (left_by (Unback pages))
    unbacks pages before =
        let ends = ends_silent r.calls about entries (decided (at (Unback pages)) (Release pages) (Released (release p.heap pages).pages)) before.shaped.step.hand in
        let kept = release_keeps p.heap pages before.parts.heap in
        leaves before.books (release p.heap pages).heap p.map (λ ns. ns) (Rests _ _ ends.weighs (One _ tt))
        (λ r. omega (arith, before.books.heap r, ap (runs_like r) kept.runs)) before.books.spans ends.acts ends.answers

    by_row : (row : HeapStep R) → Before row → FitsHeap m.rows p.heap (at row) (does.Heap row) → Goal row (left_by row)
    by_row row before fits = grind (arith, class_row, freed, frees, gets, gets_span, gives_back, new, pages_holding, unbacks)

    by_step : (row : HeapStep R) → Is l → l.step ≡ does.Heap row → FitsHeap m.rows p.heap l (does.Heap row) → Leaves l (heap_after r.calls p.heap l (does.Heap row))
    by_step row before step fits =
        let is : at row ≡ l = ap (λ s. record l { step = s }) (sym step) in
        subst (λ (x : Local V R). Is x → FitsHeap m.rows p.heap x (does.Heap row) → Leaves x (heap_after r.calls p.heap x (does.Heap row))) is (by_row row) before fits

  pub heap_acts_move : HeapActsMove r about planned
  heap_acts_move = by_step
