-- What holds after every order, from the books of its parts and locals.
use Rattle.std.proofs.Common.{◌≡◌, ℕ, ◌+◌, ◌*◌, ◌<◌, ◌≤◌, ◌⊎◌, ◌↔◌, true, false, eqb, List, length, map, Option, Some, None, refl, sym, ap, ◌∙◌, subst, inl}
use Rattle.std.proofs.Common.{inr, arith, sum_by, slice_get, All}
use Rattle.alloc_rules.proofs.Common.{All-weaker, cases_Bool, cond-true, eq-eqb, false≢true, Addr, Run, MOST_PICKS, script_of, Asked, World, run, HaveEnded}
use Rattle.alloc_rules.proofs.Common.{Extent, blocks_after, live_bytes, CallLine, Planned, state_of, HeapConfig, Placed, new, none_fits, IsSound, new_gives}
use Rattle.alloc_rules.proofs.Common.{small, runs_at, spans_at, objects_at, Account, loose, in_hand, named_at, Setup, Books, class_number, IsStanding, Facts}
use Rattle.alloc_rules.proofs.Common.{least, none_counts, of_all, sum_of_both, class_zero, objects_are_once, names_are_live, page_bytes, Local, under, About}
use Rattle.alloc_rules.proofs.Common.{Parts, place_of, rules, lines_by, TellsFirst, TellsScript, is_under_way, stock_of, AreBooksOf, IsValid, pages_asked}
use Rattle.alloc_rules.proofs.Common.{calls, setup_of, books_of, HoldsAfter, Regs, Step, Part, account_of, Standing, StepShape, IsLawful, FrontRules}
use Rattle.holdings.proofs.Blocks.{bytes_are_within}
use Rattle.name_table.specs.declared.table.NameState.TheVariants as name
use Rattle.heap_rules.specs.Heap as heaps
use Rattle.call_steps.specs.declared.step.Step.TheVariants as does
use Rattle.call_steps.specs.declared.step.HeapStep.TheVariants as heap
use Rattle.alloc_rules.proofs.{Effecting.finds_there, Effecting.releases_there}
use Rattle.alloc_rules.proofs.Common.{class_row}
use Rattle.alloc_rules.proofs.{Answering.answers_none, Elsewhere.refuses_there, PartFits.row_at_class, PartFits.some_size, Reached.there_is}
use Rattle.alloc_rules.proofs.{Placing.IsAnswered, SerialGoes.wants_by, Serving.IsServed, Telling.takes_all, Telling.tells_first}
use Rattle.alloc_rules.proofs.Same.{same_pages, same_spans, same_starts}

-- an allocation gets none exactly where none fits
none_by : (heap : heaps.Heap) (n : ℕ) (o : Option Placed) → IsAnswered heap n o → (o ≡ None) ↔ (none_fits heap n ≡ true)
none_by heap n o law = grind (arith, false≢true)

pub none_exactly : (heap : heaps.Heap) (n : ℕ) → IsSound heap → 2 ≤ heap.config.region → 0 < n → (new heap n ≡ None) ↔ (none_fits heap n ≡ true)
none_exactly heap n is wide some = none_by heap n (new heap n) (new_gives heap n is wide some)

-- Where no object is, none is in a hand or in the stock: all that is there is at live runs.
module _ (m : Setup) (b : Books) (lines : List CallLine) (f : Facts m b lines) (n : ℕ) (none : (k : ℕ) → b.stock.objects k n ≡ 0) where
  no_hand : sum_by (λ (a : Account). objects_at n a.hand) b.accounts ≡ 0
  no_hand = none_counts (λ (a : Account). objects_at n a.hand) b.accounts (λ i a at.
      let own : in_hand a.class n a ≡ objects_at n a.hand = cond-true (eqb a.class a.class) (objects_at n a.hand) 0 (eq-eqb a.class a.class refl) in
      omega (arith, own, least (in_hand a.class n) b.accounts i a at, f.classes a.class n, none a.class))

  runs_alone : sum_by (λ (a : Account). loose n a.doing + spans_at n a.apart) b.accounts + sum_by (named_at n) b.names + b.stock.begins n ≡ runs_at n b.heap
  runs_alone =
      let all = sum_of_both (λ (a : Account). loose n a.doing + objects_at n a.hand) (λ (a : Account). spans_at n a.apart) b.accounts in
      let hands = sum_of_both (λ (a : Account). loose n a.doing) (λ (a : Account). objects_at n a.hand) b.accounts in
      let spans = sum_of_both (λ (a : Account). loose n a.doing) (λ (a : Account). spans_at n a.apart) b.accounts in
      let objects = class_zero m.rows (λ k. b.stock.objects k n) none in
      let stored = class_zero m.rows (λ k. b.stock.stored k n) (λ k. omega (arith, f.classes k n, none k)) in
      omega (arith, f.places n, all, hands, spans, objects, stored, no_hand)

-- the books with the parts' own stock and names, and the locals' accounts
abbrev own_books : {P V R : Type 0} → FrontRules P V R → (R → About) → Parts P → List (Local V R) → Books → Books
own_books r about p locals b = record { stock = stock_of r about p; heap = b.heap; spans = b.spans; names = p.names; accounts = map (account_of about) locals }

own_are : {P V R : Type 0} (r : FrontRules P V R) (about : R → About) (p : Parts P) (locals : List (Local V R)) (b : Books) → AreBooksOf r about p locals b → b ≡ own_books r about p locals b
own_are r about p locals b are = grind arith

module _ {P V R : Type 0} {r : FrontRules P V R} {about : R → About} {planned : Planned → Type 0} {Holds : ℕ → List P → List (Standing V R) → Type 0}
    {fits : P → V → Regs → R → Type 0} (law : IsLawful r about planned Holds fits) {asked : Asked} (valid : IsValid r.calls.rows planned asked)
    (order : List ℕ) (few : length order ≤ MOST_PICKS) (served : IsServed r about planned Holds asked (run (rules r about asked) order) order) where
  abbrev p : Parts P
  p = served.parts

  abbrev locals : List (Local V R)
  locals = served.locals

  abbrev b : Books
  b = own_books r about p locals served.books

  f : Facts (setup_of r asked) b (calls locals order)
  f = subst (λ (x : Books). Facts (setup_of r asked) x (calls locals order)) (own_are r about p locals served.books served.books_of) served.facts

  starts_are : (n : ℕ) → runs_at n b.heap ≡ runs_at n p.heap.runs
  starts_are n = same_starts b.heap p.heap.runs served.books_of.heap n

  bytes : live_bytes (calls locals order) ≤ sum_by (λ (r : Run). r.pages) p.heap.runs * page_bytes
  bytes = omega (arith, bytes_are_within (setup_of r asked) b (calls locals order) f, same_pages b.heap p.heap.runs served.books_of.heap)

  wide : 2 ≤ p.heap.config.region
  wide = omega (arith, valid.limits.region, ap (λ (c : HeapConfig). c.region) served.placed.ok.config)

  names_live : (label : ℕ) (addr : Addr) → state_of p.names label ≡ name.Published (Some addr)
      → ((k : ℕ) × (0 < (stock_of r about p).objects k addr.0)) ⊎ (runs_at addr.0 p.heap.runs ≡ 1)
  names_live label addr is =
      elim (names_are_live (setup_of r asked) b (calls locals order) label addr f is) [
        | inl object ↦ inl object
        | inr live ↦ inr (sym (starts_are addr.0) ∙ live)
      ]

  -- what a thread asks the heap for has a page
  asked_some : (l : Local V R) (s : Step R) (n : ℕ) → l.regs.class.0 < length r.calls.rows → StepShape r.calls.rows about l s → pages_asked r.calls.rows l s ≡ Some n → 0 < n
  asked_some l (does.Heap (heap.New label size)) n low shape is = grind (arith, some_size)
  asked_some l (does.Heap (heap.NewSpan a)) n low shape is = grind (arith, row_at_class)
  asked_some l s n low shape is = absurd (cc)

  -- a batch of its class has an object
  batch_some : (l : Local V R) → l.regs.class.0 < length r.calls.rows → 0 < (class_row r.calls.rows l).batch
  batch_some l low = (row_at_class r.calls.rows l valid.rows low).batch

  -- a block of a live run or of an object, in whichever order runs and spans stand
  standing : (x : Extent) → IsStanding r.calls.rows b x → IsStanding r.calls.rows (books_of r about Holds asked p locals) x
  standing x stands =
      elim stands [
        | inl large ↦ inl (record {
          run = large.run;
          is = large.is;
          live = omega (arith, large.live, served.books_of.heap large.run);
          unmapped = λ k. sym (served.books_of.spans (small (class_number k) large.run)) ∙ large.unmapped k;
          unheld = large.unheld;
        })
        | inr object ↦ inr (record { class = object.class; object = object.object; size = object.size })
      ]

  -- the calls that are told of a thread
  first_told : (t : ℕ) (l : Local V R) → slice_get locals t ≡ Some l → TellsFirst asked t (l.ended + under about l.step) (calls locals order)
  first_told t l at =
      let inside = (served.works t l at).inside in
      tells_first (script_of t asked.calls) t l (lines_by t (calls locals order)) (l.ended + under about l.step) (served.tells t l at) inside.decided inside.count

  whole_told : (t : ℕ) (l : Local V R) → slice_get locals t ≡ Some l → is_under_way l.step ≡ false → TellsScript asked t (calls locals order)
  whole_told t l at way =
      let script : List Planned = script_of t asked.calls in
      first_told t l at ∙ takes_all script l.ended (l.ended + under about l.step) ((served.works t l at).inside.none way) (omega arith)

  -- a thread that wants no part has no call under way
  wants_none : (l : Local V R) → place_of r about l ≡ None → is_under_way l.step ≡ false
  wants_none l none = grind (arith, cases_Bool, wants_by)

  all_told : HaveEnded (rules r about asked) (run (rules r about asked) order) → (t : ℕ) → t < asked.config.threads → TellsScript asked t (calls locals order)
  all_told ended t low =
      let WantsNone : Local V R → Type 0 = λ l. place_of r about l ≡ None in
      let all : All WantsNone locals = subst (λ (w : World (Part P) (Local V R)). All WantsNone w.locals) served.is ended in
      let found = there_is locals t (omega (arith, low, served.count)) in
      whole_told t found.0 found.1 (wants_none found.0 (of_all WantsNone locals t found.0 all found.1))

  pub holds_after : HoldsAfter r about Holds asked order
  holds_after =
      record {
        parts = p;
        locals = locals;
        is = served.is;
        counts = record {
          fronts = served.placed.fronts;
          shards = served.placed.ok.classes;
          huge = served.placed.ok.huge;
          names = f.names;
          threads = served.count;
        };
        blocks = f.kept.run;
        blocks_are_live = All-weaker (IsStanding r.calls.rows b) (IsStanding r.calls.rows (books_of r about Holds asked p locals)) standing (blocks_after (calls locals order)) f.live;
        covered = bytes;
        decided = λ t l at. let inside = (served.works t l at).inside in record { count = inside.count; each = inside.decided; over = λ over. inside.none (ap is_under_way over) };
        answers_are_told = served.tells;
        told_first = first_told;
        told_all = λ t l at over. whole_told t l at (ap is_under_way over);
        all_told = all_told;
        threads = λ t l at. (served.works t l at).shaped.thread;
        acts = λ t l at. (served.works t l at).acts;
        rising = λ t l at. (served.works t l at).rising;
        object_is_once = λ k n some. objects_are_once (setup_of r asked) b (calls locals order) k n f some;
        places_have_objects = f.classes;
        shard_is_of_class = served.placed.ok.shards;
        heap = served.placed.ok.heap;
        config = served.placed.ok.config;
        none_where_none_fits = λ n some. none_exactly p.heap n served.placed.ok.heap wide some;
        answers_none = λ t l at.
            let shaped = (served.works t l at).shaped in
            answers_none r about p.heap l (λ n is. none_exactly p.heap n served.placed.ok.heap wide (asked_some l l.step n shaped.class shaped.step is));
        releases_there = λ t l at. releases_there r about p.heap l served.placed.ok.heap;
        finds_there = λ t l x at there. finds_there r about x l (batch_some l (served.works t l at).shaped.class);
        refuses_there = λ t l at. refuses_there r about law.refuses l;
        spans_are_runs = λ n. omega (arith, f.begins n, starts_are n);
        run_is_once = λ n none. runs_alone (setup_of r asked) b (calls locals order) f n none ∙ starts_are n;
        run_begins_once = λ n. omega (arith, f.starts n, starts_are n);
        map_spans_are_apart = served.placed.ok.map;
        map_has_runs = λ r. omega (arith, f.map r, served.books_of.heap r, same_spans b.spans p.map.spans served.books_of.spans r);
        map_has_spans = λ k r. f.own k r ∙ served.books_of.spans (small (class_number k) r);
        name_is_live = names_live;
        name_is_published_once = f.published;
        name_is_taken_once = f.taken;
        transfer_has_room = served.placed.transfers;
        front = served.front;
      }
