-- The acts at a shard move objects between it and the hand, and spans to it and from it.
use Rattle.std.proofs.Common.{◌≡◌, ◌≢◌, ℕ, ◌+◌, ◌<◌, ◌≤◌, ◌^◌, eqb, List, [], ◌∷◌, ◌++◌, length, Some, refl, sym, ap, ◌∙◌, subst, arith}
use Rattle.std.proofs.Common.{inl, inr, slice_get, slice_set}
use Rattle.alloc_rules.proofs.Common.{cases_lt, get_or-set_same, get_or-set_other, length-set, All-cons, All-nil, slice_get_within, Contents, class_of, Addr, first_shard, no_class}
use Rattle.alloc_rules.proofs.Common.{ClassRow, Run, SpanRef, Small, CallLine, HeapConfig, appended, emptied, objects_of, opening, Shard, fetched}
use Rattle.alloc_rules.proofs.Common.{after_fetch, after_give, freed_by, places, spans_in, objects_in_spans, IsSame, IsFetched, IsAdded, with_new}
use Rattle.alloc_rules.proofs.Common.{fetch_moves, add_moves, give_moves, small, objects_at, spans_like, spans_at, Asks, Setup, Stock, Books}
use Rattle.alloc_rules.proofs.Common.{class_number, MoveObjects, AddSpan, shift, all_spans, span_all, Asking, Fetch, AddFetch, Give, class_row, Local}
use Rattle.alloc_rules.proofs.Common.{with_hand, gave, serves, with_more, fetches, shard_after, Planned}
use Rattle.alloc_rules.proofs.Common.{About, AreEntries, FrontRules, Parts, stock_of, Does, shard_at, IsShardOf, setup, IsBefore, Step, ShardStep}
use Rattle.alloc_rules.proofs.Common.{Giving, StepShape, IsGiving, FitsAdd, FitsGive, IsLowRun, AddsSome, ShardActsMove}
use Rattle.class_shard.specs.Laws.{IsGiven}
use Rattle.page_map.specs.Spans.{IsInside}
use Rattle.call_steps.specs.declared.step.Step.TheVariants as does
use Rattle.alloc_rules.proofs.{CutOf.cut_of, Sets.each_set, Stored.with_stores, Weighing.bare, Weighing.weighs_is}
use Rattle.alloc_rules.proofs.Counting.{begun_count, objects_count, spans_count}
use Rattle.alloc_rules.proofs.Goings.{Restocked, adding, carries, gets_first, gets_object, gives_hand, gives_spans}
use Rattle.alloc_rules.proofs.ShardFits.{class_row_is, is_mapped, of_class, row_is, shard_acts_fit, shard_is}

module _ {P V R : Type 0} {r : FrontRules P V R} {about : R → About} {planned : Planned → Type 0} (entries : AreEntries r.calls about) where
  module _ {huge labels : ℕ} {limits : HeapConfig} {p : Parts P} {locals : List (Local V R)} {b : Books} {calls : List CallLine} {t : ℕ} {l : Local V R}
      {x : Shard} (before : IsBefore r about planned huge labels limits p locals b calls t l) (at : slice_get p.shards l.regs.class.0 ≡ Some x) where
    abbrev m : Setup
    m = setup r huge labels

    abbrev at_step : ShardStep R → Local V R
    at_step row = record l { step = does.Shard row }

    abbrev k : ℕ
    k = l.regs.class.0

    abbrev hand : List Addr
    hand = l.regs.hand.items

    abbrev own_row : ClassRow
    own_row = class_row m.rows l

    abbrev shards_with : Shard → List Shard
    shards_with new = slice_set p.shards k new

    abbrev with_shard : Shard → Parts P
    with_shard new = with_stores p p.fronts (shards_with new)

    -- the stock before, and with another shard
    abbrev old : Stock
    old = stock_of r about p

    abbrev stock : Shard → Stock
    stock new = stock_of r about (with_shard new)

    abbrev Goal : Shard → ShardStep R → Local V R → Type 0
    Goal new row = Does r about m (with_shard new) b (at_step row)

    of_x : IsShardOf m.rows k x
    of_x = of_class before at

    is_x : shard_at p.shards k ≡ x
    is_x = shard_is before at

    row_x : class_row m.rows l ≡ x.central.row
    row_x = row_is before at

    -- a shard of the same class and row
    same_of : (new : Shard) → IsSame x new → ((s : SpanRef) → 0 < spans_like s (spans_in new) → s.kind ≡ Small (class_number k)) → IsShardOf m.rows k new
    same_of new same kinds = search (arith, all_spans, of_x)

    restocked : (new : Shard) → IsShardOf m.rows k new → Restocked r about p locals b (with_shard new)
    restocked new of =
        let each = each_set (IsShardOf m.rows) p.shards k new x at of (λ j y apart is. before.parts.shards j y is) in
        record { books = before.books; cut = cut_of r about m.rows (with_shard new) (length-set p.shards k new ∙ before.parts.classes) each }

    now : (new : Shard) → shard_at (shards_with new) k ≡ new
    now new = get_or-set_same p.shards k new (first_shard 0 0 no_class) (slice_get_within p.shards k x at)

    elsewhere : (new : Shard) (j : ℕ) → j ≢ k → shard_at (shards_with new) j ≡ shard_at p.shards j
    elsewhere new j other = get_or-set_other p.shards k j new (first_shard 0 0 no_class) other

    others : (new : Shard) (j n : ℕ) → j ≢ k → ((stock new).stored j n ≡ old.stored j n) × ((stock new).objects j n ≡ old.objects j n)
    others new j n other = grind (arith, elsewhere)

    stored : (new : Shard) (n : ℕ) → (stock new).stored k n + objects_at n (places x) ≡ old.stored k n + objects_at n (places new)
    stored new n = grind (arith, is_x, now)

    objects_now : (new : Shard) (n : ℕ) → (stock new).objects k n ≡ objects_at n (objects_in_spans new)
    objects_now new n = ap (λ (y : Shard). objects_at n (objects_in_spans y)) (now new)

    objects_then : (n : ℕ) → old.objects k n ≡ objects_at n (objects_in_spans x)
    objects_then n = ap (λ (y : Shard). objects_at n (objects_in_spans y)) is_x

    owned : (new : Shard) (s : SpanRef) → (stock new).owned s + spans_like s (spans_in x) ≡ old.owned s + spans_like s (spans_in new)
    owned new s = shift (λ (y : Shard). spans_like s (spans_in y)) p.shards k x new at

    begins : (new : Shard) (n : ℕ) → (stock new).begins n + spans_at n (spans_in x) ≡ old.begins n + spans_at n (spans_in new)
    begins new n = shift (λ (y : Shard). spans_at n (spans_in y)) p.shards k x new at

    -- a shard from which objects and spans go to the hand, or to which they come
    record Changes (new : Shard) (hand came : List Addr) (freed : List SpanRef) : Type 0 where
      moves : (n : ℕ) → objects_at n (places new) + objects_at n came + objects_at n (objects_in_spans x) ≡ objects_at n (places x) + objects_at n hand + objects_at n (objects_in_spans new)
      fewer : (n : ℕ) → objects_at n (objects_in_spans new) ≤ objects_at n (objects_in_spans x)
      spans : (s : SpanRef) → spans_like s (spans_in new) + spans_like s freed ≡ spans_like s (spans_in x)
      starts : (n : ℕ) → spans_at n (spans_in new) + spans_at n freed ≡ spans_at n (spans_in x)

    objects : {new : Shard} {hand came : List Addr} {freed : List SpanRef} → Changes new hand came freed → MoveObjects old (stock new) k hand came freed
    objects {new} c =
        record {
          others = others new;
          moves = λ n. let e = stored new n in let h = objects_now new n in let i = objects_then n in omega (arith, e, h, i, c.moves n);
          fewer = λ n. let h = objects_now new n in let i = objects_then n in omega (arith, h, i, c.fewer n);
          spans = λ s. let e = owned new s in omega (arith, e, c.spans s);
          starts = λ n. let e = begins new n in omega (arith, e, c.starts n);
        }

    -- Fetch
    some_batch : 0 < own_row.batch
    some_batch = (class_row_is before at).batch

    abbrev list_of : List Addr
    list_of = fetched own_row.batch x

    abbrev fetched_from : Shard
    fetched_from = after_fetch own_row.batch x

    is_fetched : IsFetched own_row.batch x
    is_fetched = fetch_moves own_row.batch x some_batch of_x.sound

    fetch_changes : Changes fetched_from [] list_of []
    fetch_changes = grind (arith, is_fetched, objects_count)

    fetched_of : IsShardOf m.rows k fetched_from
    fetched_of = grind (arith, is_fetched, of_x, same_of, span_all)

    fetched_to : (list : List Addr) → list_of ≡ list → MoveObjects old (stock fetched_from) k [] list []
    fetched_to list is = subst (λ (h : List Addr). MoveObjects old (stock fetched_from) k [] h []) is (objects fetch_changes)

    fetch_does : (asking : Asking) → hand ≡ [] → class_of m.rows asking.size ≡ Some l.regs.class → (list : List Addr) → list_of ≡ list
        → Goal fetched_from (Fetch asking) (fetches r.calls (at_step (Fetch asking)) asking list)
    fetch_does asking none asked [] is =
        let own = ap (λ (h : List Addr). bare (Asks asking.label asking.size) k h l.rest) none in
        carries entries huge labels (restocked fetched_from fetched_of) own (fetched_to [] is) (λ label o doing. cc) (record { weighs = weighs_is _ _ own; acts = refl; answers = refl })
    fetch_does asking none asked (a ∷ more) is =
        gets_object entries huge labels (restocked fetched_from fetched_of) (at_step (Fetch asking)) l.seat (record l.regs { hand = appended l.regs.hand (a ∷ more) }) asking
        refl (ap (λ (h : List Addr). h ++ (a ∷ more)) none) asked (ap (λ (h : List Addr). bare (Asks asking.label asking.size) k h l.rest) none) (fetched_to (a ∷ more) is)

    -- AddFetch
    module _ (asking : Asking) (run : Run) (is : l.step ≡ does.Shard (AddFetch asking run)) (none : l.regs.hand.items ≡ []) (asked : class_of m.rows asking.size ≡ Some l.regs.class) where
      abbrev span : SpanRef
      span = small l.regs.class run

      abbrev added : Shard
      added = with_new own_row.batch x span

      abbrev came : List Addr
      came = opening span x.central.row.size own_row.batch

      is_low : run.first.0 < 2 ^ 32
      is_low =
          let there = (is_mapped before at asking run is).there in
          let inside = span_all (IsInside p.map.huge) span p.map.spans before.parts.map.inside (omega (arith, there, before.books.spans span)) in
          omega (arith, inside.to, inside.some, before.parts.map.few)

      is_added : IsAdded own_row.batch x span
      is_added =
          let fit : FitsAdd m.rows x l run = (shard_acts_fit r about planned huge labels limits p locals b calls t l x (AddFetch asking run) before is at).0 in
          let of = class_row_is before at in
          let size = ap (λ (r : ClassRow). r.size) row_x in
          let pages = ap (λ (r : ClassRow). r.pages) row_x in
          add_moves own_row.batch x span some_batch of_x.sound fit.pages is_low (omega (arith, size, of.small)) (omega (arith, pages, of.most, fit.pages)) fit.apart

      spans_more : (s : SpanRef) → spans_like s (spans_in added) ≡ spans_like s (spans_in x) + spans_like s (span ∷ [])
      spans_more s = grind (arith, is_added, spans_count)

      starts_more : (n : ℕ) → spans_at n (spans_in added) ≡ spans_at n (spans_in x) + spans_at n (span ∷ [])
      starts_more n = grind (arith, begun_count, is_added)

      added_of : IsShardOf m.rows k added
      added_of =
          let P : SpanRef → Type 0 = λ s. s.kind ≡ Small (class_number k) in
          same_of added is_added.same (λ s some. elim (cases_lt 0 (spans_like s (spans_in x))) [
            | inl old ↦ span_all P s (spans_in x) of_x.kinds old
            | inr new ↦ span_all P s (span ∷ []) (All-cons P span [] refl (All-nil P)) (omega (arith, new, some, spans_more s))
          ])

      adds_span : AddSpan old (stock added) k span came
      adds_span =
          let brought : List Addr = objects_of x.central.row.size span in
          let more : (n : ℕ) → objects_at n (objects_in_spans added) ≡ objects_at n (objects_in_spans x) + objects_at n brought = λ n.
          (let c = is_added.objects (λ (a : Addr). eqb a.0 n) in
          omega (arith, c, objects_count n (objects_in_spans added), objects_count n (objects_in_spans x), objects_count n brought)) in
          record {
            others = others added;
            moves = λ n.
                let c = is_added.moves (λ (a : Addr). eqb a.0 n) in
                let e = stored added n in
                omega (arith, c, e, more n, objects_now added n, objects_then n, objects_count n (places added), objects_count n came, objects_count n (places x), objects_count n brought);
            more = λ n. omega (arith, more n, objects_now added n, objects_then n);
            spans = λ s. let e = owned added s in omega (arith, e, spans_more s);
            starts = λ n. let e = begins added n in omega (arith, e, starts_more n);
          }

      add_does : (list : List Addr) → came ≡ list → 0 < length list → Goal added (AddFetch asking run) (serves r.calls (with_more (at_step (AddFetch asking run)) came) asking)
      add_does [] are some = absurd (omega arith)
      add_does (a ∷ more) are some =
          gets_first entries huge labels (restocked added added_of) (at_step (AddFetch asking run)) l.seat (record l.regs { hand = appended l.regs.hand came }) asking
          refl (ap (λ (h : List Addr). h ++ came) none ∙ are) asked run (ap (adding l asking run) none) (subst (AddSpan old (stock added) k span) are adds_span)

    -- Give
    module _ (g : Giving R) (is : l.step ≡ does.Shard (Give g)) (no_span : l.freed.items ≡ []) (gives : IsGiving m.rows about hand g) where
      abbrev given : Shard
      given = after_give hand x

      abbrev freed : List SpanRef
      freed = freed_by hand x

      is_given : IsGiven hand x
      is_given =
          let fit : FitsGive x l = shard_acts_fit r about planned huge labels limits p locals b calls t l x (Give g) before is at in
          give_moves hand x of_x.sound fit.taken fit.different

      spans_less : (s : SpanRef) → spans_like s (spans_in given) + spans_like s freed ≡ spans_like s (spans_in x)
      spans_less s = grind (arith, is_given, spans_count)

      give_changes : Changes given hand [] freed
      give_changes = grind (arith, begun_count, is_given, objects, objects_count, spans_less)

      given_of : IsShardOf m.rows k given
      given_of = same_of given is_given.same (λ s some. span_all (λ (y : SpanRef). y.kind ≡ Small (class_number k)) s (spans_in x) of_x.kinds (omega (arith, some, spans_less s)))

      given_to : (items : List SpanRef) → freed ≡ items → MoveObjects old (stock given) k hand [] items
      given_to items left = subst (MoveObjects old (stock given) k hand []) left (objects give_changes)

      give_does : (bag : Contents SpanRef) (items : List SpanRef) → bag.items ≡ items → freed ≡ items
          → Goal given (Give g) (gave r.calls (record (with_hand (at_step (Give g)) (emptied l.regs.hand)) { freed = bag }) g items)
      give_does bag [] are left = gives_hand entries huge labels (restocked given given_of) (at_step (Give g)) bag g gives refl (given_to [] left)
      give_does bag (s ∷ more) are left = gives_spans entries huge labels (restocked given given_of) (at_step (Give g)) bag g s more gives are refl (given_to (s ∷ more) left)

    abbrev left_by : ShardStep R → Shard × Local V R
    left_by row = shard_after r.calls x (at_step row) (does.Shard row)

    shard_does : (row : ShardStep R) → l.step ≡ does.Shard row → StepShape m.rows about l (does.Shard row) → Goal (left_by row).0 row (left_by row).1
    shard_does row is shape = grind (arith, add_does, fetch_does, give_does, is_added)

    -- the shard stays its class's, a new span's first page is a low number, and a new span brings an object at least
    pub shard_stays : (row : ShardStep R) → l.step ≡ does.Shard row → StepShape m.rows about l (does.Shard row) → IsShardOf m.rows k (left_by row).0 × IsLowRun row × AddsSome m.rows x l row
    shard_stays row is shape = grind (arith, added_of, fetched_of, given_of, is_added, is_low)

  pub shard_acts_move : ShardActsMove r about planned
  shard_acts_move huge labels limits p locals b calls t l x row before is at =
      let Goal : Local V R → Shard × Local V R → Type 0 = λ y z. Does r about (setup r huge labels) (record p { shards = slice_set p.shards l.regs.class.0 z.0 }) b y z.1 in
      subst (λ (s : Step R). Goal (record l { step = s }) (shard_after r.calls x (record l { step = s }) (does.Shard row))) (sym is)
      (shard_does before at row is (subst (StepShape r.calls.rows about l) is before.shaped.step))
