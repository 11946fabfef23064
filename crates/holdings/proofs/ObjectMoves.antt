-- Acts that move objects: into and out of a hand, and an allocation that gets one.
use Rattle.holdings.specs.Accounts.{Account, Asks, Doing, Frees, Other, held_at, loose}
use Rattle.tc_units.specs.declared.units.Addr.{Addr}
use Rattle.std.specs.Prelude.{All}
use Rattle.tc_model.specs.declared.answers.Answer.{Answer}
use Rattle.holdings.specs.Kept.{AreKept}
use Rattle.tc_model.specs.declared.answers.Answer.TheVariants.{Block, Freed}
use Rattle.holdings.specs.Books.{Books, IsCut, IsOfClass, Setup, Stock, class_number, size_of}
use Rattle.tc_model.specs.declared.answers.CallLine.{CallLine}
use Rattle.tc_model.specs.Blocks.{Extent, blocks_after, frees, meets}
use Rattle.holdings.specs.Facts.{Facts, IsLarge, IsObject, IsSelf, IsStanding}
use Rattle.tc_model.specs.declared.calls.Call.TheVariants.{Free, Malloc}
use Rattle.tc_units.specs.declared.units.Label.{Label}
use Rattle.std.proofs.Common.{List, Some, [], ap, arith, eqb, false, get_or, inl, inr, not, refl, subst, sym, ℕ, ◌++◌, ◌+◌, ◌<◌, ◌∙◌, ◌∷◌, ◌≡◌}
use Rattle.holdings.specs.Moves.{MoveObjects, about, books_with, with_hand}
use Rattle.tc_units.specs.declared.spans.Run.{Run}
use Rattle.tc_units.specs.declared.spans.SpanRef.{SpanRef}
use Rattle.holdings.specs.Runs.{bit, block_of, first_byte, objects_at, run_of, runs_like, same_run, small, spans_at, spans_like, spans_of_run}
use Rattle.std.proofs.lemmas.Bool.{cases_Bool, cases_eq, cases_lt, eq-eqb, false≢true}
use Rattle.tc_units.specs.Classes.{class_of, length_of}
use Rattle.tc_units.proofs.SortedFacts.{All-with_item}
use Rattle.std.specs.List.{slice_get, slice_set}
use Rattle.holdings.proofs.Sums.{All-kept, counts_append, like_span, none_meets, of_run, same_run_is, shift, starting_span}
use Rattle.holdings.proofs.CallFacts.{blocks_after-push}
use Rattle.holdings.proofs.KeptFacts.{Labelled, kept_block, kept_freed}
use Rattle.holdings.proofs.Groups.{PlaceFacts, SpanFacts, heap_facts, labels_still, meets_flip, moved, spans_still}
use Rattle.holdings.proofs.StockMoves.{Stocked, class_length, not_meets, object_stays, stands_on, stands_where, stock_classes, stock_places}
use Rattle.holdings.proofs.MapFacts.{all_spans, is_small, of_class, one_number, one_span, owned_there, span_found, span_lives, span_of}
use Rattle.holdings.proofs.Labels.{by_frees, labels_freed, unanswered, value_returned}
use Rattle.holdings.proofs.Standing.{has_block}
use Rattle.holdings.proofs.LargeMoves.{meets_inner}

pub one_free : (label label' : Label) (o o' : Addr) → Frees label o ≡ Frees label' o' → o ≡ o'
one_free label label' o o' is = cc

module _ {m : Setup} {b : Books} {calls : List CallLine} (f : Facts m b calls) (t : ℕ) (a : Account) (at : slice_get b.accounts t ≡ Some a) where
  -- spans that leave their shards were of the map, and of no large block
  freed_spans : (g : Stock) (freed : List SpanRef) → ((s : SpanRef) → g.owned s + spans_like s freed ≡ b.stock.owned s)
      → (q : Run) → ((k : ℕ) → spans_like (small (class_number k) q) b.spans ≡ 0) → spans_of_run q freed ≡ 0
  freed_spans g freed left q unmapped =
      elim (cases_lt 0 (spans_of_run q freed)) [
        | inl some ↦
            let s = span_found q freed some in
            let own : 0 < b.stock.owned s.0 = omega (arith, s.2, left s.0) in
            let class = f.cut.kinds s.0 own in
            let e : small (class_number class.class) q ≡ s.0 = ap (λ (r : Run). small (class_number class.class) r) (sym s.1) ∙ is_small s.0 class.class class.kind in
            let z : spans_like s.0 b.spans ≡ 0 = ap (λ (x : SpanRef). spans_like x b.spans) (sym e) ∙ unmapped class.class in
            absurd (omega (arith, z, owned_there m b calls f s.0 own))
        | inr none ↦ omega (arith, none)
      ]

  freed_classes : (g : Stock) (freed : List SpanRef) → ((s : SpanRef) → g.owned s + spans_like s freed ≡ b.stock.owned s) → All (IsOfClass m.rows) (freed ++ a.apart)
  freed_classes g freed left = all_spans (IsOfClass m.rows) (freed ++ a.apart) (λ s some. elim (cases_lt 0 (spans_like s freed)) [
    | inl here ↦ f.cut.kinds s (omega (arith, here, left s))
    | inr none ↦ of_class m b calls f t a s at (let e = counts_append (like_span s) freed a.apart in omega (arith, e, some, none))
  ])

  module _ (g : Stock) (hand : List Addr) (freed : List SpanRef) (move : MoveObjects b.stock g a.class a.hand hand freed) (cut : IsCut m.rows g) where
    stocked : Stocked f t a at g hand
    stocked = record { others = move.others; moves = move.moves; cut = cut }

    -- the hand changes, and the call may end
    module _ (doing : Doing) (loosely : (n : ℕ) → loose n doing ≡ loose n a.doing) where
      abbrev then : Account
      then = with_hand (about a doing) hand freed

      self_hand : ((label : Label) (o : Addr) → doing ≡ Frees label o → 0 < objects_at o.0 hand) → IsSelf m then
      self_hand freeing =
          let self = f.selves t a at in
          record {
            freeing = freeing;
            spans = freed_classes g freed move.spans;
            mapped = λ s.
                let p = counts_append (like_span s) freed a.apart in
                let q = counts_append (like_span s) freed a.mapped in
                omega (arith, self.mapped s, p, q);
            whole = λ r.
                let p = counts_append (of_run r) freed a.apart in
                let q = counts_append (of_run r) freed a.mapped in
                omega (arith, self.whole r, p, q);
            offs = λ n.
                let p = counts_append (starting_span n) freed a.apart in
                let l = loosely n in
                omega (arith, self.offs n, p, l);
            cleared = λ r. let l = loosely (first_byte r) in omega (arith, self.cleared r, l);
          }

      spans_hand : SpanFacts g.owned b.heap b.spans (slice_set b.accounts t then)
      spans_hand = spans_still f t a then at g.owned (λ r. refl) (λ s. let p = counts_append (like_span s) freed a.mapped in let q = move.spans s in omega (arith, p, q)) (λ s. refl)

      places_hand : PlaceFacts m.rows g b.heap b.names (slice_set b.accounts t then)
      places_hand =
          record {
            places = λ n.
                let p = counts_append (starting_span n) freed a.apart in
                let q = move.starts n in
                let s = stock_places f t a at g hand stocked n in
                let l = loosely n in
                omega (arith, f.places n, shift (held_at n) b.accounts t a then at, p, q, s, l);
            begins = λ n.
                let p = counts_append (starting_span n) freed a.apart in
                let q = move.starts n in
                omega (arith, f.begins n, shift (λ (x : Account). spans_at n x.apart) b.accounts t a then at, p, q);
            classes = stock_classes f t a at g hand stocked then refl (λ n. omega arith);
          }

      stands_hand : (x : Extent) → IsStanding m.rows b x → Labelled calls x
          → ((label : Label) (o : Addr) → a.doing ≡ Frees label o → o.0 ≡ x.addr → 0 < objects_at x.addr hand)
          → IsStanding m.rows (books_with b g b.heap b.spans b.names t then) x
      stands_hand x stands own frees =
          stands_on f t a at g hand stocked then x stands own frees (λ q unmapped unheld. omega (arith, counts_append (of_run q) freed a.apart, unheld, freed_spans g freed move.spans q unmapped))

    pub moves_hand : ((label : Label) (o : Addr) → a.doing ≡ Frees label o → 0 < objects_at o.0 hand) → Facts m (books_with b g b.heap b.spans b.names t (with_hand a hand freed)) calls
    moves_hand freeing =
        let w : Account = with_hand a hand freed in
        moved f t a w at g b.heap b.spans b.names calls f.kept
        (λ i d within. stands_hand a.doing (λ n. refl) _ (f.live i d within) (f.kept.labelled i d within) (λ label o is there. subst (λ k. 0 < objects_at k hand) there (freeing label o is)))
        (heap_facts f) cut (self_hand a.doing (λ n. refl) freeing) (labels_still f t a w at (λ x. refl) (λ x. refl) (λ x. refl) (λ x. refl) (λ x v. refl))
        (spans_hand a.doing (λ n. refl)) (places_hand a.doing (λ n. refl))

    pub frees_object : (label : Label) (o : Addr) → a.doing ≡ Frees label o
        → Facts m (books_with b g b.heap b.spans b.names t (with_hand (about a Other) hand freed)) (calls ++ record { thread = record { 0 = t }; call = Free label; answer = Freed o } ∷ [])
    frees_object label o is =
        let c : CallLine = record { thread = record { 0 = t }; call = Free label; answer = Freed o } in
        let w : Account = with_hand (about a Other) hand freed in
        let none : (n : ℕ) → loose n Other ≡ loose n a.doing = λ n. sym (ap (loose n) is) in
        let returns = by_frees label o a.doing is in
        let block = has_block calls label.0 o (value_returned f t a at label o returns) in
        let both : All (λ (x : Extent). IsStanding m.rows b x × Labelled calls x) (blocks_after calls) = λ i d within. (f.live i d within, f.kept.labelled i d within) in
        moved f t a w at g b.heap b.spans b.names (calls ++ c ∷ []) (kept_freed f.kept (record { 0 = t }) label o block.0 block.1)
        (subst (All (IsStanding m.rows (books_with b g b.heap b.spans b.names t w))) (sym (blocks_after-push calls c))
        (All-kept (λ (x : Extent). IsStanding m.rows b x × Labelled calls x) (IsStanding m.rows (books_with b g b.heap b.spans b.names t w)) (λ (x : Extent). not (eqb x.addr o.0)) _ (λ x has apart.
        stands_hand Other none x has.0 has.1 (λ label' o' is' there.
        let e : o.0 ≡ o'.0 = ap (λ (y : Addr). y.0) (one_free label label' o o' (sym is ∙ is')) in
        absurd (false≢true (sym (ap not (eq-eqb x.addr o.0 (sym there ∙ sym e))) ∙ apart)))) both)) (heap_facts f) cut (self_hand Other none (λ l x e. absurd (cc)))
        (labels_freed f t a at w refl label o returns refl) (spans_hand Other none) (places_hand Other none)

  -- an allocation gets an object
  module _ (label : Label) (size : ℕ) (g : Stock) (o : Addr) (rest : List Addr) (is : a.doing ≡ Asks label size) (class : class_of m.rows size ≡ Some (class_number a.class))
      (empty : a.hand ≡ []) (st : Stocked f t a at g (o ∷ rest)) (there : (s : SpanRef) → 0 < g.owned s → 0 < spans_like s b.spans) where
    abbrev answer : Answer
    answer = Block o (size_of m.rows a.class)

    abbrev line : CallLine
    line = record { thread = record { 0 = t }; call = Malloc label size; answer = answer }

    abbrev place : Extent
    place = record { addr = o.0; len = size_of m.rows a.class }

    zero_hand : (n : ℕ) → objects_at n a.hand ≡ 0
    zero_hand n = ap (objects_at n) empty

    own : bit (eqb o.0 o.0) ≡ 1
    own = ap bit (eq-eqb o.0 o.0 refl)

    object : 0 < g.objects a.class o.0
    object = omega (arith, own, zero_hand o.0, st.moves o.0, f.classes a.class o.0)

    unfreed : (x : Extent) (l : Label) (y : Addr) → a.doing ≡ Frees l y → y.0 ≡ x.addr → 0 < objects_at x.addr (o ∷ rest)
    unfreed x l y frees at_x = let e : Asks label size ≡ Frees l y = sym is ∙ frees in absurd (cc)

    -- a span of the stock then, and its run
    live : (s : SpanRef) → 0 < g.owned s → 0 < runs_like (run_of s) b.heap
    live s own_s = span_lives m b calls f s (there s own_s)

    -- a block that stands is no such object
    elsewhere : (x : Extent) → Labelled calls x → 0 < b.stock.objects a.class x.addr → x.addr ≡ o.0 → ⊥
    elsewhere x label_x some same =
        let w = stands_where f t a at g (o ∷ rest) st x label_x some in
        let e : bit (eqb o.0 x.addr) ≡ 1 = ap bit (eq-eqb o.0 x.addr (sym same)) in
        omega (arith, w.0, some, zero_hand x.addr, st.moves x.addr, st.cut.once a.class x.addr, e)

    -- spans of two kinds meet nowhere
    other_spans : (s u : SpanRef) → 0 < g.owned s → 0 < spans_like u b.spans → (s ≡ u → ⊥) → meets (block_of (run_of u)) (block_of (run_of s)) ≡ false
    other_spans s u own_s there_u other =
        f.disjoint (run_of u) (run_of s) (span_lives m b calls f u there_u) (live s own_s) (elim (cases_Bool (same_run (run_of u) (run_of s))) [
          | inl same ↦ absurd (other (one_span m b calls f s u (there s own_s) there_u (same_run_is (run_of u) (run_of s) same)))
          | inr apart ↦ apart
        ])

    apart_large : (x : Extent) → IsLarge b x → meets place x ≡ false
    apart_large x l =
        let s = st.cut.lies a.class o.0 object in
        let unlike : same_run l.run (run_of s.span) ≡ false = elim (cases_Bool (same_run l.run (run_of s.span))) [
          | inl same ↦
              let e : small (class_number a.class) l.run ≡ s.span = ap (λ (r : Run). small (class_number a.class) r) (same_run_is l.run (run_of s.span) same) ∙ is_small s.span a.class s.kind in
              let z : spans_like s.span b.spans ≡ 0 = ap (λ (y : SpanRef). spans_like y b.spans) (sym e) ∙ l.unmapped a.class in
              absurd (omega (arith, z, there s.span s.owned))
          | inr apart ↦ apart
        ] in
        let unmet : meets (block_of l.run) (block_of (run_of s.span)) ≡ false = f.disjoint l.run (run_of s.span) l.live (live s.span s.owned) unlike in
        let inner : meets (block_of l.run) place ≡ false = meets_inner (block_of l.run) place (block_of (run_of s.span)) s.from (omega (arith, s.to)) unmet in
        meets_flip x place (subst (λ (y : Extent). meets y place ≡ false) (sym l.is) inner)

    apart_object : (x : Extent) → Labelled calls x → IsObject m.rows b x → meets place x ≡ false
    apart_object x label_x ob =
        let some : 0 < g.objects ob.class x.addr = object_stays f t a at g (o ∷ rest) st x label_x (unfreed x) ob.class ob.object in
        elim (cases_eq ob.class a.class) [
          | inl same ↦
              let len : x.len ≡ size_of m.rows a.class = ob.size ∙ ap (size_of m.rows) same in
              let again : 0 < g.objects a.class x.addr = subst (λ c. 0 < g.objects c x.addr) same some in
              let ne : x.addr ≡ o.0 → ⊥ = elsewhere x label_x (subst (λ c. 0 < b.stock.objects c x.addr) same ob.object) in
              not_meets place x (elim (cases_lt o.0 x.addr) [
                | inl before ↦ inl (st.cut.apart a.class o.0 x.addr object again before)
                | inr past ↦ inr (let e = st.cut.apart a.class x.addr o.0 again object (omega (arith, past, ne)) in omega (arith, e, len))
              ])
          | inr other ↦
              let s = st.cut.lies a.class o.0 object in
              let u = span_of m b calls f ob.class x.addr ob.object in
              let unmet : meets (block_of (run_of u.span)) (block_of (run_of s.span)) ≡ false =
              other_spans s.span u.span s.owned u.there (λ e. other (one_number ob.class a.class (sym u.kind ∙ (ap (λ (y : SpanRef). y.kind) (sym e) ∙ s.kind)))) in
              let inner : meets (block_of (run_of u.span)) place ≡ false = meets_inner (block_of (run_of u.span)) place (block_of (run_of s.span)) s.from (omega (arith, s.to)) unmet in
              meets_inner place x (block_of (run_of u.span)) u.from (omega (arith, u.to, ob.size)) (meets_flip (block_of (run_of u.span)) place inner)
        ]

    pub kept_object : AreKept (length_of m.rows) m.huge (calls ++ line ∷ [])
    kept_object =
        let s = st.cut.lies a.class o.0 object in
        let run = f.inside (run_of s.span) (live s.span s.owned) in
        let some = st.cut.some a.class o.0 object in
        let apart : All (λ (x : Extent). meets place x ≡ false) (blocks_after calls) =
        λ i d within. elim (f.live i d within) [ inl l ↦ apart_large (get_or (blocks_after calls) i d) l | inr ob ↦ apart_object _ (f.kept.labelled i d within) ob ] in
        kept_block f.kept (record { 0 = t }) label size o (size_of m.rows a.class) (unanswered f t a at label size is)
        (record { inside = record { some = some; from = omega (arith, run.inside.from, s.from); to = omega (arith, run.inside.to, s.to) }; apart = none_meets place (blocks_after calls) apart })
        (sym (class_length m.rows size a.class class).1) some

    pub live_object : (w : Account) → ((q : Run) → spans_of_run q a.apart ≡ 0 → spans_of_run q w.apart ≡ 0)
        → All (IsStanding m.rows (books_with b g b.heap b.spans b.names t w)) (blocks_after (calls ++ line ∷ []))
    live_object w apart =
        subst (All (IsStanding m.rows (books_with b g b.heap b.spans b.names t w))) (sym (blocks_after-push calls line))
        (All-with_item (λ (b : Extent). b.addr) (IsStanding m.rows (books_with b g b.heap b.spans b.names t w)) place (blocks_after calls) (inr (record { class = a.class; object = object; size = refl }))
        (λ i d within. stands_on f t a at g (o ∷ rest) st w _ (f.live i d within) (f.kept.labelled i d within) (unfreed (get_or (blocks_after calls) i d)) (λ q unmapped unheld. apart q unheld)))
