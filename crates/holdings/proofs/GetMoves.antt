-- An allocation of a class gets an object of the stock, or one of a new span; and a free finds its object.
use Rattle.holdings.specs.Accounts.{Account, Asks, Doing, Frees, Holds, Publishes, asking, held_at, holds, in_hand, loose, publishing, taking}
use Rattle.holdings.specs.Moves.{AddSpan, MoveObjects, about, books_with}
use Rattle.tc_units.specs.declared.units.Addr.{Addr}
use Rattle.std.specs.Prelude.{All, sum_by}
use Rattle.std.proofs.lemmas.List.Elements.{All-tail}
use Rattle.tc_model.specs.declared.answers.Answer.TheVariants.{Block}
use Rattle.holdings.specs.Books.{Books, IsCut, IsOfClass, Setup, Stock, class_number, size_of}
use Rattle.tc_model.specs.declared.answers.CallLine.{CallLine}
use Rattle.holdings.specs.Facts.{Facts}
use Rattle.holdings.specs.Laws.{Found}
use Rattle.tc_units.specs.declared.units.Label.{Label}
use Rattle.tc_units.specs.declared.spans.SpanKind.TheVariants.{Small}
use Rattle.std.proofs.Common.{List, Some, [], ap, arith, eqb, inl, inr, refl, subst, sym, true, ℕ, ◌++◌, ◌+◌, ◌/◌, ◌<◌, ◌∙◌, ◌∷◌, ◌≡◌, ◌≤◌}
use Rattle.tc_model.specs.declared.calls.Call.TheVariants.{Malloc}
use Rattle.tc_units.specs.declared.spans.Run.{Run}
use Rattle.tc_units.specs.declared.spans.SpanRef.{SpanRef}
use Rattle.holdings.specs.Runs.{bit, first_byte, large, objects_at, run_of, runs_at, same_run, same_span, small, spans_at, spans_like, spans_of_run}
use Rattle.std.proofs.lemmas.Bool.{cases_Bool, cases_eq, cond-false, cond-true, eq-eqb, ne_eqb}
use Rattle.tc_units.specs.Classes.{class_of}
use Rattle.tc_units.specs.Units.{page_bytes}
use Rattle.std.specs.List.{slice_get}
use Rattle.std.proofs.lemmas.Bool.Decides.{nat_tests}
use Rattle.holdings.proofs.StockMoves.{Stocked, stock_classes, stock_places}
use Rattle.holdings.proofs.Sums.{bit_most, class_least, gap, least, shift}
use Rattle.holdings.proofs.Finding.{frees_find}
use Rattle.holdings.proofs.Groups.{heap_facts, labels_still, moved, spans_still, still}
use Rattle.holdings.proofs.ObjectMoves.{kept_object, live_object, one_free}
use Rattle.holdings.proofs.Labels.{labels_got}
use Rattle.holdings.proofs.MapFacts.{mapped_there, one_byte, one_number, one_span, owned_there, page_byte, span_lives}
use Rattle.holdings.proofs.Held.{objects_one}
use Rattle.page_map.specs.Spans as map

module _ {m : Setup} {b : Books} {calls : List CallLine} (f : Facts m b calls) (t : ℕ) (a : Account) (at : slice_get b.accounts t ≡ Some a) where
  module _ (label : Label) (size : ℕ) (g : Stock) (o : Addr) (rest : List Addr) (is : a.doing ≡ Asks label size)
      (class : class_of m.rows size ≡ Some (class_number a.class)) (empty : a.hand ≡ []) (cut : IsCut m.rows g) where
    idle_before : (n : ℕ) → (loose n a.doing ≡ 0) × (objects_at n a.hand ≡ 0)
    idle_before n = (ap (loose n) is, ap (objects_at n) empty)

    abbrev gets_line : CallLine
    gets_line = record { thread = record { 0 = t }; call = Malloc label size; answer = Block o (size_of m.rows a.class) }

    pub gets_object : MoveObjects b.stock g a.class [] (o ∷ rest) []
        → Facts m (books_with b g b.heap b.spans b.names t (record (about a (Publishes label (Some o))) { hand = rest })) (calls ++ gets_line ∷ [])
    gets_object move =
        let self = f.selves t a at in
        let w : Account = record (about a (Publishes label (Some o))) { hand = rest } in
        let st : Stocked f t a at g (o ∷ rest) = record { others = move.others; moves = λ n. omega (arith, move.moves n, (idle_before n).1); cut = cut } in
        let there : (s : SpanRef) → 0 < g.owned s → 0 < spans_like s b.spans = λ s own. owned_there m b calls f s (omega (arith, own, move.spans s)) in
        moved f t a w at g b.heap b.spans b.names (calls ++ gets_line ∷ []) (kept_object f t a at label size g o rest is class empty st there)
        (live_object f t a at label size g o rest is class empty st there w (λ q none. none)) (heap_facts f) cut (record {
          freeing = λ l x e. absurd (cc);
          spans = self.spans;
          mapped = self.mapped;
          whole = self.whole;
          offs = λ n. omega (arith, self.offs n, (idle_before n).0);
          cleared = λ q. omega (arith, self.cleared q, (idle_before (first_byte q)).0);
        }) (labels_got f t a at w refl label size (Block o (size_of m.rows a.class)) is refl)
        (spans_still f t a w at g.owned (λ r. refl) (λ s. let e = move.spans s in omega (arith, e)) (λ s. refl)) (record {
          places = λ n. omega (arith, f.places n, shift (held_at n) b.accounts t a w at, idle_before n, stock_places f t a at g (o ∷ rest) st n, move.starts n);
          begins = λ n. omega (arith, f.begins n, shift (λ (x : Account). spans_at n x.apart) b.accounts t a w at, move.starts n);
          classes = stock_classes f t a at g (o ∷ rest) st w refl (λ n. omega arith);
        })

    pub gets_first : (r : Run) (apart mapped : List SpanRef) → a.off ≡ [] → a.apart ≡ small (class_number a.class) r ∷ apart
        → a.mapped ≡ small (class_number a.class) r ∷ mapped → AddSpan b.stock g a.class (small (class_number a.class) r) (o ∷ rest)
        → Facts m (books_with b g b.heap b.spans b.names t (record (about a (Publishes label (Some o))) { hand = rest; apart = apart; mapped = mapped })) (calls ++ gets_line ∷ [])
    gets_first r apart mapped clear first firstm move =
        let self = f.selves t a at in
        let s : SpanRef = small (class_number a.class) r in
        let w : Account = record (about a (Publishes label (Some o))) { hand = rest; apart = apart; mapped = mapped } in
        let st : Stocked f t a at g (o ∷ rest) = record { others = move.others; moves = λ n. omega (arith, move.moves n, (idle_before n).1); cut = cut } in
        let held : (x : SpanRef) → spans_like x a.mapped ≡ bit (same_span s x) + spans_like x mapped = λ x. ap (spans_like x) firstm in
        let kept : (x : SpanRef) → spans_like x a.apart ≡ bit (same_span s x) + spans_like x apart = λ x. ap (spans_like x) first in
        let runs : (q : Run) → spans_of_run q a.apart ≡ bit (same_run (run_of s) q) + spans_of_run q apart = λ q. ap (spans_of_run q) first in
        let starts : (n : ℕ) → spans_at n a.apart ≡ bit (eqb (first_byte (run_of s)) n) + spans_at n apart = λ n. ap (spans_at n) first in
        let there : (x : SpanRef) → 0 < g.owned x → 0 < spans_like x b.spans =
        grind (arith, nat_tests, owned_there m b calls f, mapped_there m b calls f t a, move.spans, held) in
        moved f t a w at g b.heap b.spans b.names (calls ++ gets_line ∷ []) (kept_object f t a at label size g o rest is class empty st there)
        (live_object f t a at label size g o rest is class empty st there w (λ q none. let e = runs q in omega (arith, e, none))) (heap_facts f) cut (record {
          freeing = λ l x e. absurd (cc);
          spans = All-tail (IsOfClass m.rows) s apart (subst (All (IsOfClass m.rows)) first self.spans);
          mapped = λ x. omega (arith, self.mapped x, held x, kept x);
          whole = grind (arith, self.whole, runs);
          offs = λ n. let z : runs_at n a.off ≡ 0 = ap (runs_at n) clear in omega (arith, z);
          cleared = λ q. omega (arith, self.cleared q, (idle_before (first_byte q)).0);
        }) (labels_got f t a at w refl label size (Block o (size_of m.rows a.class)) is refl)
        (spans_still f t a w at g.owned (λ r. refl) (λ x. let e = move.spans x in omega (arith, e, held x)) (λ s. refl)) (record {
          places = λ n. omega (arith, f.places n, shift (held_at n) b.accounts t a w at, idle_before n, stock_places f t a at g (o ∷ rest) st n, move.starts n, starts n);
          begins = λ n. omega (arith, f.begins n, shift (λ (x : Account). spans_at n x.apart) b.accounts t a w at, move.starts n, starts n);
          classes = stock_classes f t a at g (o ∷ rest) st w refl (λ n. omega arith);
        })

  -- a free finds that what it took is an object
  module _ (label : Label) (o : Addr) (span : SpanRef) (k : ℕ) (is : a.doing ≡ Holds label o) (empty : a.hand ≡ []) (clear : a.off ≡ [])
      (there : 0 < spans_like span b.spans) (holds_page : map.holds (o.0 / page_bytes) span ≡ true) (kind : span.kind ≡ Small (class_number k)) where
    found_object : 0 < b.stock.objects k o.0
    found_object =
        let h : Found m b o = frees_find m b calls t a label o f at is clear in
        let runs = one_byte m b calls f (run_of span) (run_of h.span) o.0 (span_lives m b calls f span there) (span_lives m b calls f h.span h.there)
        (page_byte span o.0 holds_page) (page_byte h.span o.0 h.holds) in
        let same : span ≡ h.span = one_span m b calls f span h.span there h.there (sym runs) in
        elim h.is [
          | inl small_one ↦ grind (arith, one_number k small_one.0 (sym kind ∙ (ap (λ (x : SpanRef). x.kind) same ∙ small_one.1)))
          | inr large_one ↦ grind (arith)
        ]

    own_object : loose o.0 a.doing ≡ 1
    own_object = ap (loose o.0) is ∙ ap bit (eq-eqb o.0 o.0 refl)

    hand_in : (j n : ℕ) (x : Account) → in_hand j n x ≤ loose n x.doing + objects_at n x.hand
    hand_in j n x = grind (arith, cases_Bool, cond-false, cond-true, eqb)

    no_hand : (j n : ℕ) → in_hand j n a ≡ 0
    no_hand j n = grind (arith, cases_Bool, cond-false, cond-true, eqb)

    -- nobody else has it
    untouched : sum_by (in_hand k o.0) b.accounts + b.stock.stored k o.0 ≡ 0
    untouched =
        let one = objects_one m b calls f k o.0 found_object in
        let stored = class_least m.rows (λ j. b.stock.stored j o.0) k (f.cut.class k o.0 found_object) in
        let mine = least (λ (x : Account). loose o.0 x.doing + objects_at o.0 x.hand) b.accounts t a at in
        let g = gap (in_hand k o.0) (λ (x : Account). loose o.0 x.doing + objects_at o.0 x.hand) b.accounts t a (hand_in k o.0) at in
        omega (arith, one, stored, mine, g, no_hand k o.0, own_object)

    pub finds_object : a.clears ≡ [] → Facts m (books_with b b.stock b.heap b.spans b.names t (record (about a (Frees label o)) { class = k; hand = o ∷ [] })) calls
    finds_object unclear =
        let self = f.selves t a at in
        let w : Account = record (about a (Frees label o)) { class = k; hand = o ∷ [] } in
        let held : (n : ℕ) → (loose n a.doing ≡ bit (eqb o.0 n)) × (objects_at n a.hand ≡ 0) = λ n. (ap (loose n) is, ap (objects_at n) empty) in
        let was : (g : Doing → ℕ) → g a.doing ≡ g (Holds label o) = λ g. ap g is in
        moved f t a w at b.stock b.heap b.spans b.names calls f.kept (still f t a w at b.heap b.spans b.names (λ x l. (l.live, l.unmapped, l.unheld t a at)))
        (heap_facts f) f.cut (record {
          freeing = grind (arith, nat_tests, one_free label);
          spans = self.spans;
          mapped = self.mapped;
          whole = self.whole;
          offs = λ n. let z : runs_at n a.off ≡ 0 = ap (runs_at n) clear in omega (arith, z);
          cleared = λ q. let z : spans_like (large q) a.clears ≡ 0 = ap (spans_like (large q)) unclear in omega (arith, z);
        }) (labels_still f t a w at (λ x. let e = was (asking x) in omega (arith, e)) (λ x.
        let e = was (asking x) in
        let p = was (publishing x) in
        omega (arith, e, p)) (λ x. let e = was (taking x) in omega (arith, e)) (λ x.
        let e = was (asking x) in
        let p = was (publishing x) in
        let q = was (taking x) in
        omega (arith, e, p, q)) (λ x v. sym (was (holds x v)))) (spans_still f t a w at b.stock.owned (λ r. refl) (λ s. refl) (λ s. refl)) (record {
          places = λ n. omega (arith, f.places n, shift (held_at n) b.accounts t a w at, held n);
          begins = λ n. omega (arith, f.begins n, shift (λ (x : Account). spans_at n x.apart) b.accounts t a w at);
          classes = λ j n.
              let s = shift (in_hand j n) b.accounts t a w at in
              let z = no_hand j n in
              elim (cases_eq k j) [
                | inl same ↦
                    let new : in_hand j n w ≡ bit (eqb o.0 n) + 0 = cond-true (eqb k j) (bit (eqb o.0 n) + 0) 0 (eq-eqb k j same) in
                    elim (cases_eq o.0 n) [
                      | inl here ↦ grind (arith, untouched, found_object, bit_most (eqb o.0 n))
                      | inr away ↦ let e : bit (eqb o.0 n) ≡ 0 = ap bit (ne_eqb o.0 n away) in omega (arith, s, z, new, e, f.classes j n)
                    ]
                | inr other ↦ let new : in_hand j n w ≡ 0 = cond-false (eqb k j) (bit (eqb o.0 n) + 0) 0 (ne_eqb k j other) in omega (arith, s, z, new, f.classes j n)
              ];
        })
