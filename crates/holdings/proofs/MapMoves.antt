-- Acts on the page map, and the runs of spans.
use Rattle.holdings.specs.Accounts.{Account, Holds, clearing, held_at, in_hand, loose, off_map, transit}
use Rattle.std.specs.Prelude.{All, sum_by}
use Rattle.std.proofs.lemmas.List.Elements.{All-cons, All-tail}
use Rattle.holdings.specs.Books.{Books, IsOfClass, Setup, class_number, pages_of}
use Rattle.tc_model.specs.declared.answers.CallLine.{CallLine}
use Rattle.holdings.specs.Facts.{Facts}
use Rattle.holdings.specs.Runs.{IsPlaced, address_of, bit, first_byte, large, less, run_of, runs_like, same_run, same_span, small, spans_at, spans_like, spans_of_run, without}
use Rattle.tc_units.specs.declared.units.Label.{Label}
use Rattle.std.proofs.Common.{List, Some, [], ap, arith, eqb, inl, inr, length, refl, subst, ℕ, ◌+◌, ◌<◌, ◌∙◌, ◌∷◌, ◌≡◌}
use Rattle.tc_units.specs.declared.spans.Run.{Run}
use Rattle.tc_units.specs.declared.spans.SpanRef.{SpanRef}
use Rattle.holdings.specs.Moves.{books_with}
use Rattle.std.proofs.lemmas.Bool.{cases_eq, eq-eqb, ne_eqb}
use Rattle.std.specs.List.{slice_get}
use Rattle.std.proofs.lemmas.Bool.Decides.{nat_tests}
use Rattle.holdings.proofs.Sums.{bit_most, least, less_counts, like, like_span, none_counts, of_run, one_at, same_run_is, same_run_refl}
use Rattle.holdings.proofs.Sums.{same_run_start, same_span_refl, same_span_run, shift, starting, two, without_counts}
use Rattle.holdings.proofs.Groups.{heap_facts, heap_less, heap_more, labels_still, moved, places_still, still}
use Rattle.holdings.proofs.MapFacts.{large_apart, like_at, mapped_class, mapped_there, no_object, off_lives, run_at, small_apart, span_run}

module _ {m : Setup} {b : Books} {calls : List CallLine} (f : Facts m b calls) (t : ℕ) (a : Account) (at : slice_get b.accounts t ≡ Some a) where
  -- the run of a new span
  pub gets_span : (r : Run) → a.class < length m.rows → a.off ≡ [] → IsPlaced m.huge b.heap (pages_of m.rows a.class) r
      → Facts m (books_with b b.stock (r ∷ b.heap) b.spans b.names t (record a { off = r ∷ []; apart = small (class_number a.class) r ∷ a.apart })) calls
  gets_span r below clear placed =
      let self = f.selves t a at in
      let s : SpanRef = small (class_number a.class) r in
      let w : Account = record a { off = r ∷ []; apart = s ∷ a.apart } in
      let off : (q : Run) → runs_like q a.off ≡ 0 = λ q. ap (runs_like q) clear in
      let class : IsOfClass m.rows s = record { class = a.class; kind = refl; there = below; pages = placed.pages; some = placed.some } in
      moved f t a w at b.stock (r ∷ b.heap) b.spans b.names calls f.kept (still f t a w at (r ∷ b.heap) b.spans b.names (λ x l. (
        omega (arith, l.live),
        l.unmapped,
        (
            let z : bit (same_run r l.run) ≡ 0 = grind (arith, nat_tests, same_run_is r l.run, like_at r b.heap) in
            omega (arith, z, l.unheld t a at)),
      ))) (heap_more f (pages_of m.rows a.class) r placed) f.cut (record {
        freeing = self.freeing;
        spans = All-cons (IsOfClass m.rows) s a.apart class self.spans;
        mapped = λ x. omega (arith, self.mapped x);
        whole = λ q. omega (arith, self.whole q, off q);
        offs = λ n. omega (arith, self.offs n);
        cleared = self.cleared;
      }) (labels_still f t a w at (λ x. refl) (λ x. refl) (λ x. refl) (λ x. refl) (λ x v. refl)) (record {
        map = λ q. omega (arith, f.map q, shift (off_map q) b.accounts t a w at, off q);
        own = λ k q. omega (arith, f.own k q, shift (transit (small (class_number k) q)) b.accounts t a w at);
        clear = λ q. omega (arith, f.clear q, shift (clearing (large q)) b.accounts t a w at);
      }) (record {
        places = λ n. omega (arith, f.places n, shift (held_at n) b.accounts t a w at);
        begins = λ n. omega (arith, f.begins n, shift (λ (x : Account). spans_at n x.apart) b.accounts t a w at);
        classes = λ k n. omega (arith, f.classes k n, shift (in_hand k n) b.accounts t a w at);
      })

  -- a large block's span comes into the map
  pub sets_run : (r : Run) → a.off ≡ r ∷ [] → spans_of_run r a.apart ≡ 0 → Facts m (books_with b b.stock b.heap (large r ∷ b.spans) b.names t (record a { off = [] })) calls
  sets_run r is none =
      let self = f.selves t a at in
      let w : Account = record a { off = [] } in
      let off : (q : Run) → runs_like q a.off ≡ bit (same_run r q) + 0 = λ q. ap (runs_like q) is in
      moved f t a w at b.stock b.heap (large r ∷ b.spans) b.names calls f.kept
      (still f t a w at b.heap (large r ∷ b.spans) b.names (λ x l. (l.live, (λ k. omega (arith, l.unmapped k, large_apart r l.run (class_number k))), l.unheld t a at)))
      (heap_facts f) f.cut (record {
        freeing = self.freeing;
        spans = self.spans;
        mapped = self.mapped;
        whole = grind (arith, nat_tests, same_run_is r, self.whole, off);
        offs = λ n. omega arith;
        cleared = self.cleared;
      }) (labels_still f t a w at (λ x. refl) (λ x. refl) (λ x. refl) (λ x. refl) (λ x v. refl)) (record {
        map = λ q. omega (arith, f.map q, shift (off_map q) b.accounts t a w at, off q);
        own = λ k q. omega (arith, f.own k q, shift (transit (small (class_number k) q)) b.accounts t a w at, large_apart r q (class_number k));
        clear = λ q. omega (arith, f.clear q, shift (clearing (large q)) b.accounts t a w at);
      }) (places_still f t a w at (λ n. refl) (λ n. refl) (λ k n. refl))

  -- as does a class's
  pub sets_span : (r : Run) (apart : List SpanRef) → a.off ≡ r ∷ [] → a.apart ≡ small (class_number a.class) r ∷ apart → a.mapped ≡ []
      → Facts m (books_with b b.stock b.heap (small (class_number a.class) r ∷ b.spans) b.names t (record a { off = []; mapped = small (class_number a.class) r ∷ [] })) calls
  sets_span r apart is first empty =
      let self = f.selves t a at in
      let s : SpanRef = small (class_number a.class) r in
      let w : Account = record a { off = []; mapped = s ∷ [] } in
      let off : (q : Run) → runs_like q a.off ≡ bit (same_run r q) + 0 = λ q. ap (runs_like q) is in
      let mapped : (x : SpanRef) → spans_like x a.mapped ≡ 0 = λ x. ap (spans_like x) empty in
      let none : (q : Run) → spans_of_run q a.mapped ≡ 0 = λ q. ap (spans_of_run q) empty in
      moved f t a w at b.stock b.heap (s ∷ b.spans) b.names calls f.kept (still f t a w at b.heap (s ∷ b.spans) b.names (λ x l.
      let e : spans_of_run l.run a.apart ≡ bit (same_run r l.run) + spans_of_run l.run apart = ap (spans_of_run l.run) first in
      (l.live, (λ k. omega (arith, l.unmapped k, e, l.unheld t a at, same_span_run s (small (class_number k) l.run))), l.unheld t a at))) (heap_facts f) f.cut (record {
        freeing = self.freeing;
        spans = self.spans;
        mapped = λ x. let e : spans_like x a.apart ≡ bit (same_span s x) + spans_like x apart = ap (spans_like x) first in omega (arith, e);
        whole = λ q. omega (arith, self.whole q, off q, none q);
        offs = λ n. omega arith;
        cleared = self.cleared;
      }) (labels_still f t a w at (λ x. refl) (λ x. refl) (λ x. refl) (λ x. refl) (λ x v. refl)) (record {
        map = λ q. omega (arith, f.map q, shift (off_map q) b.accounts t a w at, off q);
        own = λ k q. omega (arith, f.own k q, shift (transit (small (class_number k) q)) b.accounts t a w at, mapped (small (class_number k) q));
        clear = λ q. omega (arith, f.clear q, shift (clearing (large q)) b.accounts t a w at);
      }) (places_still f t a w at (λ n. refl) (λ n. refl) (λ k n. refl))

  -- a large block is found that is to be cleared
  nobody_clears : (label : Label) (r : Run) → a.doing ≡ Holds label (address_of r) → 0 < spans_like (large r) b.spans → a.clears ≡ [] → sum_by (clearing (large r)) b.accounts ≡ 0
  nobody_clears label r is there empty =
      let own : loose (first_byte r) a.doing ≡ 1 = ap (loose (first_byte r)) is ∙ ap bit (eq-eqb (first_byte r) (first_byte r) refl) in
      none_counts (clearing (large r)) b.accounts (λ i x other.
      elim (cases_eq i t) [
        | inl same ↦ grind (arith, one_at b.accounts i t x a other)
        | inr apart ↦ grind (arith, two (held_at (first_byte r)) b.accounts i t x a apart other, no_object m b calls f r there)
      ])

  pub finds_run : (label : Label) (r : Run) → a.doing ≡ Holds label (address_of r) → 0 < spans_like (large r) b.spans
      → a.clears ≡ [] → Facts m (books_with b b.stock b.heap b.spans b.names t (record a { clears = large r ∷ [] })) calls
  finds_run label r is there empty =
      let self = f.selves t a at in
      let w : Account = record a { clears = large r ∷ [] } in
      let none : (x : SpanRef) → spans_like x a.clears ≡ 0 = λ x. ap (spans_like x) empty in
      moved f t a w at b.stock b.heap b.spans b.names calls f.kept (still f t a w at b.heap b.spans b.names (λ x l. (l.live, l.unmapped, l.unheld t a at))) (heap_facts f) f.cut
      (record {
        freeing = self.freeing;
        spans = self.spans;
        mapped = self.mapped;
        whole = self.whole;
        offs = self.offs;
        cleared = λ q. omega (arith, ap (loose (first_byte q)) is, same_span_run (large r) (large q), same_run_start r q);
      }) (labels_still f t a w at (λ x. refl) (λ x. refl) (λ x. refl) (λ x. refl) (λ x v. refl)) (record {
        map = λ q. omega (arith, f.map q, shift (off_map q) b.accounts t a w at);
        own = λ k q. omega (arith, f.own k q, shift (transit (small (class_number k) q)) b.accounts t a w at);
        clear = grind (arith, nat_tests, same_run_is r, shift, nobody_clears label r is there empty, bit_most, same_span_run (large r));
      }) (places_still f t a w at (λ n. refl) (λ n. refl) (λ k n. refl))

  -- and its span goes from the map
  pub clears_run : (label : Label) (r : Run) → a.doing ≡ Holds label (address_of r) → a.clears ≡ large r ∷ [] → a.off ≡ []
      → Facts m (books_with b b.stock b.heap (without (large r) b.spans) b.names t (record a { clears = []; off = r ∷ [] })) calls
  clears_run label r is first empty =
      let self = f.selves t a at in
      let w : Account = record a { clears = []; off = r ∷ [] } in
      let off : (q : Run) → runs_like q a.off ≡ 0 = λ q. ap (runs_like q) empty in
      let cleared : (q : Run) → spans_like (large q) a.clears ≡ bit (same_span (large r) (large q)) + 0 = λ q. ap (spans_like (large q)) first in
      let own : bit (same_span (large r) (large r)) ≡ 1 = ap bit (same_span_refl (large r)) in
      let there : 0 < spans_like (large r) b.spans = omega (arith, f.clear r, least (clearing (large r)) b.accounts t a at, cleared r, own) in
      let gone : (x : SpanRef) → spans_like x (without (large r) b.spans) + bit (same_span (large r) x) ≡ spans_like x b.spans = λ x. without_counts (large r) b.spans there (like_span x) in
      moved f t a w at b.stock b.heap (without (large r) b.spans) b.names calls f.kept
      (still f t a w at b.heap (without (large r) b.spans) b.names (λ x l. (l.live, (λ k. let e = gone (small (class_number k) l.run) in omega (arith, l.unmapped k, e)), l.unheld t a at)))
      (heap_facts f) f.cut (record {
        freeing = self.freeing;
        spans = self.spans;
        mapped = self.mapped;
        whole = λ q. omega (arith, self.whole q, off q);
        offs = λ n. let e : loose n a.doing ≡ bit (eqb (first_byte r) n) = ap (loose n) is in omega (arith, e);
        cleared = λ q. omega arith;
      }) (labels_still f t a w at (λ x. refl) (λ x. refl) (λ x. refl) (λ x. refl) (λ x v. refl)) (record {
        map = λ q. let e = without_counts (large r) b.spans there (of_run q) in omega (arith, f.map q, shift (off_map q) b.accounts t a w at, off q, e);
        own = λ k q. let e = gone (small (class_number k) q) in omega (arith, f.own k q, shift (transit (small (class_number k) q)) b.accounts t a w at, e, large_apart r q (class_number k));
        clear = λ q. let e = gone (large q) in omega (arith, f.clear q, shift (clearing (large q)) b.accounts t a w at, e, cleared q);
      }) (places_still f t a w at (λ n. refl) (λ n. refl) (λ k n. refl))

  -- as does the span of a class that left its shard
  pub clears_span : (s : SpanRef) (mapped : List SpanRef) → a.mapped ≡ s ∷ mapped → a.off ≡ []
      → Facts m (books_with b b.stock b.heap (without s b.spans) b.names t (record a { mapped = mapped; off = run_of s ∷ [] })) calls
  clears_span s mapped first empty =
      let self = f.selves t a at in
      let w : Account = record a { mapped = mapped; off = run_of s ∷ [] } in
      let off : (q : Run) → runs_like q a.off ≡ 0 = λ q. ap (runs_like q) empty in
      let held : (x : SpanRef) → spans_like x a.mapped ≡ bit (same_span s x) + spans_like x mapped = λ x. ap (spans_like x) first in
      let own : bit (same_span s s) ≡ 1 = ap bit (same_span_refl s) in
      let some : 0 < spans_like s a.mapped = omega (arith, held s, own) in
      let class = mapped_class m b calls f t a s at some in
      let there = mapped_there m b calls f t a s at some in
      let gone : (x : SpanRef) → spans_like x (without s b.spans) + bit (same_span s x) ≡ spans_like x b.spans = λ x. without_counts s b.spans there (like_span x) in
      moved f t a w at b.stock b.heap (without s b.spans) b.names calls f.kept
      (still f t a w at b.heap (without s b.spans) b.names (λ x l. (l.live, (λ k. let e = gone (small (class_number k) l.run) in omega (arith, l.unmapped k, e)), l.unheld t a at)))
      (heap_facts f) f.cut (record {
        freeing = self.freeing;
        spans = self.spans;
        mapped = λ x. omega (arith, self.mapped x, held x);
        whole = λ q. let e : spans_of_run q a.mapped ≡ bit (same_run (run_of s) q) + spans_of_run q mapped = ap (spans_of_run q) first in omega (arith, self.whole q, off q, e);
        offs = λ n. elim (cases_eq (first_byte (run_of s)) n) [
          | inl same ↦
              let e : spans_at (first_byte (run_of s)) a.apart ≡ spans_at n a.apart = ap (λ k. spans_at k a.apart) same in
              omega (arith, e, self.mapped s, some, span_run s a.apart, run_at (run_of s) a.apart, bit_most (eqb (first_byte (run_of s)) n))
          | inr other ↦ let z : bit (eqb (first_byte (run_of s)) n) ≡ 0 = ap bit (ne_eqb (first_byte (run_of s)) n other) in omega (arith, z)
        ];
        cleared = self.cleared;
      }) (labels_still f t a w at (λ x. refl) (λ x. refl) (λ x. refl) (λ x. refl) (λ x v. refl)) (record {
        map = λ q. let e = without_counts s b.spans there (of_run q) in omega (arith, f.map q, shift (off_map q) b.accounts t a w at, off q, e);
        own = λ k q. let e = gone (small (class_number k) q) in omega (arith, f.own k q, shift (transit (small (class_number k) q)) b.accounts t a w at, e, held (small (class_number k) q));
        clear = λ q. let e = gone (large q) in omega (arith, f.clear q, shift (clearing (large q)) b.accounts t a w at, e, small_apart s (class_number class.class) q class.kind);
      }) (places_still f t a w at (λ n. refl) (λ n. refl) (λ k n. refl))

  -- and its run from the heap
  pub frees_span : (s : SpanRef) (apart : List SpanRef) → a.off ≡ run_of s ∷ [] → a.apart ≡ s ∷ apart → a.mapped ≡ apart
      → Facts m (books_with b b.stock (less (run_of s) b.heap) b.spans b.names t (record a { off = []; apart = apart })) calls
  frees_span s apart is first rest =
      let self = f.selves t a at in
      let w : Account = record a { off = []; apart = apart } in
      let off : (q : Run) → runs_like q a.off ≡ bit (same_run (run_of s) q) + 0 = λ q. ap (runs_like q) is in
      let own : bit (same_run (run_of s) (run_of s)) ≡ 1 = ap bit (same_run_refl (run_of s)) in
      let there : 0 < runs_like (run_of s) b.heap = (off_lives m b calls f t a (run_of s) at (omega (arith, off (run_of s), own))).0 in
      let gone : (q : Run) → runs_like q (less (run_of s) b.heap) + bit (same_run (run_of s) q) ≡ runs_like q b.heap = λ q. less_counts (run_of s) b.heap there (like q) in
      let starts : (n : ℕ) → spans_at n a.apart ≡ bit (eqb (first_byte (run_of s)) n) + spans_at n apart = λ n. ap (spans_at n) first in
      let held : (q : Run) → spans_of_run q a.apart ≡ bit (same_run (run_of s) q) + spans_of_run q apart = λ q. ap (spans_of_run q) first in
      moved f t a w at b.stock (less (run_of s) b.heap) b.spans b.names calls f.kept
      (still f t a w at (less (run_of s) b.heap) b.spans b.names (λ x l. (omega (arith, gone l.run, held l.run, l.unheld t a at, l.live), l.unmapped, omega (arith, held l.run, l.unheld t a at))))
      (heap_less f (run_of s) there) f.cut (record {
        freeing = self.freeing;
        spans = All-tail (IsOfClass m.rows) s apart (subst (All (IsOfClass m.rows)) first self.spans);
        mapped = λ x. let e : _ = ap (spans_like x) rest in omega (arith, e);
        whole = λ q. let e : _ = ap (spans_of_run q) rest in omega (arith, e);
        offs = λ n. omega arith;
        cleared = self.cleared;
      }) (labels_still f t a w at (λ x. refl) (λ x. refl) (λ x. refl) (λ x. refl) (λ x v. refl)) (record {
        map = λ q. let e = gone q in omega (arith, f.map q, shift (off_map q) b.accounts t a w at, off q, e);
        own = λ k q. omega (arith, f.own k q, shift (transit (small (class_number k) q)) b.accounts t a w at);
        clear = λ q. omega (arith, f.clear q, shift (clearing (large q)) b.accounts t a w at);
      }) (record {
        places = λ n. let e = less_counts (run_of s) b.heap there (starting n) in omega (arith, f.places n, shift (held_at n) b.accounts t a w at, starts n, e);
        begins = λ n. let e = less_counts (run_of s) b.heap there (starting n) in omega (arith, f.begins n, shift (λ (x : Account). spans_at n x.apart) b.accounts t a w at, starts n, e);
        classes = λ k n. omega (arith, f.classes k n, shift (in_hand k n) b.accounts t a w at);
      })
