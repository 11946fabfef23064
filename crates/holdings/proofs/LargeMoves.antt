-- Large blocks: an allocation with a run and with none, and a free.
use Rattle.holdings.specs.Accounts.{Account, Asks, Holds, Other, Publishes, clearing, held_at, in_hand, loose, off_map, transit}
use Rattle.std.specs.Prelude.{All, sum_by}
use Rattle.tc_model.specs.declared.answers.Answer.{Answer}
use Rattle.tc_model.specs.declared.answers.Answer.TheVariants.{Block, Freed, NoBlock}
use Rattle.holdings.specs.Books.{Books, Setup, class_number}
use Rattle.tc_model.specs.declared.answers.CallLine.{CallLine}
use Rattle.tc_model.specs.Blocks.{Extent, blocks_after, meets}
use Rattle.holdings.specs.Facts.{Facts, IsLarge, IsObject, IsStanding}
use Rattle.tc_model.specs.declared.calls.Call.TheVariants.{Free, Malloc}
use Rattle.holdings.specs.Runs.{IsPlaced, address_of, bit, block_of, first_byte, large, less, run_of, runs_like, same_run, small, spans_at, spans_like, spans_of_run}
use Rattle.tc_units.specs.declared.units.Label.{Label}
use Rattle.std.proofs.Common.{List, None, Some, [], ap, arith, eqb, false, inl, inr, ltb, not, refl, subst, sym, ℕ, ◌*◌, ◌++◌, ◌+◌, ◌<◌, ◌∷◌, ◌≡◌, ◌≤◌}
use Rattle.tc_units.specs.declared.spans.Run.{Run}
use Rattle.tc_units.specs.declared.spans.SpanRef.{SpanRef}
use Rattle.holdings.specs.Moves.{about, books_with}
use Rattle.std.proofs.lemmas.Bool.{and_from, and_parts, cases_Bool, cases_eq, cases_lt, false≢true, lt-ltb, ltb-true, ne_eqb}
use Rattle.tc_units.specs.Classes.{length_of}
use Rattle.tc_units.specs.Units.{page_bytes, pages_holding}
use Rattle.tc_units.proofs.SortedFacts.{All-with_item}
use Rattle.std.specs.List.{slice_get}
use Rattle.std.proofs.lemmas.Bool.Decides.{nat_tests}
use Rattle.holdings.proofs.Sums.{All-kept, All-weaken, less_counts, like, none_counts, none_meets, one_at, same_run_is, same_run_refl, set_cases, shift, starting, two}
use Rattle.holdings.proofs.CallFacts.{blocks_after-push}
use Rattle.holdings.proofs.MapFacts.{apart_lives, like_at, mapped_there, off_lives, once_live, one_start, owned_there, same_start, span_at_found, span_found, span_lives, span_of, span_run}
use Rattle.holdings.proofs.Labels.{by_holds, labels_freed, labels_got, unanswered, value_returned}
use Rattle.holdings.proofs.Standing.{has_block}
use Rattle.holdings.proofs.Groups.{heap_facts, heap_less, heap_more, large_still, moved, places_still, spans_still, still}
use Rattle.holdings.proofs.KeptFacts.{kept_block, kept_freed, kept_none}

pub meets_inner : (c x y : Extent) → y.addr ≤ x.addr → x.addr + x.len ≤ y.addr + y.len → meets c y ≡ false → meets c x ≡ false
meets_inner c x y from to apart = grind (arith, and_from, and_parts, cases_Bool, false≢true, lt-ltb, ltb, ltb-true)

module _ {m : Setup} {b : Books} {calls : List CallLine} (f : Facts m b calls) (t : ℕ) (a : Account) (at : slice_get b.accounts t ≡ Some a) where
  -- an object lies in its span's block
  pub object_inner : (c x : Extent) (o : IsObject m.rows b x) → ((s : SpanRef) → 0 < b.stock.owned s → meets c (block_of (run_of s)) ≡ false) → meets c x ≡ false
  object_inner c x o apart =
      let s = span_of m b calls f o.class x.addr o.object in
      meets_inner c x (block_of (run_of s.span)) s.from (omega (arith, s.to, o.size)) (apart s.span s.owned)

  pub gets_none : (label : Label) (size : ℕ) → a.doing ≡ Asks label size
      → Facts m (books_with b b.stock b.heap b.spans b.names t (about a (Publishes label None))) (calls ++ record { thread = record { 0 = t }; call = Malloc label size; answer = NoBlock } ∷ [])
  gets_none label size is =
      let self = f.selves t a at in
      let c : CallLine = record { thread = record { 0 = t }; call = Malloc label size; answer = NoBlock } in
      let w : Account = about a (Publishes label None) in
      let zero_held : (n : ℕ) → loose n a.doing ≡ 0 = λ n. ap (loose n) is in
      moved f t a w at b.stock b.heap b.spans b.names (calls ++ c ∷ []) (kept_none f.kept (record { 0 = t }) label size)
      (rw (blocks_after-push calls c) (still f t a w at b.heap b.spans b.names (λ x l. (l.live, l.unmapped, l.unheld t a at)))) (heap_facts f) f.cut (record {
        freeing = λ l o e. absurd (cc);
        spans = self.spans;
        mapped = self.mapped;
        whole = self.whole;
        offs = λ n. let z = zero_held n in omega (arith, self.offs n, z);
        cleared = λ q. let z = zero_held (first_byte q) in omega (arith, self.cleared q, z);
      }) (labels_got f t a at w refl label size NoBlock is refl) (spans_still f t a w at b.stock.owned (λ r. refl) (λ s. refl) (λ s. refl))
      (places_still f t a w at (λ n. let z = zero_held n in omega (arith, z)) (λ n. refl) (λ k n. refl))

  pub gets_run : (label : Label) (size : ℕ) (r : Run) → a.doing ≡ Asks label size → a.off ≡ []
      → IsPlaced m.huge b.heap (pages_holding size) r → length_of m.rows size ≡ r.pages * page_bytes
      → Facts m (books_with b b.stock (r ∷ b.heap) b.spans b.names t (record (about a (Publishes label (Some (address_of r)))) { off = r ∷ [] }))
      (calls ++ record { thread = record { 0 = t }; call = Malloc label size; answer = Block (address_of r) (r.pages * page_bytes) } ∷ [])
  gets_run label size r is empty placed length_is =
      let self = f.selves t a at in
      let answer : Answer = Block (address_of r) (r.pages * page_bytes) in
      let c : CallLine = record { thread = record { 0 = t }; call = Malloc label size; answer = answer } in
      let w : Account = record (about a (Publishes label (Some (address_of r)))) { off = r ∷ [] } in
      let zero_held : (n : ℕ) → loose n a.doing ≡ 0 = λ n. ap (loose n) is in
      let off : (q : Run) → runs_like q a.off ≡ 0 = λ q. ap (runs_like q) empty in
      let unlike : runs_like r b.heap ≡ 0 = omega (arith, like_at r b.heap, placed.fresh) in
      let apart = All-weaken (IsStanding m.rows b) (λ (x : Extent). meets (block_of r) x ≡ false) (blocks_after calls) (λ x stands. elim stands [
        | inl l ↦ subst (λ (y : Extent). meets (block_of r) y ≡ false) (sym l.is) (placed.apart l.run l.live)
        | inr o ↦ object_inner (block_of r) x o (λ s own. placed.apart (run_of s) (span_lives m b calls f s (owned_there m b calls f s own)))
      ]) f.live in
      let unheld : (i : ℕ) (x : Account) → slice_get b.accounts i ≡ Some x → spans_of_run r x.apart ≡ 0 =
      λ i x other. elim (cases_lt 0 (spans_of_run r x.apart)) [ inl some ↦ absurd (omega (arith, unlike, apart_lives m b calls f i x r other some)) | inr none ↦ omega (arith, none) ] in
      let new : IsLarge (books_with b b.stock (r ∷ b.heap) b.spans b.names t w) (block_of r) =
      record {
        run = r;
        is = refl;
        live = (let e : bit (same_run r r) ≡ 1 = ap bit (same_run_refl r) in omega (arith, e));
        unmapped = λ k. omega (arith, unlike, f.map r, span_run (small (class_number k) r) b.spans);
        unheld = λ i x other. elim (set_cases b.accounts t a w at i x other) [ inl same ↦ subst (λ (y : Account). spans_of_run r y.apart ≡ 0) same (unheld t a at) | inr old ↦ unheld i x old ];
      } in
      moved f t a w at b.stock (r ∷ b.heap) b.spans b.names (calls ++ c ∷ [])
      (kept_block f.kept (record { 0 = t }) label size (address_of r) (r.pages * page_bytes) (unanswered f t a at label size is)
      (record { inside = placed.inside; apart = none_meets (block_of r) (blocks_after calls) apart }) (sym length_is) placed.inside.some)
      (rw (blocks_after-push calls c) (All-with_item (λ (b : Extent). b.addr) (IsStanding m.rows (books_with b b.stock (r ∷ b.heap) b.spans b.names t w)) (block_of r) (blocks_after calls) (inl new)
      (still f t a w at (r ∷ b.heap) b.spans b.names (λ x l. (omega (arith, l.live), l.unmapped, l.unheld t a at))))) (heap_more f (pages_holding size) r placed) f.cut
      (record {
        freeing = λ l o e. absurd (cc);
        spans = self.spans;
        mapped = self.mapped;
        whole = λ q. let z = off q in omega (arith, self.whole q, z);
        offs = λ n. omega arith;
        cleared = λ q. let z = zero_held (first_byte q) in omega (arith, self.cleared q, z);
      }) (labels_got f t a at w refl label size answer is refl) (record {
        map = λ q. omega (arith, f.map q, shift (off_map q) b.accounts t a w at, off q);
        own = λ k q. omega (arith, f.own k q, shift (transit (small (class_number k) q)) b.accounts t a w at);
        clear = λ q. omega (arith, f.clear q, shift (clearing (large q)) b.accounts t a w at);
      }) (record {
        places = λ n. omega (arith, f.places n, shift (held_at n) b.accounts t a w at, zero_held n);
        begins = λ n. omega (arith, f.begins n, shift (λ (x : Account). spans_at n x.apart) b.accounts t a w at);
        classes = λ k n. omega (arith, f.classes k n, shift (in_hand k n) b.accounts t a w at);
      })

  -- where a large block off the map begins, no shard's span begins, and none that a call holds
  none_begins : (r : Run) → 0 < runs_like r a.off → a.apart ≡ [] → (b.stock.begins (first_byte r) ≡ 0) × (sum_by (λ (x : Account). spans_at (first_byte r) x.apart) b.accounts ≡ 0)
  none_begins r some empty =
      let l = off_lives m b calls f t a r at some in
      let unmapped : (s : SpanRef) → 0 < spans_like s b.spans → run_of s ≡ r → ⊥ =
      λ s there same. omega (arith, ap (λ (q : Run). spans_of_run q b.spans) same, l.1, there, span_run s b.spans) in (
        elim (cases_lt 0 (b.stock.begins (first_byte r))) [
          | inl more ↦
              let s = f.cut.begun (first_byte r) more in
              let there = owned_there m b calls f s.span s.owned in
              absurd (unmapped s.span there (sym (one_start m b calls f r (run_of s.span) l.0 (span_lives m b calls f s.span there) s.start)))
          | inr none ↦ omega (arith, none)
        ],
        none_counts (λ (x : Account). spans_at (first_byte r) x.apart) b.accounts (λ i x other. elim (cases_lt 0 (spans_at (first_byte r) x.apart)) [
          | inl more ↦
              let s = span_at_found (first_byte r) x.apart more in
              let held : 0 < spans_of_run (run_of s.0) x.apart = omega (arith, s.2, span_run s.0 x.apart) in
              let same : r ≡ run_of s.0 = one_start m b calls f r (run_of s.0) l.0 (apart_lives m b calls f i x (run_of s.0) other held) s.1 in
              let again : 0 < spans_of_run r x.apart = subst (λ (q : Run). 0 < spans_of_run q x.apart) (sym same) held in
              absurd (elim (cases_lt 0 (spans_of_run r x.mapped)) [
                | inl mapped ↦ let u = span_found r x.mapped mapped in unmapped u.0 (mapped_there m b calls f i x u.0 other u.2) u.1
                | inr unmapped_there ↦ elim (cases_eq i t) [
                  | inl here ↦ grind (arith, one_at b.accounts i t x a other)
                  | inr apart ↦ omega (arith, two (off_map r) b.accounts i t x a apart other at, some, again, unmapped_there, (f.selves i x other).whole r, f.map r, once_live m b calls f r)
                ]
              ])
          | inr none ↦ omega (arith, none)
        ]),
      )

  pub frees_run : (label : Label) (r : Run) → a.doing ≡ Holds label (address_of r) → a.off ≡ r ∷ [] → a.apart ≡ [] → a.clears ≡ []
      → Facts m (books_with b b.stock (less r b.heap) b.spans b.names t (record (about a Other) { off = [] }))
      (calls ++ record { thread = record { 0 = t }; call = Free label; answer = Freed (address_of r) } ∷ [])
  frees_run label r is first empty clear =
      let self = f.selves t a at in
      let c : CallLine = record { thread = record { 0 = t }; call = Free label; answer = Freed (address_of r) } in
      let w : Account = record (about a Other) { off = [] } in
      let held : (n : ℕ) → loose n a.doing ≡ bit (eqb (first_byte r) n) = λ n. ap (loose n) is in
      let off : (q : Run) → runs_like q a.off ≡ bit (same_run r q) + 0 = λ q. ap (runs_like q) first in
      let own : bit (same_run r r) ≡ 1 = ap bit (same_run_refl r) in
      let some : 0 < runs_like r a.off = omega (arith, off r, own) in
      let there : 0 < runs_like r b.heap = (off_lives m b calls f t a r at some).0 in
      let gone : (q : Run) → runs_like q (less r b.heap) + bit (same_run r q) ≡ runs_like q b.heap = λ q. less_counts r b.heap there (like q) in
      let returns = by_holds label (address_of r) a.doing is in
      let block = has_block calls label.0 (address_of r) (value_returned f t a at label (address_of r) returns) in
      let none = none_begins r some empty in
      moved f t a w at b.stock (less r b.heap) b.spans b.names (calls ++ c ∷ []) (kept_freed f.kept (record { 0 = t }) label (address_of r) block.0 block.1)
      (subst (All (IsStanding m.rows (books_with b b.stock (less r b.heap) b.spans b.names t w))) (sym (blocks_after-push calls c))
      (All-kept (IsStanding m.rows b) (IsStanding m.rows (books_with b b.stock (less r b.heap) b.spans b.names t w)) (λ (x : Extent). not (eqb x.addr (first_byte r))) _ (λ x stands apart. elim stands [
        | inl l ↦ grind (arith, nat_tests, large_still f t a w, same_start l.run r (first_byte r), same_run_is r l.run, gone l.run, l.unheld t a)
        | inr o ↦ inr (record { class = o.class; object = o.object; size = o.size })
      ]) f.live)) (heap_less f r there) f.cut (record {
        freeing = λ l o e. absurd (cc);
        spans = self.spans;
        mapped = self.mapped;
        whole = λ q. let e : spans_of_run q a.apart ≡ 0 = ap (spans_of_run q) empty in omega (arith, e);
        offs = λ n. omega arith;
        cleared = λ q. let e : _ = ap (spans_like (large q)) clear in omega (arith, e);
      }) (labels_freed f t a at w refl label (address_of r) returns refl) (record {
        map = λ q. let e = gone q in omega (arith, f.map q, shift (off_map q) b.accounts t a w at, off q, e);
        own = λ k q. omega (arith, f.own k q, shift (transit (small (class_number k) q)) b.accounts t a w at);
        clear = λ q. omega (arith, f.clear q, shift (clearing (large q)) b.accounts t a w at);
      }) (record {
        places = λ n. let e = less_counts r b.heap there (starting n) in omega (arith, f.places n, shift (held_at n) b.accounts t a w at, held n, e);
        begins = λ n.
            let e = less_counts r b.heap there (starting n) in
            elim (cases_eq (first_byte r) n) [
              | inl same ↦ grind (arith, shift (λ (x : Account). spans_at n x.apart) b.accounts t a w)
              | inr other ↦ omega (arith, ap bit (ne_eqb (first_byte r) n other), e, f.begins n, shift (λ (x : Account). spans_at n x.apart) b.accounts t a w at)
            ];
        classes = λ k n. omega (arith, f.classes k n, shift (in_hand k n) b.accounts t a w at);
      })
