-- What holds of the live runs, the map's spans and the objects between any two acts.
use Rattle.holdings.specs.Accounts.{Account, off_map, transit}
use Rattle.std.specs.Prelude.{All, sum_by}
use Rattle.std.proofs.lemmas.List.Elements.{All-head, All-tail, All-cons, All-nil}
use Rattle.holdings.specs.Books.{Books, IsOfClass, Setup, class_number, over_classes, size_of}
use Rattle.tc_model.specs.declared.answers.CallLine.{CallLine}
use Rattle.holdings.specs.Facts.{Facts}
use Rattle.tc_units.specs.declared.spans.SpanKind.TheVariants.{Large, Small}
use Rattle.std.proofs.Common.{List, Some, [], ap, arith, eqb, false, inl, inr, leb, length, ltb, subst, sym, true, ℕ, ◌*◌, ◌+◌}
use Rattle.std.proofs.Common.{◌/◌, ◌<◌, ◌∙◌, ◌∷◌, ◌≡◌, ◌≢◌, ◌≤◌, ◌⊎◌, Bool, refl, ◌&&◌}
use Rattle.tc_units.specs.declared.spans.Run.{Run}
use Rattle.tc_units.specs.declared.spans.SpanKind.{SpanKind}
use Rattle.tc_units.specs.declared.spans.SpanRef.{SpanRef}
use Rattle.std.proofs.lemmas.Bool.{and_from, and_parts, cases_Bool, cases_lt, eqb-true, false≢true, le-leb, leb-true, lt-ltb, ltb-true}
use Rattle.tc_model.specs.Chains.{at}
use Rattle.holdings.specs.Runs.{bit, block_of, first_byte, large, run_of, runs_at, runs_like, same_run, same_span, small, spans_at, spans_like, spans_of_run, same_kind}
use Rattle.tc_model.specs.Blocks.{meets}
use Rattle.tc_units.specs.Units.{page_bytes}
use Rattle.std.specs.List.{slice_get}
use Rattle.std.proofs.lemmas.Bool.Decides.{nat_tests}
use Rattle.tc_units.specs.declared.units.Class.{Class}
use Rattle.holdings.proofs.Sums.{among, bit_is, class_alone, class_counts, counts_both, counts_most, least, like, like_span, of_run, same_run_is}
use Rattle.holdings.proofs.Sums.{same_run_refl, same_run_start, same_span_is, same_span_refl, same_span_run, starting, starting_span}
use Rattle.page_map.specs.Spans as map

-- runs and spans in lists
pub like_at : (r : Run) (xs : List Run) → runs_like r xs ≤ runs_at (first_byte r) xs
like_at r xs = counts_most (like r) (starting (first_byte r)) (λ x. same_run_start x r) xs

pub span_run : (s : SpanRef) (xs : List SpanRef) → spans_like s xs ≤ spans_of_run (run_of s) xs
span_run s xs = counts_most (like_span s) (of_run (run_of s)) (λ x. same_span_run x s) xs

pub run_at : (r : Run) (xs : List SpanRef) → spans_of_run r xs ≤ spans_at (first_byte r) xs
run_at r xs = counts_most (of_run r) (starting_span (first_byte r)) (λ x. same_run_start (run_of x) r) xs

-- two that begin at one address, and two of one run
apart_runs : (r q x : Run) → same_run r q ≡ false → first_byte q ≡ first_byte r → bit (same_run x r) + bit (same_run x q) ≤ bit (eqb (first_byte x) (first_byte r))
apart_runs r q x other at = grind (arith, cases_Bool, eqb, same_run_is, same_run_start)

pub two_at : (r q : Run) (xs : List Run) → same_run r q ≡ false → first_byte q ≡ first_byte r → runs_like r xs + runs_like q xs ≤ runs_at (first_byte r) xs
two_at r q xs other at = counts_both (like r) (like q) (starting (first_byte r)) (λ x. apart_runs r q x other at) xs

apart_spans : (s t x : SpanRef) → same_span s t ≡ false → run_of t ≡ run_of s → bit (same_span x s) + bit (same_span x t) ≤ bit (same_run (run_of x) (run_of s))
apart_spans s t x other at = grind (arith, cases_Bool, same_span_is, same_span_run)

pub two_spans : (s t : SpanRef) (xs : List SpanRef) → same_span s t ≡ false → run_of t ≡ run_of s → spans_like s xs + spans_like t xs ≤ spans_of_run (run_of s) xs
two_spans s t xs other at = counts_both (like_span s) (like_span t) (of_run (run_of s)) (λ x. apart_spans s t x other at) xs

-- one that is counted
pub run_found : (n : ℕ) (xs : List Run) → 0 < runs_at n xs → (r : Run) × (first_byte r ≡ n) × (0 < runs_like r xs)
run_found n xs some =
    let a = among (starting n) xs some in
    let own : bit (same_run a.one a.one) ≡ 1 = ap bit (same_run_refl a.one) in
    (a.one, eqb-true (first_byte a.one) n (bit_is (eqb (first_byte a.one) n) a.some), omega (arith, own, a.least (runs_like a.one) (λ (x : Run). bit (same_run x a.one)) (like a.one)))

pub span_found : (r : Run) (xs : List SpanRef) → 0 < spans_of_run r xs → (s : SpanRef) × (run_of s ≡ r) × (0 < spans_like s xs)
span_found r xs some =
    let a = among (of_run r) xs some in
    let own : bit (same_span a.one a.one) ≡ 1 = ap bit (same_span_refl a.one) in
    (a.one, same_run_is (run_of a.one) r (bit_is (same_run (run_of a.one) r) a.some), omega (arith, own, a.least (spans_like a.one) (λ (x : SpanRef). bit (same_span x a.one)) (like_span a.one)))

pub span_at_found : (n : ℕ) (xs : List SpanRef) → 0 < spans_at n xs → (s : SpanRef) × (first_byte (run_of s) ≡ n) × (0 < spans_like s xs)
span_at_found n xs some =
    let a = among (starting_span n) xs some in
    let own : bit (same_span a.one a.one) ≡ 1 = ap bit (same_span_refl a.one) in
    (a.one, eqb-true _ n (bit_is (eqb (first_byte (run_of a.one)) n) a.some), omega (arith, own, a.least (spans_like a.one) (λ (x : SpanRef). bit (same_span x a.one)) (like_span a.one)))

-- what all spans have
pub span_all : (P : SpanRef → Type 0) (s : SpanRef) (xs : List SpanRef) → All P xs → 0 < spans_like s xs → P s
span_all P s [] all some = absurd (omega arith)
span_all P s (x ∷ xs) all some = grind (arith, nat_tests, span_all P s xs (All-tail P x xs all), same_span_is, All-head, All-tail)

pub all_spans : (P : SpanRef → Type 0) (xs : List SpanRef) → ((s : SpanRef) → 0 < spans_like s xs → P s) → All P xs
all_spans P [] each = All-nil P
all_spans P (x ∷ xs) each = All-cons P x xs (each x (let e : bit (same_span x x) ≡ 1 = ap bit (same_span_refl x) in omega (arith, e))) (all_spans P xs (λ s some. each s (omega (arith, some))))

-- a span of a class, written with its run
pub is_small : (s : SpanRef) (k : ℕ) → s.kind ≡ Small (class_number k) → small (class_number k) (run_of s) ≡ s
is_small s k is = ap (λ (x : SpanKind). record { first = s.first; pages = s.pages; kind = x }) (sym is)

pub is_large : (s : SpanRef) → s.kind ≡ Large → large (run_of s) ≡ s
is_large s is = ap (λ (x : SpanKind). record { first = s.first; pages = s.pages; kind = x }) (sym is)

pub one_number : (j k : ℕ) → Small (class_number j) ≡ Small (class_number k) → j ≡ k
one_number j k is = let e : class_number j ≡ class_number k = cc in ap (λ (c : Class). c.0) e

pub same_start : (r q : Run) (n : ℕ) → r ≡ q → first_byte q ≡ n → first_byte r ≡ n
same_start r q n is at = ap (λ (x : Run). first_byte x) is ∙ at

and_false : (p : Bool) → bit (p && false) ≡ 0
and_false true = refl
and_false false = refl

-- spans of classes and of large blocks aren't one
pub small_apart : (s : SpanRef) (c : Class) (r : Run) → s.kind ≡ Small c → bit (same_span s (large r)) ≡ 0
small_apart s c r is = ap (λ (k : SpanKind). bit (same_run (run_of s) r && same_kind k Large)) is ∙ and_false (same_run (run_of s) r)

pub large_apart : (r q : Run) (c : Class) → bit (same_span (large r) (small c q)) ≡ 0
large_apart r q c = and_false (same_run r q)

-- runs with no byte in common have no page in common
pub run_pages : (r q : Run) → 0 < r.pages → 0 < q.pages → meets (block_of r) (block_of q) ≡ false → (r.first.0 + r.pages ≤ q.first.0) ⊎ (q.first.0 + q.pages ≤ r.first.0)
run_pages r q some more apart = grind (arith, and_from, cases_lt, false≢true, lt-ltb)

-- a byte of a run
abbrev pub HasByte : Run → ℕ → Type 0
HasByte r n = (first_byte r ≤ n) × (n < (r.first.0 + r.pages) * page_bytes)

pub page_byte : (s : SpanRef) (n : ℕ) → map.holds (n / page_bytes) s ≡ true → HasByte (run_of s) n
page_byte s n is = grind (arith, and_parts, leb, leb-true, ltb, ltb-true)

pub byte_page : (s : SpanRef) (n : ℕ) → HasByte (run_of s) n → map.holds (n / page_bytes) s ≡ true
byte_page s n at = and_from _ _ (le-leb s.first.0 (n / page_bytes) (omega (arith, at.0))) (lt-ltb (n / page_bytes) (s.first.0 + s.pages) (omega (arith, at.1)))

module _ (m : Setup) (b : Books) (calls : List CallLine) (f : Facts m b calls) where
  pub once_live : (r : Run) → runs_like r b.heap ≤ 1
  once_live r = omega (arith, like_at r b.heap, f.starts (first_byte r))

  -- live runs that begin at one address are one, as are those that have a byte in common
  pub one_start : (r q : Run) → 0 < runs_like r b.heap → 0 < runs_like q b.heap → first_byte q ≡ first_byte r → r ≡ q
  one_start r q live live' at = grind (arith, cases_Bool, same_run_is, two_at)

  pub one_byte : (r q : Run) (n : ℕ) → 0 < runs_like r b.heap → 0 < runs_like q b.heap → HasByte r n → HasByte q n → r ≡ q
  one_byte r q n live live' has has' = grind (arith, cases_Bool, run_pages, same_run_is)

  -- the map's spans live, and those of one run are one
  pub span_lives : (s : SpanRef) → 0 < spans_like s b.spans → 0 < runs_like (run_of s) b.heap
  span_lives s there = omega (arith, span_run s b.spans, f.map (run_of s), there)

  pub one_span : (s t : SpanRef) → 0 < spans_like s b.spans → 0 < spans_like t b.spans → run_of t ≡ run_of s → s ≡ t
  one_span s t there there' at = grind (arith, cases_Bool, once_live, same_span_is, two_spans)

  -- a run off the map isn't in the map, and lives
  pub off_lives : (i : ℕ) (a : Account) (r : Run) → slice_get b.accounts i ≡ Some a → 0 < runs_like r a.off → (0 < runs_like r b.heap) × (spans_of_run r b.spans ≡ 0)
  off_lives i a r at off =
      let l = least (off_map r) b.accounts i a at in
      (omega (arith, l, f.map r, off), omega (arith, l, f.map r, once_live r, off))

  -- a shard's span, and one that a call holds and the map has, are the map's
  pub class_spans : (s : SpanRef) (k : ℕ) → s.kind ≡ Small (class_number k) → b.stock.owned s + sum_by (transit s) b.accounts ≡ spans_like s b.spans
  class_spans s k is = subst (λ (x : SpanRef). b.stock.owned x + sum_by (transit x) b.accounts ≡ spans_like x b.spans) (is_small s k is) (f.own k (run_of s))

  pub owned_there : (s : SpanRef) → 0 < b.stock.owned s → 0 < spans_like s b.spans
  owned_there s own = let c = f.cut.kinds s own in omega (arith, own, class_spans s c.class c.kind)

  pub of_class : (i : ℕ) (a : Account) (s : SpanRef) → slice_get b.accounts i ≡ Some a → 0 < spans_like s a.apart → IsOfClass m.rows s
  of_class i a s at there = span_all (IsOfClass m.rows) s a.apart (f.selves i a at).spans there

  pub mapped_class : (i : ℕ) (a : Account) (s : SpanRef) → slice_get b.accounts i ≡ Some a → 0 < spans_like s a.mapped → IsOfClass m.rows s
  mapped_class i a s at there = of_class i a s at (omega (arith, there, (f.selves i a at).mapped s))

  pub mapped_there : (i : ℕ) (a : Account) (s : SpanRef) → slice_get b.accounts i ≡ Some a → 0 < spans_like s a.mapped → 0 < spans_like s b.spans
  mapped_there i a s at there = let c = mapped_class i a s at there in omega (arith, there, class_spans s c.class c.kind, least (transit s) b.accounts i a at)

  -- a span that a call holds lives
  pub apart_lives : (i : ℕ) (a : Account) (r : Run) → slice_get b.accounts i ≡ Some a → 0 < spans_of_run r a.apart → 0 < runs_like r b.heap
  apart_lives i a r at there = grind (arith, nat_tests, span_found, span_lives, mapped_there, off_lives)

  -- an object's span
  pub record Span (k n : ℕ) : Type 0 where
    pub span : SpanRef
    pub owned : 0 < b.stock.owned span
    pub there : 0 < spans_like span b.spans
    pub live : 0 < runs_like (run_of span) b.heap
    pub kind : span.kind ≡ Small (class_number k)
    pub class : k < length m.rows
    pub some : 0 < size_of m.rows k
    pub from : first_byte (run_of span) ≤ n
    pub to : n + size_of m.rows k ≤ (span.first.0 + span.pages) * page_bytes
    pub byte : HasByte (run_of span) n

  pub span_of : (k n : ℕ) → 0 < b.stock.objects k n → Span k n
  span_of k n some =
      let l = f.cut.lies k n some in
      let there = owned_there l.span l.owned in
      let z = f.cut.some k n some in
      grind (arith, span_lives l.span there)

  -- no object is in a large block
  pub no_object : (r : Run) → 0 < spans_like (large r) b.spans → over_classes m.rows (λ k. b.stock.objects k (first_byte r)) ≡ 0
  no_object r there =
      elim (cases_lt 0 (over_classes m.rows (λ k. b.stock.objects k (first_byte r)))) [
        | inl some ↦
            let c = class_counts m.rows (λ k. b.stock.objects k (first_byte r)) some in
            let s = span_of c.0 (first_byte r) c.1 in
            let live = span_lives (large r) there in
            let e : run_of s.span ≡ r = one_byte (run_of s.span) r (first_byte r) s.live live s.byte (let some = (f.inside r live).some in (omega arith, omega (arith, some))) in
            let is : s.span ≡ large r = one_span s.span (large r) s.there there (sym e) in
            let kinds : Small (class_number c.0) ≡ Large = sym s.kind ∙ ap (λ (x : SpanRef). x.kind) is in
            absurd (cc)
        | inr none ↦ omega (arith, none)
      ]

  -- objects at one address are of one class, and one object
  pub one_class : (j k n : ℕ) → 0 < b.stock.objects j n → 0 < b.stock.objects k n → j ≡ k
  one_class j k n some more =
      let s = span_of j n some in
      let t = span_of k n more in
      let e : s.span ≡ t.span = one_span s.span t.span s.there t.there (sym (one_byte (run_of s.span) (run_of t.span) n s.live t.live s.byte t.byte)) in
      let kinds : Small (class_number j) ≡ Small (class_number k) = sym s.kind ∙ (ap (λ (x : SpanRef). x.kind) e ∙ t.kind) in
      one_number j k kinds

  pub objects_once : (k n : ℕ) → 0 < b.stock.objects k n → over_classes m.rows (λ j. b.stock.objects j n) ≡ 1
  objects_once k n some =
      let alone : (j : ℕ) → j ≢ k → b.stock.objects j n ≡ 0 =
      λ j other. elim (cases_lt 0 (b.stock.objects j n)) [ inl more ↦ absurd (other (one_class j k n more some)) | inr none ↦ omega arith ] in
      omega (arith, class_alone m.rows (λ j. b.stock.objects j n) k (f.cut.class k n some) alone, f.cut.once k n, some)
