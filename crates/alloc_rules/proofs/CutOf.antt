-- The stock of sound shards is cut into objects.
use Rattle.std.proofs.Common.{◌≡◌, ℕ, ◌<◌, ◌≤◌, List, length, Some, sym, ap, ◌∙◌, arith, inl, inr, All, slice_get}
use Rattle.alloc_rules.proofs.Common.{cases_lt, get_or_past, sum_by-le-sum_by, All-map, All-weaker, slice_get_within, get_or_from_slice_get, slice_get-get_or, first_shard}
use Rattle.alloc_rules.proofs.Common.{ClassRow, SpanRef, Small, SpanState, IsOfRow, Shard, spans_in, objects_in_spans, found_at, IsCutInto, LiesInSpan}
use Rattle.alloc_rules.proofs.Common.{spans_cut, first_byte, run_of, same_span, objects_at, spans_like, spans_at, class_number, no_class, size_of, IsOfClass}
use Rattle.alloc_rules.proofs.Common.{LiesIn, Begins, IsCut, least, counted, like_span, starting_span, counts_most, same_span_refl, same_span_run}
use Rattle.alloc_rules.proofs.Common.{same_run_start, span_all, span_at_found, Parts, shard_at, stock_of, IsShardOf, FrontRules, About}
use Rattle.alloc_rules.proofs.Counting.{begun_count, objects_count, spans_count}

-- the spans of a shard are of its row
pub row_pages : (x : Shard) → All (IsOfRow x.central.row) x.central.spans → All (λ (s : SpanRef). s.pages ≡ x.central.row.pages) (spans_in x)
row_pages x all =
    let P : SpanRef → Type 0 = λ s. s.pages ≡ x.central.row.pages in
    All-map P (λ (y : SpanState). y.span) x.central.spans (All-weaker (IsOfRow x.central.row) (λ (y : SpanState). y.span.pages ≡ x.central.row.pages) (λ y of. of.pages) x.central.spans all)

module _ {P V R : Type 0} (r : FrontRules P V R) (about : R → About) (rows : List ClassRow) (p : Parts P)
    (classes : length p.shards ≡ length rows) (shards : (k : ℕ) (x : Shard) → slice_get p.shards k ≡ Some x → IsShardOf rows k x) where
  there : (k : ℕ) → k < length rows → IsShardOf rows k (shard_at p.shards k)
  there k below = shards k (shard_at p.shards k) (slice_get-get_or p.shards k (first_shard 0 0 no_class) (omega (arith, classes, below)))

  none_past : (k n : ℕ) → length rows ≤ k → (stock_of r about p).objects k n ≡ 0
  none_past k n past = ap (λ (x : Shard). objects_at n (objects_in_spans x)) (get_or_past p.shards k (first_shard 0 0 no_class) (omega (arith, classes, past)))

  found_class : (k n : ℕ) → 0 < (stock_of r about p).objects k n → k < length rows
  found_class k n some = elim (cases_lt k (length rows)) [ inl below ↦ below | inr past ↦ absurd (omega (arith, some, none_past k n past)) ]

  size_is : (k : ℕ) → k < length rows → size_of rows k ≡ (shard_at p.shards k).central.row.size
  size_is k below = grind (arith, get_or_from_slice_get, there)

  cut_at : (k : ℕ) → k < length rows → IsCutInto (shard_at p.shards k)
  cut_at k below = spans_cut (shard_at p.shards k) (there k below).sound

  found : (k n : ℕ) → 0 < (stock_of r about p).objects k n → 0 < found_at n (objects_in_spans (shard_at p.shards k))
  found k n some = omega (arith, some, objects_count n (objects_in_spans (shard_at p.shards k)))

  lies_of : (k a : ℕ) → k < length rows → LiesInSpan (shard_at p.shards k) a → LiesIn rows (stock_of r about p) k a
  lies_of k a below lies =
      let x : Shard = shard_at p.shards k in
      let member : 0 < spans_like lies.span (spans_in x) = omega (arith, lies.member (λ (y : SpanRef). same_span y lies.span) (same_span_refl lies.span), spans_count lies.span (spans_in x)) in
      let sum = least (λ (y : Shard). spans_like lies.span (spans_in y)) p.shards k x (slice_get-get_or p.shards k (first_shard 0 0 no_class) (omega (arith, classes, below))) in
      grind (
        arith,
        span_all (λ (s : SpanRef). s.kind ≡ Small (class_number k)) lies.span (spans_in x) (there k below).kinds member,
        there k below,
        size_is k below,
      )

  of_class : (k : ℕ) (x : Shard) (s : SpanRef) → slice_get p.shards k ≡ Some x → 0 < spans_like s (spans_in x) → IsOfClass rows s
  of_class k x s is some =
      let of = shards k x is in
      let pages : s.pages ≡ x.central.row.pages = span_all (λ (y : SpanRef). y.pages ≡ x.central.row.pages) s (spans_in x) (row_pages x of.sound.of_row) some in
      record {
        class = k;
        kind = span_all (λ (y : SpanRef). y.kind ≡ Small (class_number k)) s (spans_in x) of.kinds some;
        there = omega (arith, classes, slice_get_within p.shards k x is);
        pages = pages ∙ sym (ap (λ (r : ClassRow). r.pages) (get_or_from_slice_get rows k x.central.row no_class of.row));
        some = omega (arith, pages, of.sound.some, of.sound.fits);
      }

  begins_of : (k a : ℕ) (x : Shard) → slice_get p.shards k ≡ Some x → 0 < spans_at a (spans_in x) → Begins rows (stock_of r about p) a
  begins_of k a x is some =
      let of = shards k x is in
      let s = span_at_found a (spans_in x) some in
      let sum = least (λ (y : Shard). spans_like s.0 (spans_in y)) p.shards k x is in
      let cut = spans_cut x of.sound in
      let object = cut.begun a (omega (arith, some, begun_count a (spans_in x))) in
      let same : (stock_of r about p).objects k a ≡ objects_at a (objects_in_spans x) = ap (λ (y : Shard). objects_at a (objects_in_spans y)) (get_or_from_slice_get p.shards k x (first_shard 0 0 no_class) is) in
      record { class = k; span = s.0; owned = omega (arith, sum, s.2); start = s.1; object = omega (arith, same, object, objects_count a (objects_in_spans x)) }

  -- no two objects of a class are at one address
  once_of : (k a : ℕ) → (stock_of r about p).objects k a ≤ 1
  once_of k a =
      elim (cases_lt k (length rows)) [
        | inl below ↦ omega (arith, (cut_at k below).once a, objects_count a (objects_in_spans (shard_at p.shards k)))
        | inr past ↦ omega (arith, none_past k a past)
      ]

  pub cut_of : IsCut rows (stock_of r about p)
  cut_of =
      record {
        once = once_of;
        apart = λ k a b at_a at_b less. let below = found_class k a at_a in omega (arith, (cut_at k below).apart a b (found k a at_a) (found k b at_b) less, size_is k below);
        class = found_class;
        some = λ k a at. let below = found_class k a at in omega (arith, (there k below).sound.some, size_is k below);
        lies = λ k a at. let below = found_class k a at in lies_of k a below ((cut_at k below).lies a (found k a at));
        kinds = λ s owned. let c = counted (λ (y : Shard). spans_like s (spans_in y)) p.shards owned in of_class c.at c.one s c.is c.some;
        started = λ s.
            sum_by-le-sum_by (λ (y : Shard). spans_like s (spans_in y)) (λ (y : Shard). spans_at (first_byte (run_of s)) (spans_in y)) p.shards
            (λ y. counts_most (like_span s) (starting_span _) (λ (x : SpanRef). omega (arith, same_span_run x s, same_run_start (run_of x) (run_of s))) (spans_in y));
        begun = λ a begins. let c = counted (λ (y : Shard). spans_at a (spans_in y)) p.shards begins in begins_of c.at a c.one c.is c.some;
      }
