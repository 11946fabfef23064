-- What a new span leaves: its objects, of which the first ones are gone.
use Rattle.std.proofs.Common.{◌≡◌, ℕ, zero, suc, ◌+◌, Bool, true, false, List, [], ◌++◌, map, replicate, count_by, cond, refl, ap, arith}
use Rattle.std.specs.List.{range_with_len, sum_by}
use Rattle.std.proofs.lemmas.List.Sums.{sum_by-cons, sum_by-append}
use Rattle.tc_units.specs.declared.units.Addr.{Addr}
use Rattle.tc_units.specs.declared.spans.SpanRef.{SpanRef}
use Rattle.span_list.specs.Span.{SpanState, free_from, free_objects, objects_of}
use Rattle.central_free.specs.Central.{opened, opening, with_span, IsOfRow}
use Rattle.central_free.proofs.AddFacts.{some_objects, length-opening, IsOfRow-opened, IsSound-with_span, count-with_span}
use Rattle.tc_units.proofs.SortedFacts.{sum_by-with_item}
use Rattle.class_shard.specs.Laws.{spans_in, with_new, AddMoves}
use Rattle.class_shard.proofs.SpanSums.{pages_of, sum_by-map, objects_passing, count-objects}

-- the objects of a list of which the first a are taken, and these, are the objects of a list of which none is
count-front : (test : Addr → Bool) (addr : ℕ → Addr) (k a b : ℕ)
    → count_by test (free_from addr k (replicate a false ++ replicate b true)) + count_by test (map addr (range_with_len k a)) ≡ count_by test (free_from addr k (replicate (a + b) true))
count-front test addr k zero b = grind (arith)
count-front test addr k (suc a) b =
    let next : suc a + b ≡ suc (a + b) = omega arith in
    let f : Addr → ℕ = λ x. cond {A = ℕ} (test x) 1 0 in
    let first = sum_by-cons f (addr k) (map addr (range_with_len (k + 1) a)) in let free = sum_by-cons f (addr k) (free_from addr (k + 1) (replicate (a + b) true)) in
    omega (arith, count-front test addr (k + 1) a b, ap (λ m. count_by test (free_from addr k (replicate m true))) next, first, free)

count-opened : (test : Addr → Bool) (span : SpanRef) (size n : ℕ)
    → count_by test (free_objects (opened span size n)) + count_by test (opening span size n) ≡ count_by test (objects_of size span)
count-opened test span size n = grind (arith, count-front)

-- one more span in a sum
sum-with_span : (w : SpanRef → ℕ) (spans : List SpanState) (s : SpanState) → sum_by w (pages_of (with_span s spans)) ≡ sum_by w (pages_of spans) + w s.span
sum-with_span w spans s = grind (arith, sum_by-with_item, sum_by-map)

pub add_moves : AddMoves
add_moves n s span some sound pages first sizes few apart =
    let row = s.central.row in
    let new = opened span row.size n in
    let of_row : IsOfRow row new = IsOfRow-opened row span n sound.some sizes sound.fits first (omega (arith, pages, few)) pages some in
    record {
      same = record { class = refl; row = refl; room = refl; sound = IsSound-with_span sound new of_row apart };
      some = omega (arith, length-opening span row.size n, some, some_objects span.pages row.size sound.some (omega (arith, sound.fits, pages)));
      few = omega (arith, length-opening span row.size n);
      spans = λ test.
          let w : SpanRef → ℕ = λ x. cond {A = ℕ} (test x) 1 0 in
          omega (arith, sum-with_span w s.central.spans new, sum_by-cons w span []);
      moves = grind (arith, sum_by-append, count-opened, count-with_span);
      objects = λ test.
          omega (arith, count-objects test row.size (spans_in (with_new n s span)), count-objects test row.size (spans_in s), sum-with_span (objects_passing test row.size) s.central.spans new);
    }
