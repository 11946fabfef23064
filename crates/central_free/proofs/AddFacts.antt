-- A span that is added: its first objects, and where it stands.
use Rattle.std.proofs.Common.{◌≡◌, ℕ, zero, suc, ◌+◌, ◌-◌, ◌*◌, ◌^◌, ◌<◌, ◌≤◌, Bool, true, false, nat_lt, min, List, [], ◌∷◌}
use Rattle.std.proofs.Common.{◌++◌, length, get_or, set, map, replicate, count_by, Some, cond, refl, sym, ◌∙◌, ap, inl, inr, arith, subst}
use Rattle.std.specs.Prelude.{AllPairs, All}
use Rattle.std.specs.List.{position_or_len, range_with_len}
use Rattle.std.proofs.lemmas.List.{length-append, length-replicate}
use Rattle.std.proofs.lemmas.Option.{slice_get-get_or}
use Rattle.std.proofs.lemmas.List.Elements.{All-nil, All-cons, All-head, All-tail, All-weaker}
use Rattle.std.proofs.lemmas.List.Kept.{AllPairs-cons}
use Rattle.std.proofs.lemmas.List.FromFn.{map-range_with_len_more, length-map-range_with_len, get_or-map-range_with_len}
use Rattle.std.proofs.lemmas.List.Sums.{sum_by-append}
use Rattle.std.proofs.lemmas.List.Folds.{sum_by-replicate}
use Rattle.std.proofs.lemmas.Nat.{le-div, mul-le}
use Rattle.std.proofs.Math.Nat.{min-eq_left}
use Rattle.std.proofs.lemmas.Bool.{ltb-false}
use Rattle.std.proofs.lemmas.Bool.Decides.{nat_tests}
use Rattle.tc_units.specs.declared.units.Addr.{Addr}
use Rattle.tc_units.specs.declared.spans.SpanRef.{SpanRef}
use Rattle.tc_units.specs.declared.spans.ClassRow.{ClassRow}
use Rattle.span_list.specs.Span.{SpanState, address, first_byte, objects_in, all_free, least, after_take, free_objects, free_count, taken_count, IsTaken}
use Rattle.central_free.specs.Runs.{span_after, given_by}
use Rattle.span_list.proofs.BitFacts.{first_is}
use Rattle.central_free.specs.Central.{opened, opening, with_span, IsApartFrom, IsBefore, IsOfRow, IsSound, free_in, IsTakenIn, AreDifferent}
use Rattle.central_free.proofs.SoundFacts.{count-flat_map}
use Rattle.tc_units.proofs.SortedFacts.{All-with_item, Any-new, Any-old, sum_by-with_item}

-- a list of which the first a are taken and b more are free
abbrev front : ℕ → ℕ → List Bool
front a b = replicate a false ++ replicate b true

first_of_front : (a b : ℕ) → position_or_len (λ (f : Bool). f) (front a (suc b)) ≡ a
first_of_front zero b = refl
first_of_front (suc a) b = grind (arith, first_of_front a b)

set-front : (a b : ℕ) → set (front a (suc b)) a false ≡ front (suc a) b
set-front zero b = refl
set-front (suc a) b = ap (λ xs. false ∷ xs) (set-front a b)

length-front : (a b : ℕ) → length (front a b) ≡ a + b
length-front a b = omega (arith, length-append (replicate a false) (replicate b true), length-replicate a false, length-replicate b true)

abbrev state_of : SpanRef → ℕ → List Bool → SpanState
state_of span size free = record { span = span; size = size; free = free }

-- how many objects a new span has
free-all : (n : ℕ) → count_by (λ b. b) (replicate n true) ≡ n
free-all n = sum_by-replicate (λ (b : Bool). cond {A = ℕ} b 1 0) n true ∙ omega arith

module _ (span : SpanRef) (size : ℕ) where
  -- what is free where k of them are taken, and some are left
  still_free : (k : ℕ) → k < objects_in span.pages size → opened span size k ≡ state_of span size (front k (suc (objects_in span.pages size - (k + 1))))
  still_free k more = grind (arith)

  -- the next object of a span that is being opened
  least-opened : (k : ℕ) → k < objects_in span.pages size → least (opened span size k) ≡ Some k
  least-opened k more = grind (arith, still_free, first_is, first_of_front, length-front)

  opened-more : (k : ℕ) → k < objects_in span.pages size → after_take (opened span size k) (Some k) ≡ opened span size (k + 1)
  opened-more k more =
      let m = objects_in span.pages size in
      let c : min (k + 1) m ≡ suc k = min-eq_left (omega arith) ∙ omega arith in
      ap (λ s. after_take s (Some k)) (still_free k more) ∙ ap (state_of span size) (set-front k (m - (k + 1))) ∙ ap (λ i. state_of span size (front i (m - (k + 1)))) (sym c)

  opened-none : opened span size 0 ≡ all_free span size
  opened-none = grind (arith)

  -- several takes from a new span
  opened-run : (k : ℕ) → k ≤ objects_in span.pages size
      → (span_after k (all_free span size) ≡ opened span size k) × (given_by k (all_free span size) ≡ map (address (all_free span size)) (range_with_len 0 k))
  opened-run zero few = (sym opened-none, refl)
  opened-run (suc k) few =
      let new = all_free span size in
      grind (arith, opened-run k, least-opened k, opened-more k, map-range_with_len_more (address new) 0 k k)

  -- the limit, cut to how many there are
  opened-min : (n : ℕ) → opened span size (min n (objects_in span.pages size)) ≡ opened span size n
  opened-min n = grind (arith)

  pub length-opening : (n : ℕ) → length (opening span size n) ≡ min n (objects_in span.pages size)
  length-opening n = length-map-range_with_len (address (opened span size n)) 0 (min n (objects_in span.pages size))

  -- what a new span gives of n
  pub opened-all : (n came : ℕ) (s : SpanState) → s ≡ all_free span size → came ≡ min n (free_count s)
      → (came ≡ length (opening span size n)) × (span_after came s ≡ opened span size n) × (given_by came s ≡ opening span size n)
  opened-all n came s new count = grind (arith, free-all, opened-run came, length-opening n, opened-min n)

-- a span of which some are taken is one of its row
length-opened : (span : SpanRef) (size n : ℕ) → length (opened span size n).free ≡ objects_in span.pages size
length-opened span size n =
    omega (arith, length-front (min n (objects_in span.pages size)) (objects_in span.pages size - n))

pub some_objects : (pages size : ℕ) → 0 < size → size ≤ pages * 8192 → 0 < objects_in pages size
some_objects pages size some fits = le-div 1 (pages * 8192) size some (omega arith)

taken-opened : (span : SpanRef) (size n : ℕ) → 0 < n → 0 < objects_in span.pages size → 0 < taken_count (opened span size n)
taken-opened span size n some objects = grind (arith, sum_by-append, sum_by-replicate)

pub IsOfRow-opened : (row : ClassRow) (span : SpanRef) (n : ℕ) → 0 < row.size → row.size < 2 ^ 32 → row.size ≤ row.pages * 8192
    → span.first.0 < 2 ^ 32 → row.pages ≤ 255 → span.pages ≡ row.pages → 0 < n → IsOfRow row (opened span row.size n)
IsOfRow-opened row span n some sizes fits first few pages any = grind (arith, length-opened, taken-opened, some_objects)

-- the spans stay sound where one is added
apart-with_span : (s : SpanState) (spans : List SpanState) → 0 < s.span.pages → All (IsApartFrom s.span) spans → AllPairs IsBefore spans
    → AllPairs IsBefore (with_span s spans)
apart-with_span s [] some clear apart = AllPairs-cons IsBefore s [] (All-nil (IsBefore s)) apart
apart-with_span s (t ∷ ts) some clear apart =
    let a = first_byte s.span in
    let b = first_byte t.span in
    let here : IsApartFrom s.span t = All-head (IsApartFrom s.span) t ts clear in
    let behind : All (IsBefore t) ts = λ i d less. apart 0 (suc i) d (omega arith) (omega arith) in
    let others : AllPairs IsBefore ts = λ i j d less within. apart (suc i) (suc j) d (omega arith) (omega arith) in
    (elim (nat_lt a b) as (λ lower. nat_lt a b ≡ lower → AllPairs IsBefore (cond lower (s ∷ t ∷ ts) (t ∷ with_span s ts))) [
      | true ↦ grind (arith, nat_tests, AllPairs-cons IsBefore s (t ∷ ts), All-cons (IsBefore s) t ts, All-weaker (IsBefore t) (IsBefore s))
      | false ↦ λ is.
          (let more : b ≤ a = ltb-false a b is in
          let before : IsBefore t s = elim here [ inl after ↦ absurd (omega arith) | inr before ↦ before ] in
          let rest = apart-with_span s ts some (All-tail (IsApartFrom s.span) t ts clear) others in
          AllPairs-cons IsBefore t (with_span s ts) (All-with_item (λ u. first_byte u.span) (IsBefore t) s ts before behind) rest)
    ]) refl

pub IsSound-with_span : {row : ClassRow} {spans : List SpanState} → IsSound (record { row = row; spans = spans })
    → (s : SpanState) → IsOfRow row s → All (IsApartFrom s.span) spans → IsSound (record { row = row; spans = with_span s spans })
IsSound-with_span {row} {spans} sound s of_row clear =
    grind (arith, All-with_item (λ t. first_byte t.span) (IsOfRow row) s spans of_row sound.of_row, apart-with_span s spans)

-- how the free objects change
pub count-with_span : (test : Addr → Bool) (spans : List SpanState) (s : SpanState) → count_by test (free_in (with_span s spans)) ≡ count_by test (free_in spans) + count_by test (free_objects s)
count-with_span test spans s = grind (arith, count-flat_map, sum_by-with_item)

-- what came from the new span can be put back
get_or-front : (a b i : ℕ) (d : Bool) → i < a → get_or (front a b) i d ≡ false
get_or-front zero b i d less = absurd (omega arith)
get_or-front (suc a) b zero d less = refl
get_or-front (suc a) b (suc i) d less = get_or-front a b i d (omega arith)

-- and so can what was taken from the others
pub kept-with_span : (spans : List SpanState) (s : SpanState) (a : Addr) → IsTakenIn spans a → IsTakenIn (with_span s spans) a
kept-with_span spans s a there = Any-old (λ t. first_byte t.span) (λ t. IsTaken t a) s spans there

module _ (span : SpanRef) (size n : ℕ) where
  opening-IsTaken : (i : ℕ) → i < min n (objects_in span.pages size) → IsTaken (opened span size n) (address (opened span size n) i)
  opening-IsTaken i less =
      let m = objects_in span.pages size in let free = front (min n m) (m - n) in
      record { index = i; at = refl; taken = slice_get-get_or free i true (omega (arith, length-front (min n m) (m - n))) ∙ ap (λ v. Some v) (get_or-front (min n m) (m - n) i true less) }

  -- the object at a place
  opening_at : (i : ℕ) (d : Addr) → i < length (opening span size n) → (i < min n (objects_in span.pages size)) × (get_or (opening span size n) i d ≡ address (opened span size n) i)
  opening_at i d within = grind (arith, length-opening, get_or-map-range_with_len)

  pub opening-is_taken : All (IsTaken (opened span size n)) (opening span size n)
  opening-is_taken = λ i d within. let o = opening_at i d within in subst (IsTaken (opened span size n)) (sym o.1) (opening-IsTaken i o.0)

  pub opening-different : 0 < size → AreDifferent (opening span size n)
  opening-different some = grind (arith, opening_at, mul-le)

pub opening-taken : (spans : List SpanState) (span : SpanRef) (size n : ℕ) → All (IsTakenIn (with_span (opened span size n) spans)) (opening span size n)
opening-taken spans span size n = λ i d within.
    (let a = get_or (opening span size n) i d in
    Any-new (λ t. first_byte t.span) (λ t. IsTaken t a) (opened span size n) spans (opening-is_taken span size n i d within))
