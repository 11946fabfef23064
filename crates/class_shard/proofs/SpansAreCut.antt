-- How the spans of a shard are cut: where each object lies, that no two meet, and which of them are taken.
use Rattle.std.proofs.Common.{◌≡◌, ℕ, zero, suc, ◌+◌, ◌*◌, ◌<◌, ◌≤◌, ◌==◌, Bool, true, false, List, []}
use Rattle.std.proofs.Common.{◌∷◌, length, get_or, map, replicate, count_by, Some, cond, refl, sym, ◌∙◌, ap, inl, inr, arith}
use Rattle.std.specs.List.{flat_map, sum_by, range_with_len}
use Rattle.std.proofs.lemmas.List.{get_or_default}
use Rattle.std.proofs.lemmas.List.FromFn.{length-map-range_with_len, get_or-map-range_with_len}
use Rattle.std.proofs.lemmas.List.Sums.{sum_by-cons, sum_by-append, get_or-le-sum_by}
use Rattle.std.proofs.lemmas.Option.{slice_get-get_or}
use Rattle.std.proofs.lemmas.Nat.{mul-le}
use Rattle.std.proofs.lemmas.Bool.Decides.{nat_tests}
use Rattle.std.proofs.lemmas.Bool.{cases_Bool, cases_lt, cases_order, eq-eqb}
use Rattle.tc_units.specs.declared.units.Addr.{Addr}
use Rattle.tc_units.specs.declared.spans.SpanRef.{SpanRef}
use Rattle.tc_units.specs.declared.spans.ClassRow.{ClassRow}
use Rattle.span_list.specs.Span.{SpanState, address, first_byte, objects_in, free_from, free_objects, objects_of}
use Rattle.span_list.proofs.SpanFacts.{free_from-set}
use Rattle.central_free.specs.Central.{IsOfRow, IsSound, IsTakenIn, free_in}
use Rattle.central_free.specs.Slots.{no_span}
use Rattle.central_free.proofs.AddFacts.{some_objects}
use Rattle.central_free.proofs.SoundFacts.{count-flat_map}
use Rattle.class_shard.specs.Shard.{Shard}
use Rattle.class_shard.specs.Laws.{spans_in, found_at, LiesInSpan, SpansAreCut}
use Rattle.class_shard.proofs.SpanSums.{central_of, pages_of, sum_by-map, objects_passing, count-objects}

abbrev addr_of : ℕ → Addr
addr_of a = record { 0 = a }

-- what is counted at an address: one where a number is that address
abbrev at : ℕ → ℕ → ℕ
at a n = cond {A = ℕ} (n == a) 1 0

at-same : (a n : ℕ) → n ≡ a → at a n ≡ 1
at-same a n same = grind (arith, nat_tests)

at-few : (a n : ℕ) → at a n ≤ 1
at-few a n = grind (arith, nat_tests)

from_at : (a n : ℕ) → 0 < at a n → n ≡ a
from_at a n some = grind (arith, nat_tests)

-- a term of a sum that isn't 0
record StandsIn {X : Type 0} (w : X → ℕ) (xs : List X) : Type 0 where
  place : ℕ
  within : place < length xs
  some : (d : X) → 0 < w (get_or xs place d)

stands_in : {X : Type 0} (w : X → ℕ) (xs : List X) → 0 < sum_by w xs → StandsIn w xs
stands_in w [] some = absurd (omega arith)
stands_in w (x ∷ xs) some =
    elim (cases_lt 0 (w x)) [
      | inl here ↦ record { place = 0; within = omega arith; some = λ d. here }
      | inr none ↦
          (let m : StandsIn w xs = stands_in w xs (omega (arith, sum_by-cons w x xs)) in
          record { place = suc m.place; within = omega (arith, m.within); some = m.some })
    ]

-- a sum of which at most one term is 1 and all others are 0
sum_once : {X : Type 0} (w : X → ℕ) (xs : List X) → ((i : ℕ) (d : X) → i < length xs → w (get_or xs i d) ≤ 1)
    → ((i j : ℕ) (d : X) → i < j → j < length xs → 0 < w (get_or xs i d) → 0 < w (get_or xs j d) → ⊥) → sum_by w xs ≤ 1
sum_once w [] few apart = omega arith
sum_once w (x ∷ xs) few apart =
    let first : w x ≤ 1 = few 0 x (omega arith) in
    elim (cases_lt 0 (w x)) [
      | inl here ↦
          elim (cases_lt 0 (sum_by w xs)) [
            | inl more ↦ (let m : StandsIn w xs = stands_in w xs more in absurd (apart 0 (suc m.place) x (omega arith) (omega (arith, m.within)) here (m.some x)))
            | inr none ↦ omega (arith, sum_by-cons w x xs)
          ]
      | inr none ↦ omega (arith, sum_by-cons w x xs, sum_once w xs (λ i d less. few (suc i) d (omega arith)) (λ i j d less within. apart (suc i) (suc j) d (omega arith) (omega arith)))
    ]

-- a span's objects by their indexes
free_from-all : (addr : ℕ → Addr) (k n : ℕ) → free_from addr k (replicate n true) ≡ map addr (range_with_len k n)
free_from-all addr k zero = refl
free_from-all addr k (suc n) = ap (λ xs. addr k ∷ xs) (free_from-all addr (k + 1) n)

length-objects : (size : ℕ) (span : SpanRef) → length (objects_of size span) ≡ objects_in span.pages size
length-objects size span = grind (arith, free_from-all, length-map-range_with_len)

get_or-objects : (size : ℕ) (span : SpanRef) (i : ℕ) (d : Addr) → i < objects_in span.pages size → get_or (objects_of size span) i d ≡ addr_of (first_byte span + i * size)
get_or-objects size span i d less = grind (arith, free_from-all, get_or-map-range_with_len)

-- an address is that of an object of a span
record IsObject (size : ℕ) (span : SpanRef) (a : ℕ) : Type 0 where
  index : ℕ
  within : index < objects_in span.pages size
  is : a ≡ first_byte span + index * size

abbrev found_in : ℕ → ℕ → SpanRef → ℕ
found_in a size span = objects_passing (λ (x : Addr). x.0 == a) size span

is_object : (size : ℕ) (span : SpanRef) (a : ℕ) → 0 < found_in a size span → IsObject size span a
is_object size span a some =
    let w : Addr → ℕ = λ x. at a x.0 in
    let m : StandsIn w (objects_of size span) = stands_in w (objects_of size span) some in
    let less : m.place < objects_in span.pages size = omega (arith, m.within, length-objects size span) in
    let here : w (get_or (objects_of size span) m.place (addr_of 0)) ≡ at a (first_byte span + m.place * size) = ap w (get_or-objects size span m.place (addr_of 0) less) in
    record { index = m.place; within = less; is = sym (from_at a (first_byte span + m.place * size) (omega (arith, here, m.some (addr_of 0)))) }

object_counts : (size : ℕ) (span : SpanRef) (a : ℕ) → IsObject size span a → 0 < found_in a size span
object_counts size span a object =
    let w : Addr → ℕ = λ x. at a x.0 in
    let i = object.index in
    let here : w (get_or (objects_of size span) i (addr_of 0)) ≡ at a (first_byte span + i * size) = ap w (get_or-objects size span i (addr_of 0) object.within) in
    omega (arith, here, at-same a (first_byte span + i * size) (sym object.is), get_or-le-sum_by w (objects_of size span) i (addr_of 0) (omega (arith, length-objects size span, object.within)))

-- the next object begins where one ends
steps_apart : (size i j : ℕ) → i < j → i * size + size ≤ j * size
steps_apart size i j less = grind (arith)

object_once : (size : ℕ) (span : SpanRef) (a : ℕ) → 0 < size → found_in a size span ≤ 1
object_once size span a pos = grind (arith, get_or-objects, length-objects, sum_once, at-few, from_at, steps_apart)

-- an object lies in its span's pages
record IsInPages (size : ℕ) (span : SpanRef) (a : ℕ) : Type 0 where
  low : first_byte span ≤ a
  high : a + size ≤ first_byte span + span.pages * 8192

in_pages : (size : ℕ) (span : SpanRef) (a : ℕ) → IsObject size span a → IsInPages size span a
in_pages size span a object = grind (arith)

-- where an object stands among the spans
record IsPlaced (row : ClassRow) (spans : List SpanState) (a : ℕ) : Type 0 where
  place : ℕ
  state : SpanState
  within : place < length spans
  here : (d : SpanState) → get_or spans place d ≡ state
  of_row : IsOfRow row state
  object : IsObject row.size state.span a

-- an address among the objects of all spans
found_sum : (size a : ℕ) (spans : List SpanState) → found_at a (flat_map (objects_of size) (pages_of spans)) ≡ sum_by (λ x. found_in a size x.span) spans
found_sum size a spans =
    count-objects (λ (x : Addr). x.0 == a) size (pages_of spans) ∙ sum_by-map (found_in a size) (λ (x : SpanState). x.span) spans

placed_at : (row : ClassRow) (spans : List SpanState) (a k : ℕ) → IsSound (central_of row spans) → k < length spans → IsObject row.size (get_or spans k no_span).span a → IsPlaced row spans a
placed_at row spans a k sound within object =
    record { place = k; state = get_or spans k no_span; within = within; here = λ d. get_or_default spans k d no_span within; of_row = sound.of_row k no_span within; object = object }

placed : (row : ClassRow) (spans : List SpanState) (a : ℕ) → IsSound (central_of row spans) → 0 < found_at a (flat_map (objects_of row.size) (pages_of spans)) → IsPlaced row spans a
placed row spans a sound found =
    let w : SpanState → ℕ = λ x. found_in a row.size x.span in
    let m : StandsIn w spans = stands_in w spans (omega (arith, found_sum row.size a spans)) in
    placed_at row spans a m.place sound m.within (is_object row.size (get_or spans m.place no_span).span a (m.some no_span))

placed_counts : (row : ClassRow) (spans : List SpanState) (a : ℕ) → IsPlaced row spans a → 0 < found_at a (flat_map (objects_of row.size) (pages_of spans))
placed_counts row spans a p =
    let w : SpanState → ℕ = λ x. found_in a row.size x.span in
    let s : SpanState = p.state in
    omega (arith, found_sum row.size a spans, get_or-le-sum_by w spans p.place s p.within, ap w (p.here s), object_counts row.size s.span a p.object)

-- objects of two spans don't meet
ends_before : (row : ClassRow) (spans : List SpanState) (i j : ℕ) (s t : SpanState) (a b : ℕ) → IsSound (central_of row spans) → i < j
    → j < length spans → get_or spans i s ≡ s → get_or spans j s ≡ t → IsObject row.size s.span a → IsObject row.size t.span b → a + row.size ≤ b
ends_before row spans i j s t a b sound less within first second object other = grind (arith)

-- nor do two of one
same_span_apart : (size : ℕ) (s t : SpanRef) (a b : ℕ) → s ≡ t → IsObject size s a → IsObject size t b → a < b → a + size ≤ b
same_span_apart size s t a b same object other less = grind (arith, nat_tests, steps_apart, mul-le)

cut_apart : (row : ClassRow) (spans : List SpanState) (a b : ℕ) → IsSound (central_of row spans) → IsPlaced row spans a → IsPlaced row spans b → a < b → a + row.size ≤ b
cut_apart row spans a b sound p q less =
    elim (cases_order p.place q.place) [
      | inl equal ↦ same_span_apart row.size p.state.span q.state.span a b (ap (λ u. u.span) (sym (p.here p.state) ∙ ap (λ k. get_or spans k p.state) equal ∙ q.here p.state)) p.object q.object less
      | inr other ↦
          elim other [
            | inl below ↦ ends_before row spans p.place q.place p.state q.state a b sound below q.within (p.here p.state) (q.here p.state) p.object q.object
            | inr above ↦ (let back : b + row.size ≤ a = ends_before row spans q.place p.place q.state p.state b a sound above p.within (q.here q.state) (p.here q.state) q.object p.object in absurd (omega arith))
          ]
    ]

cut_once : (row : ClassRow) (spans : List SpanState) (a : ℕ) → IsSound (central_of row spans) → found_at a (flat_map (objects_of row.size) (pages_of spans)) ≤ 1
cut_once row spans a sound =
    let w : SpanState → ℕ = λ x. found_in a row.size x.span in
    let once : sum_by w spans ≤ 1 = sum_once w spans (λ i d less. object_once row.size (get_or spans i d).span a sound.some) (λ i j d less within some_i some_j.
    let s : SpanState = get_or spans i d in
    let t : SpanState = get_or spans j d in
    omega (arith, sound.some, ends_before row spans i j s t a a sound less within (get_or_default spans i s d (omega arith)) (get_or_default spans j s d within) (is_object row.size s.span a some_i) (is_object row.size t.span a some_j))) in
    omega (arith, found_sum row.size a spans, once)

-- a span of a list is counted among its spans
span_counts : (test : SpanRef → Bool) (spans : List SpanState) (k : ℕ) (s : SpanState)
    → k < length spans → get_or spans k s ≡ s → test s.span ≡ true → 0 < count_by test (pages_of spans)
span_counts test spans k s within here passes = grind (arith, sum_by-map, get_or-le-sum_by)

-- a span begins with an object
begun_placed : (row : ClassRow) (spans : List SpanState) (a : ℕ) → IsSound (central_of row spans) → 0 < count_by (λ (x : SpanRef). first_byte x == a) (pages_of spans) → IsPlaced row spans a
begun_placed row spans a sound begun =
    let w : SpanRef → ℕ = λ x. at a (first_byte x) in
    let span : SpanState → SpanRef = λ x. x.span in
    let m : StandsIn (λ x. w (span x)) spans = stands_in (λ x. w (span x)) spans (omega (arith, sum_by-map w span spans)) in
    grind (arith, sound.of_row m.place no_span m.within, some_objects, placed_at row spans a m.place sound m.within, from_at a, m.some no_span)

-- an object that is free is among the free ones
free_counts : (test : Addr → Bool) (addr : ℕ → Addr) (xs : List Bool) (i : ℕ) → i < length xs
    → get_or xs i true ≡ true → test (addr i) ≡ true → 0 < count_by test (free_from addr 0 xs)
free_counts test addr xs i less free passes = grind (arith, addr i, free_from-set test addr 0 xs i false true (addr i) less)

-- and one that isn't is taken
placed_taken : (row : ClassRow) (spans : List SpanState) (a : Addr) → IsPlaced row spans a.0 → found_at a.0 (free_in spans) ≡ 0 → IsTakenIn spans a
placed_taken row spans a p none =
    let s : SpanState = p.state in
    let i = p.object.index in
    let test : Addr → Bool = λ x. x.0 == a.0 in
    let size : row.size ≡ s.size = sym p.of_row.size in
    let is : a.0 ≡ first_byte s.span + i * s.size = p.object.is ∙ ap (λ n. first_byte s.span + i * n) size in
    let same : a ≡ address s i = ap addr_of is in
    let count : objects_in s.span.pages row.size ≡ length s.free = ap (objects_in s.span.pages) size ∙ sym p.of_row.cut.objects in
    let less : i < length s.free = omega (arith, count, p.object.within) in
    elim (cases_Bool (get_or s.free i true)) [
      | inl free ↦
          (let w : SpanState → ℕ = λ x. count_by test (free_objects x) in
          let mine : 0 < w s = free_counts test (address s) s.free i less free (eq-eqb (first_byte s.span + i * s.size) a.0 (sym is)) in
          absurd (omega (arith, none, count-flat_map test free_objects spans, get_or-le-sum_by w spans p.place s p.within, ap w (p.here s), mine)))
      | inr taken ↦ (p.place, s, p.within, p.here s, record { index = i; at = same; taken = slice_get-get_or s.free i true less ∙ ap (λ b. Some b) taken })
    ]

lies_in_span : (s : Shard) (a : ℕ) → IsPlaced s.central.row s.central.spans a → LiesInSpan s a
lies_in_span s a p =
    let span : SpanRef = p.state.span in
    let inside : IsInPages s.central.row.size span a = in_pages s.central.row.size span a p.object in
    let member : (test : SpanRef → Bool) → test span ≡ true → 0 < count_by test (spans_in s) = λ test passes. span_counts test s.central.spans p.place p.state p.within (p.here p.state) passes in
    grind (arith, nat_tests, member (λ x. x.first.0 == span.first.0) (eq-eqb span.first.0 span.first.0 refl))

pub spans_cut : SpansAreCut
spans_cut s sound =
    let row = s.central.row in
    let spans = s.central.spans in
    record {
      once = λ a. cut_once row spans a sound;
      apart = λ a b there other less. cut_apart row spans a b sound (placed row spans a sound there) (placed row spans b sound other) less;
      lies = λ a there. lies_in_span s a (placed row spans a sound there);
      begun = λ a begun. placed_counts row spans a (begun_placed row spans a sound begun);
      taken = λ a there none. placed_taken row spans a (placed row spans a.0 sound there) (omega (arith, none, sum_by-append (λ (x : Addr). at a.0 x.0) s.transfer.objects (free_in spans)));
    }
