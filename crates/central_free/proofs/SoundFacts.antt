-- A sound list of spans stays so where one of them gives or takes an object.
use Rattle.std.proofs.Common.{◌≡◌, ℕ, ◌+◌, ◌<◌, Bool, List, [], ◌∷◌, length, get_or, set, count_by, Option, Some, None, cond, refl, ◌∙◌, ap, arith}
use Rattle.std.specs.Prelude.{All}
use Rattle.std.specs.List.{flat_map, sum_by}
use Rattle.std.proofs.lemmas.List.{get_or-set_same, get_or-set_other, length-set, get_or_default}
use Rattle.std.proofs.lemmas.List.Elements.{All-set}
use Rattle.std.proofs.lemmas.List.Sums.{sum_by-cons, sum_by-append, sum_by-set}
use Rattle.std.proofs.lemmas.Bool.Decides.{nat_tests}
use Rattle.tc_units.specs.declared.units.Addr.{Addr}
use Rattle.tc_units.specs.declared.spans.ClassRow.{ClassRow}
use Rattle.span_list.specs.Span.{SpanState, IsCut, least, with_object, after_take, free_objects}
use Rattle.span_list.proofs.SpanFacts.{take_counts}
use Rattle.central_free.specs.Central.{Central, IsOfRow, IsSound, free_in}

-- each span has a page
pub has_pages : {central : Central} → IsSound central → All (λ s. 0 < s.span.pages) central.spans
has_pages {central} sound = grind (arith)

-- a span of which one object is written is cut as it was
pub IsCut-with_object : (s : SpanState) (i : ℕ) (free : Bool) → IsCut s → IsCut (with_object s i free)
IsCut-with_object s i free cut = grind (arith, length-set)

-- a take leaves a span of its row
IsOfRow-taken : (row : ClassRow) (s : SpanState) (at : Option ℕ) → least s ≡ at → IsOfRow row s → IsOfRow row (after_take s at)
IsOfRow-taken row s at is of_row = grind (arith, IsCut-with_object, take_counts)

pub IsOfRow-after_take : (row : ClassRow) (s : SpanState) → IsOfRow row s → IsOfRow row (after_take s (least s))
IsOfRow-after_take row s of_row = IsOfRow-taken row s (least s) refl of_row

span-taken : (s : SpanState) (at : Option ℕ) → (after_take s at).span ≡ s.span
span-taken s None = refl
span-taken s (Some i) = refl

pub span-after_take : (s : SpanState) → (after_take s (least s)).span ≡ s.span
span-after_take s = span-taken s (least s)

-- a span in another's stead, with the same pages
same_span : (spans : List SpanState) (k : ℕ) (t : SpanState) → k < length spans → ((d : SpanState) → t.span ≡ (get_or spans k d).span)
    → (i : ℕ) (d : SpanState) → (get_or (set spans k t) i d).span ≡ (get_or spans i d).span
same_span spans k t within same i d = grind (arith, nat_tests, get_or-set_same, get_or-set_other)

pub IsSound-set : {row : ClassRow} {spans : List SpanState} → IsSound (record { row = row; spans = spans }) → (k : ℕ) (s t : SpanState)
    → k < length spans → s ≡ get_or spans k s → t.span ≡ s.span → IsOfRow row t → IsSound (record { row = row; spans = set spans k t })
IsSound-set {row = row} {spans = spans} sound k s t within read same of_row =
    let pages = same_span spans k t within (λ d. same ∙ ap (λ u. u.span) (read ∙ get_or_default spans k s d within)) in
    grind (arith, All-set (IsOfRow row) spans k t of_row sound.of_row, sound.apart, length-set spans k t, pages)

-- how often something is among the free objects of all spans
pub count-flat_map : {X A : Type 0} (test : A → Bool) (f : X → List A) (xs : List X) → count_by test (flat_map f xs) ≡ sum_by (λ x. count_by test (f x)) xs
count-flat_map test f [] = refl
count-flat_map test f (x ∷ xs) =
    omega (arith, sum_by-append (λ a. cond {A = ℕ} (test a) 1 0) (f x) (flat_map f xs), count-flat_map test f xs, sum_by-cons (λ y. count_by test (f y)) x xs)

-- one span for another changes that by the two spans' own
pub count-set : (test : Addr → Bool) (spans : List SpanState) (k : ℕ) (s t : SpanState) → k < length spans → s ≡ get_or spans k s
    → count_by test (free_in (set spans k t)) + count_by test (free_objects s) ≡ count_by test (free_in spans) + count_by test (free_objects t)
count-set test spans k s t within read = grind (arith, count-flat_map, sum_by-set)
