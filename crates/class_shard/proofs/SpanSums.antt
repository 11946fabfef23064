-- Sums over the spans of a list, and over the objects that these are cut into.
use Rattle.std.proofs.Common.{◌≡◌, ℕ, ◌+◌, ◌<◌, Bool, List, [], ◌∷◌, length, get_or, set, map, count_by, refl, sym, ◌∙◌, ap}
use Rattle.std.specs.List.{flat_map, sum_by}
use Rattle.std.proofs.lemmas.List.{get_or-map, map-set, set-get_or}
use Rattle.std.proofs.lemmas.List.Sums.{sum_by-cons}
use Rattle.tc_units.specs.declared.units.Addr.{Addr}
use Rattle.tc_units.specs.declared.spans.SpanRef.{SpanRef}
use Rattle.tc_units.specs.declared.spans.ClassRow.{ClassRow}
use Rattle.span_list.specs.Span.{SpanState, objects_of}
use Rattle.central_free.specs.Central.{Central}
use Rattle.central_free.proofs.SoundFacts.{count-flat_map}

abbrev pub central_of : ClassRow → List SpanState → Central
central_of row spans = record { row = row; spans = spans }

abbrev pub pages_of : List SpanState → List SpanRef
pages_of spans = map (λ (x : SpanState). x.span) spans

-- another state of a span in its place
pub pages-set : (spans : List SpanState) (k : ℕ) (s t : SpanState) → k < length spans
    → ((d : SpanState) → get_or spans k d ≡ s) → t.span ≡ s.span → pages_of (set spans k t) ≡ pages_of spans
pages-set spans k s t within here same =
    let there : get_or (pages_of spans) k s.span ≡ s.span = get_or-map (λ (x : SpanState). x.span) spans k s s.span within ∙ ap (λ x. x.span) (here s) in
    map-set (λ (x : SpanState). x.span) spans k t ∙ ap (set (pages_of spans) k) (same ∙ sym there) ∙ set-get_or (pages_of spans) k s.span

-- a sum over what a function makes of a list
pub sum_by-map : {X Y : Type 0} (w : Y → ℕ) (f : X → Y) (xs : List X) → sum_by w (map f xs) ≡ sum_by (λ x. w (f x)) xs
sum_by-map w f [] = refl
sum_by-map w f (x ∷ xs) =
    sum_by-cons w (f x) (map f xs) ∙ ap (λ n. w (f x) + n) (sum_by-map w f xs) ∙ sym (sum_by-cons (λ y. w (f y)) x xs)

-- how many objects of a span pass a test, and of all spans
abbrev pub objects_passing : (Addr → Bool) → ℕ → SpanRef → ℕ
objects_passing test size span = count_by test (objects_of size span)

pub count-objects : (test : Addr → Bool) (size : ℕ) (spans : List SpanRef) → count_by test (flat_map (objects_of size) spans) ≡ sum_by (objects_passing test size) spans
count-objects test size spans = count-flat_map test (objects_of size) spans
