-- The spans that leaves mean: a list of spans in order is told by what begins at each page.
use Rattle.std.proofs.Common.{◌≡◌, ℕ, zero, suc, ◌+◌, ◌-◌, ◌*◌, ◌/◌, ◌<◌, ◌≤◌, Bool, true, false, ◌==◌, nat_lt, nat_le, List, [], ◌∷◌, ◌++◌, length, get_or}
use Rattle.std.proofs.Common.{set, replicate, find, is_some, IsSome, All, AllPairs, Contains, Option, Some, None, cond, refl, sym, ◌∙◌, ap, subst, inl, inr}
use Rattle.std.proofs.Common.{arith}
use Rattle.std.proofs.lemmas.Bool.Decides.{nat_tests}
use Rattle.std.specs.Option.{option_to_list}
use Rattle.std.proofs.lemmas.List.Elements.{All-cons, All-head, All-tail, All-contains}
use Rattle.std.proofs.lemmas.List.{get_or_default, get_or_past, length-set, length-replicate, get_or-replicate, get_or-set_same, get_or-set_other}
use Rattle.std.proofs.lemmas.Bool.{cases_lt, cases_eq, and_from, and_parts, ltb-true, le-leb, lt-ltb, eq-eqb, ne_eqb, eqb-true, true≢false}
use Rattle.tc_units.specs.declared.spans.SpanRef.{SpanRef}
use Rattle.place_set.specs.Places.{IsLast, IsLastAt}
use Rattle.page_map.specs.declared.leaf.Leaf.{Leaf}
use Rattle.page_map.specs.Spans.{SpanMap, holds, with_span, without_span, IsInside, IsBefore, AreApart, IsWellFormed}
use Rattle.page_map.specs.Begins.{begins, begin_at, spans_from, map_of, IsKept}
use Rattle.page_map.proofs.SpanFacts.{AllPairs-head, AllPairs-tail, ends_before, find_there, find_nowhere, find_none, with_span-well_formed, without_span-well_formed, begins-with_span, begins-without_span}

abbrev HasPages : SpanRef → Type 0
HasPages span = 0 < span.pages

none_begins : (page : ℕ) (xs : List SpanRef) → All (λ s. page < s.first.0) xs → None ≡ find (begins page) xs
none_begins page xs later = find_none (begins page) xs (λ k d within. let l : page < (get_or xs k d).first.0 = later k d within in ne_eqb page (get_or xs k d).first.0 (omega arith))

first_later : (page : ℕ) (x : SpanRef) (xs : List SpanRef) → page < x.first.0 → All (IsBefore x) xs → All (λ s. page < s.first.0) (x ∷ xs)
first_later page x xs first later = All-cons (λ s. page < s.first.0) x xs first (λ k d within. let b : IsBefore x (get_or xs k d) = later k d within in omega arith)

-- spans in order are those that begin at each page in turn
spans_from-is : (begin : ℕ → Option SpanRef) (page n : ℕ) (xs : List SpanRef) → AllPairs IsBefore xs → All HasPages xs → All (λ s. page ≤ s.first.0) xs → All (λ s. s.first.0 < page + n) xs → ((p : ℕ) → page ≤ p → option_to_list (begin p) ≡ option_to_list (find (begins p) xs)) → spans_from begin page n ≡ xs
spans_from-is begin page zero [] order some low high told = refl
spans_from-is begin page zero (x ∷ xs) order some low high told = grind (arith, nat_tests, All-head)
spans_from-is begin page (suc n) [] order some low high told = grind (arith, nat_tests, told, spans_from-is begin (page + 1) n)
spans_from-is begin page (suc n) (x ∷ xs) order some low high told =
    let l : page ≤ x.first.0 = All-head (λ s. page ≤ s.first.0) x xs low in
    let pages : 0 < x.pages = All-head HasPages x xs some in
    let later : All (IsBefore x) xs = AllPairs-head IsBefore x xs order in
    elim (cases_eq x.first.0 page) [
      | inl here ↦
          (let one : option_to_list (begin page) ≡ x ∷ [] = told page (omega arith) ∙ ap (λ b. option_to_list (cond b (Some x) (find (begins page) xs))) (eq-eqb page x.first.0 (sym here)) in
          let rest : spans_from begin (page + 1) n ≡ xs =
          spans_from-is begin (page + 1) n xs (AllPairs-tail IsBefore x xs order) (All-tail HasPages x xs some)
          (λ k d within. let b : IsBefore x (get_or xs k d) = later k d within in omega arith)
          (λ k d within. let h : (get_or xs k d).first.0 < page + suc n = All-tail (λ s. s.first.0 < page + suc n) x xs high k d within in omega arith)
          (λ p from. told p (omega arith) ∙ ap (λ b. option_to_list (cond b (Some x) (find (begins p) xs))) (ne_eqb p x.first.0 (omega arith))) in
          ap (λ b. b ++ spans_from begin (page + 1) n) one ∙ ap (λ ys. x ∷ ys) rest)
      | inr other ↦ grind (arith, spans_from-is begin (page + 1) n (x ∷ xs) order some, first_later page x xs, told page, none_begins page (x ∷ xs), high)
    ]

-- the map of leaves and a set that tell of each page what spans in order tell of it
pub record Means (leaves : List (Option Leaf)) (marks : List Bool) (map : SpanMap) : Type 0 where
  pub is : map_of leaves ≡ map
  pub kept : IsKept leaves marks

pub means : (leaves : List (Option Leaf)) (marks : List Bool) (huge : ℕ) (xs : List SpanRef) → length leaves ≡ huge + 1 → IsWellFormed (record { huge = huge; spans = xs }) → ((page : ℕ) → begin_at leaves page ≡ find (begins page) xs) → ((page : ℕ) → get_or marks page false ≡ is_some (begin_at leaves page)) → length marks ≡ 256 * length leaves → Means leaves marks (record { huge = huge; spans = xs })
means leaves marks huge xs size well told places len =
    grind (arith, spans_from-is (begin_at leaves) 0 (256 * length leaves) xs well.apart (λ k d within. (well.inside k d within).some), well.inside, told)

-- where none begins
pub unmarked : (n k : ℕ) → get_or (replicate n false) k false ≡ false
unmarked n k = elim (cases_lt k n) [ inl inside ↦ get_or-replicate n k false false inside | inr past ↦ get_or_past (replicate n false) k false (omega (arith, length-replicate n false)) ]

pub past_by : (b : Bool) (page n : ℕ) → b ≡ false → (page < n → b ≡ true) → n ≤ page
past_by b page n e h = elim (cases_lt page n) [ inl inside ↦ absurd (true≢false (sym (h inside) ∙ e)) | inr past ↦ past ]

-- the set once a page is put into it, or taken out
set_tells : (marks : List Bool) (old new : ℕ → Option SpanRef) (first : ℕ) (begin : Option SpanRef) → first < length marks → ((page : ℕ) → get_or marks page false ≡ is_some (old page)) → ((page : ℕ) → new page ≡ cond (page == first) begin (old page)) → (page : ℕ) → get_or (set marks first (is_some begin)) page false ≡ is_some (new page)
set_tells marks old new first begin inside was changed page = grind (arith, nat_tests, get_or-set_other, eq-eqb, is_some, ne_eqb, get_or-set_same)

module _ (old new : List (Option Leaf)) (marks : List Bool) (span : SpanRef) (map : SpanMap) (view : map_of old ≡ map) (kept : IsKept old marks) (size : length new ≡ length old) where
  well : IsWellFormed map
  well = subst IsWellFormed view kept.well_formed

  huge : length old - 1 ≡ map.huge
  huge = ap (λ (m : SpanMap). m.huge) view

  told : (page : ℕ) → begin_at old page ≡ find (begins page) map.spans
  told page = kept.begins page ∙ ap (λ (m : SpanMap). find (begins page) m.spans) view

  -- a span of the arena begins at a place of the set
  pub first_inside : IsInside map.huge span → span.first.0 < length marks
  first_inside inside = omega (arith, inside.some, inside.to, huge, well.some, kept.size)

  -- where a span begins there is a leaf
  pub leaf_there : Contains map.spans span → IsSome (get_or old (span.first.0 / 256) None)
  leaf_there there = grind (arith, nat_tests, told, true≢false, eq-eqb, find_nowhere)

  -- a span more, of pages that none has, begins at one page more
  pub means_with : IsInside map.huge span → All (AreApart span) map.spans → ((page : ℕ) → begin_at new page ≡ cond (page == span.first.0) (Some span) (begin_at old page)) → Means new (set marks span.first.0 true) (record map { spans = with_span span map.spans })
  means_with inside apart changed =
      let at = first_inside inside in
      means new (set marks span.first.0 true) map.huge (with_span span map.spans) (omega (arith, huge, well.some)) (with_span-well_formed map.huge span map.spans inside apart well)
      (λ page. changed page ∙ ap (cond (page == span.first.0) (Some span)) (told page) ∙ sym (begins-with_span map.huge page span map.spans apart inside.some well.inside))
      (set_tells marks (begin_at old) (begin_at new) span.first.0 (Some span) at kept.places changed)
      (length-set marks span.first.0 true ∙ kept.size ∙ ap (λ (n : ℕ). 256 * n) (sym size))

  -- and a span less at one less
  pub means_without : Contains map.spans span → ((page : ℕ) → begin_at new page ≡ cond (page == span.first.0) None (begin_at old page)) → Means new (set marks span.first.0 false) (record map { spans = without_span span map.spans })
  means_without there changed =
      let inside : IsInside map.huge span = subst (IsInside map.huge) there.2 (well.inside there.0 span there.1) in
      let at = first_inside inside in
      means new (set marks span.first.0 false) map.huge (without_span span map.spans) (omega (arith, huge, well.some)) (without_span-well_formed map.huge span map.spans well)
      (λ page. changed page ∙ ap (cond (page == span.first.0) None) (told page) ∙ sym (begins-without_span page span map.spans))
      (set_tells marks (begin_at old) (begin_at new) span.first.0 None at kept.places changed)
      (length-set marks span.first.0 false ∙ kept.size ∙ ap (λ (n : ℕ). 256 * n) (sym size))

-- two spans of a map that hold one page are one
same_span : (map : SpanMap) (s t : SpanRef) (page : ℕ) → IsWellFormed map → Contains map.spans s → Contains map.spans t → holds page s ≡ true → holds page t ≡ true → s ≡ t
same_span map s t page well s_there t_there s_holds t_holds = grind (arith, nat_tests, get_or_default map.spans t_there.0 s t t_there.1)

-- a span that begins at a page, and one that holds a page beginning at or before it
begins_at : (page : ℕ) (xs : List SpanRef) (s : SpanRef) → find (begins page) xs ≡ Some s → Contains xs s × (page ≡ s.first.0)
begins_at page xs s e = let found = find_there (begins page) xs s (sym e) in (found.0, eqb-true page s.first.0 found.1)

-- The span that holds a page is the last one that begins at or before it, if that one reaches so far.
module _ (leaves : List (Option Leaf)) (marks : List Bool) (map : SpanMap) (page : ℕ) (view : map_of leaves ≡ map) (kept : IsKept leaves marks) where
  all_well : IsWellFormed map
  all_well = subst IsWellFormed view kept.well_formed

  begin_is : (k : ℕ) → begin_at leaves k ≡ find (begins k) map.spans
  begin_is k = kept.begins k ∙ ap (λ (m : SpanMap). find (begins k) m.spans) view

  -- no span begins where the set has no place
  none_begins_at : (k : ℕ) → get_or marks k false ≡ false → All (λ s. begins k s ≡ false) map.spans
  none_begins_at k e = grind (arith, nat_tests, find_nowhere, begin_is, is_some, true≢false)

  -- a span that holds the page begins at a place of the set, at or before it
  holder_begins : (t : SpanRef) → Contains map.spans t → holds page t ≡ true → (t.first.0 ≤ page) × (get_or marks t.first.0 false ≡ true)
  holder_begins t there held = grind (arith, nat_tests, All-contains (λ s. begins t.first.0 s ≡ false) map.spans t, none_begins_at t.first.0)

  -- past the arena, or where no span has begun
  pub outside : 256 * length leaves ≤ page → None ≡ find (holds page) map.spans
  outside past = grind (arith, nat_tests, find_none, ends_before)

  pub none_begun : IsLast (λ k. get_or marks k false) 0 page None → None ≡ find (holds page) map.spans
  none_begun none =
      by_holder (find (holds page) map.spans) refl
    where
      by_holder : (o : Option SpanRef) → o ≡ find (holds page) map.spans → None ≡ o
      by_holder None e = refl
      by_holder (Some t) e = let found = find_there (holds page) map.spans t e in let at = holder_begins t found.0 found.1 in absurd (true≢false (sym at.1 ∙ none t.first.0 (omega arith) at.0))

  -- none but the one that begins at the last place holds the page
  last_alone : (at : ℕ) (s t : SpanRef) → IsLastAt (λ k. get_or marks k false) 0 page at → begin_at leaves at ≡ Some s → Contains map.spans t → holds page t ≡ true → s ≡ t
  last_alone at s t last begin there held =
      let own = begins_at at map.spans s (sym (begin_is at) ∙ begin) in
      let from = holder_begins t there held in
      let low : t.first.0 ≤ at =
      grind (arith, nat_tests, cases_lt, true≢false) in
      let s_some : 0 < s.pages = subst (λ (x : SpanRef). 0 < x.pages) own.0.2 (all_well.inside own.0.0 s own.0.1).some in
      let high : page < t.first.0 + t.pages = ltb-true page (t.first.0 + t.pages) (and_parts (nat_le t.first.0 page) (nat_lt page (t.first.0 + t.pages)) held).1 in
      let reach : at ≤ page = last.to in
      same_span map s t at all_well own.0 there
      (and_from (nat_le s.first.0 at) (nat_lt at (s.first.0 + s.pages)) (le-leb s.first.0 at (omega arith)) (lt-ltb at (s.first.0 + s.pages) (omega arith)))
      (and_from (nat_le t.first.0 at) (nat_lt at (t.first.0 + t.pages)) (le-leb t.first.0 at low) (lt-ltb at (t.first.0 + t.pages) (omega arith)))

  pub begun : (at : ℕ) (s : SpanRef) → IsLastAt (λ k. get_or marks k false) 0 page at → begin_at leaves at ≡ Some s → cond (holds page s) (Some s) None ≡ find (holds page) map.spans
  begun at s last begin = grind (arith, nat_tests, begins_at, begin_is, find_nowhere, find_there, last_alone)
