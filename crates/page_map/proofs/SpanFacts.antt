-- What spans in the order of their first pages give: the one that holds a page, one more, and one less.
use Rattle.std.proofs.Common.{◌≡◌, ℕ, zero, suc, ◌+◌, ◌<◌, ◌≤◌, ◌≢◌, Bool, true, false, ◌==◌, not, nat_lt, nat_le, List, [], ◌∷◌, length, get_or, find, All}
use Rattle.std.proofs.Common.{AllPairs, Contains, IsTrue, IfSome, IsNone, Option, Some, None, cond, refl, sym, ◌∙◌, subst, inl, inr, arith}
use Rattle.std.proofs.lemmas.Bool.Decides.{nat_tests}
use Rattle.std.proofs.lemmas.List.Elements.{All-cons, All-nil, All-head, All-tail, All-filter}
use Rattle.std.proofs.lemmas.List.Kept.{AllPairs-cons, AllPairs-filter}
use Rattle.std.proofs.lemmas.List.{get_or_default}
use Rattle.std.proofs.lemmas.Option.{none-some, same_Some}
use Rattle.std.proofs.lemmas.Bool.{cond_both, cases_Bool, cases_lt, cases_eq, and_parts, and_left, and_right, leb-true, lt-leb, le-ltb, ltb-true, ltb-false, true≢false, eqb-true, eqb-false, ne_eqb}
use Rattle.tc_units.specs.declared.spans.SpanRef.{SpanRef}
use Rattle.page_map.specs.Begins.{begins}
use Rattle.page_map.specs.Spans.{holds, with_span, without_span, IsInside, IsBefore, AreApart, IsWellFormed}

pub AllPairs-head : {X : Type 0} (R : X → X → Type 0) (x : X) (xs : List X) → AllPairs R (x ∷ xs) → All (R x) xs
AllPairs-head R x xs h = λ k d within. h zero (suc k) d (omega arith) (omega arith)

pub AllPairs-tail : {X : Type 0} (R : X → X → Type 0) (x : X) (xs : List X) → AllPairs R (x ∷ xs) → AllPairs R xs
AllPairs-tail R x xs h = λ i j d less within. h (suc i) (suc j) d (omega arith) (omega arith)

-- what `find` gives is in the list, and passes
pub find_there : {X : Type 0} (p : X → Bool) (xs : List X) (x : X) → Some x ≡ find p xs → Contains xs x × IsTrue (p x)
find_there p [] x e = absurd (none-some x (sym e))
find_there p (y ∷ ys) x e =
    elim (cases_Bool (p y)) [
      | inl passes ↦ grind (arith, nat_tests, same_Some)
      | inr fails ↦
          (let r = find_there p ys x (let F : Bool → Type 0 = λ b. Some x ≡ cond b (Some y) (find p ys) in subst F fails e) in
          ((suc r.0.0, omega arith, r.0.2), r.1))
    ]

-- where `find` gives nothing, nothing passes
pub find_nowhere : {X : Type 0} (p : X → Bool) (xs : List X) → None ≡ find p xs → All (λ x. p x ≡ false) xs
find_nowhere p [] e = All-nil (λ x. p x ≡ false)
find_nowhere p (y ∷ ys) e = grind (arith, nat_tests, cases_Bool, none-some, find_nowhere p ys)

-- and the other way round
pub find_none : {X : Type 0} (p : X → Bool) (xs : List X) → All (λ x. p x ≡ false) xs → None ≡ find p xs
find_none p [] all = refl
find_none p (y ∷ ys) all = rw (All-head (λ x. p x ≡ false) y ys all) (find_none p ys (All-tail (λ x. p x ≡ false) y ys all))

-- what `find` gives, as a contract says it
pub found : {X : Type 0} (p : X → Bool) (xs : List X) (o : Option X) → o ≡ find p xs → IfSome o (λ x. Contains xs x × IsTrue (p x))
found p xs o is = grind (arith, nat_tests, find_there)

pub found_none : {X : Type 0} (p : X → Bool) (xs : List X) (o : Option X) → o ≡ find p xs → (IsNone o → All (λ x. p x ≡ false) xs) × (All (λ x. p x ≡ false) xs → IsNone o)
found_none p xs o is = grind (arith, nat_tests, find_nowhere, true≢false, none-some, find_none)

-- a page behind a span's last one, or before its first one, is not held by it
pub ends_before : (page : ℕ) (s : SpanRef) → s.first.0 + s.pages ≤ page → holds page s ≡ false
ends_before page s le = and_right (nat_le s.first.0 page) (nat_lt page (s.first.0 + s.pages)) (le-ltb page (s.first.0 + s.pages) le)

pub begins_behind : (page : ℕ) (s : SpanRef) → page < s.first.0 → holds page s ≡ false
begins_behind page s lt = and_left (nat_le s.first.0 page) (nat_lt page (s.first.0 + s.pages)) (lt-leb s.first.0 page lt)

pub with_span-All : (P : SpanRef → Type 0) (span : SpanRef) (xs : List SpanRef) → P span → All P xs → All P (with_span span xs)
with_span-All P span [] one all = All-cons P span [] one all
with_span-All P span (x ∷ xs) one all = grind (arith, nat_tests, with_span-All P span xs one (All-tail P x xs all), cond_both, All-cons, All-head, All-tail)

-- a span that is set is one of the spans
pub with_span-there : (span : SpanRef) (xs : List SpanRef) → Contains (with_span span xs) span
with_span-there span [] = (0, omega arith, refl)
with_span-there span (x ∷ xs) =
    cond_both (nat_lt span.first.0 x.first.0) (span ∷ x ∷ xs) (x ∷ with_span span xs) (λ ys. Contains ys span) (λ _. (0, omega arith, refl))
    (λ _. let rest = with_span-there span xs in (suc rest.0, omega (arith, rest.1), rest.2))

pub with_span-apart : (span : SpanRef) (xs : List SpanRef) → 0 < span.pages → All (AreApart span) xs → AllPairs IsBefore xs → AllPairs IsBefore (with_span span xs)
with_span-apart span [] some apart order = AllPairs-cons IsBefore span [] (All-nil (IsBefore span)) order
with_span-apart span (x ∷ xs) some apart order =
    let later : All (IsBefore x) xs = AllPairs-head IsBefore x xs order in
    let rest : AllPairs IsBefore xs = AllPairs-tail IsBefore x xs order in
    let first : AreApart span x = All-head (AreApart span) x xs apart in
    cond_both (nat_lt span.first.0 x.first.0) (span ∷ x ∷ xs) (x ∷ with_span span xs) (AllPairs IsBefore)
    (grind (arith, nat_tests, ltb-true))
    (λ e.
    let above : x.first.0 ≤ span.first.0 = ltb-false span.first.0 x.first.0 e in
    let before : IsBefore x span = elim first [ inl wrong ↦ absurd (omega arith) | inr ok ↦ ok ] in
    AllPairs-cons IsBefore x (with_span span xs) (with_span-All (IsBefore x) span xs before later) (with_span-apart span xs some (All-tail (AreApart span) x xs apart) rest))

-- a map with one more span is well formed
pub with_span-well_formed : (huge : ℕ) (span : SpanRef) (xs : List SpanRef) → IsInside huge span → All (AreApart span) xs → IsWellFormed (record { huge = huge; spans = xs }) → IsWellFormed (record { huge = huge; spans = with_span span xs })
with_span-well_formed huge span xs inside apart well =
    grind (arith, with_span-All (IsInside huge) span xs inside well.inside, with_span-apart span xs inside.some apart well.apart)

-- and so is one with one less
pub without_span-well_formed : (huge : ℕ) (span : SpanRef) (xs : List SpanRef) → IsWellFormed (record { huge = huge; spans = xs }) → IsWellFormed (record { huge = huge; spans = without_span span xs })
without_span-well_formed huge span xs well = grind (
  arith,
  All-filter (λ s. not (s.first.0 == span.first.0)) (IsInside huge) xs well.inside,
  AllPairs-filter IsBefore (λ s. not (s.first.0 == span.first.0)) xs well.apart,
)

-- no two spans begin at one page
first_pages_differ : (huge : ℕ) (xs : List SpanRef) (d : SpanRef) (i j : ℕ) → IsWellFormed (record { huge = huge; spans = xs }) → i < length xs → j < length xs → i ≢ j → (get_or xs i d).first.0 ≡ (get_or xs j d).first.0 → ⊥
first_pages_differ huge xs d i j well i_in j_in other same = grind (arith, nat_tests)

-- spans apart hold no page together
pub apart_holds : (page : ℕ) (s t : SpanRef) → AreApart s t → holds page t ≡ true → holds page s ≡ false
apart_holds page s t apart held = grind (arith, nat_tests, leb-true, ends_before, begins_behind, and_parts, nat_lt, nat_le, ltb-true)

-- what is found once a span is set, of those that pass a test which it fails where another passes
pub find-with : (p : SpanRef → Bool) (span : SpanRef) (xs : List SpanRef) → All (λ x. p x ≡ true → p span ≡ false) xs → find p (with_span span xs) ≡ cond (p span) (Some span) (find p xs)
find-with p span [] apart = refl
find-with p span (x ∷ xs) apart =
    grind (arith, nat_tests, find-with p span xs (All-tail (λ y. p y ≡ true → p span ≡ false) x xs apart), All-tail, cond_both, All-head)

-- so what a page is held by, and what begins there
pub find-with_span : (page : ℕ) (span : SpanRef) (xs : List SpanRef) → All (AreApart span) xs → find (holds page) (with_span span xs) ≡ cond (holds page span) (Some span) (find (holds page) xs)
find-with_span page span xs apart = find-with (holds page) span xs (λ k d within held. apart_holds page span (get_or xs k d) (apart k d within) held)

pub begins-with_span : (huge page : ℕ) (span : SpanRef) (xs : List SpanRef) → All (AreApart span) xs → 0 < span.pages → All (IsInside huge) xs → find (begins page) (with_span span xs) ≡ cond (begins page span) (Some span) (find (begins page) xs)
begins-with_span huge page span xs apart some inside = grind (arith, nat_tests, ne_eqb, eqb-true, find-with)

-- how a span that is kept or left out relates to the one that is cleared, by a test
record Relates (p : SpanRef → Bool) (span s : SpanRef) : Type 0 where
  same : (s.first.0 == span.first.0) ≡ true → p s ≡ p span
  other : (s.first.0 == span.first.0) ≡ false → p span ≡ true → p s ≡ false

-- a step of the next lemma, by what its three tests answer
find_left_step : (p : SpanRef → Bool) (x : SpanRef) (left : List SpanRef) (later : Option SpanRef) (cut held gone : Bool) → (cut ≡ true → held ≡ gone) → (cut ≡ false → gone ≡ true → held ≡ false) → find p left ≡ cond gone None later → p x ≡ held → find p (cond (not cut) (x ∷ left) left) ≡ cond gone None (cond held (Some x) later)
find_left_step p x left later cut held gone same other rest at = grind (arith, nat_tests, true≢false)

find_left : (p : SpanRef → Bool) (span : SpanRef) (xs : List SpanRef) → All (Relates p span) xs → find p (without_span span xs) ≡ cond (p span) None (find p xs)
find_left p span [] all = grind (arith, nat_tests)
find_left p span (x ∷ xs) all = grind (arith, find_left p span xs (All-tail (Relates p span) x xs all), All-tail, All-head, find_left_step)

pub begins-without_span : (page : ℕ) (span : SpanRef) (xs : List SpanRef) → find (begins page) (without_span span xs) ≡ cond (begins page span) None (find (begins page) xs)
begins-without_span page span xs = grind (arith, nat_tests, ne_eqb, find_left, eqb-false, eqb-true)

-- the spans apart from a set one are the others
relates : (huge : ℕ) (page : ℕ) (span : SpanRef) (xs : List SpanRef) → IsWellFormed (record { huge = huge; spans = xs }) → Contains xs span → All (Relates (holds page) span) xs
relates huge page span xs well there = λ k d within.
    let at = there in
    let here : get_or xs at.0 d ≡ span = get_or_default xs at.0 d span at.1 ∙ at.2 in
    grind (arith, nat_tests, cases_eq, eqb-false, first_pages_differ, cases_lt, eqb-true, apart_holds)

-- what a page is held by once a span is cleared
pub find-without_span : (huge : ℕ) (page : ℕ) (span : SpanRef) (xs : List SpanRef) → IsWellFormed (record { huge = huge; spans = xs }) → Contains xs span → find (holds page) (without_span span xs) ≡ cond (holds page span) None (find (holds page) xs)
find-without_span huge page span xs well there = find_left (holds page) span xs (relates huge page span xs well there)
