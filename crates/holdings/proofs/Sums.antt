-- Sums over accounts, classes and names, and counts of runs, spans and objects.
use Rattle.std.proofs.Common.{◌≡◌, ◌≢◌, ℕ, zero, suc, ◌+◌, ◌<◌, ◌≤◌, Bool, true, false, eqb, cond, List, []}
use Rattle.std.proofs.Common.{◌∷◌, ◌++◌, length, get_or, Some, refl, sym, ap, ◌∙◌, subst, arith, inl, inr, ◌⊎◌}
use Rattle.std.specs.Prelude.{All, sum_by, filter}
use Rattle.std.specs.List.{slice_get, slice_set, list_any, range_with_len}
use Rattle.std.proofs.lemmas.Bool.{cases_Bool, cases_eq, eq-eqb, ne_eqb, eqb-true, and_parts, cases_lt}
use Rattle.std.proofs.lemmas.List.{get_or-set_same, get_or-set_other}
use Rattle.std.proofs.lemmas.List.Sums.{sum_by-set, sum_by-cons, get_or-le-sum_by}
use Rattle.std.proofs.lemmas.List.Elements.{All-cons, All-head, All-tail}
use Rattle.std.proofs.lemmas.Option.{slice_get_within, get_or_from_slice_get, slice_get-get_or}
use Rattle.tc_units.specs.declared.spans.ClassRow.{ClassRow}
use Rattle.tc_units.specs.declared.spans.Run.{Run}
use Rattle.tc_units.specs.declared.spans.SpanRef.{SpanRef}
use Rattle.tc_units.specs.declared.spans.SpanKind.{SpanKind}
use Rattle.tc_units.specs.declared.spans.SpanKind.TheVariants.{Small, Large}
use Rattle.tc_model.specs.Blocks.{Extent, meets}
use Rattle.tc_model.proofs.Lists.{set_here, set_elsewhere}
use Rattle.name_table.specs.declared.table.NameState.{NameState}
use Rattle.name_table.specs.Names.{state_of}
use Rattle.holdings.specs.Runs.{bit, first_byte, run_of, same_run, same_kind, same_span, runs_like, runs_at, less, spans_like, spans_of_run, spans_at, without}
use Rattle.holdings.specs.Books.{over_classes}
use Rattle.std.proofs.lemmas.List.FromFn.{get_or-range_with_len, length-range_with_len}
use Rattle.std.proofs.lemmas.Bool.Decides.{nat_tests}

-- tests as numbers
pub bit_is : (b : Bool) → 0 < bit b → b ≡ true
bit_is true some = refl
bit_is false some = absurd (omega arith)

pub bit_most : (b : Bool) → bit b ≤ 1
bit_most true = omega arith
bit_most false = omega arith

-- what holds of each element holds of one of them
pub of_all : {X : Type 0} (P : X → Type 0) (xs : List X) (i : ℕ) (x : X) → All P xs → slice_get xs i ≡ Some x → P x
of_all P xs i x all is = subst P (get_or_from_slice_get xs i x x is) (all i x (slice_get_within xs i x is))

-- one account in place of another
pub shift : {X : Type 0} (g : X → ℕ) (xs : List X) (t : ℕ) (l l' : X) → slice_get xs t ≡ Some l → sum_by g (slice_set xs t l') + g l ≡ sum_by g xs + g l'
shift g xs t l l' is =
    grind (arith, sum_by-set g xs t l' l (slice_get_within xs t l is), slice_get_within xs t l is, g (get_or xs t l), g l, get_or_from_slice_get xs t l l is)

pub least : {X : Type 0} (g : X → ℕ) (xs : List X) (t : ℕ) (l : X) → slice_get xs t ≡ Some l → g l ≤ sum_by g xs
least g xs t l is =
    grind (arith, get_or-le-sum_by g xs t l (slice_get_within xs t l is), slice_get_within xs t l is, g (get_or xs t l), g l, get_or_from_slice_get xs t l l is)

-- two accounts
pub two : {X : Type 0} (g : X → ℕ) (xs : List X) (i t : ℕ) (x y : X) → i ≢ t → slice_get xs i ≡ Some x → slice_get xs t ≡ Some y → g x + g y ≤ sum_by g xs
two g [] i t x y other here there = absurd (cc)
two g (z ∷ zs) zero zero x y other here there = absurd (other refl)
two g (z ∷ zs) zero (suc t) x y other here there = let e : g z ≡ g x = ap g cc in omega (arith, e, least g zs t y there, sum_by-cons g z zs)
two g (z ∷ zs) (suc i) zero x y other here there = let e : g z ≡ g y = ap g cc in omega (arith, e, least g zs i x here, sum_by-cons g z zs)
two g (z ∷ zs) (suc i) (suc t) x y other here there = omega (arith, two g zs i t x y (λ e. other (ap (λ n. suc n) e)) here there, sum_by-cons g z zs)

-- where f is at most g at each, the sums are as far apart as f and g are at one
sum_most : {X : Type 0} (f g : X → ℕ) (xs : List X) → ((x : X) → f x ≤ g x) → sum_by f xs ≤ sum_by g xs
sum_most f g [] most = omega arith
sum_most f g (x ∷ xs) most = omega (arith, most x, sum_most f g xs most, sum_by-cons f x xs, sum_by-cons g x xs)

pub gap : {X : Type 0} (f g : X → ℕ) (xs : List X) (t : ℕ) (l : X) → ((x : X) → f x ≤ g x) → slice_get xs t ≡ Some l → sum_by f xs + g l ≤ sum_by g xs + f l
gap f g [] t l most is = absurd (cc)
gap f g (x ∷ xs) zero l most is = grind (arith, sum_by-cons, sum_most)
gap f g (x ∷ xs) (suc t) l most is = omega (arith, most x, gap f g xs t l most is, sum_by-cons f x xs, sum_by-cons g x xs)

-- one account at one place
pub one_at : {X : Type 0} (xs : List X) (i t : ℕ) (x y : X) → slice_get xs i ≡ Some x → slice_get xs t ≡ Some y → i ≡ t → x ≡ y
one_at xs i t x y here there same = let e : Some x ≡ Some y = sym here ∙ (ap (λ j. slice_get xs j) same ∙ there) in cc

-- an account that counts, where the sum isn't 0
pub record Counted {X : Type 0} (g : X → ℕ) (xs : List X) : Type 0 where
  pub at : ℕ
  pub one : X
  pub is : slice_get xs at ≡ Some one
  pub some : 0 < g one

pub counted : {X : Type 0} (g : X → ℕ) (xs : List X) → 0 < sum_by g xs → Counted g xs
counted g [] some = absurd (omega arith)
counted g (x ∷ xs) some =
    elim (cases_lt 0 (g x)) [
      | inl here ↦ record { at = 0; one = x; is = refl; some = here }
      | inr not_here ↦ let c = counted g xs (omega (arith, sum_by-cons g x xs)) in record { at = suc c.at; one = c.one; is = c.is; some = c.some }
    ]

pub none_counts : {X : Type 0} (g : X → ℕ) (xs : List X) → ((i : ℕ) (x : X) → slice_get xs i ≡ Some x → g x ≡ 0) → sum_by g xs ≡ 0
none_counts g xs none = grind (arith, nat_tests, counted g xs)

pub sum_of_both : {X : Type 0} (f g : X → ℕ) (xs : List X) → sum_by (λ (x : X). f x + g x) xs ≡ sum_by f xs + sum_by g xs
sum_of_both f g [] = refl
sum_of_both {X} f g (x ∷ xs) = omega (arith, sum_of_both f g xs, sum_by-cons (λ (y : X). f y + g y) x xs, sum_by-cons f x xs, sum_by-cons g x xs)

-- accounts after one was written
pub set_cases : {X : Type 0} (xs : List X) (t : ℕ) (l l' : X) → slice_get xs t ≡ Some l
    → (i : ℕ) (x : X) → slice_get (slice_set xs t l') i ≡ Some x → (l' ≡ x) ⊎ (slice_get xs i ≡ Some x)
set_cases xs t l l' there i x is = grind (arith, cases_eq, set_elsewhere, set_here)

pub set_twice : {X : Type 0} (xs : List X) (t : ℕ) (x y : X) → slice_set (slice_set xs t x) t y ≡ slice_set xs t y
set_twice [] t x y = refl
set_twice (z ∷ zs) zero x y = refl
set_twice (z ∷ zs) (suc t) x y = ap (λ ys. z ∷ ys) (set_twice zs t x y)

-- Over classes.
sum_same : (f g : ℕ → ℕ) (a n : ℕ) → ((k : ℕ) → a ≤ k → k < a + n → g k ≡ f k) → sum_by g (range_with_len a n) ≡ sum_by f (range_with_len a n)
sum_same f g a zero same = refl
sum_same f g a (suc n) same = grind (arith, sum_by-cons, (sum_same f g (a + 1) n))

sum_shift : (f g : ℕ → ℕ) (c a n : ℕ) → a ≤ c → c < a + n → ((k : ℕ) → k ≢ c → g k ≡ f k) → sum_by g (range_with_len a n) + f c ≡ sum_by f (range_with_len a n) + g c
sum_shift f g c a zero from to same = absurd (omega arith)
sum_shift f g c a (suc n) from to same = grind (arith, nat_tests, sum_shift f g c (a + 1) n, sum_by-cons, sum_same)

pub class_shift : (rows : List ClassRow) (f g : ℕ → ℕ) (c : ℕ) → c < length rows → ((k : ℕ) → k ≢ c → g k ≡ f k) → over_classes rows g + f c ≡ over_classes rows f + g c
class_shift rows f g c below same = sum_shift f g c 0 (length rows) (omega arith) (omega arith) same

pub class_same : (rows : List ClassRow) (f g : ℕ → ℕ) → ((k : ℕ) → k < length rows → g k ≡ f k) → over_classes rows g ≡ over_classes rows f
class_same rows f g same = sum_same f g 0 (length rows) (λ k past below. same k (omega (arith, below)))

sum_zero : (xs : List ℕ) → sum_by (λ (k : ℕ). 0) xs ≡ 0
sum_zero [] = refl
sum_zero (x ∷ xs) = omega (arith, sum_zero xs, sum_by-cons (λ (k : ℕ). 0) x xs)

pub class_zero : (rows : List ClassRow) (f : ℕ → ℕ) → ((k : ℕ) → f k ≡ 0) → over_classes rows f ≡ 0
class_zero rows f zeros = class_same rows (λ (k : ℕ). 0) f (λ k below. zeros k) ∙ sum_zero (range_with_len 0 (length rows))

-- one class alone counts
pub class_alone : (rows : List ClassRow) (f : ℕ → ℕ) (c : ℕ) → c < length rows → ((k : ℕ) → k ≢ c → f k ≡ 0) → over_classes rows f ≡ f c
class_alone rows f c below zeros = omega (arith, class_shift rows (λ (k : ℕ). 0) f c below zeros, sum_zero (range_with_len 0 (length rows)))

pub class_least : (rows : List ClassRow) (f : ℕ → ℕ) (c : ℕ) → c < length rows → f c ≤ over_classes rows f
class_least rows f c below =
    let e : slice_get (range_with_len 0 (length rows)) c ≡ Some c =
    slice_get-get_or (range_with_len 0 (length rows)) c 0 (omega (arith, length-range_with_len 0 (length rows)))
    ∙ ap (λ (k : ℕ). Some k) (get_or-range_with_len 0 (length rows) c 0 below ∙ (let z : 0 + c ≡ c = omega arith in z)) in
    least f (range_with_len 0 (length rows)) c c e

pub class_counts : (rows : List ClassRow) (f : ℕ → ℕ) → 0 < over_classes rows f → (k : ℕ) × (0 < f k)
class_counts rows f some = let c = counted f (range_with_len 0 (length rows)) some in (c.one, c.some)

-- Names, after one was written.
pub name_cases : (names : List NameState) (i : ℕ) (new : NameState) → i < length names → (x : ℕ)
    → ((eqb i x ≡ true) × (state_of (slice_set names i new) x ≡ new) × (i ≡ x)) ⊎ ((eqb i x ≡ false) × (state_of (slice_set names i new) x ≡ state_of names x))
name_cases names i new within x = grind (arith, cases_eq, eq-eqb, get_or-set_other, get_or-set_same, ne_eqb)

-- Runs and spans that are one.
pub same_run_is : (x y : Run) → same_run x y ≡ true → x ≡ y
same_run_is x y is = grind (arith, and_parts, eqb, eqb-true)

pub same_run_refl : (x : Run) → same_run x x ≡ true
same_run_refl x = let a = eq-eqb x.first.0 x.first.0 refl in let b = eq-eqb x.pages x.pages refl in (rw (a, b) refl)

pub same_kind_is : (j k : SpanKind) → same_kind j k ≡ true → j ≡ k
same_kind_is j k is = grind (arith)

pub same_kind_refl : (k : SpanKind) → same_kind k k ≡ true
same_kind_refl Large = refl
same_kind_refl (Small k) = eq-eqb k.0 k.0 refl

pub same_span_is : (x y : SpanRef) → same_span x y ≡ true → x ≡ y
same_span_is x y is = grind (arith, and_parts, same_kind_is, same_run_is)

pub same_span_refl : (x : SpanRef) → same_span x x ≡ true
same_span_refl x = let a = same_run_refl (run_of x) in let b = same_kind_refl x.kind in rw (a, b) refl

pub same_run_start : (x y : Run) → bit (same_run x y) ≤ bit (eqb (first_byte x) (first_byte y))
same_run_start x y = grind (arith, cases_Bool, eq-eqb, same_run_is)

pub same_span_run : (x y : SpanRef) → bit (same_span x y) ≤ bit (same_run (run_of x) (run_of y))
same_span_run x y = grind (arith, bit_most, cases_Bool)

-- A number that counts what is in a list.
pub record Counts {X : Type 0} (f : List X → ℕ) (p : X → ℕ) : Type 0 where
  pub none : f [] ≡ 0
  pub more : (x : X) (xs : List X) → f (x ∷ xs) ≡ p x + f xs

pub like : (r : Run) → Counts (runs_like r) (λ (x : Run). bit (same_run x r))
like r = record { none = refl; more = λ x xs. refl }

pub starting : (a : ℕ) → Counts (runs_at a) (λ (x : Run). bit (eqb (first_byte x) a))
starting a = record { none = refl; more = λ x xs. refl }

pub like_span : (s : SpanRef) → Counts (spans_like s) (λ (x : SpanRef). bit (same_span x s))
like_span s = record { none = refl; more = λ x xs. refl }

pub of_run : (r : Run) → Counts (spans_of_run r) (λ (x : SpanRef). bit (same_run (run_of x) r))
of_run r = record { none = refl; more = λ x xs. refl }

pub starting_span : (a : ℕ) → Counts (spans_at a) (λ (x : SpanRef). bit (eqb (first_byte (run_of x)) a))
starting_span a = record { none = refl; more = λ x xs. refl }

no_count : {X : Type 0} → Counts {X = X} (λ (xs : List X). 0) (λ (x : X). 0)
no_count = record { none = refl; more = λ x xs. refl }

pub counts_both : {X : Type 0} {f g h : List X → ℕ} {p q r : X → ℕ} → Counts f p → Counts g q → Counts h r → ((x : X) → p x + q x ≤ r x) → (xs : List X) → f xs + g xs ≤ h xs
counts_both cf cg ch most [] = omega (arith, cf.none, cg.none, ch.none)
counts_both cf cg ch most (x ∷ xs) = omega (arith, most x, counts_both cf cg ch most xs, cf.more x xs, cg.more x xs, ch.more x xs)

pub counts_most : {X : Type 0} {f h : List X → ℕ} {p r : X → ℕ} → Counts f p → Counts h r → ((x : X) → p x ≤ r x) → (xs : List X) → f xs ≤ h xs
counts_most cf ch most xs = let e = counts_both cf no_count ch (λ x. omega (arith, most x)) xs in omega (arith, e)

pub counts_append : {X : Type 0} {f : List X → ℕ} {p : X → ℕ} → Counts f p → (xs ys : List X) → f (xs ++ ys) ≡ f xs + f ys
counts_append c [] ys = omega (arith, c.none)
counts_append c (x ∷ xs) ys = omega (arith, counts_append c xs ys, c.more x (xs ++ ys), c.more x xs)

-- one that counts
pub record Among {X : Type 0} (p : X → ℕ) (xs : List X) : Type 1 where
  pub one : X
  pub some : 0 < p one
  pub least : (g : List X → ℕ) (q : X → ℕ) → Counts g q → q one ≤ g xs

pub among : {X : Type 0} {f : List X → ℕ} {p : X → ℕ} → Counts f p → (xs : List X) → 0 < f xs → Among p xs
among c [] some = absurd (omega (arith, c.none))
among {X} {f} {p} c (x ∷ xs) some =
    elim (cases_lt 0 (p x)) [
      | inl here ↦ record { one = x; some = here; least = λ g q d. omega (arith, d.more x xs) }
      | inr not_here ↦ let a = among c xs (omega (arith, c.more x xs)) in record { one = a.one; some = a.some; least = λ g q d. omega (arith, d.more x xs, a.least g q d) }
    ]

-- runs and spans without one of them
without_by : {X : Type 0} (same : X → X → Bool) (r x : X) (xs ys : List X) {f : List X → ℕ} {p : X → ℕ} → ((y z : X) → same y z ≡ true → y ≡ z)
    → Counts f p → (b : Bool) → same x r ≡ b → (b ≡ false → f ys + p r ≡ f xs) → f (cond b xs (x ∷ ys)) + p r ≡ f (x ∷ xs)
without_by same r x xs ys {f} {p} one c true is rest = let e : p x ≡ p r = ap p (one x r is) in omega (arith, e, c.more x xs)
without_by same r x xs ys one c false is rest = omega (arith, rest refl, c.more x xs, c.more x ys)

pub less_counts : (r : Run) (xs : List Run) → 0 < runs_like r xs → {f : List Run → ℕ} {p : Run → ℕ} → Counts f p → f (less r xs) + p r ≡ f xs
less_counts r [] some c = absurd (omega arith)
less_counts r (x ∷ xs) some c =
    without_by same_run r x xs (less r xs) same_run_is c (same_run x r) refl (λ (other : same_run x r ≡ false). less_counts r xs (omega (arith, ap bit other)) c)

pub without_counts : (r : SpanRef) (xs : List SpanRef) → 0 < spans_like r xs → {f : List SpanRef → ℕ} {p : SpanRef → ℕ} → Counts f p → f (without r xs) + p r ≡ f xs
without_counts r [] some c = absurd (omega arith)
without_counts r (x ∷ xs) some c =
    without_by same_span r x xs (without r xs) same_span_is c (same_span x r) refl (λ (other : same_span x r ≡ false). without_counts r xs (omega (arith, ap bit other)) c)

-- Blocks.
pub All-weaken : {X : Type 0} (P Q : X → Type 0) (xs : List X) → ((x : X) → P x → Q x) → All P xs → All Q xs
All-weaken P Q xs gives all i d within = gives (get_or xs i d) (all i d within)

pub none_meets : (b : Extent) (bs : List Extent) → All (λ x. meets b x ≡ false) bs → list_any (meets b) bs ≡ false
none_meets b [] all = refl
none_meets b (x ∷ xs) all = grind (arith, none_meets b xs (All-tail (λ y. meets b y ≡ false) x xs all), All-head, All-tail)

pub All-kept : {X : Type 0} (P Q : X → Type 0) (p : X → Bool) (xs : List X) → ((x : X) → P x → p x ≡ true → Q x) → All P xs → All Q (filter p xs)
All-kept P Q p [] gives all = λ i d within. absurd (omega arith)
All-kept {X} P Q p (x ∷ xs) gives all = grind (arith, All-kept P Q p xs gives (All-tail P x xs all), All-tail, All-cons, All-head)
