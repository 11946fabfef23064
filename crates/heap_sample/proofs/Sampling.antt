-- The samples of calls with one call more: sums, live samples, the peak.
use Rattle.std.proofs.Common.{refl, ◌≡◌, ℕ, ◌+◌, ◌<◌, ◌≤◌, Bool, true, false, not, ◌||◌, ◌&&◌, List, [], ◌∷◌, ◌++◌, length, take, cond}
use Rattle.std.proofs.Common.{slice_index, slice_set, sym, ap, subst, ◌∙◌, inl, inr, arith, ◌==◌, None}
use Rattle.std.specs.List.{filter, sum_by}
use Rattle.std.proofs.lemmas.Bool.{cases_Bool, cases_lt, cases_eq, eq-eqb, ne_eqb, le-ltb}
use Rattle.std.proofs.lemmas.List.{append-nil, append_assoc, length-append, length-set, get_or-set_same, get_or-set_other, take-append-le, take_all}
use Rattle.std.proofs.lemmas.List.Elements.{filter-append}
use Rattle.std.proofs.lemmas.List.Folds.{list_any-append}
use Rattle.std.proofs.lemmas.List.Sums.{sum_by-cons, sum_by-append, sum_by_push, sum_by-le-sum_by, get_or-le-sum_by}
use Rattle.std.proofs.lemmas.Option.{none-some}
use Rattle.std.proofs.lemmas.Bool.Decides.{nat_tests}
use Rattle.heap_sample.proofs.LiveFacts.{at_most}
use Rattle.tc_model.specs.Blocks.{frees, freed_in, answer_to, allocates}
use Rattle.tc_model.specs.declared.calls.Call.{Call}
use Rattle.tc_model.specs.declared.calls.Call.TheVariants.{Malloc}
use Rattle.tc_model.specs.declared.answers.Answer.{Answer}
use Rattle.tc_model.specs.declared.answers.Answer.TheVariants.{Block}
use Rattle.tc_model.specs.declared.answers.CallLine.{CallLine}
use Rattle.heap_sample.specs.declared.sample.Sample.{Sample}
use Rattle.heap_sample.specs.declared.sample.Peak.{Peak}
use Rattle.heap_sample.specs.Samples.{bytes_asked, asked_by, sample_under, sample_of, samples_behind, samples, live_samples, weight_in, AreSame, IsPeak, IsFirstUse, IsFresh}
use Rattle.heap_sample.specs.Profiles.{Noted, Follows, IsProfileOf}

-- the samples of calls and one more
samples_push : (step : ℕ) (earlier calls : List CallLine) (c : CallLine)
    → samples_behind step earlier (calls ++ c ∷ []) ≡ samples_behind step earlier calls ++ sample_of step (earlier ++ calls) c
samples_push step earlier [] c = append-nil (sample_of step earlier c) ∙ ap (λ (es : List CallLine). sample_of step es c) (sym (append-nil earlier))
samples_push step earlier (d ∷ calls) c = grind (arith, append_assoc, (samples_push step (earlier ++ d ∷ []) calls c))

-- a sum over a filter is one over all, and a filter by two tests is one behind the other
sum_filtered : {X : Type 0} (f : X → ℕ) (q : X → Bool) (xs : List X) → sum_by f (filter q xs) ≡ sum_by (λ x. cond (q x) (f x) 0) xs
sum_filtered f q [] = refl
sum_filtered {X} f q (x ∷ xs) =
    grind (arith, nat_tests, sum_filtered f q xs, sum_by-cons (λ (y : X). cond (q y) (f y) 0) x xs, q x, f x, sum_by-cons f x (filter q xs))

twice : {X : Type 0} (p q r : X → Bool) (xs : List X) → ((x : X) → r x ≡ (p x && q x)) → filter r xs ≡ filter q (filter p xs)
twice p q r [] both = refl
twice {X} p q r (x ∷ xs) both = grind (arith, cases_Bool, (twice p q r xs both))

-- what a call adds to a thread's sum
pub asked_push : (thread : ℕ) (calls : List CallLine) (c : CallLine) → asked_by thread (calls ++ c ∷ []) ≡ asked_by thread calls + cond (c.thread.0 == thread) (bytes_asked c.call c.answer) 0
asked_push thread calls c = sum_by_push (λ (d : CallLine). cond (d.thread.0 == thread) (bytes_asked d.call d.answer) 0) calls c

or_false : (b : Bool) → (b || false) ≡ b
or_false true = refl
or_false false = refl

-- a label is freed among calls and one more
freed_push : (label : ℕ) (calls : List CallLine) (c : CallLine) → freed_in label (calls ++ c ∷ []) ≡ (freed_in label calls || frees label c.call)
freed_push label calls c = list_any-append (λ (d : CallLine). frees label d.call) calls (c ∷ []) ∙ ap (λ (b : Bool). freed_in label calls || b) (or_false (frees label c.call))

-- the sample of a call is live behind it, where its label is new
new_lives : (step before : ℕ) (calls : List CallLine) (call : Call) (answer : Answer) → IsFirstUse calls call
    → filter (λ s. not (freed_in s.0 calls || frees s.0 call)) (sample_under step before call answer) ≡ sample_under step before call answer
new_lives step before calls call answer first = grind (arith)

not_or : (a b : Bool) → not (a || b) ≡ (not a && not b)
not_or true b = refl
not_or false b = refl

same_filter : {X : Type 0} (p q : X → Bool) (xs : List X) → ((x : X) → p x ≡ q x) → filter p xs ≡ filter q xs
same_filter p q [] same = refl
same_filter {X} p q (x ∷ xs) same = rw (same x) (ap (λ (ys : List X). cond (q x) (x ∷ ys) ys) (same_filter p q xs same))

-- the live samples of calls and one more
pub live_push : (step : ℕ) (calls : List CallLine) (c : CallLine) → IsFirstUse calls c.call
    → AreSame (live_samples step (calls ++ c ∷ [])) (sample_of step calls c ++ filter (λ s. not (frees s.0 c.call)) (live_samples step calls))
live_push step calls c first f = grind (arith, filter-append, freed_push, new_lives, not_or, same_filter, samples_push, sum_by-append, twice)

-- samples that are the same stay so where those of a label go
pub same_kept : (call : Call) (ones others : List (ℕ × Sample)) → AreSame ones others → AreSame (filter (λ s. not (frees s.0 call)) ones) (filter (λ s. not (frees s.0 call)) others)
same_kept call ones others same f = grind (arith, sum_filtered)

-- The peak of calls and one more.
module _ (step : ℕ) (calls : List CallLine) (c : CallLine) (peak : Peak) (is : IsPeak step calls peak) where
  abbrev weight : ℕ → ℕ
  weight k = weight_in (live_samples step (take k (calls ++ c ∷ [])))

  earlier : (k : ℕ) → k ≤ length calls → weight k ≡ weight_in (live_samples step (take k calls))
  earlier k le = ap (λ (es : List CallLine). weight_in (live_samples step es)) (take-append-le k calls (c ∷ []) le)

  size : length (calls ++ c ∷ []) ≡ length calls + 1
  size = length-append calls (c ∷ [])

  all : weight (length calls + 1) ≡ weight_in (live_samples step (calls ++ c ∷ []))
  all = ap (λ (es : List CallLine). weight_in (live_samples step es)) (take_all (length calls + 1) (calls ++ c ∷ []) (omega (arith, size)))

  at_end : (k : ℕ) → k ≡ length calls + 1 → weight k ≡ weight_in (live_samples step (calls ++ c ∷ []))
  at_end k e = ap weight e ∙ all

  pub risen : (now : ℕ) → now ≡ weight_in (live_samples step (calls ++ c ∷ [])) → peak.bytes < now → IsPeak step (calls ++ c ∷ []) (record { bytes = now; call = length calls + 1 })
  risen now e more = grind (arith, all, at_end, cases_lt, earlier, size)

  pub stayed : (now : ℕ) → now ≡ weight_in (live_samples step (calls ++ c ∷ [])) → now ≤ peak.bytes → IsPeak step (calls ++ c ∷ []) peak
  stayed now e less = grind (arith, at_end, cases_lt, earlier, size)

-- what a thread's entry is behind a call
asked_now : (asked : List ℕ) (calls : List CallLine) (c : CallLine) (thread : ℕ) → c.thread.0 < length asked → ((t : ℕ) → t < length asked → slice_index asked t ≡ asked_by t calls)
    → thread < length asked → slice_index (slice_set asked c.thread.0 (slice_index asked c.thread.0 + bytes_asked c.call c.answer)) thread ≡ asked_by thread (calls ++ c ∷ [])
asked_now asked calls c thread inside was l = grind (arith, asked_push, cases_eq, eq-eqb, get_or-set_other, get_or-set_same, ne_eqb, slice_index, slice_set)

-- a call that follows makes a profile that of the calls with it
pub followed : (calls : List CallLine) (c : CallLine) (old new : Noted) → c.thread.0 < length old.asked → Follows old c new → IsProfileOf calls old
    → IsFirstUse calls c.call → IsProfileOf (calls ++ c ∷ []) new
followed calls c old new inside f is first =
    let sample = ap (λ (n : ℕ). sample_under old.step n c.call c.answer) (is.asked c.thread.0 inside) in
    let live : AreSame new.live (live_samples old.step (calls ++ c ∷ [])) = λ g.
    let q : List (ℕ × Sample) → List (ℕ × Sample) = filter (λ s. not (frees s.0 c.call)) in
    f.live g ∙ sum_by-append g (sample_under old.step (slice_index old.asked c.thread.0) c.call c.answer) (q old.live) ∙ omega (
      arith,
      ap (sum_by g) sample,
      same_kept c.call old.live (live_samples old.step calls) is.live g,
      sum_by-append g (sample_of old.step calls c) (q (live_samples old.step calls)),
      live_push old.step calls c first g,
    ) in
    let weight : weight_in new.live ≡ weight_in (live_samples old.step (calls ++ c ∷ [])) = live (λ s. s.1.weight) in
    let count : new.calls ≡ length calls + 1 = f.calls ∙ ap (λ (n : ℕ). n + 1) is.count in
    let peak : IsPeak old.step (calls ++ c ∷ []) new.peak = elim (cases_lt old.peak.bytes (weight_in new.live)) [
      | inl more ↦ grind (arith, nat_tests, risen old.step calls c old.peak is.peak (weight_in new.live) weight more)
      | inr less ↦ subst (λ (p : Peak). IsPeak old.step (calls ++ c ∷ []) p)
          (sym (f.peak ∙ rw (le-ltb old.peak.bytes (weight_in new.live) less) refl)) (stayed old.step calls c old.peak is.peak (weight_in new.live) weight less)
    ] in
    record {
      asked = λ t l. ap (λ (ns : List ℕ). slice_index ns t) f.asked ∙ asked_now old.asked calls c t inside is.asked (rw (f.asked, length-set old.asked c.thread.0 _) at l);
      live = λ g. live g ∙ ap (λ (n : ℕ). sum_by g (live_samples n (calls ++ c ∷ []))) (sym f.step);
      count = count ∙ sym (length-append calls (c ∷ []));
      peak = subst (λ (n : ℕ). IsPeak n (calls ++ c ∷ []) new.peak) (sym f.step) peak;
    }

-- how many samples have a label
abbrev at_label : ℕ → ℕ × Sample → ℕ
at_label label s = cond (s.0 == label) 1 0

-- a label under which nothing was allocated has no sample
none_under : (label step before : ℕ) (call : Call) (answer : Answer) → allocates label call ≡ false → sum_by (at_label label) (sample_under step before call answer) ≡ 0
none_under label step before (Malloc l n) (Block a len) other = grind (arith, cases_Bool)
none_under label step before call answer other = refl

no_sample : (label step : ℕ) (earlier calls : List CallLine) → answer_to label calls ≡ None → sum_by (at_label label) (samples_behind step earlier calls) ≡ 0
no_sample label step earlier [] none = refl
no_sample label step earlier (c ∷ calls) none = grind (arith, nat_tests, no_sample label step (earlier ++ c ∷ []) calls, none-some, none_under, sum_by-append)

-- an allocation's label that is new is none of a live sample
pub fresh : (calls : List CallLine) (call : Call) (noted : Noted) → IsProfileOf calls noted → IsFirstUse calls call → IsFresh noted.live call
fresh calls (Malloc l n) noted is first = grind (
  arith,
  nat_tests,
  get_or-le-sum_by (at_label l.0) noted.live,
  is.live (at_label l.0),
  sum_filtered (at_label l.0) (λ s. not (freed_in s.0 calls)) (samples noted.step calls),
  sum_by-le-sum_by,
  at_most,
  no_sample l.0 noted.step,
)
fresh calls call noted is first = first
