-- The live labels of a generator are those that the calls so far allocated and did not free.
use Rattle.std.proofs.Common.{◌≡◌, ℕ, ◌+◌, ◌<◌, ◌≤◌, ◌==◌, ◌&&◌, ◌||◌, not, Bool, true, false, List, [], ◌∷◌, ◌++◌, length, get_or, swap_remove, count_by, cond, refl, ap, arith}
use Rattle.std.proofs.lemmas.Bool.{eq-eqb, both_ways, or_from}
use Rattle.std.proofs.lemmas.List.{get_or_default}
use Rattle.std.proofs.lemmas.List.Recursion.{or_push}
use Rattle.std.proofs.lemmas.List.Sums.{sum_by_push, sum_by-swap_remove, get_or-le-sum_by}
use Rattle.std.proofs.lemmas.Bool.Decides.{nat_tests}
use Rattle.tc_model.specs.Blocks.{allocates, frees}
use Rattle.tc_model.specs.Input.{ThreadCall}
use Rattle.trace_reader.specs.Labels.{is_allocated, is_freed}

-- how often a label is in a list
abbrev pub count_of : ℕ → List ℕ → ℕ
count_of label labels = count_by (λ l. l == label) labels

-- nothing was done with the labels to come, and a label is live once where it was allocated and not freed
pub record AreLive (calls : List ThreadCall) (live : List ℕ) (next : ℕ) : Type 0 where
  pub fresh : (label : ℕ) → next ≤ label → (is_allocated label calls ≡ false) × (is_freed label calls ≡ false)
  pub once : (label : ℕ) → count_of label live ≡ cond (is_allocated label calls && not (is_freed label calls)) 1 0

pub AreLive-none : AreLive [] [] 0
AreLive-none = record { fresh = λ label past. (refl, refl); once = λ label. refl }

-- a live label was allocated and not freed
live_marks : (allocated freed : Bool) → 1 ≤ cond (allocated && not freed) 1 0 → (allocated ≡ true) × (freed ≡ false)
live_marks allocated freed some = grind (arith)

pub record IsLive (calls : List ThreadCall) (next label : ℕ) : Type 0 where
  pub allocated : is_allocated label calls ≡ true
  pub kept : is_freed label calls ≡ false
  pub below : label < next

pub is_live : (calls : List ThreadCall) (live : List ℕ) (next place : ℕ) → AreLive calls live next → place < length live → IsLive calls next (get_or live place 0)
is_live calls live next place are there =
    let label = get_or live place 0 in
    let found : cond (label == label) 1 0 ≤ count_of label live = get_or-le-sum_by (λ l. cond (l == label) 1 0) live place 0 there in
    let one : Bool → ℕ = λ b. cond b 1 0 in
    let itself : one (label == label) ≡ one true = ap one (eq-eqb label label refl) in
    let marks = live_marks (is_allocated label calls) (is_freed label calls) (omega (arith, found, itself, are.once label)) in
    grind (arith, nat_tests, both_ways (is_allocated label calls), are.fresh label)

-- what was done with a label, behind one call more
is_allocated-push : (label : ℕ) (calls : List ThreadCall) (c : ThreadCall) → is_allocated label (calls ++ c ∷ []) ≡ (is_allocated label calls || allocates label c.planned.call)
is_allocated-push label calls c = or_push (is_allocated label) (λ (d : ThreadCall). allocates label d.planned.call) refl (λ _ _. refl) calls c

is_freed-push : (label : ℕ) (calls : List ThreadCall) (c : ThreadCall) → is_freed label (calls ++ c ∷ []) ≡ (is_freed label calls || frees label c.planned.call)
is_freed-push label calls c = or_push (is_freed label) (λ (d : ThreadCall). frees label d.planned.call) refl (λ _ _. refl) calls c

-- calls that do nothing with a label to come, and after which each label is live once where it should be
push : (calls : List ThreadCall) (c : ThreadCall) (live : List ℕ) (next : ℕ)
    → ((label : ℕ) → next ≤ label → (is_allocated label calls ≡ false) × (is_freed label calls ≡ false) × (allocates label c.planned.call ≡ false) × (frees label c.planned.call ≡ false)) → ((label : ℕ) → count_of label live ≡ cond ((is_allocated label calls || allocates label c.planned.call) && not (is_freed label calls || frees label c.planned.call)) 1 0) → AreLive (calls ++ c ∷ []) live next
push calls c live next fresh once = grind (arith, is_allocated-push, or_from, is_freed-push)

-- an allocation of the next label
once_allocated : (allocated freed hit : Bool) (n m : ℕ) → (hit ≡ true → (allocated ≡ false) × (freed ≡ false)) → n ≡ cond (allocated && not freed) 1 0
    → m ≡ n + cond hit 1 0 → m ≡ cond ((allocated || hit) && not (freed || false)) 1 0
once_allocated x0 x1 x2 n m new was now = grind (arith)

pub AreLive-malloc : (calls : List ThreadCall) (c : ThreadCall) (live : List ℕ) (next : ℕ) → AreLive calls live next
    → ((label : ℕ) → allocates label c.planned.call ≡ (next == label)) → ((label : ℕ) → frees label c.planned.call ≡ false)
    → AreLive (calls ++ c ∷ []) (live ++ next ∷ []) (next + 1)
AreLive-malloc calls c live next are allocates_it frees_none = grind (arith, nat_tests, push, once_allocated, sum_by_push)

-- a free of a live label
once_freed : (allocated freed hit : Bool) (n m : ℕ) → (hit ≡ true → (allocated ≡ true) × (freed ≡ false)) → n ≡ cond (allocated && not freed) 1 0
    → m + cond hit 1 0 ≡ n → m ≡ cond ((allocated || false) && not (freed || hit)) 1 0
once_freed x0 x1 x2 n m live was now = grind (arith)

pub AreLive-free : (calls : List ThreadCall) (c : ThreadCall) (live : List ℕ) (next place : ℕ) → AreLive calls live next → place < length live
    → ((label : ℕ) → allocates label c.planned.call ≡ false) → ((label : ℕ) → frees label c.planned.call ≡ (get_or live place 0 == label))
    → AreLive (calls ++ c ∷ []) (swap_remove live place (get_or live place 0)) next
AreLive-free calls c live next place are there allocates_none frees_it = grind (
  arith,
  nat_tests,
  is_live calls live next place are there,
  push calls c,
  are.fresh,
  allocates_none,
  frees_it,
  sum_by-swap_remove,
  get_or_default live place,
  once_freed,
  are.once,
)

-- a call that does nothing with labels
once_left : (allocated freed : Bool) (n : ℕ) → n ≡ cond (allocated && not freed) 1 0 → n ≡ cond ((allocated || false) && not (freed || false)) 1 0
once_left allocated freed n was = grind (arith)

pub AreLive-other : (calls : List ThreadCall) (c : ThreadCall) (live : List ℕ) (next : ℕ) → AreLive calls live next
    → ((label : ℕ) → allocates label c.planned.call ≡ false) → ((label : ℕ) → frees label c.planned.call ≡ false) → AreLive (calls ++ c ∷ []) live next
AreLive-other calls c live next are allocates_none frees_none = grind (arith, push, once_left)
