-- Lists, and what a test keeps of them.
use Rattle.std.proofs.Common.{◌≡◌, ℕ, ◌≤◌, Bool, true, false, List, [], ◌∷◌, ◌++◌, filter, refl, sym, ap, ◌∙◌, arith}
use Rattle.std.specs.Prelude.{sum_by}
use Rattle.std.proofs.lemmas.Bool.{cases_Bool}
use Rattle.std.proofs.lemmas.List.Sums.{sum_by-cons}
use Rattle.std.proofs.lemmas.Bool.Decides.{nat_tests}

-- An element of what a test keeps, in the list itself: what the test keeps before it is what stands before it there.
pub record IsSplit {X : Type 0} (p : X → Bool) (xs earlier : List X) (x : X) : Type 0 where
  pub before : List X
  pub behind : List X
  pub is : before ++ x ∷ behind ≡ xs
  pub kept : filter p before ≡ earlier
  pub passes : p x ≡ true

split_here : {X : Type 0} (p : X → Bool) (y : X) (ys earlier : List X) (x : X) (later : List X) → p y ≡ true
    → ((earlier later : List X) → earlier ++ x ∷ later ≡ filter p ys → IsSplit p ys earlier x)
    → earlier ++ x ∷ later ≡ y ∷ filter p ys → IsSplit p (y ∷ ys) earlier x
split_here p y ys [] x later passes rest is =
    let e : x ≡ y = cc in
    record { before = []; behind = ys; is = ap (λ z. z ∷ ys) e; kept = refl; passes = ap p e ∙ passes }
split_here {X} p y ys (e ∷ es) x later passes rest is =
    let same : e ≡ y = cc in
    let tail : es ++ x ∷ later ≡ filter p ys = cc in
    let s = rest es later tail in
    let kept : filter p (y ∷ s.before) ≡ e ∷ es = rw passes (ap (λ z. z ∷ filter p s.before) (sym same) ∙ ap (λ (zs : List X). e ∷ zs) s.kept) in
    record { before = y ∷ s.before; behind = s.behind; is = ap (λ (zs : List X). y ∷ zs) s.is; kept = kept; passes = s.passes }

split_on : {X : Type 0} (p : X → Bool) (y : X) (ys earlier : List X) (x : X) → p y ≡ false → IsSplit p ys earlier x → IsSplit p (y ∷ ys) earlier x
split_on {X} p y ys earlier x fails s =
    let kept : filter p (y ∷ s.before) ≡ earlier = rw fails s.kept in
    record { before = y ∷ s.before; behind = s.behind; is = ap (λ (zs : List X). y ∷ zs) s.is; kept = kept; passes = s.passes }

pub filter_split : {X : Type 0} (p : X → Bool) (xs earlier : List X) (x : X) (later : List X) → earlier ++ x ∷ later ≡ filter p xs → IsSplit p xs earlier x
filter_split p [] [] x later is = absurd (cc)
filter_split p [] (e ∷ es) x later is = absurd (cc)
filter_split p (y ∷ ys) earlier x later is = grind (arith, nat_tests, filter_split p ys, filter_split p ys earlier x later, split_here, split_on)

-- a sum over what a test keeps is fails greater
pub kept_less : {X : Type 0} (f : X → ℕ) (p : X → Bool) (xs : List X) → sum_by f (filter p xs) ≤ sum_by f xs
kept_less f p [] = omega arith
kept_less f p (x ∷ xs) = grind (arith, nat_tests, kept_less f p xs, sum_by-cons)

-- two tests commute
pub filter_both : {X : Type 0} (p q : X → Bool) (xs : List X) → filter p (filter q xs) ≡ filter q (filter p xs)
filter_both p q [] = refl
filter_both {X} p q (x ∷ xs) = grind (arith, cases_Bool, filter_both p q xs)
