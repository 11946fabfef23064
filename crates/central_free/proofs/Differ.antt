-- Lists of objects that are all different, in parts.
use Rattle.std.proofs.Common.{◌≡◌, ◌≢◌, ℕ, ◌+◌, ◌-◌, ◌<◌, ◌≤◌, List, ◌++◌, length, get_or, sym, ◌∙◌, ap, arith}
use Rattle.std.specs.Prelude.{All}
use Rattle.std.proofs.lemmas.List.{length-append, get_or_append_left, get_or-append-add, get_or_default}
use Rattle.std.proofs.lemmas.Bool.Decides.{nat_tests}
use Rattle.tc_units.specs.declared.units.Addr.{Addr}
use Rattle.central_free.specs.Central.{AreDifferent}

-- no object of the one list is in the other
abbrev pub AreApart : List Addr → List Addr → Type 0
AreApart xs ys = All (λ x. All (λ y. x ≢ y) ys) xs

-- where an element of two lists stands
left : (xs ys : List Addr) (k : ℕ) (d : Addr) → k < length xs → get_or (xs ++ ys) k d ≡ get_or xs k d
left xs ys k d below = get_or_append_left xs ys d k below

right : (xs ys : List Addr) (k : ℕ) (d : Addr) → length xs ≤ k → get_or (xs ++ ys) k d ≡ get_or ys (k - length xs) d
right xs ys k d above = ap (λ m. get_or (xs ++ ys) m d) (omega arith) ∙ get_or-append-add xs ys (k - length xs) d

-- two parts
pub AreDifferent-append : (xs ys : List Addr) → AreDifferent xs → AreDifferent ys → AreApart xs ys → AreDifferent (xs ++ ys)
AreDifferent-append xs ys first second apart i j d less within same = grind (arith, nat_tests, length-append, left, right)

-- and what holds of them
pub record IsTwoParts (xs ys : List Addr) : Type 0 where
  pub first : AreDifferent xs
  pub second : AreDifferent ys
  pub apart : AreApart xs ys

pub two_parts : (xs ys : List Addr) → AreDifferent (xs ++ ys) → IsTwoParts xs ys
two_parts xs ys all =
    let long : length (xs ++ ys) ≡ length xs + length ys = length-append xs ys in
    record {
      first = λ i j d less within same. all i j d less (omega arith) (left xs ys i d (omega arith) ∙ same ∙ sym (left xs ys j d within));
      second = λ i j d less within same. all (length xs + i) (length xs + j) d (omega arith) (omega arith) (get_or-append-add xs ys i d ∙ same ∙ sym (get_or-append-add xs ys j d));
      apart = λ i d less j e within same.
          all i (length xs + j) d (omega arith) (omega arith) (left xs ys i d less ∙ same ∙ get_or_default ys j e d within ∙ sym (get_or-append-add xs ys j d));
    }
