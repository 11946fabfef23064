-- Numbers that move within a list: what becomes of its front.
use Rattle.std.proofs.Common.{◌≡◌, ℕ, ◌+◌, ◌-◌, ◌<◌, ◌≤◌, List, ◌++◌, length, take, drop, insert, remove, sym, ap, ◌∙◌, arith}
use Rattle.sorted_list.proofs.Common.{nat_tests, take-append-drop, take_at, length-take-le, length-insert, length-remove, insert-append_left}
use Rattle.sorted_list.proofs.Common.{insert-append_right, remove-append_left, remove-append_right}

module _ {X : Type 0} (xs : List X) (n : ℕ) (x : X) (within : n ≤ length xs) where
  size : length (take n xs) ≡ n
  size = length-take-le n xs within

  cut : xs ≡ take n xs ++ drop n xs
  cut = sym (take-append-drop n xs)

  left : (place : ℕ) → place < n → remove xs place ≡ remove (take n xs) place ++ drop n xs
  left place inside = ap (λ (ys : List X). remove ys place) cut ∙ remove-append_left (take n xs) (drop n xs) place (omega (arith, size))

  short : (place : ℕ) → place < n → length (remove (take n xs) place) + 1 ≡ n
  short place inside = length-remove (take n xs) place (omega (arith, size)) ∙ size

  -- one moves within the front
  pub moved : (place target : ℕ) → place < n → target < n → take n (insert (remove xs place) target x) ≡ insert (remove (take n xs) place) target x
  moved place target inside near = grind (arith, nat_tests, short, insert, length-insert, left, insert-append_left, take_at, remove)

  -- one moves behind it
  pub moved_out : (place : ℕ) → place < n → take (n - 1) (insert (remove xs place) (n - 1) x) ≡ remove (take n xs) place
  moved_out place inside = grind (arith, nat_tests, short, insert, left, insert-append_right, take_at, remove)

  -- the one behind it moves in
  pub moved_in : (target : ℕ) → target ≤ n → take (n + 1) (insert (remove xs n) target x) ≡ insert (take n xs) target x
  moved_in target near = grind (arith, nat_tests, remove-append_right, insert, length-insert, size, insert-append_left, cut, take_at, remove)
