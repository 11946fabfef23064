-- The bytes of a cache, as objects come and go.
use Rattle.std.proofs.Common.{◌≡◌, ℕ, ◌+◌, ◌-◌, ◌*◌, ◌/◌, ◌<◌, ◌≤◌, List, [], ◌∷◌, length, map, sum_by, All, refl, sym, ap, ◌∙◌, min, arith, get_or}
use Rattle.std.specs.List.{slice_set}
use Rattle.std.proofs.Math.Nat.{mul_comm}
use Rattle.std.proofs.lemmas.List.Sums.{sum_by-set, sum_by-cons, get_or-le-sum_by}
use Rattle.std.proofs.lemmas.List.Elements.{All-set, All-get_or, All-map}
use Rattle.tc_units.specs.declared.units.Addr.{Addr}
use Rattle.tc_units.specs.declared.spans.ClassRow.{ClassRow}
use Rattle.thread_cache.specs.Cache.{Stack, bytes_in, empty_stack, IsCounted}

-- objects of a size
times : (size n m k : ℕ) → n ≡ m + k → size * n ≡ size * m + k * size
times size n m k is = grind (arith, mul_comm)

module _ (stacks : List Stack) (limit counted k : ℕ) (old new : Stack) (objects : List Addr) (low : k < length stacks) (at : old ≡ get_or stacks k old)
    (is : IsCounted stacks limit counted) (made : new ≡ record old { objects = objects }) where
  -- a class has other objects, and the count is right for them
  recounted : (now : ℕ) → now + bytes_in old ≡ counted + old.size * length objects → now ≤ limit → IsCounted (slice_set stacks k new) limit now
  recounted now right within =
      let size : new.size ≡ (get_or stacks k old).size = ap (λ (s : Stack). s.size) made ∙ ap (λ (s : Stack). s.size) at in
      let some = All-get_or (λ (s : Stack). 0 < s.size) stacks k old low is.sizes in
      grind (arith, sum_by-set bytes_in stacks k new old low, All-set (λ (s : Stack). 0 < s.size) stacks k new)

  -- so many objects of it go
  pub less : (n size : ℕ) → length old.objects ≡ length objects + n → size ≡ old.size
      → (n * size ≤ counted) × IsCounted (slice_set stacks k new) limit (counted - n * size)
  less n size went sized =
      grind (arith, times old.size (length old.objects) (length objects) n went, get_or-le-sum_by bytes_in stacks k old low, recounted (counted - n * size))

  -- so many come, which fit
  pub more : (n size : ℕ) → length objects ≡ length old.objects + n → size ≡ old.size → counted + n * size ≤ limit
      → IsCounted (slice_set stacks k new) limit (counted + n * size)
  more n size came sized fits = grind (arith, times old.size (length objects) (length old.objects) n came, recounted (counted + n * size))

-- a multiple that is no more than the quotient fits
pub fits : (limit counted n size : ℕ) → counted ≤ limit → n ≤ (limit - counted) / size → counted + n * size ≤ limit
fits limit counted n size within few = grind (arith)

-- and where fewer come, one more doesn't
pub next_is_over : (limit counted n size room : ℕ) → counted ≤ limit → 0 < size → n ≡ min ((limit - counted) / size) room → n < room
    → limit < counted + n * size + size
next_is_over limit counted n size room within some is below = grind (arith)

-- an empty cache
pub none : (rows : List ClassRow) → sum_by bytes_in (map empty_stack rows) ≡ 0
none [] = refl
none (row ∷ rows) = grind (arith, none rows, sum_by-cons bytes_in (empty_stack row) (map empty_stack rows))

pub empty : (rows : List ClassRow) (limit : ℕ) → All (λ (row : ClassRow). 0 < row.size) rows → IsCounted (map empty_stack rows) limit 0
empty rows limit some = record { bytes = sym (none rows); within = omega arith; sizes = All-map (λ (s : Stack). 0 < s.size) empty_stack rows some }
