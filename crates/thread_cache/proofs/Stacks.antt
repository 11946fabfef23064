-- What a cache has of each class, and of how many bytes, once the objects of one class are others.
use Rattle.std.proofs.Common.{◌≡◌, ◌≢◌, ℕ, ◌+◌, ◌-◌, ◌<◌, ◌≤◌, List, [], ◌++◌, length, take, refl, sym, ap, ◌∙◌, arith, get_or}
use Rattle.std.proofs.Math.Seq.{map-set_same}
use Rattle.std.proofs.lemmas.List.{get_or-map, get_or_default, get_or-set_same, get_or-set_other, length-map, length-append, length-take}
use Rattle.tc_units.specs.declared.units.Addr.{Addr}
use Rattle.tc_units.specs.declared.spans.ClassRow.{ClassRow}
use Rattle.transfer_cache.specs.Transfer.{without_last}
use Rattle.holdings.specs.Books.{no_class}
use Rattle.call_steps.specs.Shapes.{AreRows}
use Rattle.thread_cache.specs.Cache.{Stack, Cache, bytes, stack_at, objects_of, with_class, fitting, added, trimmed, IsCounted}
use Rattle.thread_cache.specs.Holds.{IsCacheOf}
use Rattle.thread_cache.proofs.CacheFacts.{less, more, fits}

-- a class that isn't there has nothing
abbrev pub no_stack : Stack
no_stack = record { size = 0; objects = [] }

-- the objects of that class, and those of another
pub of_class : (p : Cache) (k : ℕ) (xs : List Addr) → k < length p.stacks → objects_of (with_class p k xs) k ≡ xs
of_class p k xs low = ap (λ (s : Stack). s.objects) (get_or-set_same p.stacks k (record (stack_at p k) { objects = xs }) no_stack low)

pub of_other : (p : Cache) (k j : ℕ) (xs : List Addr) → j ≢ k → objects_of (with_class p k xs) j ≡ objects_of p j
of_other p k j xs apart = ap (λ (s : Stack). s.objects) (get_or-set_other p.stacks k j (record (stack_at p k) { objects = xs }) no_stack apart)

-- the classes of a table
pub classes : (rows : List ClassRow) (p : Cache) → IsCacheOf rows p → length p.stacks ≡ length rows
classes rows p is =
    sym (length-map p.stacks (λ (s : Stack). s.size)) ∙ (ap length is.sizes ∙ length-map rows (λ (row : ClassRow). row.size))

module _ (rows : List ClassRow) (are : AreRows rows) (p : Cache) (is : IsCacheOf rows p) (k : ℕ) (low : k < length p.stacks) where
  counted : IsCounted p.stacks p.limit (bytes p)
  counted = record {
    bytes = refl;
    within = is.within;
    sizes = λ j d at.
        (let there : j < length rows = omega (arith, at, classes rows p is) in
        let size = get_or-map (λ (s : Stack). s.size) p.stacks j d 0 at in
        let of_row = get_or-map (λ (row : ClassRow). row.size) rows j no_class 0 there in
        let same = ap (λ (ns : List ℕ). get_or ns j 0) is.sizes in
        omega (arith, size, of_row, same, (are.each j no_class there).size));
  }

  at : stack_at p k ≡ get_or p.stacks k (stack_at p k)
  at = get_or_default p.stacks k no_stack (stack_at p k) low

  -- one class has other objects, and its bytes are within the limit
  changed : (xs : List Addr) → bytes (with_class p k xs) ≤ p.limit → IsCacheOf rows (with_class p k xs)
  changed xs within =
      record { sizes = map-set_same (λ (s : Stack). s.size) p.stacks k (record (stack_at p k) { objects = xs }) no_stack refl ∙ is.sizes; within = within }

  -- objects are taken out
  pub trimmed_is : (n : ℕ) → IsCacheOf rows (trimmed p k n)
  trimmed_is n =
      let old : Stack = stack_at p k in
      let kept : List Addr = without_last n old.objects in
      let went : length old.objects ≡ length kept + (length old.objects - length kept) = omega (arith, length-take (length old.objects - n) old.objects) in
      let x = less p.stacks p.limit (bytes p) k old (record old { objects = kept }) kept low at counted refl (length old.objects - length kept) old.size went refl in
      grind (arith, changed kept)

  -- what fits is added
  pub added_is : (list : List Addr) → IsCacheOf rows (added p k list)
  added_is list =
      let old : Stack = stack_at p k in
      let n : ℕ = fitting p k (length list) in
      let came : length (old.objects ++ take n list) ≡ length old.objects + n = omega (arith, length-append old.objects (take n list), length-take n list) in
      let fit = fits p.limit (bytes p) n old.size is.within (omega arith) in
      let all : List Addr = old.objects ++ take n list in
      let x = more p.stacks p.limit (bytes p) k old (record old { objects = all }) all low at counted refl n old.size came refl fit in
      let b = x.bytes in
      changed all (omega (arith, b, fit))
