-- What one act at a node makes of the worlds of all nodes: that of its own node goes on by it, and the others stay.
use Rattle.std.proofs.Common.{◌≡◌, ℕ, ◌+◌, ◌*◌, ◌<◌, List, Some, sym, ap, ◌∙◌, arith}
use Rattle.std.specs.Prelude.{slice_get, slice_set}
use Rattle.std.proofs.lemmas.List.{length-set}
use Rattle.std.proofs.lemmas.Bool.Decides.{nat_tests}
use Rattle.tc_model.specs.Run.{World, with_pair}
use Rattle.tc_model.proofs.Lists.{set_here, set_elsewhere}
use Rattle.node_rules.specs.Beside.{Beside, IsNodeOf}
use Rattle.node_rules.proofs.Moving.{times_less}

-- a number among a node's parts isn't one among another node's
apart_below : (j k n a b : ℕ) → j < k → a < n → j * n + a ≡ k * n + b → ⊥
apart_below j k n a b low in_n same = omega (arith, times_less j k n low, same, in_n)

pub numbers_apart : (j k n a b : ℕ) → (j ≡ k → ⊥) → a < n → b < n → j * n + a ≡ k * n + b → ⊥
numbers_apart j k n a b other in_a in_b same = grind (arith, apart_below j k n a b, apart_below k j n b a)

module _ {P L : Type 0} (width k : ℕ) (w : World P (Beside L)) (t i : ℕ) (l left : Beside L) (x new : L) (p q : P) (at : slice_get w.locals t ≡ Some l)
    (here : slice_get l.here k ≡ Some x) (there : slice_get w.parts (k * width + i) ≡ Some p) (low : i < width)
    (left_here : left.here ≡ slice_set l.here k new) where
  abbrev next : World P (Beside L)
  next = with_pair w (k * width + i) t (q, left)

  new_here : slice_get left.here k ≡ Some new
  new_here = ap (λ (xs : List L). slice_get xs k) left_here ∙ set_here l.here k new x here

  same_thread : (m : Beside L) → slice_get next.locals t ≡ Some m → left ≡ m
  same_thread m is = let e : Some left ≡ Some m = sym (set_here w.locals t left l at) ∙ is in cc

  -- the node's own world goes on by the act
  own_parts : (v : World P L) → IsNodeOf width k w v → slice_get v.parts i ≡ Some p → (j : ℕ) → j < width
      → slice_get next.parts (k * width + j) ≡ slice_get (slice_set v.parts i q) j
  own_parts v of own j in_j = grind (arith, nat_tests, set_here, set_elsewhere)

  own_locals : (v : World P L) → IsNodeOf width k w v → slice_get v.locals t ≡ Some x → (u : ℕ) (m : Beside L) → slice_get next.locals u ≡ Some m
      → slice_get m.here k ≡ slice_get (slice_set v.locals t new) u
  own_locals v of own u m is = grind (arith, nat_tests, same_thread, new_here, set_here, set_elsewhere)

  pub own_world : (v : World P L) → IsNodeOf width k w v → slice_get v.parts i ≡ Some p → slice_get v.locals t ≡ Some x
      → IsNodeOf width k next (with_pair v i t (q, new))
  own_world v of part local = grind (arith, length-set, own_parts, own_locals)

  -- and the other nodes' stay
  other_locals : (j : ℕ) (v : World P L) → (j ≡ k → ⊥) → IsNodeOf width j w v → (u : ℕ) (m : Beside L) → slice_get next.locals u ≡ Some m
      → slice_get m.here j ≡ slice_get v.locals u
  other_locals j v other of u m is =
      grind (arith, nat_tests, same_thread m, set_elsewhere l.here k j new, set_elsewhere w.locals t u left, other, of.locals)

  pub other_world : (j : ℕ) (v : World P L) → (j ≡ k → ⊥) → IsNodeOf width j w v → IsNodeOf width j next v
  other_world j v other of =
      record {
        width_is = of.width_is;
        parts = λ n in_n. set_elsewhere w.parts (k * width + i) (j * width + n) q (λ e. numbers_apart j k width n i other in_n low (sym e)) ∙ of.parts n in_n;
        threads = length-set w.locals t left ∙ of.threads;
        locals = other_locals j v other of;
      }
