-- How many labels a node has: the greatest label plus one of its threads' scripts is that of the calls that act there.
use Rattle.std.proofs.Common.{◌≡◌, ℕ, zero, suc, ◌<◌, ◌≤◌, Bool, true, cond, eqb, List, [], ◌∷◌, ◌++◌, filter, fold, max, refl, ap, ◌∙◌, arith}
use Rattle.std.specs.List.{list_any}
use Rattle.std.proofs.lemmas.Bool.{cases_Bool, cases_eq, eqb-true, false≢true}
use Rattle.std.proofs.Math.Seq.{append_snoc}
use Rattle.trace_reader.specs.Valid.{IsAsked, IsCall}
use Rattle.tc_model.specs.declared.calls.Call.{Call}
use Rattle.tc_model.specs.declared.calls.Call.TheVariants.{Malloc, Free}
use Rattle.tc_model.specs.declared.calls.Planned.{Planned}
use Rattle.tc_model.specs.declared.config.Config.{Config}
use Rattle.tc_model.specs.Input.{Asked, ThreadCall, script_of, label_end, labels_of}
use Rattle.tc_machine.proofs.InputFacts.{AreBelow, below_read}
use Rattle.tc_model.specs.Blocks.{allocates}
use Rattle.node_rules.specs.Nodes.{home, acts_at, node_of, asked_at}
use Rattle.numa_heaps.specs.Opening.{end_at, labels_by}
use Rattle.tc_units.specs.declared.units.Label.{Label}
use Rattle.std.proofs.lemmas.Bool.Decides.{nat_tests}
use Rattle.numa_heaps.proofs.Ranges.{fold_next}

-- a call that allocates a label
pub made_of : (x : ℕ) (call : Call) → allocates x call ≡ true → (size : ℕ) × (call ≡ Malloc (record { 0 = x }) size)
made_of x (Malloc label size) own = (size, ap (λ n. let l : Label = record { 0 = n } in Malloc l size) (eqb-true label.0 x own))
made_of x other own = absurd (false≢true own)

end_above : (x : ℕ) (call : Call) → allocates x call ≡ true → x < label_end call
end_above x (Malloc label size) own = omega (arith, eqb-true label.0 x own)
end_above x other own = absurd (false≢true own)

-- The greatest of a list's numbers
greatest_from : {X : Type 0} (f : X → ℕ) (a : ℕ) (xs : List X) → fold (λ m x. max m (f x)) a xs ≡ max a (fold (λ m x. max m (f x)) 0 xs)
greatest_from f a [] = omega arith
greatest_from f a (x ∷ xs) = omega (arith, greatest_from f (max a (f x)) xs, greatest_from f (max 0 (f x)) xs)

abbrev pub greatest : List ThreadCall → ℕ
greatest cs = fold (λ most (c : ThreadCall). max most (label_end c.planned.call)) 0 cs

greatest_next : (c : ThreadCall) (cs : List ThreadCall) → greatest (c ∷ cs) ≡ max (label_end c.planned.call) (greatest cs)
greatest_next c cs = omega (arith, greatest_from (λ (d : ThreadCall). label_end d.planned.call) (max 0 (label_end c.planned.call)) cs)

pub any_below : (x : ℕ) (cs : List ThreadCall) → list_any (λ (c : ThreadCall). allocates x c.planned.call) cs ≡ true → x < greatest cs
any_below x [] some = absurd (false≢true some)
any_below x (c ∷ cs) some = grind (arith, nat_tests, greatest_next c cs, any_below x cs, end_above x c.planned.call)

few_in : (classes : ℕ) (config : Config) (earlier : List ThreadCall) (call : Call) → IsCall classes config earlier call → label_end call ≤ 1000000
few_in classes config earlier (Malloc label size) is = omega (arith, is.0)
few_in classes config earlier other is = omega arith

pub few_kept : (classes : ℕ) (asked : Asked) → IsAsked classes asked → (p : ThreadCall → Bool) (earlier cs : List ThreadCall) → earlier ++ cs ≡ asked.calls
    → greatest (filter p cs) ≤ 1000000
few_kept classes asked read p earlier [] is = omega arith
few_kept classes asked read p earlier (c ∷ cs) is =
    let rest = few_kept classes asked read p (earlier ++ c ∷ []) cs (append_snoc earlier c cs ∙ is) in
    let own = few_in classes asked.config earlier c.planned.call (read.calls earlier c cs is).call in
    grind (arith, nat_tests, rest, own, greatest_next c (filter p cs))

-- How many labels are allocated at node k, by threads: what one call more adds, by the node of its thread
module _ (nodes : ℕ) (config : Config) (k : ℕ) where
  abbrev part : ℕ → List ThreadCall → ℕ
  part t cs = end_at (home nodes config t) k (script_of t cs)

  abbrev most : ℕ → List ThreadCall → ℕ
  most n cs = labels_by nodes config (λ t. script_of t cs) k n

  most_next : (n : ℕ) (cs : List ThreadCall) → most (suc n) cs ≡ max (most n cs) (part n cs)
  most_next n cs = fold_next (λ m t. max m (part t cs)) 0 n

  abbrev own_end : ThreadCall → ℕ
  own_end c = cond (eqb (home nodes config c.thread.0) k) (label_end c.planned.call) 0

  part_mine : (c : ThreadCall) (cs : List ThreadCall) → part c.thread.0 (c ∷ cs) ≡ max (own_end c) (part c.thread.0 cs)
  part_mine c cs =
      let end = greatest_from (λ (p : Planned). label_end p.call) (max 0 (label_end c.planned.call)) (script_of c.thread.0 cs) in
      grind (arith, nat_tests, end)

  part_other : (t : ℕ) (c : ThreadCall) (cs : List ThreadCall) → (c.thread.0 ≡ t → ⊥) → part t (c ∷ cs) ≡ part t cs
  part_other t c cs apart = grind (arith, nat_tests)

  most_before : (n : ℕ) (c : ThreadCall) (cs : List ThreadCall) → n ≤ c.thread.0 → most n (c ∷ cs) ≡ most n cs
  most_before zero c cs low = refl
  most_before (suc n) c cs low = grind (arith, most_next n (c ∷ cs), most_next n cs, most_before n c cs, part_other n c cs)

  most_behind : (n : ℕ) (c : ThreadCall) (cs : List ThreadCall) → c.thread.0 < n → most n (c ∷ cs) ≡ max (own_end c) (most n cs)
  most_behind zero c cs high = absurd (omega (arith, high))
  most_behind (suc n) c cs high =
      grind (arith, cases_eq c.thread.0 n, most_next n (c ∷ cs), most_next n cs, most_before n c cs, part_mine c cs, part_other n c cs, most_behind n c cs)

  most_none : (n : ℕ) → most n [] ≡ 0
  most_none zero = refl
  most_none (suc n) = grind (arith, nat_tests, most_next n [], most_none n)

-- a call counts at the node of its thread exactly where it counts at its own: only an allocation has labels
same_end : (nodes : ℕ) (asked : Asked) (k t : ℕ) (call : Call)
    → cond (eqb (home nodes asked.config t) k) (label_end call) 0 ≡ cond (eqb (acts_at nodes asked t call) k) (label_end call) 0
same_end nodes asked k t (Free label) = grind (arith, cases_Bool)
same_end nodes asked k t other = refl

most_kept : (nodes : ℕ) (asked : Asked) (k n : ℕ) (cs : List ThreadCall) → AreBelow n cs
    → most nodes asked.config k n cs ≡ greatest (filter (λ (c : ThreadCall). eqb (node_of nodes asked c) k) cs)
most_kept nodes asked k n [] below = most_none nodes asked.config k n
most_kept nodes asked k n (c ∷ cs) below =
    let rest = most_kept nodes asked k n cs below.1 in
    let here = most_behind nodes asked.config k n c cs below.0 in
    let own = same_end nodes asked k c.thread.0 c.planned.call in
    grind (arith, nat_tests, rest, here, own, greatest_next c (filter (λ (d : ThreadCall). eqb (node_of nodes asked d) k) cs))

pub labels_are : (nodes classes : ℕ) (asked : Asked) → IsAsked classes asked → (k : ℕ)
    → labels_by nodes asked.config (λ t. script_of t asked.calls) k asked.config.threads ≡ labels_of (asked_at nodes asked k)
labels_are nodes classes asked read k = most_kept nodes asked k asked.config.threads asked.calls (below_read classes asked read)
