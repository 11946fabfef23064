-- What a valid input gives its threads: each label is allocated once and freed once, by one of them, and each planned call is there.
use Rattle.std.proofs.Common.{◌≡◌, ℕ, zero, suc, ◌+◌, ◌<◌, ◌≤◌, cond, eqb, List, [], ◌∷◌, ◌++◌, fold, max, refl, sym, ap, ◌∙◌, subst, arith, inl, inr}
use Rattle.std.proofs.Common.{sum_by, All}
use Rattle.alloc_rules.proofs.Common.{range_with_len, cases_eq, eq-eqb, ne_eqb, append-nil, All-nil, All-cons, sum_by-cons, sum_by-append, append_snoc, Call}
use Rattle.alloc_rules.proofs.Common.{Planned, Asked, ThreadCall, script_of, label_end, labels_of, bit_most}
use Rattle.alloc_rules.proofs.Common.{sum_of_both, got, put, gets, puts, ClassRow, got_in, put_in, IsInOrder, IsValid}
use Rattle.std.proofs.lemmas.Bool.Decides.{nat_tests}

-- what holds of each call of a trace
abbrev pub EachOf : List ThreadCall → (ThreadCall → Type 0) → Type 0
EachOf cs P = (earlier : List ThreadCall) (c : ThreadCall) (later : List ThreadCall) → earlier ++ c ∷ later ≡ cs → P c

-- the one number that passes among numbers in order
none_in : (k v a n : ℕ) → k < a → sum_by (λ t. cond (eqb k t) v 0) (range_with_len a n) ≡ 0
none_in k v a zero low = refl
none_in k v a (suc n) low = grind (arith, none_in k v (a + 1) n (omega arith), ne_eqb, sum_by-cons)

one_in : (k v a n : ℕ) → a ≤ k → k < a + n → sum_by (λ t. cond (eqb k t) v 0) (range_with_len a n) ≡ v
one_in k v a zero low high = absurd (omega arith)
one_in k v a (suc n) low high =
    let c = sum_by-cons (λ t. cond (eqb k t) v 0) a (range_with_len (a + 1) n) in
    grind (arith, nat_tests, one_in k v (a + 1) n, none_in k v (a + 1) n)

sum-zero : {X : Type 0} (f : X → ℕ) (xs : List X) → ((x : X) → f x ≡ 0) → sum_by f xs ≡ 0
sum-zero f [] none = refl
sum-zero f (x ∷ xs) none = omega (arith, none x, sum-zero f xs none, sum_by-cons f x xs)

pub sum-same : {X : Type 0} (f g : X → ℕ) (xs : List X) → ((x : X) → f x ≡ g x) → sum_by f xs ≡ sum_by g xs
sum-same f g [] same = refl
sum-same f g (x ∷ xs) same = omega (arith, same x, sum-same f g xs same, sum_by-cons f x xs, sum_by-cons g x xs)

-- a number of scripts that adds up over their calls
module _ (f : List Planned → ℕ) (w : Planned → ℕ) (nothing : f [] ≡ 0) (adds : (p : Planned) (ps : List Planned) → f (p ∷ ps) ≡ w p + f ps) where
  one_call : (t : ℕ) (c : ThreadCall) (cs : List ThreadCall) → f (script_of t (c ∷ cs)) ≡ f (script_of t cs) + cond (eqb c.thread.0 t) (w c.planned) 0
  one_call t c cs = grind (arith, cases_eq, eq-eqb, ne_eqb)

  over_threads : (n : ℕ) (cs : List ThreadCall) → EachOf cs (λ c. c.thread.0 < n) → sum_by (λ t. f (script_of t cs)) (range_with_len 0 n) ≡ sum_by (λ (c : ThreadCall). w c.planned) cs
  over_threads n [] below = sum-zero (λ t. f []) (range_with_len 0 n) (λ t. nothing)
  over_threads n (c ∷ cs) below =
      let rest = over_threads n cs (λ earlier d later is. below (c ∷ earlier) d later (ap (λ xs. c ∷ xs) is)) in
      let split = sum-same (λ t. f (script_of t (c ∷ cs))) (λ t. f (script_of t cs) + cond (eqb c.thread.0 t) (w c.planned) 0) (range_with_len 0 n) (λ t. one_call t c cs) in
      let plus = sum_of_both (λ t. f (script_of t cs)) (λ t. cond (eqb c.thread.0 t) (w c.planned) 0) (range_with_len 0 n) in
      let one = one_in c.thread.0 (w c.planned) 0 n (omega arith) (omega (arith, below [] c cs refl)) in
      omega (arith, rest, split, plus, one, sum_by-cons (λ (d : ThreadCall). w d.planned) c cs)

pub got_push : (x : ℕ) (earlier : List ThreadCall) (c : ThreadCall) → got_in x (earlier ++ c ∷ []) ≡ got_in x earlier + got x c.planned.call
got_push x earlier c = omega (arith, sum_by-append (λ (d : ThreadCall). got x d.planned.call) earlier (c ∷ []), sum_by-cons (λ (d : ThreadCall). got x d.planned.call) c [])

put_push : (x : ℕ) (earlier : List ThreadCall) (c : ThreadCall) → put_in x (earlier ++ c ∷ []) ≡ put_in x earlier + put x c.planned.call
put_push x earlier c = omega (arith, sum_by-append (λ (d : ThreadCall). put x d.planned.call) earlier (c ∷ []), sum_by-cons (λ (d : ThreadCall). put x d.planned.call) c [])

module _ (rows : List ClassRow) (planned : Planned → Type 0) where
  -- a number over the scripts of all threads
  abbrev pub in_scripts : (List Planned → ℕ) → Asked → ℕ
  in_scripts f asked = sum_by (λ t. f (script_of t asked.calls)) (range_with_len 0 asked.config.threads)

  in_threads : (asked : Asked) (f : List Planned → ℕ) (w : Planned → ℕ) → f [] ≡ 0 → ((p : Planned) (ps : List Planned) → f (p ∷ ps) ≡ w p + f ps)
      → IsValid rows planned asked → in_scripts f asked ≡ sum_by (λ (c : ThreadCall). w c.planned) asked.calls
  in_threads asked f w nothing adds valid = over_threads f w nothing adds asked.config.threads asked.calls (λ earlier c later is. (valid.calls earlier c later is).thread)

  -- Each rule in turn over all calls, from the first on.
  abbrev InOrder : List ThreadCall → List ThreadCall → Type 0
  InOrder earlier [] = Unit {0}
  InOrder earlier (c ∷ cs) = IsInOrder earlier c.planned.call × InOrder (earlier ++ c ∷ []) cs

  in_order : (asked : Asked) (earlier cs : List ThreadCall) → earlier ++ cs ≡ asked.calls → IsValid rows planned asked → InOrder earlier cs
  in_order asked earlier [] is valid = tt
  in_order asked earlier (c ∷ cs) is valid = ((valid.calls earlier c cs is).order, in_order asked (earlier ++ c ∷ []) cs (append_snoc earlier c cs ∙ is) valid)

  -- what one call in order adds
  record Adds (x : ℕ) (earlier : List ThreadCall) (call : Call) : Type 0 where
    pub got_once : got_in x earlier ≤ 1 → got_in x earlier + got x call ≤ 1
    pub put_once : put_in x earlier ≤ 1 → put_in x earlier + put x call ≤ 1
    pub got_first : 0 < put x call → 0 < got_in x earlier

  adds : (x : ℕ) (earlier : List ThreadCall) (call : Call) → IsInOrder earlier call → Adds x earlier call
  adds x earlier call order = grind (arith, bit_most, cases_eq, ne_eqb)

  first_of_either : (a b : ℕ) {Q : Type 0} → 0 < a + b → (0 < a → Q) → (0 < b → Q) → Q
  first_of_either a b some one two = grind arith

  -- and over all calls
  record Counts (x : ℕ) (calls : List ThreadCall) : Type 0 where
    pub got_once : got_in x calls ≤ 1
    pub put_once : put_in x calls ≤ 1
    pub got_first : 0 < put_in x calls → 0 < got_in x calls

  counts : (x : ℕ) (earlier cs : List ThreadCall) → InOrder earlier cs → Counts x earlier → Counts x (earlier ++ cs)
  counts x earlier [] order so_far = subst (Counts x) (sym (append-nil earlier)) so_far
  counts x earlier (c ∷ cs) order so_far =
      let a = adds x earlier c.planned.call order.0 in
      let g = got_push x earlier c in
      let p = put_push x earlier c in
      let next : Counts x (earlier ++ c ∷ []) =
      grind (
        arith,
        a.got_once so_far.got_once,
        a.put_once so_far.put_once,
        first_of_either (put_in x earlier) (put x c.planned.call),
        so_far.got_first,
        a.got_first,
      ) in
      subst (Counts x) (append_snoc earlier c cs) (counts x (earlier ++ c ∷ []) cs order.1 next)

  counted : (asked : Asked) (x : ℕ) → IsValid rows planned asked → Counts x asked.calls
  counted asked x valid = counts x [] asked.calls (in_order asked [] asked.calls refl valid) (record { got_once = omega arith; put_once = omega arith; got_first = λ some. absurd (omega arith) })

  zero_or : (n : ℕ) → (0 < n → ⊥) → n ≡ 0
  zero_or n no_more = grind arith

  -- no label past the end is allocated
  fold_least : (most : ℕ) (cs : List ThreadCall) → most ≤ fold (λ n (c : ThreadCall). max n (label_end c.planned.call)) most cs
  fold_least most [] = omega arith
  fold_least most (c ∷ cs) = omega (arith, fold_least (max most (label_end c.planned.call)) cs)

  got_end : (x : ℕ) (call : Call) → 0 < got x call → x < label_end call
  got_end x call some = grind (arith, cases_eq, ne_eqb)

  got_below : (x most : ℕ) (cs : List ThreadCall) → 0 < got_in x cs → x < fold (λ n (c : ThreadCall). max n (label_end c.planned.call)) most cs
  got_below x most [] some = absurd (omega arith)
  got_below x most (c ∷ cs) some = grind (arith, got_below x (max most (label_end c.planned.call)) cs, first_of_either, got_end, fold_least)

  -- each label is allocated once and freed once, and is one of the names
  pub record IsOnce (asked : Asked) : Type 0 where
    pub allocated : (x : ℕ) → in_scripts (gets x) asked ≤ 1
    pub freed : (x : ℕ) → in_scripts (puts x) asked ≤ 1
    pub below : (x : ℕ) → labels_of asked ≤ x → (in_scripts (gets x) asked ≡ 0) × (in_scripts (puts x) asked ≡ 0)

  pub both_in : (asked : Asked) (x : ℕ) → in_scripts (λ script. gets x script + puts x script) asked ≡ in_scripts (gets x) asked + in_scripts (puts x) asked
  both_in asked x = sum_of_both (λ t. gets x (script_of t asked.calls)) (λ t. puts x (script_of t asked.calls)) (range_with_len 0 asked.config.threads)

  pub valid_once : (asked : Asked) → IsValid rows planned asked → IsOnce asked
  valid_once asked valid =
      let gets_are = λ (x : ℕ). in_threads asked (gets x) (λ p. got x p.call) refl (λ p ps. refl) valid in
      let puts_are = λ (x : ℕ). in_threads asked (puts x) (λ p. put x p.call) refl (λ p ps. refl) valid in
      record {
        allocated = λ x. omega (arith, gets_are x, (counted asked x valid).got_once);
        freed = λ x. omega (arith, puts_are x, (counted asked x valid).put_once);
        below = λ x past.
            let none : got_in x asked.calls ≡ 0 = zero_or (got_in x asked.calls) (λ some. let h = got_below x 0 asked.calls some in absurd (omega (arith, h, past))) in
            let none_put : put_in x asked.calls ≡ 0 = zero_or (put_in x asked.calls) (λ some. let h = (counted asked x valid).got_first some in absurd (omega (arith, h, none))) in
            (omega (arith, gets_are x, none), omega (arith, puts_are x, none_put));
      }

  -- the calls of a thread's script are there
  planned_in : (asked : Asked) (t : ℕ) (cs : List ThreadCall) → EachOf cs (λ c. planned c.planned) → All (planned) (script_of t cs)
  planned_in asked t [] each = All-nil (planned)
  planned_in asked t (c ∷ cs) each =
      let rest = planned_in asked t cs (λ earlier d later is. each (c ∷ earlier) d later (ap (λ xs. c ∷ xs) is)) in
      elim (cases_eq c.thread.0 t) [
        | inl same ↦ (let e = eq-eqb c.thread.0 t same in rw e (All-cons (planned) c.planned (script_of t cs) (each [] c cs refl) rest))
        | inr other ↦ (let e = ne_eqb c.thread.0 t other in rw e rest)
      ]

  pub valid_planned : (asked : Asked) (t : ℕ) → IsValid rows planned asked → All (planned) (script_of t asked.calls)
  valid_planned asked t valid = planned_in asked t asked.calls (λ earlier c later is. (valid.calls earlier c later is).planned)
