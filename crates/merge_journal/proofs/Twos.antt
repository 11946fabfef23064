-- Two lists are merged entry by entry.
use Rattle.std.proofs.Common.{◌≡◌, ◌≢◌, ◌⊎◌, ℕ, zero, suc, ◌+◌, ◌<◌, ◌≤◌, List, [], ◌∷◌, ◌++◌, length, take, drop, get_or, ◌-◌, Some, ap}
use Rattle.std.proofs.Common.{subst, inl, inr, ⊎_elim, arith, add-one, drop-cons}
use Rattle.std.proofs.lemmas.Option.{slice_get-get_or}
use Rattle.std.proofs.Math.Seq.{append_snoc}
use Rattle.std.proofs.lemmas.List.{append-nil, drop_all, take_all, length-drop}
use Rattle.tc_model.specs.declared.board.Entry.{Entry}
use Rattle.tc_model.specs.Rises.{Has, Rising, ticket_of}
use Rattle.tc_model.proofs.Members.{has_cases, has_none, has_tail}
use Rattle.merge_journal.specs.Two.{IsMergeOfTwo}

pub swap : (xs ys zs : List Entry) → IsMergeOfTwo xs ys zs → IsMergeOfTwo ys xs zs
swap xs ys zs m = record { rises = m.rises; from = λ e h. ⊎_elim (λ (l : Has xs e). inr l) (λ (r : Has ys e). inl r) (m.from e h); left = m.right; right = m.left }

-- the lesser head comes first
pub one_more : (x y : Entry) (xs ys zs : List Entry) → Rising ticket_of (x ∷ xs) → Rising ticket_of (y ∷ ys) → x.ticket < y.ticket
    → IsMergeOfTwo xs (y ∷ ys) zs → IsMergeOfTwo (x ∷ xs) (y ∷ ys) (x ∷ zs)
one_more x y xs ys zs rx ry less m = record {
  rises = (
    m.rises,
    λ e h. ⊎_elim (λ (l : Has xs e). rx.1 e l)
        (λ (r : Has (y ∷ ys) e). ⊎_elim (λ (is : y ≡ e). subst (λ (z : Entry). x.ticket < z.ticket) is less) (λ (t : Has ys e). let up = ry.1 e t in omega arith) (has_cases y ys e r))
        (m.from e h),
  );
  from = λ e h. ⊎_elim (λ (is : x ≡ e). inl (0, ap Some is))
      (λ (t : Has zs e). ⊎_elim (λ (l : Has xs e). inl (has_tail x xs e l)) (λ (r : Has (y ∷ ys) e). inr r) (m.from e t)) (has_cases x zs e h);
  left = λ e h. ⊎_elim (λ (is : x ≡ e). (0, ap Some is)) (λ (t : Has xs e). has_tail x zs e (m.left e t)) (has_cases x xs e h);
  right = λ e h. has_tail x zs e (m.right e h);
}

-- a list with nothing
pub none_left : (ys : List Entry) → Rising ticket_of ys → IsMergeOfTwo [] ys ys
none_left ys ry = record { rises = ry; from = λ e h. inr h; left = λ e h. absurd (has_none e h); right = λ e h. h }

-- what rises goes on rising
pub rising_drop : (i : ℕ) (xs : List Entry) → Rising ticket_of xs → Rising ticket_of (drop i xs)
rising_drop zero xs r = r
rising_drop (suc i) [] r = tt
rising_drop (suc i) (x ∷ xs) r = rising_drop i xs r.0

pub has_at : (xs : List Entry) (i : ℕ) (d : Entry) → i < length xs → Has xs (get_or xs i d)
has_at xs i d less = (i, slice_get-get_or xs i d less)

-- What is left of two lists leads to their merge: any merge of the rest goes behind what was merged.
abbrev pub LeadsOn : List Entry → List Entry → List Entry → ℕ → ℕ → Type 0
LeadsOn xs ys merged i j = (rest : List Entry) → IsMergeOfTwo (drop i xs) (drop j ys) rest → IsMergeOfTwo xs ys (merged ++ rest)

-- two lists that rise, and a place within each
pub record AreWithin (xs ys : List Entry) (i j : ℕ) : Type 0 where
  pub rises : Rising ticket_of xs
  pub rises' : Rising ticket_of ys
  pub low : i < length xs
  pub low' : j < length ys

pub step_left : {xs ys : List Entry} {i j : ℕ} → AreWithin xs ys i j → (merged : List Entry) {merged' : List Entry} (d : Entry) → (get_or xs i d).ticket < (get_or ys j d).ticket
    → LeadsOn xs ys merged i j → merged' ≡ merged ++ get_or xs i d ∷ [] → LeadsOn xs ys merged' (i + 1) j
step_left {xs} {ys} {i} {j} at merged d less on is rest m =
    let x : Entry = get_or xs i d in
    let cut = drop-cons xs i d at.low in
    let cut' = drop-cons ys j d at.low' in
    let next : IsMergeOfTwo (drop (suc i) xs) (get_or ys j d ∷ drop (suc j) ys) rest = rw (add-one, cut') at m in
    let more = one_more _ _ _ _ rest (rw cut at (rising_drop i xs at.rises)) (rw cut' at (rising_drop j ys at.rises')) less next in
    let both : IsMergeOfTwo (drop i xs) (drop j ys) (x ∷ rest) = rw (cut, cut') more in
    rw (is, append_snoc merged x rest) (on (x ∷ rest) both)

pub lead_swap : (xs ys merged : List Entry) (i j : ℕ) → LeadsOn xs ys merged i j → LeadsOn ys xs merged j i
lead_swap xs ys merged i j on rest m = swap xs ys (merged ++ rest) (on rest (swap (drop j ys) (drop i xs) rest m))

pub step_right : {xs ys : List Entry} {i j : ℕ} → AreWithin xs ys i j → (merged : List Entry) {merged' : List Entry} (d : Entry) → ((a b : Entry) → Has xs a → Has ys b → a.ticket ≢ b.ticket)
    → (get_or ys j d).ticket ≤ (get_or xs i d).ticket → LeadsOn xs ys merged i j → merged' ≡ merged ++ get_or ys j d ∷ [] → LeadsOn xs ys merged' i (j + 1)
step_right {xs} {ys} {i} {j} at merged {merged'} d apart low on is =
    let ne = apart (get_or xs i d) (get_or ys j d) (has_at xs i d at.low) (has_at ys j d at.low') in
    let back : AreWithin ys xs j i = record { rises = at.rises'; rises' = at.rises; low = at.low'; low' = at.low } in
    lead_swap ys xs merged' (j + 1) i (step_left back merged d (omega arith) (lead_swap xs ys merged i j on) is)

-- one list is used up, and the rest of the other goes behind
pub used_up : (xs ys merged : List Entry) (i j : ℕ) → Rising ticket_of xs → Rising ticket_of ys → (length xs ≤ i) ⊎ (length ys ≤ j)
    → LeadsOn xs ys merged i j → IsMergeOfTwo xs ys ((merged ++ drop i xs) ++ drop j ys)
used_up xs ys merged i j rx ry (inl past) on = grind (arith, drop_all, append-nil, none_left, rising_drop)
used_up xs ys merged i j rx ry (inr past) on = grind (arith, drop_all, swap, none_left, rising_drop, append-nil)

pub rest_is : (xs : List Entry) (i : ℕ) → take (length xs - i) (drop i xs) ≡ drop i xs
rest_is xs i = take_all (length xs - i) (drop i xs) (omega (arith, length-drop i xs))
