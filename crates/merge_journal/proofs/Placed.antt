-- What stands at tickets once each entry's thread was put at its own, and the merge that it tells.
use Rattle.std.proofs.Common.{◌≡◌, ◌⊎◌, ℕ, zero, suc, ◌+◌, ◌-◌, ◌<◌, ◌≤◌, List, [], ◌∷◌, ◌++◌, length, map, take, replicate, get_or, set, Option, Some, None, refl, sym, ap, ◌∙◌, subst, inl, inr, ⊎_elim, arith, length-set}
use Rattle.std.specs.List.{slice_get}
use Rattle.std.specs.Option.{option_map, option_to_list}
use Rattle.std.proofs.lemmas.Option.{slice_get-get_or, slice_get-map}
use Rattle.std.proofs.lemmas.List.{get_or-set_other, get_or-set_same, length-replicate, get_or-replicate}
use Rattle.std.proofs.lemmas.Grind.{common_steps}
use Rattle.std.proofs.lemmas.List.Sums.{fold_more}
use mathlib.Core.Logic.{dite}
use native.Mathlib.Decide.{ℕ_discrete}
use Rattle.tc_units.specs.declared.units.ThreadNo.{ThreadNo}
use Rattle.tc_model.specs.declared.board.Entry.{Entry}
use Rattle.tc_model.specs.Rises.{Has, Rising, ticket_of, AreApart, Stands}
use Rattle.tc_model.proofs.Members.{has_cases, has_none, has_tail, has_head, has_longer, same_some}
use Rattle.tc_model.proofs.Merged.{merge_by}
use Rattle.merge_journal.specs.Threads.{threads_in, AreMerged}
use Rattle.merge_journal.specs.Placed.{put_all, all_in, threads_among}

pub put_all_length : (es : List Entry) (ts : List (Option ThreadNo)) → length (put_all ts es) ≡ length ts
put_all_length [] ts = refl
put_all_length (e ∷ es) ts = put_all_length es (set ts e.ticket (Some e.thread)) ∙ length-set ts e.ticket (Some e.thread)

-- where all entries of a ticket have one thread, and there is one, it stands there
put_there : (es : List Entry) (ts : List (Option ThreadNo)) (k : ℕ) (t : ThreadNo) → k < length ts → ((e : Entry) → Has es e → e.ticket ≡ k → e.thread ≡ t)
    → (get_or ts k None ≡ Some t) ⊎ ((e : Entry) × Has es e × (e.ticket ≡ k)) → get_or (put_all ts es) k None ≡ Some t
put_there [] ts k t near all (inl at) = at
put_there [] ts k t near all (inr some) = absurd (has_none some.0 some.1)
put_there (x ∷ es) ts k t near all before =
    let more : (e : Entry) → Has es e → e.ticket ≡ k → e.thread ≡ t = λ e h. all e (has_tail x es e h) in
    let near' : k < length (set ts x.ticket (Some x.thread)) = omega (arith, length-set ts x.ticket (Some x.thread)) in
    put_there es (set ts x.ticket (Some x.thread)) k t near' more (dite (ℕ_discrete x.ticket k)
    (λ is. inl (rw is (get_or-set_same ts k (Some x.thread) None near) ∙ ap Some (all x (has_head x es) is)))
    (λ ne. ⊎_elim (λ (at : get_or ts k None ≡ Some t). inl (get_or-set_other ts x.ticket k (Some x.thread) None (λ e. ne (sym e)) ∙ at))
    (λ (o : (e : Entry) × Has (x ∷ es) e × (e.ticket ≡ k)). ⊎_elim (λ (is : x ≡ o.0). absurd (ne (ap ticket_of is ∙ o.2))) (λ (h : Has es o.0). inr (o.0, h, o.2)) (has_cases x es o.0 o.1)) before))

-- what stands at a ticket was there, or is the thread of an entry
put_from : (es : List Entry) (ts : List (Option ThreadNo)) (k : ℕ) → k < length ts
    → (get_or (put_all ts es) k None ≡ get_or ts k None) ⊎ ((e : Entry) × Has es e × (e.ticket ≡ k) × (Some e.thread ≡ get_or (put_all ts es) k None))
put_from [] ts k near = inl refl
put_from (x ∷ es) ts k near =
    let ts' : List (Option ThreadNo) = set ts x.ticket (Some x.thread) in let near' : k < length ts' = omega (arith, length-set ts x.ticket (Some x.thread)) in
    ⊎_elim (λ (same : get_or (put_all ts' es) k None ≡ get_or ts' k None). dite (ℕ_discrete x.ticket k)
    (λ is. inr (x, has_head x es, is, sym (same ∙ rw is (get_or-set_same ts k (Some x.thread) None near))))
    (λ ne. inl (same ∙ get_or-set_other ts x.ticket k (Some x.thread) None (λ e. ne (sym e)))))
    (λ (o : (e : Entry) × Has es e × (e.ticket ≡ k) × (Some e.thread ≡ get_or (put_all ts' es) k None)). inr (o.0, has_tail x es o.0 o.1, o.2, o.3))
    (put_from es ts' k near')

abbrev entry : ℕ → ThreadNo → Entry
entry k t = record { ticket = k; thread = t }

-- what stands at tickets from k on, as entries
abbrev numbered : ℕ → List (Option ThreadNo) → List Entry
numbered k [] = []
numbered k (None ∷ ts) = numbered (k + 1) ts
numbered k (Some t ∷ ts) = entry k t ∷ numbered (k + 1) ts

record IsNumbered (k : ℕ) (ts : List (Option ThreadNo)) (e : Entry) : Type 0 where
  pub from : k ≤ e.ticket
  pub to : e.ticket < k + length ts
  pub thread : get_or ts (e.ticket - k) None ≡ Some e.thread

number_after : (k : ℕ) (t : Option ThreadNo) (ts : List (Option ThreadNo)) (e : Entry) → IsNumbered (k + 1) ts e → IsNumbered k (t ∷ ts) e
number_after k t ts e n =
    let low = n.from in let high = n.to in let next : e.ticket - k ≡ suc (e.ticket - (k + 1)) = omega arith in
    record { from = omega arith; to = omega arith; thread = ap (λ (i : ℕ). get_or (t ∷ ts) i None) next ∙ n.thread }

numbered_from : (k : ℕ) (ts : List (Option ThreadNo)) (e : Entry) → Has (numbered k ts) e → IsNumbered k ts e
numbered_from k [] e h = absurd (has_none e h)
numbered_from k (None ∷ ts) e h = number_after k None ts e (numbered_from (k + 1) ts e h)
numbered_from k (Some t ∷ ts) e h = ⊎_elim
    (λ (is : entry k t ≡ e). subst (IsNumbered k (Some t ∷ ts)) is (record { from = omega arith; to = omega arith; thread = let here : k - k ≡ 0 = omega arith in ap (λ (i : ℕ). get_or (Some t ∷ ts) i None) here }))
    (λ (more : Has (numbered (k + 1) ts) e). number_after k (Some t) ts e (numbered_from (k + 1) ts e more))
    (has_cases (entry k t) (numbered (k + 1) ts) e h)

numbered_to : (k : ℕ) (ts : List (Option ThreadNo)) (i : ℕ) (t : ThreadNo) → i < length ts → get_or ts i None ≡ Some t → Has (numbered k ts) (entry (k + i) t)
numbered_to k [] i t near at = absurd (omega arith)
numbered_to k (None ∷ ts) zero t near at = absurd (cc)
numbered_to k (Some s ∷ ts) zero t near at = let e : k + 0 ≡ k = omega arith in rw (e, ← same_some s t at) (has_head (entry k s) (numbered (k + 1) ts))
numbered_to k (None ∷ ts) (suc i) t near at = let e : k + suc i ≡ k + 1 + i = omega arith in rw e (numbered_to (k + 1) ts i t (omega arith) at)
numbered_to k (Some s ∷ ts) (suc i) t near at =
    let e : k + suc i ≡ k + 1 + i = omega arith in
    rw e (has_tail (entry k s) (numbered (k + 1) ts) (entry (k + 1 + i) t) (numbered_to (k + 1) ts i t (omega arith) at))

numbered_rises : (k : ℕ) (ts : List (Option ThreadNo)) → Rising ticket_of (numbered k ts)
numbered_rises k [] = tt
numbered_rises k (None ∷ ts) = numbered_rises (k + 1) ts
numbered_rises k (Some t ∷ ts) = (numbered_rises (k + 1) ts, λ e h. let n = (numbered_from (k + 1) ts e h).from in omega arith)

numbered_threads : (k : ℕ) (ts : List (Option ThreadNo)) → threads_in (numbered k ts) ≡ threads_among ts
numbered_threads k [] = refl
numbered_threads k (None ∷ ts) = numbered_threads (k + 1) ts
numbered_threads k (Some t ∷ ts) = ap (λ (l : List ℕ). t.0 ∷ l) (numbered_threads (k + 1) ts)

has_right : (xs ys : List Entry) (e : Entry) → Has ys e → Has (xs ++ ys) e
has_right [] ys e h = h
has_right (x ∷ xs) ys e h = has_tail x (xs ++ ys) e (has_right xs ys e h)

has_either : (xs ys : List Entry) (e : Entry) → Has (xs ++ ys) e → Has xs e ⊎ Has ys e
has_either [] ys e h = inr h
has_either (x ∷ xs) ys e h = ⊎_elim (λ (is : x ≡ e). inl (0, ap Some is))
    (λ (more : Has (xs ++ ys) e). ⊎_elim (λ (l : Has xs e). inl (has_tail x xs e l)) (λ (r : Has ys e). inr r) (has_either xs ys e more)) (has_cases x (xs ++ ys) e h)

-- the entries of all lists in a row are those that stand in one
pub row_from : (lists : List (List Entry)) (e : Entry) → Has (all_in lists) e → Stands lists e
row_from [] e h = absurd (has_none e h)
row_from (xs ∷ lists) e h = ⊎_elim (λ (l : Has xs e). record { place = 0; list = xs; there = refl; has = l })
    (λ (r : Has (all_in lists) e). let s = row_from lists e r in record { place = suc s.place; list = s.list; there = s.there; has = s.has })
    (has_either xs (all_in lists) e h)

pub row_at : (lists : List (List Entry)) (i : ℕ) (xs : List Entry) (e : Entry) → slice_get lists i ≡ Some xs → Has xs e → Has (all_in lists) e
row_at [] i xs e at h = absurd (has_none xs (i, at))
row_at (ys ∷ lists) zero xs e at h = has_longer ys (all_in lists) e (rw (same_some ys xs at) h)
row_at (ys ∷ lists) (suc i) xs e at h = has_right ys (all_in lists) e (row_at lists i xs e at h)

-- one more list
pub more_has : (lists : List (List Entry)) (xs : List Entry) (e : Entry) → Has (all_in (lists ++ xs ∷ [])) e → Has (all_in lists) e ⊎ Has xs e
more_has [] xs e h = ⊎_elim (λ (l : Has xs e). inr l) (λ (r : Has [] e). absurd (has_none e r)) (has_either xs [] e h)
more_has (ys ∷ lists) xs e h = ⊎_elim (λ (l : Has ys e). inl (has_longer ys (all_in lists) e l))
    (λ (r : Has (all_in (lists ++ xs ∷ [])) e). ⊎_elim (λ (l : Has (all_in lists) e). inl (has_right ys (all_in lists) e l)) (λ (m : Has xs e). inr m) (more_has lists xs e r))
    (has_either ys (all_in (lists ++ xs ∷ [])) e h)

pub next_list : {X : Type 0} (f : X → List Entry) (vs : List X) (i : ℕ) (v : X) → i < length vs → v ≡ get_or vs i v → map f (take (i + 1) vs) ≡ map f (take i vs) ++ f v ∷ []
next_list f vs i v near is = grind (arith, common_steps)

pub list_at : {X : Type 0} (f : X → List Entry) (vs : List X) (i : ℕ) (v : X) → i < length vs → v ≡ get_or vs i v → slice_get (map f vs) i ≡ Some (f v)
list_at f vs i v near is = slice_get-map f vs i ∙ ap (option_map f) (slice_get-get_or vs i v near ∙ ap Some (sym is))

pub put_more : (ts : List (Option ThreadNo)) (es : List Entry) (i : ℕ) (d : Entry) → i < length es
    → put_all ts (take (i + 1) es) ≡ set (put_all ts (take i es)) (get_or es i d).ticket (Some (get_or es i d).thread)
put_more ts es i d near = fold_more (λ ts (e : Entry). set ts e.ticket (Some e.thread)) ts es i d near

pub among_more : (ps : List (Option ThreadNo)) (i : ℕ) (d : Option ThreadNo) → i < length ps
    → threads_among (take (i + 1) ps) ≡ threads_among (take i ps) ++ option_to_list (option_map (λ (t : ThreadNo). t.0) (get_or ps i d))
among_more [] i d near = absurd (omega arith)
among_more (None ∷ ps) zero d near = refl
among_more (Some t ∷ ps) zero d near = refl
among_more (None ∷ ps) (suc i) d near = grind (arith, among_more ps i d)
among_more (Some t ∷ ps) (suc i) d near = grind (arith, among_more ps i d)

pub next_put : (ts : List (Option ThreadNo)) (lists : List (List Entry)) (xs : List Entry) → put_all ts (all_in (lists ++ xs ∷ [])) ≡ put_all (put_all ts (all_in lists)) xs
next_put ts lists xs = grind (arith, common_steps)

-- the last one of a list that rises has its greatest ticket
pub last_greatest : (xs : List Entry) (d e : Entry) → Rising ticket_of xs → Has xs e → e.ticket ≤ (get_or xs (length xs - 1) d).ticket
last_greatest [] d e rises h = absurd (has_none e h)
last_greatest (x ∷ []) d e rises h = ⊎_elim (λ (is : x ≡ e). let same = ap ticket_of is in omega arith) (λ (r : Has [] e). absurd (has_none e r)) (has_cases x [] e h)
last_greatest (x ∷ y ∷ ys) d e rises h =
    let before : length (x ∷ y ∷ ys) - 1 ≡ suc (length (y ∷ ys) - 1) = omega arith in
    let up : (e : Entry) → Has (y ∷ ys) e → e.ticket ≤ (get_or (x ∷ y ∷ ys) (length (x ∷ y ∷ ys) - 1) d).ticket = λ e h. rw before (last_greatest (y ∷ ys) d e rises.0 h) in
    let low = up y (has_head y ys) in
    ⊎_elim (λ (is : x ≡ e). let same = ap ticket_of is in let more = rises.1 y (has_head y ys) in omega arith) (λ (r : Has (y ∷ ys) e). up e r) (has_cases x (y ∷ ys) e h)

-- in a list that rises a ticket has one entry
one_at : (xs : List Entry) (a b : Entry) → Rising ticket_of xs → Has xs a → Has xs b → a.ticket ≡ b.ticket → a ≡ b
one_at [] a b rises ha hb same = absurd (has_none a ha)
one_at (x ∷ xs) a b rises ha hb same = ⊎_elim
    (λ (is : x ≡ a). ⊎_elim (λ (is' : x ≡ b). sym is ∙ is') (λ (more : Has xs b). let up = rises.1 b more in let e = ap ticket_of is in absurd (omega arith)) (has_cases x xs b hb))
    (λ (more : Has xs a). ⊎_elim (λ (is' : x ≡ b). let up = rises.1 a more in let e = ap ticket_of is' in absurd (omega arith))
    (λ (more' : Has xs b). one_at xs a b rises.0 more more' same) (has_cases x xs b hb)) (has_cases x xs a ha)

same_entry : (a b : Entry) → a.ticket ≡ b.ticket → a.thread ≡ b.thread → a ≡ b
same_entry a b ticket thread = λ j. record { ticket = ticket j; thread = thread j }

-- so what stands at tickets tells the merge
pub merged_by : (lists : List (List Entry)) (n : ℕ) → AreApart lists → ((e : Entry) → Has (all_in lists) e → e.ticket < n)
    → AreMerged lists (threads_among (put_all (replicate n None) (all_in lists)))
merged_by lists n apart low =
    let first : List (Option ThreadNo) = replicate n None in let placed : List (Option ThreadNo) = put_all first (all_in lists) in
    let long : length placed ≡ n = put_all_length (all_in lists) first ∙ length-replicate n None in
    let wide : length first ≡ n = length-replicate n None in
    let one : (a b : Entry) → Stands lists a → Stands lists b → a.ticket ≡ b.ticket → a ≡ b =
    λ a b s s' same. let place = apart.once s.place s'.place s.list s'.list a b s.there s'.there s.has s'.has same in
    let list : s.list ≡ s'.list = same_some s.list s'.list (sym s.there ∙ (ap (slice_get lists) place ∙ s'.there)) in
    one_at s'.list a b (apart.rise s'.place s'.list s'.there) (rw (← list) s.has) s'.has same in
    let from : (e : Entry) → Has (numbered 0 placed) e → Stands lists e =
    λ e h. let at = numbered_from 0 placed e h in let below = at.to in
    let same : e.ticket - 0 ≡ e.ticket = omega arith in let thread = rw same at at.thread in
    ⊎_elim (λ (none : get_or placed e.ticket None ≡ get_or first e.ticket None). absurd (cc (sym thread ∙ (none ∙ get_or-replicate n e.ticket None None (omega arith)))))
    (λ (o : (a : Entry) × Has (all_in lists) a × (a.ticket ≡ e.ticket) × (Some a.thread ≡ get_or placed e.ticket None)).
    let is : o.0 ≡ e = same_entry o.0 e o.2 (same_some o.0.thread e.thread (o.3 ∙ thread)) in subst (Stands lists) is (row_from lists o.0 o.1))
    (put_from (all_in lists) first e.ticket (omega arith)) in
    let to : (e : Entry) → Stands lists e → Has (numbered 0 placed) e =
    λ e s. let has : Has (all_in lists) e = row_at lists s.place s.list e s.there s.has in let near = low e has in
    let there : get_or placed e.ticket None ≡ Some e.thread = put_there (all_in lists) first e.ticket e.thread (omega arith)
    (λ a h same. ap (λ (b : Entry). b.thread) (one a e (row_from lists a h) s same)) (inr (e, has, refl)) in
    let is : entry (0 + e.ticket) e.thread ≡ e = same_entry (entry (0 + e.ticket) e.thread) e (omega arith) refl in
    subst (Has (numbered 0 placed)) is (numbered_to 0 placed e.ticket e.thread (omega arith) there) in
    record {
      apart = apart;
      entries = numbered 0 placed;
      merge = merge_by lists (numbered 0 placed) apart (numbered_rises 0 placed) from to;
      are = sym (numbered_threads 0 placed);
    }
