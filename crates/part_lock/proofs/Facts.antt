-- Acts of one part or thread, sums over views, and what stays.
use Rattle.std.proofs.Common.{◌≡◌, ◌≢◌, ℕ, zero, suc, ◌+◌, ◌<◌, ◌≤◌, eqb, eq-eqb, ne_eqb, cond, replicate, get_or, List}
use Rattle.std.proofs.Common.{[], ◌∷◌, ◌++◌, length, set, subst, refl, sym, ap, ◌∙◌, ◌⊎◌, inl, inr, ⊎_elim, arith}
use mathlib.Core.Option.{some, some-ne-none, some-injective}
use lib.ListN.{get_elem?}
use Rattle.atomic_table.proofs.Lists.{set_else}
use Rattle.tc_model.specs.declared.board.Act.{Act}
use Rattle.tc_model.specs.Rises.{Has, Rising}
use Rattle.tc_model.proofs.Members.{has_cases, has_end, has_none}
use Rattle.tc_model.proofs.Merges.{Apart, apart_few}
use Rattle.tc_model.proofs.Longer.{longer_here, longer_else, key_from, key_to}
use Rattle.part_lock.specs.declared.view.Work.{Work}
use Rattle.part_lock.specs.declared.view.View.{View}
use Rattle.part_lock.specs.declared.view.View.TheVariants.{Spent}
use Rattle.part_lock.specs.Lock.{lies, flag, Once, at_part, of_thread, sum_of, weigh, total, one, ended}

-- f, but a at i
abbrev pub put : {A : Type 0} → (ℕ → A) → ℕ → A → ℕ → A
put f i a k = cond (eqb k i) a (f k)

pub put_here : {A : Type 0} (f : ℕ → A) (i : ℕ) (a : A) → put f i a i ≡ a
put_here f i a = ap (λ b. cond b a (f i)) (eq-eqb i i refl)

pub put_else : {A : Type 0} (f : ℕ → A) (i : ℕ) (a : A) (k : ℕ) → k ≢ i → put f i a k ≡ f k
put_else f i a k ne = ap (λ b. cond b a (f k)) (ne_eqb k i ne)

pub lies_same : (a b : ℕ) → lies a ≡ lies b → a ≡ b
lies_same a b e = cc

pub get_or_any : {A : Type 0} (xs : List A) (i : ℕ) (d e : A) → i < length xs → get_or xs i d ≡ get_or xs i e
get_or_any [] i d e h = absurd (omega arith)
get_or_any (x ∷ xs) zero d e h = refl
get_or_any (x ∷ xs) (suc i) d e h = get_or_any xs i d e (omega arith)

pub get_or-replicate_any : (n i : ℕ) → ◌≡◌ {A = ℕ} (get_or (replicate n 0) i 0) 0
get_or-replicate_any zero i = refl
get_or-replicate_any (suc n) zero = refl
get_or-replicate_any (suc n) (suc i) = get_or-replicate_any n i

pub flag_low : (n : ℕ) → flag n ≤ 1
flag_low zero = omega arith
flag_low (suc n) = omega arith

pub flag_rises : (m n : ℕ) → m ≤ n → flag m ≤ flag n
flag_rises m n h = grind (arith)

pub flag_some : (n : ℕ) → 0 < n → flag n ≡ 1
flag_some zero h = absurd (omega arith)
flag_some (suc n) h = refl

module _ {P L : Type 0} where
  pub part_here : (es : List (Act P L)) (a : Act P L) (i : ℕ) → i ≡ a.place.0 → at_part i (es ++ a ∷ []) ≡ at_part i es ++ a ∷ []
  part_here es a i e = longer_here (λ (b : Act P L). b.place.0) es a i (sym e)

  pub part_same : (es : List (Act P L)) (a : Act P L) (i : ℕ) → i ≢ a.place.0 → at_part i (es ++ a ∷ []) ≡ at_part i es
  part_same es a i ne = longer_else (λ (b : Act P L). b.place.0) es a i (λ e. ne (sym e))

  pub thread_here : (es : List (Act P L)) (a : Act P L) (i : ℕ) → i ≡ a.thread → of_thread i (es ++ a ∷ []) ≡ of_thread i es ++ a ∷ []
  thread_here es a i e = longer_here (λ (b : Act P L). b.thread) es a i (sym e)

  pub thread_same : (es : List (Act P L)) (a : Act P L) (i : ℕ) → i ≢ a.thread → of_thread i (es ++ a ∷ []) ≡ of_thread i es
  thread_same es a i ne = longer_else (λ (b : Act P L). b.thread) es a i (λ e. ne (sym e))

  pub part_from : (es : List (Act P L)) (i : ℕ) (d : Act P L) → Has (at_part i es) d → Has es d × (d.place.0 ≡ i)
  part_from es i d h = key_from (λ (b : Act P L). b.place.0) es i d h

  pub part_to : (es : List (Act P L)) (i : ℕ) (d : Act P L) → Has es d → d.place.0 ≡ i → Has (at_part i es) d
  part_to es i d h e = key_to (λ (b : Act P L). b.place.0) es i d h e

  pub thread_from : (es : List (Act P L)) (i : ℕ) (d : Act P L) → Has (of_thread i es) d → Has es d × (d.thread ≡ i)
  thread_from es i d h = key_from (λ (b : Act P L). b.thread) es i d h

  pub thread_to : (es : List (Act P L)) (i : ℕ) (d : Act P L) → Has es d → d.thread ≡ i → Has (of_thread i es) d
  thread_to es i d h e = key_to (λ (b : Act P L). b.thread) es i d h e

module _ {A : Type 0} where
  pub set_at : (l : List A) (i : ℕ) (a b : A) → get_elem? l i ≡ some a → get_elem? (set l i b) i ≡ some b
  set_at [] i a b e = absurd (some-ne-none a (sym e))
  set_at (x ∷ xs) zero a b e = refl
  set_at (x ∷ xs) (suc i) a b e = set_at xs i a b e

  -- of a list that rises, members with one number are one
  pub rising_one : (key : A → ℕ) (xs : List A) → Rising key xs → (a b : A) → Has xs a → Has xs b → key a ≡ key b → a ≡ b
  rising_one key [] r a b ha hb same = absurd (has_none a ha)
  rising_one key (x ∷ xs) r a b ha hb same = grind (arith, rising_one key xs r.0 a b, has_cases)

  -- an item of a table's lists, at its end
  pub view_end : (l : List A) (a b : A) (j : ℕ) → get_elem? (l ++ a ∷ []) j ≡ some b → (get_elem? l j ≡ some b) ⊎ ((j ≡ length l) × (a ≡ b))
  view_end [] a b zero e = inr (refl, some-injective a b e)
  view_end [] a b (suc j) e = absurd (some-ne-none b (sym e))
  view_end (x ∷ xs) a b zero e = inl e
  view_end (x ∷ xs) a b (suc j) e = ⊎_elim (λ (o : get_elem? xs j ≡ some b). inl o) (λ (n : (j ≡ length xs) × (a ≡ b)). inr ((let m = n.0 in omega arith), n.1)) (view_end xs a b j e)

pub once_end : (ts : List ℕ) (t : ℕ) → Once ts → (Has ts t → ⊥) → Once (ts ++ t ∷ [])
once_end [] t o n = (tt, λ h. has_none t h)
once_end (s ∷ ts) t o n = grind (arith, once_end ts t o.0 (λ h. n (suc h.0, h.1)), n, o.1, has_end ts t s)

once_apart : (ts : List ℕ) → Once ts → Apart (λ t. t) ts
once_apart [] o = tt
once_apart (t ∷ ts) o = (once_apart ts o.0, λ b h e. o.1 (subst (Has ts) (sym e) h))

-- no more threads than their numbers leave room
pub few_threads : (ts : List ℕ) (n : ℕ) → Once ts → ((t : ℕ) → Has ts t → t < n) → length ts ≤ n
few_threads ts n once small = apart_few (λ t. t) ts n (once_apart ts once) small

module _ {X P L : Type 0} where
  pub total_set : (f : Work X P L → ℕ) (views : List (View X P L)) (id : ℕ) (v w : View X P L)
      → get_elem? views id ≡ some v → total f (set views id w) + weigh f v ≡ total f views + weigh f w
  total_set f [] id v w e = absurd (some-ne-none v (sym e))
  total_set f (x ∷ xs) zero v w e = let same : weigh f x ≡ weigh f v = ap (weigh f) (some-injective x v e) in omega arith
  total_set f (x ∷ xs) (suc id) v w e = let more = total_set f xs id v w e in omega arith

  pub total_snoc : (f : Work X P L → ℕ) (views : List (View X P L)) (w : View X P L) → total f (views ++ w ∷ []) ≡ total f views + weigh f w
  total_snoc f [] w = omega arith
  total_snoc f (x ∷ xs) w = let more = total_snoc f xs w in omega arith

  pub sum_snoc : (f : Work X P L → ℕ) (ws : List (Work X P L)) (w : Work X P L) → sum_of f (ws ++ w ∷ []) ≡ sum_of f ws + f w
  sum_snoc f [] w = omega arith
  sum_snoc f (x ∷ xs) w = let more = sum_snoc f xs w in omega arith

  pub sum_one : (ws : List (Work X P L)) → sum_of one ws ≡ length ws
  sum_one [] = refl
  sum_one (x ∷ xs) = let more = sum_one xs in omega arith

  sum_le : (ws : List (Work X P L)) → sum_of ended ws ≤ sum_of one ws
  sum_le [] = omega arith
  sum_le (x ∷ xs) = let more = sum_le xs in let low = flag_low x.cause in omega arith

  weigh_le : (v : View X P L) → weigh ended v ≤ weigh one v
  weigh_le v = grind (arith, sum_le, flag_low)

  -- there are no more ended seats than seats
  pub ended_le : (views : List (View X P L)) → total ended views ≤ total one views
  ended_le [] = omega arith
  ended_le (x ∷ xs) = let more = ended_le xs in let here = weigh_le x in omega arith

  pub total_at : (f : Work X P L → ℕ) (views : List (View X P L)) (id : ℕ) (v : View X P L) → get_elem? views id ≡ some v → weigh f v ≤ total f views
  total_at f [] id v e = absurd (some-ne-none v (sym e))
  total_at f (x ∷ xs) zero v e = let same : weigh f x ≡ weigh f v = ap (weigh f) (some-injective x v e) in omega arith
  total_at f (x ∷ xs) (suc id) v e = let more = total_at f xs id v e in omega arith

  pub total_two : (f : Work X P L → ℕ) (views : List (View X P L)) (i j : ℕ) (v u : View X P L)
      → get_elem? views i ≡ some v → get_elem? views j ≡ some u → j ≢ i → weigh f v + weigh f u ≤ total f views
  total_two f views i j v u a b ne = let t = total_set f views i v Spent a in let more = total_at f (set views i Spent) j u (set_else views i j Spent ne ∙ b) in omega arith
