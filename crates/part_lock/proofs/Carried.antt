-- Parts on their way into the table and out of it.
use Rattle.std.proofs.Common.{◌≡◌, ℕ, zero, suc, ◌+◌, add-one, arith, List, map, reverse, take, [], ◌∷◌, ◌++◌, All, refl, sym, ap, ◌∙◌, subst}
use Rattle.std.specs.Prelude.{Vec}
use Rattle.std.specs.declared.alloc.Global.{Global}
use Rattle.std.proofs.lemmas.List.{map-append, reverse-append}
use Rattle.std.proofs.Math.Seq.{append_snoc}
use Rattle.std.proofs.lemmas.List.Elements.{All-nil, All-push, All-head, All-tail}
use mathlib.Core.Option.{some, some-injective, some-ne-none}
use lib.ListN.{get_elem?}
use Rattle.tc_model.specs.declared.board.Entry.{Entry}
use Rattle.part_lock.specs.declared.view.Stall.{Stall}

take_one : {A : Type 0} (l : List A) (i : ℕ) (a : A) → get_elem? l i ≡ some a → take (suc i) l ≡ take i l ++ a ∷ []
take_one [] i a e = absurd (some-ne-none a (sym e))
take_one (x ∷ xs) zero a e = ap (λ (y : _). y ∷ []) (some-injective x a e)
take_one (x ∷ xs) (suc i) a e = ap (λ (l : _). x ∷ l) (take_one xs i a e)

-- one item more of a list was carried over
pub carried : {A B : Type 0} (f : A → B) (out out' : List B) (l l' : List A) (a : A) (i : ℕ)
    → out' ≡ out ++ f a ∷ [] → out ≡ map f (take i l) → get_elem? l i ≡ some a → l' ≡ l → out' ≡ map f (take (i + 1) l')
carried f out out' l l' a i longer so_far at same = rw (same, add-one, take_one l i a at, map-append) (longer ∙ ap (λ (z : List _). z ++ f a ∷ []) so_far)

module _ {A : Type 0} where
  pub turned_end : (ps ps' : List A) (x : A) → ps ≡ ps' ++ x ∷ [] → reverse ps ≡ x ∷ reverse ps'
  turned_end ps ps' x shorter = ap reverse shorter ∙ reverse-append ps' (x ∷ [])

  pub all_turned : (Q : A → Type 0) (xs : List A) → All Q xs → All Q (reverse xs)
  all_turned Q [] h = All-nil Q
  all_turned Q (x ∷ xs) h = subst (All Q) (sym (reverse-append (x ∷ []) xs)) (All-push Q (reverse xs) x (all_turned Q xs (All-tail Q x xs h)) (All-head Q x xs h))

  pub all_last : (Q : A → Type 0) (xs : List A) (x : A) → All Q (xs ++ x ∷ []) → Q x
  all_last Q [] x h = All-head Q x [] h
  all_last Q (y ∷ ys) x h = all_last Q ys x (All-tail Q y (ys ++ x ∷ []) h)

module _ {A B : Type 0} where
  -- one item more that was moved over
  pub move_step : (f : A → B) (xs xs' : List A) (x : A) (y : B) (ps ps' all : List B) → xs' ≡ xs ++ x ∷ []
      → f x ≡ y → reverse ps ≡ y ∷ reverse ps' → map f xs ++ reverse ps ≡ all → map f xs' ++ reverse ps' ≡ all
  move_step f xs xs' x y ps ps' all longer same turned is = grind (arith, map-append, append_snoc)

module _ {P : Type 0} where
  pub fill_step : (xs xs' : List (Stall P)) (x : Stall P) (ps ps' all : List P) → xs' ≡ xs ++ x ∷ [] → ps ≡ ps' ++ x.part ∷ []
      → map (λ (y : Stall P). y.part) xs ++ reverse ps ≡ all → map (λ (y : Stall P). y.part) xs' ++ reverse ps' ≡ all
  fill_step xs xs' x ps ps' all longer shorter is = move_step (λ (y : Stall P). y.part) xs xs' x x.part ps ps' all longer refl (turned_end ps ps' x.part shorter) is

  -- the lists of entries of parts in their slots
  pub journals : (xs : List (Stall P)) → map (λ (v : Vec Entry Global). v.items) (map (λ (x : Stall P). x.entries) xs) ≡ map (λ (x : Stall P). x.entries.items) xs
  journals [] = refl
  journals (x ∷ xs) = ap (λ (l : List (List Entry)). x.entries.items ∷ l) (journals xs)

module _ {A B : Type 0} where
  -- one item more of a list that is taken from its end
  pub next_is : (f : A → B) (out out' : List B) (x : A) (y : B) (ps ps' : List A) (all : List B) → out' ≡ out ++ y ∷ []
      → y ≡ f x → reverse ps ≡ x ∷ reverse ps' → out ++ map f (reverse ps) ≡ all → out' ++ map f (reverse ps') ≡ all
  next_is f out out' x y ps ps' all longer same turned is = grind (arith, append_snoc)
