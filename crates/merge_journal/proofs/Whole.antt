-- The merge of two halves of lists is the merge of all.
use Rattle.std.proofs.Common.{◌≡◌, ◌≢◌, ◌⊎◌, ℕ, zero, suc, ◌+◌, ◌<◌, ◌≤◌, List, [], ◌∷◌, ◌++◌, length, map, take, drop, get_or, Some, refl, sym, ap}
use Rattle.std.proofs.Common.{◌∙◌, subst, inl, inr, ⊎_elim, arith}
use Rattle.std.proofs.lemmas.List.{map-append, take-append-drop}
use Rattle.std.specs.List.{slice_get}
use Rattle.std.proofs.lemmas.Option.{slice_get_within}
use Rattle.tc_model.specs.declared.board.Entry.{Entry}
use Rattle.tc_model.specs.Rises.{Has, AreApart, Stands, IsMerge}
use Rattle.tc_model.proofs.Members.{at_longer, has_none}
use Rattle.tc_model.proofs.Merged.{merge_by, merge_has}
use Rattle.merge_journal.specs.Two.{IsMergeOfTwo}

at_front : (fs bs : List (List Entry)) (i : ℕ) (xs : List Entry) → slice_get fs i ≡ Some xs → slice_get (fs ++ bs) i ≡ Some xs
at_front fs bs i xs at = at_longer fs bs i xs at

at_back : (fs bs : List (List Entry)) (i : ℕ) (xs : List Entry) → slice_get bs i ≡ Some xs → slice_get (fs ++ bs) (length fs + i) ≡ Some xs
at_back [] bs i xs at = let e : i ≡ 0 + i = omega arith in subst (λ (k : ℕ). slice_get bs k ≡ Some xs) e at
at_back (f ∷ fs) bs i xs at = let e : suc (length fs + i) ≡ suc (length fs) + i = omega arith in subst (λ (k : ℕ). slice_get (f ∷ (fs ++ bs)) k ≡ Some xs) e (at_back fs bs i xs at)

at_either : (fs bs : List (List Entry)) (i : ℕ) (xs : List Entry) → slice_get (fs ++ bs) i ≡ Some xs → (slice_get fs i ≡ Some xs) ⊎ ((k : ℕ) × (slice_get bs k ≡ Some xs))
at_either [] bs i xs at = inr (i, at)
at_either (f ∷ fs) bs zero xs at = inl at
at_either (f ∷ fs) bs (suc i) xs at = at_either fs bs i xs at

pub apart_front : (fs bs : List (List Entry)) → AreApart (fs ++ bs) → AreApart fs
apart_front fs bs a = record {
  rise = λ i xs at. a.rise i xs (at_front fs bs i xs at);
  once = λ i j xs ys x y at at' hx hy same. a.once i j xs ys x y (at_front fs bs i xs at) (at_front fs bs j ys at') hx hy same;
}

pub apart_back : (fs bs : List (List Entry)) → AreApart (fs ++ bs) → AreApart bs
apart_back fs bs a = record {
  rise = λ i xs at. a.rise (length fs + i) xs (at_back fs bs i xs at);
  once = λ i j xs ys x y at at' hx hy same. let e = a.once (length fs + i) (length fs + j) xs ys x y (at_back fs bs i xs at) (at_back fs bs j ys at') hx hy same in omega arith;
}

stands_front : (fs bs : List (List Entry)) (e : Entry) → Stands fs e → Stands (fs ++ bs) e
stands_front fs bs e s = record { place = s.place; list = s.list; there = at_front fs bs s.place s.list s.there; has = s.has }

stands_back : (fs bs : List (List Entry)) (e : Entry) → Stands bs e → Stands (fs ++ bs) e
stands_back fs bs e s = record { place = length fs + s.place; list = s.list; there = at_back fs bs s.place s.list s.there; has = s.has }

-- no ticket stands in both halves
pub halves_apart : (fs bs : List (List Entry)) (xs ys : List Entry) → AreApart (fs ++ bs) → IsMerge fs xs → IsMerge bs ys → (a b : Entry) → Has xs a → Has ys b → a.ticket ≢ b.ticket
halves_apart fs bs xs ys apart m n a b ha hb same =
    let s = m.whole a ha in let t = n.whole b hb in let inside = slice_get_within fs s.place s.list s.there in
    let e = apart.once s.place (length fs + t.place) s.list t.list a b (at_front fs bs s.place s.list s.there) (at_back fs bs t.place t.list t.there) s.has t.has same in
    absurd (omega arith)

pub halves : (fs bs : List (List Entry)) (xs ys zs : List Entry) → AreApart (fs ++ bs) → IsMerge fs xs → IsMerge bs ys → IsMergeOfTwo xs ys zs → IsMerge (fs ++ bs) zs
halves fs bs xs ys zs apart m n two = merge_by (fs ++ bs) zs apart two.rises
    (λ e h. ⊎_elim (λ (l : Has xs e). stands_front fs bs e (m.whole e l)) (λ (r : Has ys e). stands_back fs bs e (n.whole e r)) (two.from e h))
    (λ e s. ⊎_elim (λ (l : slice_get fs s.place ≡ Some s.list). two.left e (merge_has fs xs m e (record { place = s.place; list = s.list; there = l; has = s.has })))
    (λ (r : (k : ℕ) × (slice_get bs k ≡ Some s.list)). two.right e (merge_has bs ys n e (record { place = r.0; list = s.list; there = r.1; has = s.has })))
    (at_either fs bs s.place s.list s.there))

-- one list, or none
pub merge_of_one : (xs : List Entry) → AreApart (xs ∷ []) → IsMerge (xs ∷ []) xs
merge_of_one xs apart = grind (arith, merge_by (xs ∷ []) xs apart (apart.rise 0 xs refl), apart.rise 0 xs refl)

pub merge_of_none : AreApart [] → IsMerge [] []
merge_of_none apart = merge_by [] [] apart tt (λ e h. absurd (has_none e h)) (λ e s. absurd (has_none s.list (s.place, s.there)))

pub one_list_of : {X : Type 0} (xs : List X) (d : X) → length xs ≤ 1 → 0 < length xs → xs ≡ get_or xs 0 d ∷ []
one_list_of [] d few some = absurd (omega arith)
one_list_of (x ∷ []) d few some = refl
one_list_of (x ∷ y ∷ xs) d few some = absurd (omega arith)

pub none_of : {X : Type 0} (xs : List X) → length xs ≡ 0 → xs ≡ []
none_of [] none = refl
none_of (x ∷ xs) none = absurd (omega arith)

pub halves_of : {X Y : Type 0} (f : X → Y) (k : ℕ) (xs : List X) → map f (take k xs) ++ map f (drop k xs) ≡ map f xs
halves_of f k xs = sym (map-append f (take k xs) (drop k xs)) ∙ ap (map f) (take-append-drop k xs)
