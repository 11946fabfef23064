-- A key in place of another one: the keys between the two places, turned by one, are those of a removal and an insert.
use Rattle.sorted_list.proofs.Common.{nat_tests, append_assoc, drop_more, drop_all, take-take, drop-take, drop-drop, set_at, length-take-le, length-drop}
use Rattle.sorted_list.proofs.Common.{length-append, insert-append_left, insert-append_right}
use Rattle.std.proofs.Common.{◌≡◌, ℕ, suc, ◌+◌, ◌-◌, ◌<◌, ◌≤◌, List, [], ◌∷◌, ◌++◌, length, get_or, take, drop, set, insert, remove, sym, ap, ◌∙◌, arith}
use borrow.Rule.Slice.PartMut.{put_mid, mid_of}

-- all but the last, and the last, of m elements
last_of : {X : Type 0} (xs : List X) (m : ℕ) (d : X) → length xs ≡ m → 0 < m → drop (m - 1) xs ≡ get_or xs (m - 1) d ∷ []
last_of xs m d size some = grind (arith, nat_tests, drop_more, drop_all)

module _ {X : Type 0} (keys : List X) (place target : ℕ) (key : X) (held : place < length keys) where
  size_before : length (take place keys) ≡ place
  size_before = length-take-le place keys (omega arith)

  -- towards the front
  pub moved_up : (turned : List X) → target ≤ place → turned ≡ drop (length (mid_of target (place + 1 - target) keys) - 1) (mid_of target (place + 1 - target) keys) ++ take (length (mid_of target (place + 1 - target) keys) - 1) (mid_of target (place + 1 - target) keys) → set (put_mid target (place + 1 - target) keys turned) target key ≡ insert (remove keys place) target key
  moved_up turned order e =
      let m : ℕ = place + 1 - target in
      let part : List X = take m (drop target keys) in
      let size : length part ≡ m = length-take-le m (drop target keys) (omega (arith, length-drop target keys)) in
      let front : List X = take (place - target) (drop target keys) in
      let shape : turned ≡ get_or part (m - 1) key ∷ front =
      e
      ∙ ap (λ (k : ℕ). drop (k - 1) part ++ take (k - 1) part) size
      ∙ ap (λ (xs : List X). xs ++ take (m - 1) part) (last_of part m key size (omega arith))
      ∙ ap (λ (k : ℕ). get_or part (m - 1) key ∷ take k part) (let less : m - 1 ≡ place - target = omega arith in less)
      ∙ ap (λ (xs : List X). get_or part (m - 1) key ∷ xs) (take-take (place - target) m (drop target keys) (omega arith)) in
      let behind : drop m (drop target keys) ≡ drop (suc place) keys = drop-drop m target keys ∙ ap (λ (k : ℕ). drop k keys) (let next : target + m ≡ suc place = omega arith in next) in
      let whole : target + (place - target) ≡ place = omega arith in
      grind (arith, nat_tests, set_at, length-take-le, insert-append_left, size_before, append_assoc, take-take, drop-take)

  -- towards the end
  pub moved_down : (turned : List X) → place < target → target ≤ length keys → turned ≡ drop 1 (mid_of place (target - place) keys) ++ take 1 (mid_of place (target - place) keys) → set (put_mid place (target - place) keys turned) (target - 1) key ≡ insert (remove keys place) (target - 1) key
  moved_down turned order within e =
      let m : ℕ = target - place in
      let rest : ℕ = target - 1 - place in
      let part : List X = take m (drop place keys) in
      let count : 1 + rest ≡ m = omega arith in
      let behind : List X = drop (suc place) keys in
      let first : take 1 part ≡ get_or keys place key ∷ [] =
      take-take 1 m (drop place keys) (omega arith) ∙ ap (take 1) (drop_more keys place key held) in
      let others : drop 1 part ≡ take rest behind =
      ap (λ (k : ℕ). drop 1 (take k (drop place keys))) (sym count)
      ∙ drop-take 1 rest (drop place keys)
      ∙ ap (take rest) (drop-drop 1 place keys ∙ ap (λ (k : ℕ). drop k keys) (let next : place + 1 ≡ suc place = omega arith in next)) in
      let size : length (take place keys ++ take rest behind) ≡ target - 1 =
      omega (arith, length-append (take place keys) (take rest behind), size_before, length-take-le rest behind (omega (arith, length-drop (suc place) keys))) in
      let end : drop m (drop place keys) ≡ drop rest behind =
      drop-drop m place keys ∙ ap (λ (k : ℕ). drop k keys) (let same : place + m ≡ suc place + rest = omega arith in same) ∙ sym (drop-drop rest (suc place) keys) in
      ap (λ (ys : List X). set (take place keys ++ (ys ++ drop m (drop place keys))) (target - 1) key) (e ∙ ap (λ (xs : List X). xs ++ take 1 part) others ∙ ap (λ (xs : List X). take rest behind ++ xs) first)
      ∙ ap (λ (ys : List X). set (take place keys ++ ys) (target - 1) key) (append_assoc (take rest behind) (get_or keys place key ∷ []) (drop m (drop place keys)))
      ∙ ap (λ (ys : List X). set ys (target - 1) key) (sym (append_assoc (take place keys) (take rest behind) (get_or keys place key ∷ drop m (drop place keys))))
      ∙ set_at (take place keys ++ take rest behind) (get_or keys place key) (drop m (drop place keys)) key (target - 1) size
      ∙ ap (λ (ys : List X). (take place keys ++ take rest behind) ++ key ∷ ys) end
      ∙ append_assoc (take place keys) (take rest behind) (key ∷ drop rest behind)
      ∙ sym (insert-append_right (take place keys) behind place (target - 1) key size_before (omega arith))
