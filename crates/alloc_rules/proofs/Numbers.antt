-- Reads and writes of parts by their numbers.
use Rattle.std.proofs.Common.{◌≡◌, ℕ, zero, suc, ◌+◌, ◌-◌, ◌<◌, ◌≤◌, cond, ltb, List, [], ◌∷◌, ◌++◌, length, map, take, drop, Some, refl, sym, ap, ◌∙◌}
use Rattle.std.proofs.Common.{arith, option_map, slice_get, slice_set}
use Rattle.alloc_rules.proofs.Common.{SpanMap, NameState, Part, Front, Heap, Map, Names, Parts, parts_of, middle_of}
use Rattle.alloc_rules.specs.declared.part.Part.TheVariants.{Shard}
use Rattle.heap_rules.specs.Heap as heaps
use Rattle.class_shard.specs.Shard as shards
use Rattle.alloc_rules.proofs.Sets.{map_set}
use Rattle.std.proofs.lemmas.Bool.Decides.{nat_tests}

-- of two lists joined, where the first is of images
get_left : {X Y : Type 0} (f : X → Y) (xs : List X) (ys : List Y) (i : ℕ) → i < length xs → slice_get (map f xs ++ ys) i ≡ option_map f (slice_get xs i)
get_left f [] ys i below = absurd (omega arith)
get_left f (x ∷ xs) ys zero below = refl
get_left f (x ∷ xs) ys (suc i) below = get_left f xs ys i (omega arith)

get_right : {X Y : Type 0} (f : X → Y) (xs : List X) (ys : List Y) (i : ℕ) → slice_get (map f xs ++ ys) (length xs + i) ≡ slice_get ys i
get_right f [] ys i = let e : 0 + i ≡ i = omega arith in ap (λ (k : ℕ). slice_get ys k) e
get_right f (x ∷ xs) ys i = grind (arith, get_right f xs ys i)

set_left : {X Y : Type 0} (f : X → Y) (xs : List X) (ys : List Y) (i : ℕ) (x : X) → i < length xs → slice_set (map f xs ++ ys) i (f x) ≡ map f (slice_set xs i x) ++ ys
set_left f [] ys i x below = absurd (omega arith)
set_left f (y ∷ xs) ys zero x below = refl
set_left f (y ∷ xs) ys (suc i) x below = ap (λ zs. f y ∷ zs) (set_left f xs ys i x (omega arith))

set_right : {X Y : Type 0} (f : X → Y) (xs : List X) (ys : List Y) (i : ℕ) (y : Y) → slice_set (map f xs ++ ys) (length xs + i) y ≡ map f xs ++ slice_set ys i y
set_right f [] ys i y = let e : 0 + i ≡ i = omega arith in ap (λ (k : ℕ). slice_set ys k y) e
set_right f (x ∷ xs) ys i y = grind (arith, set_right f xs ys i y)

get_map_all : {X Y : Type 0} (f : X → Y) (xs : List X) (i : ℕ) → slice_get (map f xs) i ≡ option_map f (slice_get xs i)
get_map_all f [] i = refl
get_map_all f (x ∷ xs) zero = refl
get_map_all f (x ∷ xs) (suc i) = get_map_all f xs i

-- a list that is cut in two
module _ {X : Type 0} where
  get_take : (n : ℕ) (xs : List X) (i : ℕ) → i < n → slice_get (take n xs) i ≡ slice_get xs i
  get_take zero xs i low = absurd (omega arith)
  get_take (suc n) [] i low = refl
  get_take (suc n) (x ∷ xs) zero low = refl
  get_take (suc n) (x ∷ xs) (suc i) low = get_take n xs i (omega arith)

  get_drop : (n : ℕ) (xs : List X) (i : ℕ) → slice_get (drop n xs) i ≡ slice_get xs (n + i)
  get_drop zero xs i = let e : 0 + i ≡ i = omega arith in ap (slice_get xs) (sym e)
  get_drop (suc n) [] i = refl
  get_drop (suc n) (x ∷ xs) i = get_drop n xs i ∙ ap (slice_get (x ∷ xs)) (let e : suc (n + i) ≡ suc n + i = omega arith in e)

  set_take : (n : ℕ) (xs : List X) (i : ℕ) (y : X) → i < n → slice_set (take n xs) i y ≡ take n (slice_set xs i y)
  set_take zero xs i y low = absurd (omega arith)
  set_take (suc n) [] i y low = refl
  set_take (suc n) (x ∷ xs) zero y low = refl
  set_take (suc n) (x ∷ xs) (suc i) y low = ap (λ zs. x ∷ zs) (set_take n xs i y (omega arith))

  drop_below : (n : ℕ) (xs : List X) (i : ℕ) (y : X) → i < n → drop n (slice_set xs i y) ≡ drop n xs
  drop_below zero xs i y low = absurd (omega arith)
  drop_below (suc n) [] i y low = refl
  drop_below (suc n) (x ∷ xs) zero y low = refl
  drop_below (suc n) (x ∷ xs) (suc i) y low = drop_below n xs i y (omega arith)

  take_above : (n : ℕ) (xs : List X) (i : ℕ) (y : X) → take n (slice_set xs (n + i) y) ≡ take n xs
  take_above zero xs i y = refl
  take_above (suc n) [] i y = refl
  take_above (suc n) (x ∷ xs) i y = ap (λ (k : ℕ). take (suc n) (slice_set (x ∷ xs) k y)) (let e : suc n + i ≡ suc (n + i) = omega arith in e) ∙ ap (λ zs. x ∷ zs) (take_above n xs i y)

  drop_above : (n : ℕ) (xs : List X) (i : ℕ) (y : X) → drop n (slice_set xs (n + i) y) ≡ slice_set (drop n xs) i y
  drop_above zero xs i y = let e : 0 + i ≡ i = omega arith in ap (λ (k : ℕ). slice_set xs k y) e
  drop_above (suc n) [] i y = refl
  drop_above (suc n) (x ∷ xs) i y = ap (λ (k : ℕ). drop (suc n) (slice_set (x ∷ xs) k y)) (let e : suc n + i ≡ suc (n + i) = omega arith in e) ∙ drop_above n xs i y

  take_many : (n : ℕ) (xs : List X) → n ≤ length xs → length (take n xs) ≡ n
  take_many zero xs few = refl
  take_many (suc n) [] few = absurd (omega (arith, few))
  take_many (suc n) (x ∷ xs) few = ap (λ k. suc k) (take_many n xs (omega (arith, few)))

skip_three : {X : Type 0} (a b c : X) (xs : List X) (i : ℕ) → slice_get (a ∷ b ∷ c ∷ xs) (3 + i) ≡ slice_get xs i
skip_three a b c xs i = let e : 3 + i ≡ suc (suc (suc i)) = omega arith in ap (slice_get (a ∷ b ∷ c ∷ xs)) e

set_past_three : {X : Type 0} (a b c x : X) (xs : List X) (i : ℕ) → slice_set (a ∷ b ∷ c ∷ xs) (3 + i) x ≡ a ∷ b ∷ c ∷ slice_set xs i x
set_past_three a b c x xs i = let e : 3 + i ≡ suc (suc (suc i)) = omega arith in ap (λ (j : ℕ). slice_set (a ∷ b ∷ c ∷ xs) j x) e

-- the number of a part of the front-end
abbrev pub front_number : ℕ → ℕ → ℕ → ℕ
front_number split classes i = cond (ltb i split) i (i + classes + 3)

module _ {P : Type 0} (split : ℕ) (p : Parts P) (few : split ≤ length p.fronts) where
  abbrev first : List P
  first = take split p.fronts

  abbrev last : List P
  last = drop split p.fronts

  -- what stands behind the first parts of the front-end, and behind the shards
  abbrev behind : List (Part P)
  behind = middle_of p ++ map Front last

  abbrev rest : List (Part P)
  rest = map Shard p.shards ++ behind

  many : length first ≡ split
  many = take_many split p.fronts few

  get_first : (i : ℕ) → i < split → slice_get (parts_of split p) i ≡ option_map Front (slice_get p.fronts i)
  get_first i low = get_left Front first rest i (omega (arith, many, low)) ∙ ap (option_map Front) (get_take split p.fronts i low)

  set_first : (i : ℕ) (q : P) → i < split → slice_set (parts_of split p) i (Front q) ≡ parts_of split (record p { fronts = slice_set p.fronts i q })
  set_first i q low = grind (arith, set_left Front first rest i q, many, set_take split p.fronts i q low, drop_below split p.fronts i q low)

  pub get_shard : (k : ℕ) → k < length p.shards → slice_get (parts_of split p) (split + k) ≡ option_map Shard (slice_get p.shards k)
  get_shard k low = ap (λ (n : ℕ). slice_get (parts_of split p) (n + k)) (sym many) ∙ (get_right Front first rest k ∙ get_left Shard p.shards behind k low)

  pub set_shard : (k : ℕ) (x : shards.Shard) → k < length p.shards → slice_set (parts_of split p) (split + k) (Shard x) ≡ parts_of split (record p { shards = slice_set p.shards k x })
  set_shard k x low = grind (arith, many, set_right Front first rest k (Shard x), set_left Shard p.shards behind k x low)

  -- the part of number i behind all shards
  get_behind : (i n : ℕ) → n ≡ split + (length p.shards + i) → slice_get (parts_of split p) n ≡ slice_get behind i
  get_behind i n is = grind (arith, get_right, many)

  set_behind : (i n : ℕ) (q : Part P) → n ≡ split + (length p.shards + i) → slice_set (parts_of split p) n q ≡ map Front first ++ (map Shard p.shards ++ slice_set behind i q)
  set_behind i n q is = grind (arith, many, set_right)

  pub get_heap : slice_get (parts_of split p) (split + length p.shards) ≡ Some (Heap p.heap)
  get_heap = get_behind 0 (split + length p.shards) (omega arith)

  pub set_heap : (h : heaps.Heap) → slice_set (parts_of split p) (split + length p.shards) (Heap h) ≡ parts_of split (record p { heap = h })
  set_heap h = set_behind 0 (split + length p.shards) (Heap h) (omega arith)

  pub get_map : slice_get (parts_of split p) (split + length p.shards + 1) ≡ Some (Map p.map)
  get_map = get_behind 1 (split + length p.shards + 1) (omega arith)

  pub set_map : (x : SpanMap) → slice_set (parts_of split p) (split + length p.shards + 1) (Map x) ≡ parts_of split (record p { map = x })
  set_map x = set_behind 1 (split + length p.shards + 1) (Map x) (omega arith)

  pub get_names : slice_get (parts_of split p) (split + length p.shards + 2) ≡ Some (Names p.names)
  get_names = get_behind 2 (split + length p.shards + 2) (omega arith)

  pub set_names : (x : List NameState) → slice_set (parts_of split p) (split + length p.shards + 2) (Names x) ≡ parts_of split (record p { names = x })
  set_names x = set_behind 2 (split + length p.shards + 2) (Names x) (omega arith)

  get_last : (j i : ℕ) → i ≡ split + j → slice_get (parts_of split p) (i + length p.shards + 3) ≡ option_map Front (slice_get p.fronts i)
  get_last j i is =
      get_behind (3 + j) (i + length p.shards + 3) (omega (arith, is))
      ∙ (skip_three (Heap p.heap) (Map p.map) (Names p.names) (map Front last) j
      ∙ (get_map_all Front last j ∙ ap (option_map Front) (get_drop split p.fronts j ∙ ap (slice_get p.fronts) (sym is))))

  set_last : (j i : ℕ) (q : P) → i ≡ split + j → slice_set (parts_of split p) (i + length p.shards + 3) (Front q) ≡ parts_of split (record p { fronts = slice_set p.fronts i q })
  set_last j i q is =
      let new : List P = slice_set p.fronts (split + j) q in
      let cut : List P → List P → List (Part P) = λ a b. map Front a ++ (map Shard p.shards ++ (Heap p.heap ∷ Map p.map ∷ Names p.names ∷ map Front b)) in
      set_behind (3 + j) (i + length p.shards + 3) (Front q) (omega (arith, is))
      ∙ (ap (λ (xs : List (Part P)). map Front first ++ (map Shard p.shards ++ xs)) (set_past_three (Heap p.heap) (Map p.map) (Names p.names) (Front q) (map Front last) j
      ∙ ap (λ (xs : List (Part P)). Heap p.heap ∷ Map p.map ∷ Names p.names ∷ xs) (map_set Front last j q))
      ∙ (ap (λ (xs : List P). cut first xs) (sym (drop_above split p.fronts j q))
      ∙ (ap (λ (xs : List P). cut xs (drop split new)) (sym (take_above split p.fronts j q)) ∙ ap (λ (k : ℕ). parts_of split (record p { fronts = slice_set p.fronts k q })) (sym is))))

  -- a part of the front-end by its number among those
  pub get_front : (i : ℕ) → slice_get (parts_of split p) (front_number split (length p.shards) i) ≡ option_map Front (slice_get p.fronts i)
  get_front i = grind (arith, nat_tests, get_first i, get_last (i - split) i)

  pub set_front : (i : ℕ) (q : P) → slice_set (parts_of split p) (front_number split (length p.shards) i) (Front q) ≡ parts_of split (record p { fronts = slice_set p.fronts i q })
  set_front i q = grind (arith, nat_tests, set_first i q, set_last (i - split) i q)
