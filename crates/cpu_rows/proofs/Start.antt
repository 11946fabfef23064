-- What holds at the start: each part is as it was opened, and no thread has a call.
use Rattle.std.proofs.Common.{◌≡◌, ℕ, zero, suc, ◌+◌, ◌*◌, ◌<◌, ◌≤◌, List, [], ◌∷◌, ◌++◌, length, map, replicate, Some, refl, sym, ap, ◌∙◌}
use Rattle.std.proofs.Common.{subst, arith, option_map, sum_by, All, slice_get, slice_index_or, flat_map}
use Rattle.cpu_rows.proofs.Common.{range_with_len, mod-lt, cond_both, false≢true, slice_get-map, slice_get_within, length-append}
use Rattle.cpu_rows.proofs.Common.{length-replicate, length-map, length-range_with_len, sum_by-cons, All-nil, All-map, All-head}
use Rattle.cpu_rows.proofs.Common.{All-tail, ClassRow, Config, CpuPart, CpuOk, SeatOk, Transfer, objects_at, of_all, CpuSeat, CpuRow, thread_no, AreRows}
use Rattle.cpu_rows.proofs.Common.{HasRoom, IsSlabOf, Standing, idle, CpuFrontPart, Cpu, Domain, cpu_stored, first_cpu, first_cache}
use Rattle.cpu_rows.proofs.Common.{domain_caches, front_parts, cpu_front, seat_at, IsSeated, ArePlaced, CpuHolds, AreCpuLimits}
use Rattle.cpu_slab.proofs.Opened.{sound_opened}
use Rattle.std.proofs.lemmas.List.Elements.{All-append, All-replicate}
use Rattle.cpu_slab.specs.Slots as slots
use Rattle.tc_model.proofs.Lists.{get_front}
use Rattle.alloc_rules.proofs.First.{number_at}

-- items of two lists joined, and of copies
get_right : {X : Type 0} (xs ys : List X) (n i : ℕ) → length xs + i ≡ n → slice_get (xs ++ ys) n ≡ slice_get ys i
get_right [] ys n i is = let e : n ≡ i = omega (arith, is) in ap (slice_get ys) e
get_right (x ∷ xs) ys zero i is = absurd (omega (arith, is))
get_right (x ∷ xs) ys (suc n) i is = get_right xs ys n i (omega (arith, is))

copy_get : {X : Type 0} (n : ℕ) (x : X) (i : ℕ) → i < n → slice_get (replicate n x) i ≡ Some x
copy_get zero x i low = absurd (omega arith)
copy_get (suc n) x zero low = refl
copy_get (suc n) x (suc i) low = copy_get n x i (omega arith)

abbrev copies : {X : Type 0} → ℕ → List X → List X
copies {X} n xs = flat_map (λ (ys : List X). ys) (replicate n xs)

copies_length : {X : Type 0} (n : ℕ) (xs : List X) → length (copies n xs) ≡ n * length xs
copies_length zero xs = omega arith
copies_length (suc n) xs = omega (arith, length-append xs (copies n xs), copies_length n xs)

copies_get : {X : Type 0} (n d k : ℕ) (xs : List X) → d < n → k < length xs → slice_get (copies n xs) (d * length xs + k) ≡ slice_get xs k
copies_get zero d k xs low within = absurd (omega arith)
copies_get (suc n) zero k xs low within = grind (arith, get_front)
copies_get (suc n) (suc d) k xs low within = grind (arith, copies_get n d k xs (omega arith) within, get_right)

all_copies : {X : Type 0} (P : X → Type 0) (n : ℕ) (xs : List X) → All P xs → All P (copies n xs)
all_copies P zero xs all = All-nil P
all_copies P (suc n) xs all = All-append P xs (copies n xs) all (all_copies P n xs all)

sum_none : {X : Type 0} (f : X → ℕ) (xs : List X) → All (λ x. f x ≡ 0) xs → sum_by f xs ≡ 0
sum_none f [] all = refl
sum_none f (x ∷ xs) all = omega (arith, sum_by-cons f x xs, All-head (λ x. f x ≡ 0) x xs all, sum_none f xs (All-tail (λ x. f x ≡ 0) x xs all))

mapped_at : {X : Type 0} (f : ℕ → X) (n t : ℕ) → t < n → slice_get (map f (range_with_len 0 n)) t ≡ Some (f t)
mapped_at f n t below = slice_get-map f (range_with_len 0 n) t ∙ ap (option_map f) (number_at n t below)

mapped_is : {X : Type 0} (f : ℕ → X) (n t : ℕ) (x : X) → slice_get (map f (range_with_len 0 n)) t ≡ Some x → f t ≡ x
mapped_is f n t x is = grind (arith, length-map, length-range_with_len, mapped_at, slice_get_within)

no_slots : (most k n : ℕ) (rows : List ClassRow) → objects_at n (slots.held (slice_index_or (map (slots.empty_row most) rows) k slots.no_row)) ≡ 0
no_slots most k n [] = refl
no_slots most zero n (row ∷ rows) = refl
no_slots most (suc k) n (row ∷ rows) = no_slots most k n rows

opened_classes : (most : ℕ) (rows : List ClassRow)
    → map {B = ℕ × ℕ} (λ (r : slots.SlabRow). (r.size, r.batch)) (map (slots.empty_row most) rows) ≡ map {B = ℕ × ℕ} (λ (r : ClassRow). (r.size, r.batch)) rows
opened_classes most [] = refl
opened_classes most (row ∷ rows) = ap (λ (cs : List (ℕ × ℕ)). (row.size, row.batch) ∷ cs) (opened_classes most rows)

module _ (rows : List ClassRow) (c : Config) where
  -- a part as it was opened
  abbrev IsFirst : CpuFrontPart → Type 0
  IsFirst (Cpu p) = first_cpu rows c ≡ p
  IsFirst (Domain k q) = (let empty : Transfer = record { objects = []; room = c.transfer } in empty ≡ q)

  parts_first : All IsFirst (front_parts rows c)
  parts_first =
      All-append IsFirst (replicate c.cpus (Cpu (first_cpu rows c))) (copies c.domains (domain_caches rows c)) (All-replicate IsFirst c.cpus (Cpu (first_cpu rows c)) refl)
      (all_copies IsFirst c.domains (domain_caches rows c) (All-map IsFirst (first_cache c) (range_with_len 0 (length rows)) (λ k d low. refl)))

  caches_length : length (domain_caches rows c) ≡ length rows
  caches_length = length-map (range_with_len 0 (length rows)) (first_cache c) ∙ length-range_with_len 0 (length rows)

  parts_many : length (front_parts rows c) ≡ c.cpus + c.domains * length rows
  parts_many = search (arith, caches_length, copies_length, length-append, length-replicate)

  cache_first : (d k : ℕ) → d < c.domains → k < length rows → slice_get (front_parts rows c) (c.cpus + d * length rows + k) ≡ Some (first_cache c k)
  cache_first d k low within =
      let m : ℕ = length rows in
      let first = replicate c.cpus (Cpu (first_cpu rows c)) in
      get_right first (copies c.domains (domain_caches rows c)) (c.cpus + d * m + k) (d * m + k) (omega (arith, length-replicate c.cpus (Cpu (first_cpu rows c))))
      ∙ (ap (λ n. slice_get (copies c.domains (domain_caches rows c)) (d * n + k)) (sym caches_length) ∙
      (copies_get c.domains d k (domain_caches rows c) low (omega (arith, caches_length, within)) ∙ mapped_at (first_cache c) m k within))

  placed_first : ArePlaced rows c (front_parts rows c)
  placed_first =
      record {
        many = parts_many;
        cpu = λ i low.
            (let first = replicate c.cpus (Cpu (first_cpu rows c)) in (
              first_cpu rows c,
              get_front first (copies c.domains (domain_caches rows c)) i
                  (omega (arith, length-replicate c.cpus (Cpu (first_cpu rows c)), low)) ∙ copy_get c.cpus (Cpu (first_cpu rows c)) i low,
            ));
        cache = λ d k low within. (record { objects = []; room = c.transfer }, cache_first d k low within);
      }

  -- no part has an object
  stored_first : (k n : ℕ) (q : CpuFrontPart) → IsFirst q → cpu_stored q k n ≡ 0
  stored_first k n q is = grind (arith, cond_both, no_slots)

  pub none_first : (k n : ℕ) → sum_by (λ (q : CpuFrontPart). cpu_stored q k n) (front_parts rows c) ≡ 0
  none_first k n = grind (arith, parts_first, stored_first, sum_none)

  pub split_first : c.cpus ≤ length (front_parts rows c)
  split_first = omega (arith, parts_many)

  module _ (are : AreRows rows) (limits : AreCpuLimits c) where
    cpu_first : CpuOk (length rows) (first_cpu rows c)
    cpu_first =
        record {
          classes = length-map rows (slots.empty_row c.slab);
          sound = sound_opened rows c.slab c.percpu (record { classes = are.few; some = limits.slab; most = limits.slots; limit = limits.percpu })
              (λ k d low. (are.each k d low).size);
          stopped = λ fenced. absurd (false≢true fenced);
        }

    cpu_is : (i : ℕ) (p : CpuPart) → slice_get (front_parts rows c) i ≡ Some (Cpu p) → first_cpu rows c ≡ p
    cpu_is i p at = of_all IsFirst (front_parts rows c) i (Cpu p) parts_first at

    seated_first : (t : ℕ) → IsSeated rows c t (idle (cpu_front rows c) t)
    seated_first t = grind (arith, mod-lt)

    seat_first : (i t : ℕ) → SeatOk i (thread_no t) (first_cpu rows c) (seat_at rows (idle (cpu_front rows c) t))
    seat_first i t = grind (arith, false≢true)

    pub holds_first : (threads : ℕ) → CpuHolds rows c 0 (front_parts rows c) (map (idle (cpu_front rows c)) (range_with_len 0 threads))
    holds_first threads =
        record {
          placed = placed_first;
          cpu_is_sound = λ i p at. subst (CpuOk (length rows)) (cpu_is i p at) cpu_first;
          slab_is_of_heads = λ i p at. subst (λ (x : CpuPart). IsSlabOf rows c x.slab) (cpu_is i p at)
              (record { most = refl; limit = refl; classes = opened_classes c.slab rows });
          cache_has_room = λ i k q at. subst (HasRoom c.transfer) (of_all IsFirst (front_parts rows c) i (Domain k q) parts_first at)
              (record { room = refl; within = omega arith });
          epoch_is_within_picks = λ i p at. let e : 0 ≡ p.epoch = ap (λ (x : CpuPart). x.epoch) (cpu_is i p at) in omega (arith, e);
          threads = λ t s at. subst (IsSeated rows c t) (mapped_is (idle (cpu_front rows c)) threads t s at) (seated_first t);
          seats_agree = λ i t p s cpu at. subst (λ (x : Standing CpuSeat CpuRow). SeatOk i (thread_no t) p (seat_at rows x))
              (mapped_is (idle (cpu_front rows c)) threads t s at)
              (subst (λ (x : CpuPart). SeatOk i (thread_no t) x (seat_at rows (idle (cpu_front rows c) t))) (cpu_is i p cpu) (seat_first i t));
        }
