-- The start: what memory nodes side by side begin with is what each begins with.
use Rattle.std.proofs.Common.{◌≡◌, ℕ, zero, suc, ◌+◌, ◌*◌, ◌<◌, List, [], ◌∷◌, ◌++◌, length, map, fold, Option, Some, refl, sym, ap, ◌∙◌, arith}
use Rattle.std.specs.Prelude.{slice_get, option_map}
use Rattle.std.specs.Option.{option_flatten}
use Rattle.std.specs.List.{range_with_len}
use Rattle.std.proofs.lemmas.List.{length-append, length-map}
use Rattle.std.proofs.lemmas.List.FromFn.{length-range_with_len}
use Rattle.std.proofs.lemmas.Option.{slice_get-map, slice_get_within}
use Rattle.tc_units.specs.declared.spans.ClassRow.{ClassRow}
use Rattle.tc_model.specs.Input.{Input, script_of}
use Rattle.tc_model.specs.Run.{start}
use Rattle.tc_model.proofs.Lists.{get_front}
use Rattle.call_steps.specs.Rows.{under}
use Rattle.alloc_rules.specs.Machine.{first_shards, first_of}
use Rattle.alloc_rules.proofs.First.{number_at}
use Rattle.alloc_rules.proofs.ScriptFacts.{first_under}
use Rattle.no_caches.specs.NoCaches.{no_caches, about_none, no_seat}
use Rattle.no_caches.specs.NoCachesLaw.{no_caches_law}
use Rattle.node_rules.specs.Nodes.{asked_at}
use Rattle.node_rules.specs.Beside.{Beside, IsNodeOf}
use Rattle.node_rules.specs.Numa.{NodeLocal, width_of, rules_at, numa_rules, first_thread}
use Rattle.node_rules.specs.NumaLaw.{under_now}
use Rattle.node_rules.proofs.ThreadGoes.{IsSeen}

-- Lists of one length behind one another.
get_behind : {X : Type 0} (xs ys : List X) (i : ℕ) → slice_get (xs ++ ys) (length xs + i) ≡ slice_get ys i
get_behind [] ys i = ap (slice_get ys) (omega arith)
get_behind (x ∷ xs) ys i = grind (arith, get_behind xs ys i)

module _ {X : Type 0} (f : ℕ → List X) (width : ℕ) (wide : (k : ℕ) → length (f k) ≡ width) where
  abbrev pub joined : List X → List ℕ → List X
  joined all ks = fold (λ xs k. xs ++ f k) all ks

  stays_front : (all : List X) (ks : List ℕ) (i : ℕ) → i < length all → slice_get (joined all ks) i ≡ slice_get all i
  stays_front all [] i low = refl
  stays_front all (k ∷ ks) i low = stays_front (all ++ f k) ks i (omega (arith, low, length-append all (f k))) ∙ get_front all (f k) i low

  joined_at : (n a d i : ℕ) (all : List X) → d < n → i < width
      → slice_get (joined all (range_with_len a n)) (length all + (d * width + i)) ≡ slice_get (f (a + d)) i
  joined_at zero a d i all low in_k = absurd (omega arith)
  joined_at (suc n) a zero i all low in_k = grind (arith, length-append, stays_front, get_behind)
  joined_at (suc n) a (suc d) i all low in_k = grind (arith, joined_at n (a + 1) d i (all ++ f a), length-append)

  pub joined_from : (n k i : ℕ) → k < n → i < width → slice_get (joined [] (range_with_len 0 n)) (k * width + i) ≡ slice_get (f k) i
  joined_from n k i low in_k = grind (arith, joined_at n 0 k i)

-- what a function has at a number below the end
pub at_number : {X : Type 0} (f : ℕ → X) (n k : ℕ) → k < n → slice_get (map f (range_with_len 0 n)) k ≡ Some (f k)
at_number f n k low = slice_get-map f (range_with_len 0 n) k ∙ ap (option_map f) (number_at n k low)

pub is_number : {X : Type 0} (f : ℕ → X) (n k : ℕ) (x : X) → slice_get (map f (range_with_len 0 n)) k ≡ Some x → (k < n) × (f k ≡ x)
is_number f n k x at = grind (arith, slice_get_within, length-map, length-range_with_len, at_number)

pub shards_count : (room k : ℕ) (rows : List ClassRow) → length (first_shards room k rows) ≡ length rows
shards_count room k [] = refl
shards_count room k (row ∷ rows) = ap (λ n. suc n) (shards_count room (k + 1) rows)

module _ (nodes : ℕ) (input : Input) where
  -- each node has so many parts
  pub node_width : (k : ℕ) → length (rules_at nodes input k).parts ≡ width_of input
  node_width k = grind (arith, length-append, length-map, shards_count)

  first_local_of : (k t : ℕ) → NodeLocal
  first_local_of k t = first_of (no_caches input.rows) about_none (asked_at nodes input.asked k) t

  first_here : (t k : ℕ) (x : NodeLocal) → slice_get (first_thread nodes input t).here k ≡ Some x → first_local_of k t ≡ x
  unfolding first_local_of
  first_here t k x at = (is_number (λ j. first_of (no_caches input.rows) about_none (asked_at nodes input.asked j) t) nodes k x at).1

  first_quiet : (k t : ℕ) → under about_none (first_local_of k t).step ≡ 0
  unfolding first_local_of
  first_quiet k t =
      let call = slice_get (script_of t (asked_at nodes input.asked k).calls) 0 in
      first_under (no_caches input.rows).calls about_none (no_caches_law input.rows).entries no_seat call

  first_ended : (k t : ℕ) → (first_local_of k t).ended ≡ 0
  unfolding first_local_of
  first_ended k t = refl

  -- each node's world is its own start
  pub node_starts : (k : ℕ) → k < nodes → IsNodeOf (width_of input) k (start (numa_rules nodes input)) (start (rules_at nodes input k))
  node_starts k low =
      let n : ℕ = input.asked.config.threads in
      record {
        width_is = node_width k;
        parts = λ i in_k. joined_from (λ j. (rules_at nodes input j).parts) (width_of input) node_width nodes k i low in_k;
        threads = simp length-map;
        locals = λ t l at.
            (let found = is_number (first_thread nodes input) n t l at in
            ap (λ (m : Beside NodeLocal). slice_get m.here k) (sym found.1)
            ∙ (at_number (λ j. first_of (no_caches input.rows) about_none (asked_at nodes input.asked j) t) nodes k low
            ∙ sym (at_number (first_of (no_caches input.rows) about_none (asked_at nodes input.asked k)) n t found.0)));
      }

  quiet_now : (t : ℕ) (o : Option ℕ) → under_now (option_flatten (option_map (slice_get (first_thread nodes input t).here) o)) ≡ 0
  quiet_now t o = grind (arith, first_here t, first_quiet)

  -- and so is each thread's
  pub thread_starts : (t : ℕ) (l : Beside NodeLocal) → slice_get (start (numa_rules nodes input)).locals t ≡ Some l → IsSeen nodes input [] t l
  thread_starts t l at = grind (arith, is_number, length-map, length-range_with_len, quiet_now, first_here, first_ended, first_quiet)
