-- Calls have the peak that is read off their weights, and no other.
use Rattle.std.proofs.Common.{◌≡◌, ℕ, zero, suc, ◌+◌, ◌<◌, ◌≤◌, List, [], ◌∷◌, length, map, get_or, fold, max, arith}
use Rattle.std.specs.List.{range_with_len}
use Rattle.std.proofs.lemmas.List.FromFn.{get_or-map-range_with_len, length-map-range_with_len}
use Rattle.std.proofs.lemmas.List.Sums.{prefix_len_is}
use Rattle.std.proofs.lemmas.Bool.Decides.{nat_tests}
use Rattle.tc_model.specs.declared.answers.CallLine.{CallLine}
use Rattle.heap_sample.specs.declared.sample.Peak.{Peak}
use Rattle.heap_sample.specs.Samples.{weight_after, peak_of, IsPeak}

-- the greatest of numbers is at least each, and at most what none is above
greatest_from : (a : ℕ) (ns : List ℕ) → a ≤ fold max a ns
greatest_from a [] = omega arith
greatest_from a (n ∷ ns) = omega (arith, greatest_from (max a n) ns)

greatest_each : (a : ℕ) (ns : List ℕ) (k : ℕ) → k < length ns → get_or ns k 0 ≤ fold max a ns
greatest_each a [] k inside = absurd (omega (arith, inside))
greatest_each a (n ∷ ns) zero inside = omega (arith, greatest_from (max a n) ns)
greatest_each a (n ∷ ns) (suc k) inside = greatest_each (max a n) ns k (omega (arith, inside))

greatest_least : (a most : ℕ) (ns : List ℕ) → a ≤ most → ((k : ℕ) → k < length ns → get_or ns k 0 ≤ most) → fold max a ns ≤ most
greatest_least a most [] first each = first
greatest_least a most (n ∷ ns) first each = greatest_least (max a n) most ns (omega (arith, first, each 0 (omega arith))) (λ k inside. each (suc k) (omega (arith, inside)))

pub only_peak : (step : ℕ) (calls : List CallLine) (peak : Peak) → IsPeak step calls peak → peak ≡ peak_of step calls
only_peak step calls peak is =
    let ws = map (weight_after step calls) (range_with_len 0 (length calls + 1)) in
    grind (
      arith,
      nat_tests,
      length-map-range_with_len (weight_after step calls) 0 (length calls + 1),
      get_or-map-range_with_len (weight_after step calls) 0 (length calls + 1),
      is.greatest,
      greatest_least 0 peak.bytes ws,
      greatest_each 0 ws peak.call,
      is.first,
      prefix_len_is,
    )
