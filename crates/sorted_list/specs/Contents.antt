-- What a sorted list holds.
use Rattle.std.specs.Prelude.{ℕ, List, map, take}
use Rattle.std.specs.List.{slice_index_or}

-- the keys in their order, and how many more there is room for
pub record Contents (K : Type 0) : Type 0 where
  pub keys : List K
  pub spare : ℕ

-- the keys in the first slots of an order
abbrev pub keys_of : {K : Type 0} → K → List K → List ℕ → ℕ → List K
keys_of sample slots order len = map (λ s. slice_index_or slots s sample) (take len order)
