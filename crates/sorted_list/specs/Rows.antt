-- A sorted list that holds one key for each row, of rows of any kind.
use Rattle.std.specs.Prelude.{◌≡◌, Bool, List, count_by}

-- as many keys pass each test as there are rows whose key passes it
abbrev pub IsIndexOf : {R K : Type 0} → (R → K) → List R → List K → Type 0
IsIndexOf {R} {K} key rows keys = (test : K → Bool) → count_by test keys ≡ count_by (λ row. test (key row)) rows
