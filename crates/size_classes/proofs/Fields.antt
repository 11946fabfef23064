-- The fields of a record by their places.
use Rattle.std.proofs.Common.{◌≡◌, ◌≢◌, ℕ, ◌<◌, ◌≤◌, zero, suc, List, [], ◌∷◌, length, None, Some, Bor, refl, arith}
use Rattle.std.specs.Prelude.{Option, option_map, map, Err, IsSome}
use Rattle.std.proofs.lemmas.List.{length-map}
use Rattle.csv.specs.Records.{field_at}
use Rattle.tc_units.specs.Decimal.{number_of}
use Rattle.size_classes.specs.declared.fault.RowWhy.TheVariants as why
use Rattle.size_classes.specs.Table.{check_fields, check_record}
use Rattle.std.proofs.lemmas.Bool.Decides.{nat_tests}

-- there is a field at each place below their number
pub field_there : (fields : List (List ℕ)) (i : ℕ) → i < length fields → IsSome (field_at fields i)
unfolding field_at
field_there [] i within = absurd (omega arith)
field_there (f ∷ fields) zero within = refl
field_there (f ∷ fields) (suc i) within = field_there fields i (omega arith)

-- what a look-up of such a place gives
pub found_there : (fields : List (List ℕ)) (i : ℕ) (found : Option (Bor (List ℕ)))
    → i < length fields → option_map (λ (s : Bor (List ℕ)). s.now) found ≡ field_at fields i → IsSome found
found_there fields i None within is = grind (arith, field_there fields i within)
found_there fields i (Some f) within is = refl

-- three fields by their places
pub three_fields : (fields : List (List ℕ)) (a b c : List ℕ) → length fields ≡ 3
    → field_at fields 0 ≡ Some a → field_at fields 1 ≡ Some b → field_at fields 2 ≡ Some c → fields ≡ a ∷ b ∷ c ∷ []
unfolding field_at
three_fields [] a b c three first second third = absurd (omega arith)
three_fields (x ∷ []) a b c three first second third = absurd (omega arith)
three_fields (x ∷ y ∷ []) a b c three first second third = absurd (omega arith)
three_fields (x ∷ y ∷ z ∷ []) a b c three first second third = cc
three_fields (x ∷ y ∷ z ∷ w ∷ more) a b c three first second third = absurd (omega arith)

-- the rules on three fields, by their numbers
pub three_numbers : (row above : ℕ) (fields : List (List ℕ)) (a b c : List ℕ) (x y z : Option ℕ) → row ≤ 120 → length fields ≡ 3
    → field_at fields 0 ≡ Some a → field_at fields 1 ≡ Some b → field_at fields 2 ≡ Some c
    → x ≡ number_of 1000000 a → y ≡ number_of 1000000 b → z ≡ number_of 1000000 c
    → check_record row above fields ≡ check_fields above (x ∷ y ∷ z ∷ [])
three_numbers row above fields a b c x y z few three first second third size pages batch =
    grind (arith, nat_tests, three_fields fields a b c three first second third)

-- any other number of fields, at a row that there may be
other_numbers : (above : ℕ) (numbers : List (Option ℕ)) → length numbers ≢ 3 → check_fields above numbers ≡ Err why.Fields
other_numbers above numbers other = grind (arith)

pub other_fields : (row above : ℕ) (fields : List (List ℕ)) → row ≤ 120 → length fields ≢ 3 → check_record row above fields ≡ Err why.Fields
other_fields row above fields few other = grind (arith, nat_tests, other_numbers above (map (number_of 1000000) fields), length-map)
