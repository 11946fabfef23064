-- Lines that are printed stay as they are, whatever stands behind them in a text.
use Rattle.std.proofs.Common.{◌≡◌, ℕ, ◌<◌, Bool, List, [], ◌∷◌, ◌++◌, length, map, cond, refl, ap, arith, append_assoc}
use Rattle.std.specs.List.{flat_map, join_with_byte, slice_split, onto_first}
use Rattle.std.proofs.lemmas.List.{map-append}
use Rattle.std.proofs.lemmas.List.Splits.{length-slice_split}
use Rattle.trace_text.specs.Joined.{joined_line}
use Rattle.trace_text.specs.Lines.{is_line_feed, without_last_empty, without_return, fields_of, lines_of}
use Rattle.trace_text.proofs.Printed.{IsPrinted, printed_is_cut}

abbrev parts : List ℕ → List (List ℕ)
parts text = slice_split is_line_feed text

some_parts : (text : List ℕ) → 0 < length (parts text)
some_parts text = omega (arith, length-slice_split is_line_feed text)

-- a line feed cuts a text in two
first_behind : (b : ℕ) (cut : Bool) (xs ys : List (List ℕ)) → 0 < length xs
    → cond cut ([] ∷ xs ++ ys) (onto_first b (xs ++ ys)) ≡ cond cut ([] ∷ xs) (onto_first b xs) ++ ys
first_behind b cut xs ys some = grind (arith)

cut_in_two : (a rest : List ℕ) → parts (a ++ 10 ∷ rest) ≡ parts a ++ parts rest
cut_in_two [] rest = refl
cut_in_two (b ∷ a) rest = grind (arith, cond, first_behind, is_line_feed, onto_first, parts, some_parts, (cut_in_two a rest))

last_empty : (xs ys : List (List ℕ)) → 0 < length ys → without_last_empty (xs ++ ys) ≡ xs ++ without_last_empty ys
last_empty [] ys some = refl
last_empty (x ∷ []) [] some = absurd (omega (arith, some))
last_empty (x ∷ []) (y ∷ ys) some = refl
last_empty (x ∷ z ∷ xs) ys some = ap (λ (rest : List (List ℕ)). x ∷ rest) (last_empty (z ∷ xs) ys some)

abbrev read_line : List ℕ → List (List ℕ)
read_line line = fields_of (without_return line)

lines_in_two : (a rest : List ℕ) → lines_of (a ++ 10 ∷ rest) ≡ map read_line (parts a) ++ lines_of rest
lines_in_two a rest = grind (arith, cut_in_two, last_empty, some_parts, map-append)

lines_before : (lines : List (List (List ℕ))) (more : List ℕ) → lines_of (flat_map joined_line lines ++ more) ≡ lines_of (flat_map joined_line lines) ++ lines_of more
lines_before [] more = refl
lines_before (line ∷ lines) more = grind (arith, append_assoc, flat_map, join_with_byte, joined_line, lines_in_two, lines_of, map, parts, read_line, (lines_before lines more))

pub printed_stays : (text : List ℕ) (lines : List (List (List ℕ))) (more : List ℕ) → IsPrinted text lines → lines_of (text ++ more) ≡ lines ++ lines_of more
printed_stays text lines more printed = grind (arith, lines_before, printed_is_cut)
