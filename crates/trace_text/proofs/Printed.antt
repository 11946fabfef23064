-- A text that is printed line by line is cut into the fields that were printed.
use Rattle.std.proofs.Common.{◌≡◌, ℕ, nat_lt, true, List, [], ◌∷◌, ◌++◌, map, get_or, codes, decimal, refl, sym, ap, ◌∙◌, append-nil}
use Rattle.std.proofs.lemmas.List.Concat.{flat_map-append}
use Rattle.std.proofs.lemmas.List.Elements.{All-nil, All-cons, All-append, All-map}
use Rattle.std.specs.List.{All, flat_map, join_with_byte, list_all}
use Rattle.std.proofs.lemmas.Bool.Decides.{nat_tests}
use Rattle.std.proofs.Common.{arith}
use Rattle.trace_text.specs.Joined.{IsFieldByte, IsField, IsLine, joined_line}
use Rattle.trace_text.specs.Lines.{lines_of}
use Rattle.trace_text.proofs.Decimals.{above_space, decimal_is_field}
use Rattle.trace_text.proofs.Joins.{joined_are_cut}

-- a word of letters is a field
pub word_is_field : (word : List ℕ) → list_all (λ b. nat_lt 32 b) word ≡ true → IsField word
word_is_field [] h = All-nil IsFieldByte
word_is_field (b ∷ bs) h = grind (arith, nat_tests, word_is_field bs, All-cons, above_space)

-- a text is these lines, which are printed one behind another
pub record IsPrinted (text : List ℕ) (lines : List (List (List ℕ))) : Type 0 where
  pub are : All IsLine lines
  pub joined : text ≡ flat_map joined_line lines

-- so it is cut into them
pub printed_is_cut : (text : List ℕ) (lines : List (List (List ℕ))) → IsPrinted text lines → lines_of text ≡ lines
printed_is_cut text lines printed = ap lines_of printed.joined ∙ joined_are_cut lines printed.are

pub printed_append : (a b : List ℕ) (xs ys : List (List (List ℕ))) → IsPrinted a xs → IsPrinted b ys → IsPrinted (a ++ b) (xs ++ ys)
printed_append a b xs ys p q = grind (arith, All-append IsLine xs ys p.are q.are, flat_map-append joined_line xs ys)

module _ {A : Type 0} where
  -- a word and words behind spaces are a line
  spaced_is_joined : (word : A → List ℕ) (first : List ℕ) (xs : List A)
      → first ++ flat_map (λ x. codes " " ++ word x) xs ≡ join_with_byte 32 (first ∷ map word xs)
  spaced_is_joined word first [] = append-nil first
  spaced_is_joined word first (x ∷ xs) = ap (λ (rest : List ℕ). first ++ 32 ∷ rest) (spaced_is_joined word (word x) xs)

  pub printed_line : (word : A → List ℕ) (first : List ℕ) (xs : List A) → IsField first → All (λ x. IsField (word x)) xs
      → IsPrinted (first ++ flat_map (λ x. codes " " ++ word x) xs ++ codes "\n") ((first ∷ map word xs) ∷ [])
  printed_line word first xs own others = record {
    are = All-cons IsLine (first ∷ map word xs) [] ((λ e. cc), All-cons IsField first (map word xs) own (All-map IsField word xs others)) (All-nil IsLine);
    joined = ap (λ (line : List ℕ). line ++ 10 ∷ []) (spaced_is_joined word first xs) ∙ sym (append-nil (joined_line (first ∷ map word xs)));
  }

  -- a line for each item
  pub printed_each : (text : A → List ℕ) (fields : A → List (List ℕ)) → ((x : A) → IsPrinted (text x) (fields x ∷ []))
      → (xs : List A) → IsPrinted (flat_map text xs) (map fields xs)
  printed_each text fields each [] = record { are = All-nil IsLine; joined = refl }
  printed_each text fields each (x ∷ xs) = printed_append (text x) _ (fields x ∷ []) _ (each x) (printed_each text fields each xs)

-- a word and numbers are a line
pub printed_numbers : (word numbers : List ℕ) → list_all (λ b. nat_lt 32 b) word ≡ true
    → IsPrinted (word ++ flat_map (λ n. codes " " ++ decimal n) numbers ++ codes "\n") ((word ∷ map decimal numbers) ∷ [])
printed_numbers word numbers h = printed_line decimal word numbers (word_is_field word h) (λ k d inside. decimal_is_field (get_or numbers k d))
