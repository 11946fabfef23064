-- The first field of a line, and the first line of a text.
use Rattle.std.proofs.Common.{◌≡◌, ℕ, ◌+◌, ◌-◌, ◌<◌, ◌≤◌, ◌⊎◌, min, Bool, true, false, List, [], ◌∷◌, length, get_or, take, drop, map, refl, sym, ap, ◌∙◌, arith, cond, not, None, inl, inr}
use Rattle.std.proofs.lemmas.Bool.{cases_lt, ne_eqb, le-leb, lt-leb, eqb-true}
use Rattle.std.proofs.lemmas.List.{take_all, take-append-drop, drop_all, take-take, length-take-le, length-drop, get_or-take, get_or-drop, drop_min, drop-drop}
use Rattle.std.proofs.lemmas.List.Folds.{prefix_len-append}
use Rattle.std.proofs.lemmas.List.Sums.{fails_before_first, passes_at_first, prefix_len-le-length}
use Rattle.std.proofs.lemmas.List.Splits.{slice_split_first, slice_split_none, length-slice_split, join_with_byte-slice_split}
use Rattle.std.proofs.lemmas.List.Edits.{between_none, length-between, get_or-between}
use Rattle.std.specs.List.{slice_range, position, position_or_len, All}
use Rattle.std.proofs.lemmas.Bool.Decides.{nat_tests}
use Rattle.trace_text.specs.Lines.{is_line_feed, is_space, without_last_empty, without_return, fields_of, lines_of}
use Rattle.trace_text.specs.Places.{TextLeft, LineLeft, TakesLine, fields_between, EndsLine, EndsLastLine}
use Rattle.trace_text.proofs.Ranges.{drop-slice_range, take-drop, slice_range_one, slice_range_two}

-- all bytes where `position` tells no place
pub position_missing : (p : ℕ → Bool) (xs : List ℕ) → position p xs ≡ None → length xs ≡ position_or_len p xs
position_missing p xs h = grind (arith, nat_tests, prefix_len-le-length)

-- a place in the first n elements is the place in all of them
pub position_in_front : (p : ℕ → Bool) (xs : List ℕ) (n place : ℕ) → n ≤ length xs → place ≡ position_or_len p (take n xs) → place < n → place ≡ position_or_len p xs
position_in_front p xs n place within is inside = grind (arith, nat_tests, prefix_len-append (λ x. not (p x)) (take n xs) (drop n xs), length-take-le n xs within, take-append-drop n xs)

-- the fields of a line: what stands before its first space, and the fields behind that
fields_of-first : (line : List ℕ) (n : ℕ) → n ≡ position_or_len is_space line → n < length line → fields_of line ≡ take n line ∷ fields_of (drop (n + 1) line)
fields_of-first line n is l = grind (arith, slice_split_first)

fields_of-last : (line : List ℕ) (n : ℕ) → n ≡ position_or_len is_space line → length line ≤ n → fields_of line ≡ line ∷ []
fields_of-last line n is g = slice_split_none is_space line (λ k d l. fails_before_first is_space line k d (omega arith))

-- the fields from a place on: one field of n bytes, and those behind its space
pub first_field : (text : List ℕ) (start end n : ℕ) → start ≤ end → end ≤ length text → n ≡ position_or_len is_space (slice_range text start end)
    → fields_between text start end ≡ take n (slice_range text start end) ∷ fields_between text (start + (n + 1)) end
first_field text start end n order within is =
    grind (arith, nat_tests, length-between, le-leb, fields_of-first, drop-slice_range, lt-leb, fields_of-last, take_all)

-- where fields are left behind a field of n bytes, a space ends it
pub space_behind : (text : List ℕ) (start end n : ℕ) → start ≤ end → end ≤ length text → n ≡ position_or_len is_space (slice_range text start end)
    → (fields_between text (start + (n + 1)) end ≡ [] → ⊥) → get_or text (start + n) 0 ≡ 32
space_behind text start end n order within is more = grind (arith, nat_tests, length-between, passes_at_first, get_or-between, lt-leb)

-- only an empty part that stands last is left out
without_last_empty-cons : (x : List ℕ) (parts : List (List ℕ)) → 0 < length parts → without_last_empty (x ∷ parts) ≡ x ∷ without_last_empty parts
without_last_empty-cons x [] h = absurd (omega arith)
without_last_empty-cons x (y ∷ more) h = refl

without_last_empty-alone : (x : List ℕ) → 0 < length x → without_last_empty (x ∷ []) ≡ x ∷ []
without_last_empty-alone [] h = absurd (omega arith)
without_last_empty-alone (b ∷ bs) h = ap (λ t. cond t [] ((b ∷ bs) ∷ [])) (ne_eqb (length (b ∷ bs)) 0 (λ e. omega arith))

-- a line as its fields, without the carriage return
abbrev read_line : List ℕ → List (List ℕ)
read_line line = fields_of (without_return line)

-- a text's lines: the n bytes that stand before its first line feed, and the lines behind that
lines_of-first : (text : List ℕ) (n : ℕ) → n ≡ position_or_len is_line_feed text → 0 < length text → lines_of text ≡ read_line (take n text) ∷ lines_of (drop (n + 1) text)
lines_of-first text n is some = elim (cases_lt n (length text)) [
  | inl l ↦ grind (arith, length-slice_split is_line_feed (drop (n + 1) text), slice_split_first is_line_feed text 0, without_last_empty-cons (take n text))
  | inr g ↦
      let none : All (λ b. is_line_feed b ≡ false) text = λ k d l. fails_before_first is_line_feed text k d (omega arith) in
      let whole : take n text ≡ text = take_all n text g in
      let over : drop (n + 1) text ≡ [] = drop_all (n + 1) text (omega arith) in
      ap (λ ps. map read_line (without_last_empty ps)) (slice_split_none is_line_feed text none)
      ∙ (ap (map read_line) (without_last_empty-alone text some) ∙ ap (λ (p : List ℕ). read_line p ∷ []) (sym whole))
      ∙ ap (λ rest. read_line (take n text) ∷ lines_of rest) (sym over)
]

-- a line without its carriage return is the line, or the line but for its last byte, which is 13
kept : (line : List ℕ) → (length (without_return line) ≡ length line) ⊎ ((length (without_return line) + 1 ≡ length line) × (get_or line (length (without_return line)) 0 ≡ 13))
kept line = grind (arith, nat_tests, length-take-le)

-- a line without its carriage return is so many first bytes of it
without_return-take : (line : List ℕ) → without_return line ≡ take (length (without_return line)) line
without_return-take line = grind (arith, nat_tests, length-take-le, take_all)

-- the lines from a place on: the first line ends where its k bytes end, and the next one begins behind its line feed
pub lines_of-next : (text : List ℕ) (start n k : ℕ) → 0 < length (drop start text) → n ≡ position_or_len is_line_feed (drop start text)
    → k ≡ length (without_return (take n (drop start text)))
    → lines_of (drop start text) ≡ fields_of (slice_range text start (start + k)) ∷ lines_of (drop (start + min (n + 1) (length (drop start text))) text)
lines_of-next text start n k some is size =
    grind (arith, without_return-take, take-take, take-drop, drop_min, drop-drop, lines_of-first, prefix_len-le-length, length-take-le, kept)

-- what stands between the end of a line and the next line
pub line_ending : (text : List ℕ) (start n k next : ℕ) → 0 < length (drop start text) → n ≡ position_or_len is_line_feed (drop start text)
    → k ≡ length (without_return (take n (drop start text))) → next ≡ start + min (n + 1) (length (drop start text))
    → EndsLine (slice_range text (start + k) next) ⊎ (EndsLastLine (slice_range text (start + k) next) × (next ≡ length text))
line_ending text start n k next some is size at =
    let rest = drop start text in
    let inside : n ≤ length rest = omega (arith, prefix_len-le-length (λ b. not (is_line_feed b)) rest) in
    let front : length (take n rest) ≡ n = length-take-le n rest inside in
    let left : length rest ≡ length text - start = length-drop start text in
    elim (cases_lt n (length rest)) [
      | inl l ↦
          let here : position_or_len is_line_feed rest < length rest = omega arith in
          let passes : is_line_feed (get_or rest n 0) ≡ true = rw is (passes_at_first is_line_feed rest 0 here) in
          let feed : get_or text (start + n) 0 ≡ 10 = sym (get_or-drop start text n 0) ∙ eqb-true (get_or rest n 0) 10 passes in
          elim (kept (take n rest)) [
            | inl same ↦ grind (arith, slice_range_one text (start + k) next)
            | inr less ↦ inl (inr (slice_range_two text (start + k) (start + n) next (omega (arith, less.0)) (omega arith) (omega arith) ∙ ap (λ (b : ℕ). b ∷ get_or text (start + n) 0 ∷ []) (returned text start n k size less.0 less.1 front) ∙ ap (λ (b : ℕ). 13 ∷ b ∷ []) feed))
          ]
      | inr g ↦
          elim (kept (take n rest)) [
            | inl same ↦ grind (arith, between_none text next)
            | inr less ↦ inr (inr (slice_range_one text (start + k) next (omega (arith, less.0)) (omega (arith, less.0)) ∙ ap (λ (b : ℕ). b ∷ []) (returned text start n k size less.0 less.1 front)), omega arith)
          ]
    ]
  where
    returned : (text : List ℕ) (start n k : ℕ) → k ≡ length (without_return (take n (drop start text)))
        → length (without_return (take n (drop start text))) + 1 ≡ length (take n (drop start text))
        → get_or (take n (drop start text)) (length (without_return (take n (drop start text)))) 0 ≡ 13 → length (take n (drop start text)) ≡ n
        → get_or text (start + k) 0 ≡ 13
    returned text start n k size less last front =
        let inside : k < n = omega arith in
        sym (get_or-drop start text k 0) ∙ sym (get_or-take n (drop start text) k 0 inside) ∙ ap (λ (i : ℕ). get_or (take n (drop start text)) i 0) size ∙ last

-- a line of k bytes, before n bytes to the first line feed, is taken from where the rest of its text began
pub takes_line : (before : TextLeft) (line : LineLeft) (after : TextLeft) (n k number : ℕ) → 0 < length (drop before.start before.text)
    → n ≡ position_or_len is_line_feed (drop before.start before.text) → k ≡ length (without_return (take n (drop before.start before.text)))
    → line ≡ record { text = before.text; line = number; start = before.start; end = before.start + k; fields = fields_of (slice_range before.text before.start (before.start + k)) } → after.start ≡ before.start + min (n + 1) (length (drop before.start before.text)) → TakesLine before line after
takes_line before line after n k number some is size made at =
    let rest = drop before.start before.text in
    grind (
      arith,
      prefix_len-le-length (λ b. not (is_line_feed b)) rest,
      length-take-le n rest,
      kept (take n rest),
      length-drop before.start before.text,
      join_with_byte-slice_split 32 (slice_range before.text before.start (before.start + k)),
      line_ending before.text before.start n k after.start some is size,
    )
