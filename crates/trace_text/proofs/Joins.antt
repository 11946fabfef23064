-- Lines that are put together into a text are cut out of it again.
use Rattle.std.proofs.Common.{◌≡◌, ◌≢◌, ℕ, ◌-◌, List, [], ◌∷◌, ◌++◌, length, take, map, false, cond, refl, ap, ◌∙◌, arith, append_assoc}
use Rattle.std.proofs.lemmas.Bool.{ne_eqb}
use Rattle.std.proofs.lemmas.List.Elements.{All-nil, All-cons, All-head, All-tail, All-append, All-weaker}
use Rattle.std.proofs.lemmas.List.Splits.{slice_split_at, slice_split_none}
use Rattle.std.specs.List.{All, flat_map, join_with_byte, slice_split}
use Rattle.trace_text.specs.Lines.{is_line_feed, is_space, without_last_empty, without_return, fields_of}
use Rattle.trace_text.specs.Joined.{IsFieldByte, IsField, IsLine, joined_line, JoinedAreCut}

-- what holds of a space and of each byte of a field holds of each byte of the fields with spaces between them
joined_bytes : (P : ℕ → Type 0) → P 32 → ((b : ℕ) → IsFieldByte b → P b) → (fields : List (List ℕ)) → All IsField fields → All P (join_with_byte 32 fields)
joined_bytes P space each [] h = All-nil P
joined_bytes P space each (f ∷ []) h = All-weaker IsFieldByte P each f (All-head IsField f [] h)
joined_bytes P space each (f ∷ g ∷ more) h =
    let rest = joined_bytes P space each (g ∷ more) (All-tail IsField f (g ∷ more) h) in
    All-append P f (32 ∷ join_with_byte 32 (g ∷ more)) (All-weaker IsFieldByte P each f (All-head IsField f (g ∷ more) h)) (All-cons P 32 (join_with_byte 32 (g ∷ more)) space rest)

-- fields with spaces between them are cut at the spaces
fields_of-joined : (fields : List (List ℕ)) → fields ≢ [] → All IsField fields → fields_of (join_with_byte 32 fields) ≡ fields
fields_of-joined [] some h = absurd (some refl)
fields_of-joined (f ∷ []) some h = slice_split_none is_space f (All-weaker IsFieldByte (λ b. is_space b ≡ false) (λ b is. ne_eqb b 32 is.2) f (All-head IsField f [] h))
fields_of-joined (f ∷ g ∷ more) some h =
    slice_split_at is_space f 32 (join_with_byte 32 (g ∷ more)) (All-weaker IsFieldByte (λ b. is_space b ≡ false) (λ b is. ne_eqb b 32 is.2) f (All-head IsField f (g ∷ more) h)) refl
    ∙ ap (λ (rest : List (List ℕ)). f ∷ rest) (fields_of-joined (g ∷ more) (λ e. cc) (All-tail IsField f (g ∷ more) h))

-- a line without carriage returns is read as it is
without_return-none : (line : List ℕ) → All (λ b. b ≢ 13) line → without_return line ≡ line
without_return-none [] h = refl
without_return-none (b ∷ bs) h = ap (λ t. cond t (take (length (b ∷ bs) - 1) (b ∷ bs)) (b ∷ bs)) (ne_eqb _ 13 (h (length (b ∷ bs) - 1) 0 (omega arith)))

-- a text that is put together is cut at the line feeds into its lines, and nothing stands behind the last one
split-joined : (lines : List (List (List ℕ))) → All IsLine lines → slice_split is_line_feed (flat_map joined_line lines) ≡ map (join_with_byte 32) lines ++ [] ∷ []
split-joined [] h = refl
split-joined (line ∷ more) h =
    let is = All-head IsLine line more h in
    ap (slice_split is_line_feed) (append_assoc (join_with_byte 32 line) (10 ∷ []) (flat_map joined_line more))
    ∙ slice_split_at is_line_feed (join_with_byte 32 line) 10 (flat_map joined_line more) (joined_bytes (λ b. is_line_feed b ≡ false) refl (λ b byte. ne_eqb b 10 byte.0) line is.1) refl
    ∙ ap (λ (rest : List (List ℕ)). join_with_byte 32 line ∷ rest) (split-joined more (All-tail IsLine line more h))

without_last_empty-behind : (parts : List (List ℕ)) → without_last_empty (parts ++ [] ∷ []) ≡ parts
without_last_empty-behind [] = refl
without_last_empty-behind (x ∷ []) = refl
without_last_empty-behind (x ∷ y ∷ more) = ap (λ (rest : List (List ℕ)). x ∷ rest) (without_last_empty-behind (y ∷ more))

abbrev read_line : List ℕ → List (List ℕ)
read_line line = fields_of (without_return line)

-- each line is cut into its fields
read-joined : (lines : List (List (List ℕ))) → All IsLine lines → map read_line (map (join_with_byte 32) lines) ≡ lines
read-joined [] h = refl
read-joined (line ∷ more) h =
    let is = All-head IsLine line more h in
    let own : read_line (join_with_byte 32 line) ≡ line = ap fields_of (without_return-none (join_with_byte 32 line) (joined_bytes (λ b. b ≢ 13) (λ e. omega arith) (λ b byte. byte.1) line is.1)) ∙ fields_of-joined line is.0 is.1 in
    let rest = read-joined more (All-tail IsLine line more h) in
    cc

pub joined_are_cut : JoinedAreCut
joined_are_cut lines h = grind (arith, split-joined, without_last_empty-behind, read-joined)
