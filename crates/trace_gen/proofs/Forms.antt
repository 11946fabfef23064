-- A good line is read as what it says.
use Rattle.std.proofs.Common.{◌≡◌, ℕ, ◌+◌, ◌^◌, ◌<◌, ◌≤◌, ◌&&◌, true, false, List, [], ◌∷◌, drop, map, decimal, Some, Ok, refl, ap, arith}
use Rattle.std.proofs.lemmas.Bool.{le-leb, and_right}
use Rattle.std.proofs.lemmas.Bool.Decides.{nat_tests}
use Rattle.tc_model.specs.declared.config.Head as heads
use Rattle.tc_model.specs.declared.config.Head.TheVariants.{Cpus}
use Rattle.tc_model.specs.Heads.{head_rule}
use Rattle.tc_model.specs.Input.{Asked}
use Rattle.trace_reader.specs.declared.word.Word.{Word}
use Rattle.trace_reader.specs.declared.word.Word.TheVariants as word
use Rattle.trace_reader.specs.declared.form.Form.{Form}
use Rattle.trace_reader.specs.declared.form.Form.TheVariants.{Head, Malloc, Free, Move, Release, Drain, Resize}
use Rattle.trace_reader.specs.Words.{Range, word_of, is_head, ranges_of}
use Rattle.trace_reader.specs.Form.{number_in, numbers_in, form_with, form_of, has_fields}
use Rattle.trace_reader.specs.Steps.{Fits}
use Rattle.trace_reader.specs.Reading as reading
use Rattle.trace_reader.specs.Reading.{SoFar, lacks_thread, lacks_cpu, lacks_class, label_used, label_unknown, label_freed, with_form, read_line, read_lines}
use Rattle.trace_reader.proofs.Values.{head_most}
use Rattle.trace_gen.specs.Fields.{line_fields}
use Rattle.trace_gen.specs.Said.{Said, with_line, IsGood}
use Rattle.trace_gen.specs.TraceText.{line_word, line_numbers}
use Rattle.trace_text.proofs.Decimals.{number_of_decimal}

-- each number is in its range, and fits a machine word
abbrev pub AreIn : List Range → List ℕ → Type 0
AreIn [] [] = Unit {0}
AreIn (range ∷ ranges) (n ∷ ns) = (range.least ≤ n) × (n ≤ range.most) × (n < 2 ^ 64) × AreIn ranges ns
AreIn ranges ns = ⊥

-- so they are read from their decimals
number_in-decimal : (range : Range) (n : ℕ) → range.least ≤ n → n ≤ range.most → n < 2 ^ 64 → number_in range (decimal n) ≡ Some n
number_in-decimal range n least most fits = grind (arith, number_of_decimal, le-leb)

numbers_in-decimals : (ranges : List Range) (ns : List ℕ) → AreIn ranges ns → numbers_in ranges (map decimal ns) ≡ Some ns
numbers_in-decimals [] [] are = refl
numbers_in-decimals (range ∷ ranges) (n ∷ ns) are = grind (arith, numbers_in-decimals ranges ns are.3, number_in-decimal)
numbers_in-decimals [] (n ∷ ns) are = absurd are
numbers_in-decimals (range ∷ ranges) [] are = absurd are

-- a form that fits fails no rule
record FailsNone (classes : ℕ) (asked : Asked) (form : Form) : Type 0 where
  thread : lacks_thread asked form ≡ false
  cpu : lacks_cpu asked form ≡ false
  class : lacks_class classes form ≡ false
  used : label_used asked.calls form ≡ false
  unknown : label_unknown asked.calls form ≡ false
  freed : label_freed asked.calls form ≡ false

fails_none : (classes : ℕ) (asked : Asked) (form : Form) → Fits classes asked form → FailsNone classes asked form
fails_none classes asked x2 fits = grind (arith)

-- a line that fails no rule is read as its form
passes : (l : reading.Line) (w : Word) (form : Form) → l.number ≤ 1000000 → reading.first_word l.fields ≡ Some w → (l.before.late && is_head w) ≡ false
    → has_fields w (drop 1 l.fields) ≡ true → form_of w (drop 1 l.fields) ≡ Some form → FailsNone l.classes l.before.asked form
    → read_line l ≡ Ok (with_form l.number form l.before)
passes l w form few named early has is none = grind (arith, nat_tests)

-- a word with numbers behind it is read, and the lines behind it are read behind its form
reads_words : (classes number : ℕ) (before : SoFar) (name : List ℕ) (w : Word) (ns : List ℕ) (form : Form) (rest : List (List (List ℕ)))
    → number ≤ 1000000 → word_of name ≡ Some w → (before.late && is_head w) ≡ false → has_fields w (map decimal ns) ≡ true → AreIn (ranges_of w) ns
    → form_with w ns ≡ Some form → Fits classes before.asked form
    → read_lines classes before number ((name ∷ map decimal ns) ∷ rest) ≡ read_lines classes (with_form number form before) (number + 1) rest
reads_words classes number before name w ns form rest few named early has are is fits = grind (arith, passes, numbers_in-decimals, fails_none)

-- the word of a form, by which it is read
abbrev word_for : Form → Word
word_for (Head head value) = word.Head head
word_for (Malloc thread label size) = word.Malloc
word_for (Free thread label) = word.Free
word_for (Move thread before cpu) = word.Move
word_for (Release thread pages) = word.Release
word_for (Drain thread cpu) = word.Drain
word_for (Resize thread cpu class cap) = word.Resize

head_named : (h : heads.Head) → word_of (head_rule h).name ≡ Some (word.Head h)
head_named Cpus = refl
head_named _ = refl

word_named : (form : Form) → word_of (line_word form) ≡ Some (word_for form)
word_named (Head head value) = head_named head
word_named _ = refl

has_numbers : (form : Form) → has_fields (word_for form) (map decimal (line_numbers form)) ≡ true
has_numbers (Malloc thread label size) = refl
has_numbers _ = refl

form_is : (form : Form) → form_with (word_for form) (line_numbers form) ≡ Some form
form_is (Malloc thread label size) = refl
form_is _ = refl

is_early : (said : Said) (form : Form) → IsGood said form → (said.sofar.late && is_head (word_for form)) ≡ false
is_early said (Head head value) good = ap (λ late. late && true) (good.early refl)
is_early said _ good = and_right said.sofar.late false refl

are_in : (said : Said) (form : Form) → IsGood said form → said.sofar.asked.config.threads ≤ 64 → said.sofar.asked.config.cpus ≤ 64 → AreIn (ranges_of (word_for form)) (line_numbers form)
are_in said (Head head value) good threads cpus = omega (arith, good.range, head_most head)
are_in said (Malloc thread label size) good threads cpus = omega (arith, good.range, good.fits 0)
are_in said (Free thread label) good threads cpus = omega (arith, good.range, good.fits 0)
are_in said (Move thread before cpu) good threads cpus = omega (arith, good.range, good.fits 0)
are_in said (Release thread pages) good threads cpus = omega (arith, good.range, good.fits 0)
are_in said (Drain thread cpu) good threads cpus = omega (arith, good.fits 0)
are_in said (Resize thread cpu class cap) good threads cpus = omega (arith, good.range, good.fits 0)

-- a good line is read, and the lines behind it are read behind its form
pub reads_line : (classes : ℕ) (said : Said) (form : Form) (rest : List (List (List ℕ))) → IsGood said form → said.sofar.asked.config.threads ≤ 64 → said.sofar.asked.config.cpus ≤ 64
    → read_lines classes said.sofar said.number (line_fields form ∷ rest) ≡ read_lines classes (with_line said form).sofar (with_line said form).number rest
reads_line classes said form rest good threads cpus =
    reads_words classes said.number said.sofar (line_word form) (word_for form) (line_numbers form) form rest good.few (word_named form) (is_early said form good) (has_numbers form)
    (are_in said form good threads cpus) (form_is form) (good.fits classes)
