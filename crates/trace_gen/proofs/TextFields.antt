-- The text of lines is cut into exactly their fields.
use Rattle.std.proofs.Common.{◌≡◌, true, List, [], ◌∷◌, map, nat_lt, refl}
use Rattle.std.specs.List.{flat_map, list_all}
use Rattle.tc_model.specs.declared.config.Head as heads
use Rattle.tc_model.specs.declared.config.Head.TheVariants.{Cpus}
use Rattle.tc_model.specs.Heads.{head_rule}
use Rattle.trace_text.specs.Lines.{lines_of}
use Rattle.trace_text.proofs.Printed.{IsPrinted, printed_is_cut, printed_numbers, printed_each}
use Rattle.trace_reader.specs.declared.form.Form.{Form}
use Rattle.trace_reader.specs.declared.form.Form.TheVariants.{Head}
use Rattle.trace_gen.specs.Fields.{line_fields}
use Rattle.trace_gen.specs.TraceText.{line_text, line_word, line_numbers}

-- a word is written in bytes that a field may have
name_printed : (h : heads.Head) → list_all (λ b. nat_lt 32 b) (head_rule h).name ≡ true
name_printed Cpus = refl
name_printed _ = refl

word_printed : (form : Form) → list_all (λ b. nat_lt 32 b) (line_word form) ≡ true
word_printed (Head head value) = name_printed head
word_printed _ = refl

line_printed : (form : Form) → IsPrinted (line_text form) (line_fields form ∷ [])
line_printed form = printed_numbers (line_word form) (line_numbers form) (word_printed form)

pub text_fields : (lines : List Form) → lines_of (flat_map line_text lines) ≡ map line_fields lines
text_fields lines = printed_is_cut _ _ (printed_each line_text line_fields line_printed lines)
