-- The fields of the lines of a generated trace.
use Rattle.std.specs.Prelude.{ℕ, List, ◌∷◌, map, decimal}
use Rattle.trace_reader.specs.declared.form.Form.{Form}
use Rattle.trace_gen.specs.TraceText.{line_word, line_numbers}

-- the fields of a line: its word, and its numbers as decimals
abbrev pub line_fields : Form → List (List ℕ)
line_fields form = line_word form ∷ map decimal (line_numbers form)
