-- What the lines of a trace say that is being made.
use Rattle.std.specs.Prelude.{ℕ, ◌≡◌, ◌+◌, ◌≤◌, true, false, List, [], ◌∷◌, fold}
use Rattle.trace_reader.specs.declared.form.Form.{Form}
use Rattle.trace_reader.specs.Limits.{most_lines}
use Rattle.trace_reader.specs.Form.{is_head_form, IsInRange}
use Rattle.trace_reader.specs.Reading.{SoFar, nothing, with_form}
use Rattle.trace_reader.specs.Steps.{so_far, Fits}
use Rattle.trace_gen.specs.declared.draft.Draft.{Draft}

-- what the lines so far say, and the number of the next one
pub record Said : Type 0 where
  pub number : ℕ
  pub sofar : SoFar

abbrev pub said_by : Draft → Said
said_by draft = record { number = draft.line; sofar = so_far draft.reader }

-- before the first line
abbrev pub none_said : Said
none_said = record { number = 1; sofar = nothing }

-- with one more line, and with more lines
abbrev pub with_line : Said → Form → Said
with_line said form = record { number = said.number + 1; sofar = with_form said.number form said.sofar }

abbrev pub with_lines : Said → List Form → Said
with_lines said lines = fold with_line said lines

-- a line that no rule refuses behind these, however many size classes there are
pub record IsGood (said : Said) (form : Form) : Type 0 where
  pub few : said.number ≤ most_lines
  pub early : is_head_form form ≡ true → said.sofar.late ≡ false
  pub range : IsInRange form
  pub fits : (classes : ℕ) → Fits classes said.sofar.asked form

-- lines of which each is good behind those before it
abbrev pub AreGood : Said → List Form → Type 0
AreGood said [] = Unit {0}
AreGood said (form ∷ lines) = IsGood said form × AreGood (with_line said form) lines
