-- Good lines are read as what they say.
use Rattle.std.proofs.Common.{◌≡◌, ℕ, ◌+◌, ◌<◌, ◌≤◌, List, [], ◌∷◌, length, map, Ok, refl, ap, ◌∙◌, arith}
use Rattle.std.specs.List.{flat_map}
use Rattle.std.proofs.lemmas.List.{length-append}
use Rattle.tc_model.specs.declared.config.Head.TheVariants.{Cpus, Threads}
use Rattle.trace_reader.specs.declared.form.Form.{Form}
use Rattle.trace_reader.specs.Reading.{SoFar, with_form, read_lines, asked_by}
use Rattle.trace_reader.specs.Steps.{IsSoFar}
use Rattle.trace_reader.specs.Valid.{IsAsked}
use Rattle.trace_reader.proofs.Valids.{IsSoFar-nothing, IsSoFar-form}
use Rattle.trace_gen.specs.Fields.{line_fields}
use Rattle.trace_gen.specs.Said.{Said, none_said, with_line, with_lines, AreGood}
use Rattle.trace_gen.specs.TraceText.{line_text}
use Rattle.trace_gen.proofs.Forms.{reads_line}
use Rattle.trace_gen.proofs.TextFields.{text_fields}

-- a line adds a call at most
grows : (number : ℕ) (form : Form) (before : SoFar) → length (with_form number form before).asked.calls ≤ length before.asked.calls + 1
grows number form before = grind (arith, length-append)

-- lines are read as what they say, which is valid
record AreRead (classes : ℕ) (said : Said) (lines : List Form) : Type 0 where
  reads : read_lines classes said.sofar said.number (map line_fields lines) ≡ Ok (with_lines said lines).sofar.asked
  valid : IsSoFar classes (with_lines said lines).sofar
  few : length (with_lines said lines).sofar.asked.calls ≤ 1000000

are_read : (classes : ℕ) (said : Said) (lines : List Form) → AreGood said lines → IsSoFar classes said.sofar → length said.sofar.asked.calls < said.number → said.number ≤ 1000001
    → AreRead classes said lines
are_read classes said [] good valid few within = record { reads = refl; valid = valid; few = omega arith }
are_read classes said (form ∷ lines) good valid few within =
    let now = IsSoFar-form classes said.number form said.sofar valid good.0.range (good.0.fits classes) good.0.early in
    let later = are_read classes (with_line said form) lines good.1 now (omega (arith, grows said.number form said.sofar)) (omega (arith, good.0.few)) in
    record {
      reads = reads_line classes said form (map line_fields lines) good.0 (valid.config Threads).1 (valid.config Cpus).1 ∙ later.reads;
      valid = later.valid;
      few = later.few;
    }

-- what a whole text of good lines asks for
pub record IsReadAs (classes : ℕ) (text : List ℕ) (said : Said) : Type 0 where
  pub asked : asked_by classes text ≡ Ok said.sofar.asked
  pub valid : IsAsked classes said.sofar.asked

pub are_read_as : (classes : ℕ) (lines : List Form) → AreGood none_said lines → IsReadAs classes (flat_map line_text lines) (with_lines none_said lines)
are_read_as classes lines good =
    let read = are_read classes none_said lines good (IsSoFar-nothing classes) (omega arith) (omega arith) in
    record {
      asked = ap (read_lines classes none_said.sofar 1) (text_fields lines) ∙ read.reads;
      valid = record { config = read.valid.config; calls = read.valid.calls; few = read.few };
    }
