use Rattle.std.proofs.Common.{ℕ, max, get_or, ap, ◌∙◌}
use Rattle.tc_model.specs.Input.{label_end}
use Rattle.trace_reader.specs.declared.calls.LabelUse.TheVariants.{New}
use Rattle.trace_reader.specs.Kept.{marked}
use Rattle.trace_reader.proofs.Joins.{script_at-same, calls_of-same}
use Rattle.trace_reader.proofs.Keeps.{keeps}
use Rattle.trace_reader.proofs.calls.Calls.add.Goals as goal

pub returns-clause-kept : goal.returns-clause-kept
returns-clause-kept c =
    let call = c.args.planned.call in
    let pushed = c.push.new.self in
    let noted = c.note.new.self in
    keeps c.args.self.now noted c.args.thread c.args.planned c.requires.kept c.requires.order
    (calls_of-same noted pushed c.note.ensures.scripts c.note.ensures.turns ∙ c.in_ok-push.ensures.calls)
    (λ label. c.in_ok-note.ensures.uses label ∙ ap (λ uses. marked call label (get_or uses.items label New)) c.push.ensures.uses)
    (c.in_ok-note.ensures.labels ∙ ap (λ (n : ℕ). max n (label_end call)) c.push.ensures.labels)
    (λ t. script_at-same noted pushed c.note.ensures.scripts t ∙ c.in_ok-push.ensures.scripts t)
    (ap (λ turns. turns.items) c.note.ensures.turns ∙ c.in_ok-push.ensures.turns)
