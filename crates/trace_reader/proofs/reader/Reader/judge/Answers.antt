use Rattle.std.proofs.Common.{sym}
use Rattle.std.proofs.lemmas.Result.{err_from_is_err_and}
use Rattle.std.proofs.Common.{arith}
use Rattle.trace_reader.specs.Words.{is_head}
use Rattle.trace_reader.specs.Steps.{line_at, so_far}
use Rattle.trace_reader.proofs.Verdicts.{verdict-err, verdict-ok, line_form-ok, fits, early_head}
use Rattle.trace_reader.proofs.reader.Reader.judge.Goals as goal

pub returns-in_err-form-clause-verdict : goal.returns-in_err-form-clause-verdict
returns-in_err-form-clause-verdict c =
    let line = line_at c.args.classes c.args.self.now c.args.line.now in
    let known = c.in_ok-word.ensures.word c.args.classes in
    grind (arith, err_from_is_err_and c.from_residual-in_err-form.result c.from_residual-in_err-form.ensures.1, verdict-err line c.in_ok-word.word)

pub returns-in-Some-clause-verdict : goal.returns-in-Some-clause-verdict
returns-in-Some-clause-verdict c =
    let line = line_at c.args.classes c.args.self.now c.args.line.now in
    grind (arith, c.in_ok-word.ensures.word c.args.classes, verdict-ok line c.in_ok-word.word c.in_ok-form.form)

pub returns-in-None-clause-verdict : goal.returns-in-None-clause-verdict
returns-in-None-clause-verdict c =
    let line = line_at c.args.classes c.args.self.now c.args.line.now in
    grind (arith, c.in_ok-word.ensures.word c.args.classes, verdict-ok line c.in_ok-word.word c.in_ok-form.form)

pub returns-in-None-clause-form : goal.returns-in-None-clause-form
returns-in-None-clause-form c =
    let line = line_at c.args.classes c.args.self.now c.args.line.now in
    grind (arith, c.in_ok-word.ensures.word c.args.classes, line_form-ok line c.in_ok-word.word c.in_ok-form.form)

pub returns-in-None-clause-fits : goal.returns-in-None-clause-fits
returns-in-None-clause-fits c = fits c.args.classes (so_far c.args.self.now).asked c.in_ok-form.form (sym c.in-None.ensures)

pub returns-in-None-clause-few : goal.returns-in-None-clause-few
returns-in-None-clause-few c = (c.in_ok-word.ensures.word c.args.classes).few

pub returns-in-None-clause-head : goal.returns-in-None-clause-head
returns-in-None-clause-head c = grind (arith, c.in_ok-word.ensures.word c.args.classes, early_head c.args.self.now.late (is_head c.in_ok-word.word))
