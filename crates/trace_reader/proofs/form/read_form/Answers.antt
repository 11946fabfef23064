use Rattle.std.proofs.Common.{sym}
use Rattle.trace_reader.proofs.Values.{read_fields_form}
use Rattle.trace_reader.proofs.form.read_form.Goals as goal

pub returns-in-Some-clause-form : goal.returns-in-Some-clause-form
returns-in-Some-clause-form c = sym (read_fields_form c.args.word c.args.fields.now.fields c.in-Some.form (sym c.in-Some.ensures.form))
