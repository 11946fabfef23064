use Rattle.std.proofs.Common.{arith}
use Rattle.std.proofs.lemmas.List.{length-take-le}
use Rattle.trace_text.proofs.Cuts.{first_field, space_behind}
use Rattle.trace_text.proofs.fields.Fields.next.Goals as goal

pub returns-clause-fields : goal.returns-clause-fields
returns-clause-fields c = grind (arith, length-take-le, first_field)

pub returns-clause-space : goal.returns-clause-space
returns-clause-space c =
    let f = c.self.inside in
    grind (arith, length-take-le, space_behind f.text.now f.start f.end)
