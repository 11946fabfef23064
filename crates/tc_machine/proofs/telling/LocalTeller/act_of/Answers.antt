use Rattle.std.proofs.lemmas.Option.{slice_get-map, slice_get-get_or}
use Rattle.std.proofs.lemmas.Bool.Decides.{nat_tests}
use Rattle.std.proofs.Common.{arith}
use Rattle.tc_model.specs.declared.answers.Answered.{Answered}
use Rattle.tc_machine.proofs.TellingFacts.{act_of}
use Rattle.tc_machine.proofs.telling.LocalTeller.act_of.Goals as goal

pub returns : goal.returns
returns g c = grind (arith, nat_tests, slice_get-get_or, slice_get-map (λ (a : Answered). a.act), slice_get-map act_of c.args.self.now.answers)
