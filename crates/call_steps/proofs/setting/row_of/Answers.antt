use Rattle.std.proofs.Common.{ap, arith, length}
use Rattle.std.proofs.lemmas.Option.{get_or_from_slice_get}
use Rattle.call_steps.proofs.setting.row_of.Goals as goal

pub row-requires : goal.row-requires
row-requires g c = omega (arith, c.requires, ap length (g.F.FrontEnd.same_rows c.args.setting.now))

pub returns : goal.returns
returns g c = grind (arith, get_or_from_slice_get)
