use Rattle.cpu_slab.proofs.Opened.{opened_is, opened_out}
use Rattle.cpu_slab.proofs.slab.Slab.open.Goals as goal

pub returns-clause-opened : goal.returns-clause-opened
returns-clause-opened c = opened_is c.args.rows.now c.args.most c.args.limit c.in_ok-marks.ensures c.in_ok-slots.ensures

pub invariant_of-result : goal.invariant_of-result
invariant_of-result c = opened_out c.args.rows.now c.args.most c.args.limit c.in_ok-marks.ensures c.in_ok-slots.ensures c.requires.limits c.requires.sizes

pub returns-clause-sound : goal.returns-clause-sound
returns-clause-sound c = (invariant_of-result c).sound
