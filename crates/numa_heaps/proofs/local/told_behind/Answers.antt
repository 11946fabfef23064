use Rattle.std.proofs.Common.{◌<◌, ◌≤◌, length, ap, arith}
use Rattle.std.proofs.Math.ListN.{drop_of_length-le}
use Rattle.std.proofs.lemmas.List.{length-map}
use Rattle.numa_heaps.proofs.Acting.{one_new}
use Rattle.numa_heaps.proofs.local.told_behind.Goals as goal

pub returns-then-n-answers : goal.returns-then-n-answers
returns-then-n-answers c =
    let some : c.args.n < length c.args.inner.now.answers = omega (arith, c.if-n-answers.true, simp length-map at (ap length c.answers.ensures.answers)) in
    one_new c.args.huge c.args.node.0 c.args.act c.args.n c.args.inner.now.answers c.told_of.result some c.requires.few c.told_of.ensures

pub returns-else-n-answers : goal.returns-else-n-answers
returns-else-n-answers c =
    let few : length c.args.inner.now.answers ≤ c.args.n = omega (arith, c.if-n-answers.false, simp length-map at (ap length c.answers.ensures.answers)) in
    rw drop_of_length-le
