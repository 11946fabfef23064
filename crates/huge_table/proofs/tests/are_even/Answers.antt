use Rattle.std.proofs.Common.{refl}
use Rattle.huge_table.proofs.Common.{or_left, is_free, is_region, is_even}
use Rattle.huge_table.proofs.Shared.{region_even, span_of}
use Rattle.huge_table.proofs.tests.are_even.Goals as goal

pub returns-then-are : goal.returns-then-are
returns-then-are c e = span_of c.args.table.now c.args.first c.args.many c.args.many is_free is_even refl (λ x e. or_left (is_free x) (is_region x) e) (c.are.ensures.free e refl)

pub returns-else-are : goal.returns-else-are
returns-else-are c e = span_of c.args.table.now c.args.first c.args.many c.args.many is_region is_even refl region_even (c.are-else-are.ensures.region e refl)
