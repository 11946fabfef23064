use Rattle.std.proofs.Common.{ℕ, false, refl, arith}
use Rattle.huge_table.proofs.Common.{spans, is_region, bit, region_freed}
use Rattle.huge_table.proofs.Sizes.{arena}
use Rattle.huge_table.proofs.Pages.{over, put_bit, spanned, scatter_is}
use Rattle.huge_table.proofs.table.HugeTable.scatter.Goals as goal

pub returns : goal.returns
returns c =
    let t = c.self.inside in
    let first : ℕ = c.args.first in
    let many : ℕ = c.args.many in
    let size = arena t c.args.self.now c.self.view_is in
    let grouped = put_bit c.put.new.self t.grouped first many false c.put.ensures (omega arith) in
    let shared = put_bit c.put-2.new.self t.shared first many false c.put-2.ensures (omega arith) in
    over t (record t { grouped = c.put.new.self; shared = c.put-2.new.self }) c.args.self.now first many region_freed c.self.view_is refl refl (λ h some inside.
    rw (grouped h, shared h)
    (scatter_is (spans many h first) (bit t.grouped h) (bit t.shared h) (bit t.backed h) (bit t.donated h) t.page_backed h
    (spanned t c.args.self.now first many is_region c.self.view_is c.requires h some inside)))
