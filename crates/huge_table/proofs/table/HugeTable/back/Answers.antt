use Rattle.std.proofs.Common.{ℕ, refl, arith}
use Rattle.huge_table.proofs.Common.{spans, bit, is_even, with_backing}
use Rattle.huge_table.proofs.Sizes.{arena}
use Rattle.huge_table.proofs.Pages.{over, put_bit, spanned, back_is}
use Rattle.huge_table.proofs.table.HugeTable.back.Goals as goal

pub returns : goal.returns
returns c =
    let t = c.self.inside in
    let first : ℕ = c.args.first in
    let many : ℕ = c.args.many in
    let size = arena t c.args.self.now c.self.view_is in
    let backed = put_bit c.put.new.self t.backed first many c.args.state c.put.ensures (omega arith) in
    over t (record t { backed = c.put.new.self }) c.args.self.now first many (with_backing c.args.state) c.self.view_is refl refl (λ h some inside.
    rw (backed h) (back_is (spans many h first) (bit t.grouped h) (bit t.shared h) (bit t.backed h) c.args.state (bit t.donated h) t.page_backed h
    (spanned t c.args.self.now first many is_even c.self.view_is c.requires h some inside)))
