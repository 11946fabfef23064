use Rattle.std.proofs.Common.{ℕ, true, false, refl, arith}
use Rattle.huge_table.proofs.Common.{run_page}
use Rattle.huge_table.proofs.Sizes.{arena}
use Rattle.huge_table.proofs.Pages.{over, put_bit, take_is}
use Rattle.huge_table.proofs.table.HugeTable.take.Goals as goal

pub returns : goal.returns
returns c =
    let t = c.self.inside in
    let first : ℕ = c.args.first in
    let many : ℕ = c.args.many in
    let size = arena t c.args.self.now c.self.view_is in
    let grouped = put_bit c.put.new.self t.grouped first many true c.put.ensures (omega arith) in
    let shared = put_bit c.put-2.new.self t.shared first many false c.put-2.ensures (omega arith) in
    over t (record t { grouped = c.put.new.self; shared = c.put-2.new.self }) c.args.self.now first many (λ _. run_page) c.self.view_is refl refl (λ h _ _. grind (arith, take_is))
