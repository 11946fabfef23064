use Rattle.std.proofs.Common.{ℕ, ◌/◌, refl, arith}
use Rattle.huge_table.proofs.Common.{spans, is_filler, run_at, more_backed, bit, of_filler}
use Rattle.huge_table.proofs.Sizes.{arena}
use Rattle.huge_table.proofs.Pages.{over, spanned, own_is, filler_backs}
use Rattle.huge_table.proofs.table.HugeTable.back_pages.Goals as goal

pub returns : goal.returns
returns c =
    let t = c.self.inside in
    let first : ℕ = c.args.first in
    let n : ℕ = c.args.n in
    let size = arena t c.args.self.now c.self.view_is in
    let place = c.requires.place in
    over t (record t { page_backed = c.put.new.self }) c.args.self.now (first / 256) 1 (more_backed (run_at first n) (first / 256)) c.self.view_is refl refl (λ h some inside.
    own_is (spans 1 h (first / 256)) (bit t.grouped h) (bit t.shared h) (bit t.backed h) (bit t.donated h) t.page_backed h
    (more_backed (run_at first n) (first / 256)) (of_filler (bit t.donated h) c.put.new.self h)
    (spanned t c.args.self.now (first / 256) 1 is_filler c.self.view_is place h some inside)
    (filler_backs t.page_backed c.put.new.self first n h (bit t.donated h) c.put.ensures c.requires.ends (omega (arith, c.self.invariant.page_backed))))
