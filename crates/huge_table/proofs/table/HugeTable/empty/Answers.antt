use Rattle.std.proofs.Common.{◌≡◌, ℕ, ◌*◌, false, map, eqb, refl, ap, ◌∙◌, arith}
use Rattle.huge_table.proofs.Common.{list_all, range_with_len, length-map-range_with_len, used_count, spans, is_filler, pages_of, emptied, spans_parts, bit}
use Rattle.huge_table.proofs.Sizes.{arena}
use Rattle.heap_rules.proofs.Accounts.{whole_exactly}
use Rattle.huge_table.proofs.Pages.{over, spanned, put_bit, empty_is, slice_is}
use Rattle.huge_table.proofs.table.HugeTable.empty.Goals as goal

pub returns : goal.returns
returns c =
    let t = c.self.inside in
    let first : ℕ = c.args.place in
    let size = arena t c.args.self.now c.self.view_is in
    let v = eqb c.used_in-backed.result 256 in
    let all : v ≡ list_all (λ x. x) (map (bit t.page_backed) (pages_of first)) =
    ap (λ (m : ℕ). eqb m 256) (c.used_in-backed.ensures ∙ ap used_count (slice_is t.page_backed (256 * first) 256 (omega (arith, c.self.invariant.page_backed))))
    ∙ whole_exactly (map (bit t.page_backed) (range_with_len (256 * first) 256)) 256 (length-map-range_with_len (bit t.page_backed) (256 * first) 256) in
    let grouped = put_bit c.put.new.self t.grouped first 1 false c.put.ensures (omega arith) in
    let shared = put_bit c.put-2.new.self t.shared first 1 false c.put-2.ensures (omega arith) in
    let backed = put_bit c.put-3.new.self t.backed first 1 v c.put-3.ensures (omega arith) in
    over t (record t { grouped = c.put.new.self; shared = c.put-2.new.self; backed = c.put-3.new.self }) c.args.self.now first 1 emptied c.self.view_is refl refl (λ h some inside.
    rw (grouped h, shared h, backed h) (empty_is (spans 1 h first) (bit t.grouped h) (bit t.shared h) (bit t.backed h) v (bit t.donated h) t.page_backed h
    (spanned t c.args.self.now first 1 is_filler c.self.view_is c.requires h some inside)
    (λ e. let parts = spans_parts 1 h first e in let here : first ≡ h = omega arith in all ∙ ap (λ k. list_all (λ x. x) (map (bit t.page_backed) (pages_of k))) here)))
