use Rattle.std.proofs.Common.{◌≡◌, ℕ, ◌+◌, ◌*◌, ◌/◌, ◌≤◌, Bool, true, false, ◌&&◌, not, cond, List, length, take, drop, map, ap, ◌∙◌, arith}
use Rattle.huge_table.proofs.Common.{list_any, get_or_default, length-take-le, length-drop, count_by-le-length, used_count, is_used, pages_of}
use Rattle.huge_table.proofs.Common.{Table, bit, is_shared, begins_on, nat_tests}
use Rattle.huge_table.proofs.Sizes.{arena}
use Rattle.huge_table.proofs.Pages.{slice_is, over_pages}
use Rattle.huge_table.proofs.Allocs.{allocs_are}
use Rattle.huge_table.proofs.table.HugeTable.allocs.Goals as goal

most : (b : Bool) (m : ℕ) → m ≡ cond b 1 0 → m ≤ 1
most b m e = grind (arith, nat_tests)

few : (row : List Bool) (s m : ℕ) → s + 256 ≤ length row → m ≡ used_count (take 256 (drop s row)) → m ≤ 256
few row s m fits e =
    let size : length (take 256 (drop s row)) ≡ 256 = length-take-le 256 (drop s row) (omega (arith, length-drop s row)) in
    grind (arith, nat_tests, count_by-le-length)

pub overflow_add-result : goal.overflow_add-result
overflow_add-result c =
    let size = arena c.self.inside c.args.self.now c.self.view_is in
    let begin = few c.self.inside.begins (256 * c.from-first.result) c.used_in-begin.result (omega (arith, c.self.invariant.begins, c.from-first.ensures)) c.used_in-begin.ensures in
    grind arith

pub returns : goal.returns
returns c heap sound means shared =
    let t = c.self.inside in
    let now = c.args.self.now in
    let h : ℕ = c.args.huge.0 in
    let size = arena t now c.self.view_is in
    let at_h : 256 * h / 256 ≡ h = omega arith in
    let used : c.is_used.result ≡ is_used heap.runs (256 * h) =
    grind (arith, nat_tests, get_or_default, is_shared, is_used) in
    let begins : c.is_used-2.result ≡ list_any (begins_on (256 * h)) heap.runs =
    c.is_used-2.ensures ∙ get_or_default t.begins (256 * c.from-first.result) true false (omega (arith, c.self.invariant.begins, c.from-first.ensures))
    ∙ ap (λ (k : ℕ). bit t.begins (256 * k)) c.from-first.ensures
    ∙ ap (λ (x : Table). bit x.begins (256 * h)) c.self.view_is
    ∙ means.begins (256 * h) in
    let begun : c.used_in-begin.result ≡ used_count (map (λ page. list_any (begins_on page) heap.runs) (pages_of h)) =
    c.used_in-begin.ensures
    ∙ ap (λ (k : ℕ). used_count (take 256 (drop (256 * k) t.begins))) c.from-first.ensures
    ∙ ap used_count (slice_is t.begins (256 * h) 256 (omega (arith, c.self.invariant.begins))
    ∙ over_pages (bit t.begins) (λ page. list_any (begins_on page) heap.runs) h
    (λ page own. ap (λ (x : Table). bit x.begins page) c.self.view_is ∙ means.begins page)) in
    let one = c.reaching_in.ensures ∙ ap (λ (u : Bool). cond (u && not c.is_used-2.result) 1 0) used ∙ ap (λ (b : Bool). cond (is_used heap.runs (256 * h) && not b) 1 0) begins in
    grind (arith, allocs_are)
