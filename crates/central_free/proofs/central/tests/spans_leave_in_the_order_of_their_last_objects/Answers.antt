use Rattle.std.proofs.Common.{◌≡◌, List, get_or, rules}
use Rattle.std.specs.Prelude.{All}
use Rattle.std.proofs.lemmas.List.Elements.{All-nil, All-append}
use Rattle.tc_units.specs.declared.units.Addr.{Addr}
use Rattle.central_free.specs.Central.{opening, taken, IsTakenIn}
use Rattle.central_free.proofs.central.tests.spans_leave_in_the_order_of_their_last_objects.Goals as goal

pub put-requires-clause-taken : goal.put-requires-clause-taken
put-requires-clause-taken g c =
    let P : Addr → Type 0 = IsTakenIn c.take-last.new.self.spans in
    let first : List Addr = opening c.span_at-low.result c.new-central.result.row.size 1 in
    let second : List Addr = opening c.span_at-high.result c.add_take.new.self.row.size 2 in
    let third : List Addr = (taken 1 c.add_take-2.new.self.spans).objects in
    let none : All P c.in_ok-out.out.items = rw c.in_ok-out.ensures.items (All-nil P) in
    let later : All P first = λ k d within. c.take-last.ensures.kept (get_or first k d) (c.in_ok-two.ensures.kept (get_or first k d) (c.in_ok-one.ensures.given k d within)) in
    let one : All P c.add_take.new.out.items = rw c.in_ok-one.ensures.out (All-append P c.in_ok-out.out.items first none later) in
    let last : All P second = λ k d within. c.take-last.ensures.kept (get_or second k d) (c.in_ok-two.ensures.given k d within) in
    let two : All P c.add_take-2.new.out.items = rw c.in_ok-two.ensures.out (All-append P c.add_take.new.out.items second one last) in
    let all : All P c.take-last.new.out.items = rw c.take-last.ensures.out (All-append P c.add_take-2.new.out.items third two c.take-last.ensures.given) in
    let listed : c.as_slice-list.result.now ≡ c.take-last.new.out.items = search rules in
    rw listed all
