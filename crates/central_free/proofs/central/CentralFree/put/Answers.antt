use Rattle.std.proofs.Common.{◌≡◌, ◌+◌, ◌≤◌, [], ◌∷◌, ◌++◌, length, get_or, List, Option, Some, None, refl, ap, subst, arith}
use Rattle.std.specs.Option.{option_to_list}
use Rattle.std.proofs.lemmas.List.{get_or_default, append-nil, length-append}
use Rattle.tc_units.specs.declared.units.Addr.{Addr}
use Rattle.tc_units.specs.declared.spans.SpanRef.{SpanRef}
use Rattle.tc_units.specs.Bag.{Contents}
use Rattle.central_free.specs.Central.{put_one, IsSound}
use Rattle.central_free.proofs.PutAllFacts.{IsPutting-none, IsPutting-more, IsPut, IsPut-end}
use Rattle.central_free.proofs.central.CentralFree.put.Goals as goal
use Rattle.central_free.proofs.central.CentralFree.put.Goals.{in-Some, in_default}

at_most_one : (o : Option SpanRef) → length (option_to_list o) ≤ 1
at_most_one None = omega arith
at_most_one (Some s) = omega arith

pub loop-object-init : goal.loop-object-init
loop-object-init c =
    IsPutting-none c.args.list.now c.args.self.now c.args.freed.now (subst IsSound c.self.view_is c.self.invariant.0) c.requires.taken

pub put_one-requires : goal.put_one-requires
put_one-requires c = c.loop-object.invariant.taken c.loop-object.object-index (record { 0 = 0 }) (omega arith) c.loop-object-test.true

pub push-requires : goal.push-requires
push-requires c = omega (arith, c.loop-object.invariant.room, c.loop-object.invariant.few, c.requires.room)

pub loop-object-preserved : goal.loop-object-preserved
loop-object-preserved c =
    let list : List Addr = c.args.list.now in
    let k = c.loop-object.object-index in
    let a : Addr = get_or list k (record { 0 = 0 }) in
    let read : a ≡ get_or list k a = get_or_default list k (record { 0 = 0 }) a c.loop-object-test.true in
    let row : c.put_one.new.self.row ≡ c.loop-object.self.row = ap (λ t. t.row) c.put_one.ensures.spans in
    let spans : c.put_one.new.self.spans ≡ (put_one a c.loop-object.self.spans).spans = ap (λ t. t.spans) c.put_one.ensures.spans in
    let one = c.put_one.ensures in let gone = option_to_list c.put_one.result in let so_far = c.loop-object.invariant in
    let was : Contents SpanRef = c.loop-object.freed in
    let next = λ (more : Contents SpanRef) (items : more.items ≡ was.items ++ gone) (room : length more.items + more.spare ≡ length was.items + was.spare).
    IsPutting-more so_far c.put_one.new.self more a gone c.requires.different c.loop-object-test.true read row spans one.freed items room (at_most_one c.put_one.result) one.sound one.kept one.moves in
    elim c.match-put_one.branch [
      | in-Some w ↦ grind (arith, length-append {A = SpanRef} c.loop-object.freed.items (w.in-Some.span ∷ []), next w.push.new.self)
      | in_default w ↦ rw w.freed-is (next c.loop-object.freed (rw (w.in_default.is, append-nil) refl) refl)
    ]

finished : (c : goal.After-loop-object) → IsPut c.args.list.now c.args.self.now c.loop-object.self c.args.freed.now c.loop-object.freed
finished c = IsPut-end c.loop-object.invariant (omega arith)

pub returns-clause-spans : goal.returns-clause-spans
returns-clause-spans c = (finished c).spans

pub returns-clause-freed : goal.returns-clause-freed
returns-clause-freed c = (finished c).items

pub returns-clause-spare : goal.returns-clause-spare
returns-clause-spare c = (finished c).spare

pub returns-clause-sound : goal.returns-clause-sound
returns-clause-sound c = c.loop-object.invariant.sound

pub returns-clause-kept : goal.returns-clause-kept
returns-clause-kept c = c.loop-object.invariant.kept

pub returns-clause-moves : goal.returns-clause-moves
returns-clause-moves c = (finished c).moves
