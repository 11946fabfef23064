use Rattle.std.proofs.Common.{◌⊎◌, ◌≤◌, length, List, arith}
use Rattle.tc_model.specs.declared.board.Entry.{Entry}
use Rattle.merge_journal.proofs.Twos.{step_left, step_right, used_up, rest_is}
use Rattle.merge_journal.proofs.halves.merge_two.Goals as goal

pub loop-i-preserved-then-first-i : goal.loop-i-preserved-then-first-i
loop-i-preserved-then-first-i c = record {
  low = omega arith;
  low' = omega arith;
  leads = step_left (record { rises = c.requires.rise.0; rises' = c.requires.rise.1; low = c.loop-i-test.true; low' = c.if-j-second.true }) c.loop-i.merged.items _
      c.if-first-i.true c.loop-i.invariant.leads c.push_reserved.ensures.items;
  counted = omega (arith, c.loop-i.invariant.counted, c.push_reserved.ensures.len);
  room = omega (arith, c.loop-i.invariant.room, c.push_reserved.ensures.capacity);
}

pub loop-i-preserved : goal.loop-i-preserved
loop-i-preserved c = record {
  low = omega arith;
  low' = omega arith;
  leads = step_right (record { rises = c.requires.rise.0; rises' = c.requires.rise.1; low = c.loop-i-test.true; low' = c.if-j-second.true }) c.loop-i.merged.items _
      c.requires.apart c.if-first-i.false c.loop-i.invariant.leads c.push_reserved-else-first-i.ensures.items;
  counted = omega (arith, c.loop-i.invariant.counted, c.push_reserved-else-first-i.ensures.len);
  room = omega (arith, c.loop-i.invariant.room, c.push_reserved-else-first-i.ensures.capacity);
}

pub returns : goal.returns
returns c =
    let first : List Entry = c.args.first.now in let second : List Entry = c.args.second.now in
    let over : (length first ≤ c.loop-i.i) ⊎ (length second ≤ c.loop-i.j) = grind (arith) in
    let all = used_up first second c.loop-i.merged.items c.loop-i.i c.loop-i.j c.requires.rise.0 c.requires.rise.1 over c.loop-i.invariant.leads in
    grind (arith, rest_is first c.loop-i.i, rest_is second c.loop-i.j)
