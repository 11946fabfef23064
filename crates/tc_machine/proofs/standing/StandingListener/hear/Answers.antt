use Rattle.std.proofs.Common.{refl, arith}
use Rattle.tc_machine.proofs.StandingFacts.{quiet_answer, one_stands, told_block, told_freed, told_other}
use Rattle.tc_machine.proofs.standing.StandingListener.hear.Goals as goal

pub returns-in_ok-note-in-Block : goal.returns-in_ok-note-in-Block
returns-in_ok-note-in-Block c before earlier stand may =
    told_block c.settle.new.self c.args.line.now may.huge may.round earlier (c.settle.ensures.standing earlier stand) may.apart may.arena may.allowed c.in-Block.addr c.in-Block.len c.in-Malloc.label c.in-Malloc.size _ c.in-Block.is c.in-Malloc.is
    c.in_ok-note-in-Block.ensures.here c.in_ok-note-in-Block.ensures.others refl refl refl refl

pub returns-in_ok-push-in-Freed : goal.returns-in_ok-push-in-Freed
returns-in_ok-push-in-Freed c before earlier stand may =
    let stands = c.settle.ensures.standing earlier stand in
    let s = c.settle.new.self in
    let some = one_stands s c.args.line.now may.huge may.round earlier stands may.apart may.arena may.allowed c.in-Free.label c.in-Freed.addr c.in-Freed.is c.in-Free.is in
    told_freed s c.args.line.now may.huge may.round earlier stands may.apart may.arena may.allowed c.in-Free.label c.in-Freed.addr c.in-Freed.is c.in-Free.is _ refl refl (omega (arith, some)) refl c.in_ok-push-in-Freed.ensures.items

pub returns-in_default : goal.returns-in_default
returns-in_default c before earlier stand may =
    told_other c.settle.new.self c.args.line.now may.huge may.round earlier (c.settle.ensures.standing earlier stand) may.apart may.arena may.allowed (quiet_answer c.args.line.now.answer c.in_default.not-Block c.in_default.not-Freed)
