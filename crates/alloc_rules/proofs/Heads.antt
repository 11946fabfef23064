-- A transfer list stays within its room.
use Rattle.std.proofs.Common.{◌≡◌, ℕ, ◌+◌, ◌-◌, true, leb, List, ◌++◌, length, arith}
use Rattle.alloc_rules.proofs.Common.{cond_both, leb-true, length-take, length-append, Addr, Transfer, without_last, ShardStep, FrontCalls}
use Rattle.alloc_rules.proofs.Common.{Local, shard_after, HasRoom}
use Rattle.class_shard.specs.Shard as shards
use Rattle.call_steps.specs.declared.step.Step.TheVariants as does

-- objects are taken from a list, or come to it where they fit
taken_room : (room n : ℕ) (t : Transfer) → HasRoom room t → HasRoom room (record { objects = without_last n t.objects; room = t.room })
taken_room room n t has = record { room = has.room; within = omega (arith, has.within, length-take (length t.objects - n) t.objects) }

put_room : (room : ℕ) (t : Transfer) (list : List Addr) → leb (length t.objects + length list) t.room ≡ true
    → HasRoom room t → HasRoom room (record { objects = t.objects ++ list; room = t.room })
put_room room t list fits has = record { room = has.room; within = omega (arith, has.room, leb-true (length t.objects + length list) t.room fits, length-append t.objects list) }

pub list_stays : {V R : Type 0} (e : FrontCalls V R) (room : ℕ) (s : shards.Shard) (l : Local V R) (row : ShardStep R) → HasRoom room s.transfer → HasRoom room (shard_after e s l (does.Shard row)).0.transfer
list_stays e room s l row has = grind (arith, cond_both, put_room, taken_room)
