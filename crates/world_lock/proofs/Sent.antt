-- Threads may share a board: a state may go from one to another.
use denote.RattleType.{RattleType}
use mir.Syntax.Dict.{given}
use denote.Param.Send.{IsSend, IsSync, struct_send, struct_sync, recorded_send, recorded_sync, view_send}
use denote.Plain.{Nothing}
use denote.Struct.Declared.{shape}
use Rattle.std.specs.contracts.snapshot.Snapshot as snapshot
use Rattle.std.proofs.sync.Mutex.TheSendSync as mutex
use Rattle.std.proofs.option.Option.TheSendSync as option
use Rattle.std.proofs.marker.PhantomData.TheSendSync as phantom
use Rattle.tc_model.proofs.board.Halt.TheSendSync as halt
use Rattle.call_steps.proofs.setting.Setting.TheSendSync as setting
use Rattle.call_steps.specs.contracts.answers.BagAnsweredAnswers.TheImpl as answers_impl
use Rattle.tc_units.specs.contracts.bag.Bag as bag
use Rattle.tc_units.proofs.bag.Bag.TheSendSync as bag_sent
use Rattle.tc_model.specs.contracts.answers.Answered as answered
use Rattle.tc_model.proofs.answers.Answered.TheSendSync as answered_sent
use Rattle.tc_units.proofs.listed.Listed.TheSendSync as listed
use Rattle.tc_units.proofs.units.ThreadNo.TheSendSync as thread
use Rattle.std.proofs.alloc.Global.TheSendSync as global
use Rattle.trace_reader.specs.contracts.trace.Trace as trace
use Rattle.tc_model.proofs.replay.Replay.TheSendSync as replay
use Rattle.call_steps.proofs.local.Local.TheSendSync as local
use Rattle.cpu_front.specs.contracts.caches.CpuCaches as caches
use Rattle.cpu_front.specs.contracts.caches.CpuCachesFrontEnd.TheImpl as caches_impl
use Rattle.cpu_front.specs.contracts.lawful.CpuCachesLawfulFront.TheImpl as lawful_impl
use Rattle.cpu_rows.specs.contracts.part.CpuFrontPart as parts
use Rattle.cpu_rows.specs.contracts.seat.CpuSeat as seats
use Rattle.cpu_rows.specs.contracts.row.CpuRow as rows
use Rattle.call_steps.specs.contracts.local.Local as locals
use Rattle.alloc_rules.specs.contracts.part.Part as part_row
use Rattle.cpu_rows.proofs.part.CpuFrontPart.TheSendSync as front
use Rattle.cpu_rows.proofs.seat.CpuSeat.TheSendSync as seat
use Rattle.cpu_rows.proofs.row.CpuRow.TheSendSync as row
use Rattle.alloc_rules.proofs.part.Part.TheSendSync as part
use Rattle.tc_machine.specs.contracts.machine.AllocMachine as machine
use Rattle.tc_machine.specs.contracts.machine.AllocMachineMachine.TheImpl as machine_impl
use Rattle.tc_machine.specs.contracts.machine.AllocMachineSerial.TheImpl as serial_impl
use Rattle.tc_machine.specs.contracts.opened.AllocMachineAllocator.TheImpl as allocator_impl
use Rattle.tc_machine.specs.contracts.state.State as state
use Rattle.tc_machine.specs.contracts.state.State.TheInside as inside
use Rattle.tc_model.specs.declared.machine.Machine.{Ghosts as MachineGhosts}
use Rattle.tc_model.specs.declared.completion.Serial.{Ghosts as SerialGhosts}
use Rattle.tc_machine.specs.declared.allocator.Allocator.{Ghosts as AllocatorGhosts}
use Rattle.world_lock.specs.declared.named.Named.{Ghosts}
use Rattle.world_lock.specs.contracts.board.WorldBoard as board
use Rattle.world_lock.specs.contracts.world.World as world
use Rattle.world_lock.specs.contracts.world.World.TheInside as within

snapshot_send : (Y : RattleType) → IsSend (snapshot.the_row Y)
snapshot_send Y = record { owned = λ d vs. ((λ vss. (tt, ((λ uss. (tt, tt)), tt))), tt); leaving = λ k f vs. tt }

-- the answers that a thread keeps
abbrev answers : RattleType
answers = bag.the_row answered.the_row

-- the allocator over the per-CPU caches
abbrev cpu_machine : RattleType
cpu_machine = machine.the_row caches.the_row answers parts.the_row seats.the_row rows.the_row lawful_impl.ghosts caches_impl.ghosts answers_impl.ghosts

abbrev cpu_local : RattleType
cpu_local = locals.the_row caches.the_row answers parts.the_row seats.the_row rows.the_row caches_impl.ghosts answers_impl.ghosts

machine_send : IsSend cpu_machine
machine_send =
    recorded_send (machine.the_field caches.the_row answers parts.the_row seats.the_row rows.the_row lawful_impl.ghosts caches_impl.ghosts answers_impl.ghosts).row _ _ (machine.the_type caches.the_row answers parts.the_row seats.the_row rows.the_row lawful_impl.ghosts caches_impl.ghosts answers_impl.ghosts).to_one
    (struct_send (shape (machine.the_type caches.the_row answers parts.the_row seats.the_row rows.the_row lawful_impl.ghosts caches_impl.ghosts answers_impl.ghosts)) (setting.the_field_send, (listed.the_send _ thread.the_send, (snapshot_send trace.the_row, (phantom.the_field_send caches.the_row, (phantom.the_field_send answers, tt))))))

abbrev cpu_part : RattleType
cpu_part = part_row.the_row parts.the_row

state_send : (m : MachineGhosts cpu_machine.Denot cpu_part.Denot cpu_local.Denot) (a : AllocatorGhosts cpu_machine.Denot Nothing.Denot cpu_part.Denot cpu_local.Denot) (s : SerialGhosts cpu_machine.Denot cpu_part.Denot cpu_local.Denot)
    → IsSend (state.the_row cpu_machine Nothing cpu_part cpu_local m a s)
state_send m a s =
    view_send _ _ _ _ _ (recorded_send (inside.the_field cpu_machine Nothing cpu_part cpu_local m a s).row _ _ (inside.the_type cpu_machine Nothing cpu_part cpu_local m a s).to_one (struct_send (shape (inside.the_type cpu_machine Nothing cpu_part cpu_local m a s))
    (replay.the_field_send _ _ _ m machine_send (part.the_send _ front.the_send) (local.the_send caches.the_row answers parts.the_row _ _ caches_impl.ghosts answers_impl.ghosts (bag_sent.the_send _ answered_sent.the_send) seat.the_send row.the_send), (global.the_field_send, tt))))

-- what its impls say of it, under any dictionaries
abbrev machine_ghosts : MachineGhosts cpu_machine.Denot cpu_part.Denot cpu_local.Denot
machine_ghosts = machine_impl.ghosts caches.the_row answers parts.the_row seats.the_row rows.the_row lawful_impl.ghosts (given 0) caches_impl.ghosts (given 0) (record { is_clone = λ a b. Unit {0}; is_infallible = λ a. Unit {0} }) (given 0) answers_impl.ghosts (given 0) (given 0) (given 0) (given 0)

abbrev serial_ghosts : SerialGhosts cpu_machine.Denot cpu_part.Denot cpu_local.Denot
serial_ghosts = serial_impl.ghosts caches.the_row answers parts.the_row seats.the_row rows.the_row lawful_impl.ghosts (given 0) caches_impl.ghosts (given 0) (record { is_clone = λ a b. Unit {0}; is_infallible = λ a. Unit {0} }) (given 0) answers_impl.ghosts (given 0) (given 0) (given 0) (given 0)

abbrev allocator_ghosts : AllocatorGhosts cpu_machine.Denot Nothing.Denot cpu_part.Denot cpu_local.Denot
allocator_ghosts = allocator_impl.ghosts caches.the_row answers parts.the_row seats.the_row rows.the_row lawful_impl.ghosts (given 0) caches_impl.ghosts (given 0) (record { is_clone = λ a b. Unit {0}; is_infallible = λ a. Unit {0} }) (given 0) answers_impl.ghosts (given 0) (given 0) (given 0) (given 0)

world_send : (N : RattleType) (n : Ghosts N.Denot) → IsSend (world.the_row N n)
world_send N n = view_send _ _ _ _ _ (recorded_send (within.the_field N n).row _ _ (within.the_type N n).to_one (struct_send (shape (within.the_type N n)) (state_send machine_ghosts allocator_ghosts serial_ghosts, (option.the_field_send _ halt.the_send, (phantom.the_field_send N, tt)))))

-- what a call that runs threads over a board lists for `search`
pub board_sync : (N : RattleType) (n : Ghosts N.Denot) → IsSync (board.the_row N n)
board_sync N n = recorded_sync (board.the_field N n).row _ _ (board.the_type N n).to_one (struct_sync (shape (board.the_type N n)) (mutex.the_sync _ (world_send N n), tt))
