use Rattle.std.proofs.Common.{◌≤◌, length, take}
use Rattle.tc_model.specs.Calls.{calls_of}
use Rattle.call_steps.specs.Local.{told}
use Rattle.tc_machine.proofs.TellingFacts.{act_of, AreMarks}
use Rattle.tc_machine.proofs.telling.tell_calls.Given as goal

abbrev pub invariant-loop-thread : goal.invariant-loop-thread
invariant-loop-thread g l =
    AreMarks g.T.Teller.answers l.tellers l.marks.items (take l.thread-index l.order)
    × g.L.Listener.heard l.fn.listener l.listener (calls_of g.T.Teller.answers act_of told l.tellers (take l.thread-index l.order))
    × (length (calls_of g.T.Teller.answers act_of told l.tellers (take l.thread-index l.order)) ≤ l.thread-index)
