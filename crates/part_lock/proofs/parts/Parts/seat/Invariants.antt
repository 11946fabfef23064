use Rattle.part_lock.proofs.parts.Parts.seat.Given as goal

abbrev pub ghosts-seat_as : goal.ghosts-seat_as
ghosts-seat_as g a = record { thread = a.thread.0 }
