use Rattle.cpu_drain.proofs.Lawful.{leaves, instructs, grows, stops, fences, takes, sets_cap, starts, sets}
use Rattle.cpu_drain.proofs.laws.acts_keep_seats.Goals as goal

pub returns : goal.returns
returns c = record { leave = leaves; instruct = instructs; grow = grows; stop = stops; fence = fences; take = takes; set_cap = sets_cap; start = starts; set = sets }
