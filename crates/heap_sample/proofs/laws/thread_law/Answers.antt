use Rattle.heap_sample.proofs.Threads.{apart}
use Rattle.heap_sample.proofs.laws.thread_law.Goals as goal

pub returns : goal.returns
returns c = apart
