use Rattle.std.proofs.Common.{refl, ◌≡◌, [], ◌∷◌, ap, ◌∙◌, arith}
use Rattle.tc_model.specs.declared.calls.Call.{Call}
use Rattle.tc_model.specs.declared.calls.Call.TheVariants.{Malloc}
use Rattle.tc_model.specs.declared.answers.CallLine.{CallLine}
use Rattle.heap_sample.specs.Profiles.{AreFirstUses}
use Rattle.heap_sample.proofs.FirstUses.{first_uses}
use Rattle.heap_sample.proofs.tests.memory_that_runs_out.Goals as goal

call_of : {l m : CallLine} {k : Call} → l ≡ m → m.call ≡ k → l.call ≡ k
call_of e h = ap (λ (x : CallLine). x.call) e ∙ h

uses : (l0 l1 : CallLine) → l0.call ≡ Malloc (record { 0 = 0 }) 8 → l1.call ≡ Malloc (record { 0 = 1 }) 16 → AreFirstUses (l0 ∷ l1 ∷ [])
uses l0 l1 e0 e1 = first_uses (l0 ∷ l1 ∷ []) (rw (e0, e1) ((record { not_answered = refl; not_freed = refl }, omega arith), ((record { not_answered = refl; not_freed = refl }, omega arith), tt)))

pub profile_of-requires-clause-labels : goal.profile_of-requires-clause-labels
profile_of-requires-clause-labels g c = uses c.line.result c.line-2.result (call_of c.line.ensures c.malloc.ensures) (call_of c.line-2.ensures c.malloc-2.ensures)
