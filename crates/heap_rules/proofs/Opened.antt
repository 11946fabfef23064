-- A heap at its opening is sound.
use Rattle.std.proofs.Common.{ℕ, false, [], refl, arith}
use Rattle.std.proofs.lemmas.Bool.{false≢true}
use Rattle.std.proofs.lemmas.List.{length-replicate, get_or-replicate}
use Rattle.heap_rules.specs.declared.config.HeapConfig.{HeapConfig}
use Rattle.heap_rules.specs.Heap.{untouched, opened}
use Rattle.heap_rules.specs.Sound.{IsFit, IsSound}
use Rattle.heap_rules.proofs.Places.{at-place}

fit_untouched : (width h : ℕ) → IsFit [] [] width h untouched
fit_untouched width h = record { size = length-replicate 256 false; serves = ((λ p own. refl), (false, refl)); donated = λ e. absurd (false≢true e) }

pub opened_sound : (config : HeapConfig) → IsSound (opened config)
opened_sound config = grind (arith, at-place, false≢true, fit_untouched, get_or-replicate, length-replicate)
