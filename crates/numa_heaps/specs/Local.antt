-- What the code of a thread keeps, and the thread that it means.
use Rattle.std.specs.Prelude.{◌≡◌, ℕ, ◌+◌, ◌≤◌, true, false, List, length, map, drop, Option, None, Some}
use Rattle.std.specs.Option.{option_to_list}
use Rattle.call_steps.specs.Local.{Decided}
use Rattle.call_steps.specs.declared.setting.Setting.{Setting}
use Rattle.alloc_rules.specs.Machine.{after, waits}
use Rattle.no_caches.specs.NoCaches.{no_caches, about_none}
use Rattle.node_rules.specs.Numa.{NodePart, NodeLocal}
use Rattle.numa_heaps.specs.declared.local.Change.{Change}
use Rattle.node_rules.specs.Beside.{Beside, decided_at}
use Rattle.numa_heaps.specs.declared.nodes.NodeNo.{NodeNo}
use Rattle.numa_heaps.specs.declared.local.Told.{Told}

-- a decided call
abbrev pub decided_of : Told → Decided
decided_of a = record { act = a.act; call = a.call; answer = a.answer }

abbrev pub thread_of : {L : Type 0} → List L → List NodeNo → ℕ → ℕ → List Told → Beside L
thread_of here route place acts answers =
    record { here = here; route = map (λ (n : NodeNo). n.0) route; ended = place; acts = acts; answers = map decided_of answers }

-- What an act at a node made of a part and of what the thread has there: nothing where it waits, and else what its rules say,
-- with the number of calls that it ended, and the call that it decided.
pub record IsGone (setting : Setting) (node act : ℕ) (p : NodePart) (x : NodeLocal) (q : NodePart) (y : NodeLocal) (change : Change) : Type 0 where
  pub goes : waits p x ≡ false
  pub part : q ≡ (after (no_caches setting.table) about_none p x).0
  pub local : y ≡ (after (no_caches setting.table) about_none p x).1
  pub ended : y.ended ≡ x.ended + change.ended
  pub one : change.ended ≤ 1
  pub told : map decided_of (option_to_list change.told) ≡ map (decided_at setting.config.huge node act) (drop (length x.answers) y.answers)

abbrev pub IsChange : Setting → ℕ → ℕ → NodePart → NodeLocal → NodePart → NodeLocal → Option Change → Type 0
IsChange setting node act p x q y None = (waits p x ≡ true) × (q ≡ p) × (y ≡ x)
IsChange setting node act p x q y (Some change) = IsGone setting node act p x q y change
