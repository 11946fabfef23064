-- The traces that the rules serve: every one that a reader takes, with calls that the front-end takes.
use Rattle.std.specs.Prelude.{◌≡◌, ℕ, ◌^◌, ◌<◌, ◌≤◌, List, ◌∷◌, ◌++◌, sum_by}
use Rattle.tc_model.specs.declared.calls.Call.{Call}
use Rattle.tc_model.specs.declared.calls.Call.TheVariants.{Malloc, Free}
use Rattle.tc_model.specs.declared.config.Config.{Config}
use Rattle.tc_model.specs.Input.{ThreadCall, Asked}
use Rattle.holdings.specs.Accounts.{got, put}
use Rattle.call_steps.specs.Shapes.{AreRows}
use Rattle.tc_units.specs.declared.spans.ClassRow.{ClassRow}
use Rattle.tc_model.specs.declared.calls.Planned.{Planned}

-- how often calls allocate a label, and how often they free it
abbrev pub got_in : ℕ → List ThreadCall → ℕ
got_in x calls = sum_by (λ c. got x c.planned.call) calls

abbrev pub put_in : ℕ → List ThreadCall → ℕ
put_in x calls = sum_by (λ c. put x c.planned.call) calls

-- A call keeps the rules of labels behind the calls before it: a label is allocated once, and freed once after that.
abbrev pub IsInOrder : List ThreadCall → Call → Type 0
IsInOrder earlier (Malloc label size) = (size ≤ 2 ^ 40) × (got_in label.0 earlier ≡ 0)
IsInOrder earlier (Free label) = (0 < got_in label.0 earlier) × (put_in label.0 earlier ≡ 0)
IsInOrder earlier call = Unit {0}

-- the limits of a trace, as far as the core and its front-ends need them
pub record AreLimits (c : Config) : Type 0 where
  pub cpus : 0 < c.cpus
  pub threads : 0 < c.threads
  pub few_threads : c.threads ≤ 64
  pub some : 0 < c.huge
  pub few : c.huge ≤ 4096
  pub region : 2 ≤ c.region
  pub slab : 0 < c.slab
  pub slots : c.slab ≤ 2048
  pub percpu : c.percpu ≤ 268435456

module _ (table : List ClassRow) (takes : Planned → Type 0) (asked : Asked) where
  pub record IsCall (earlier : List ThreadCall) (c : ThreadCall) : Type 0 where
    pub thread : c.thread.0 < asked.config.threads
    pub planned : takes c.planned
    pub order : IsInOrder earlier c.planned.call

  pub record IsValid : Type 0 where
    pub rows : AreRows table
    pub limits : AreLimits asked.config
    pub calls : (earlier : List ThreadCall) (c : ThreadCall) (later : List ThreadCall) → earlier ++ c ∷ later ≡ asked.calls → IsCall earlier c
