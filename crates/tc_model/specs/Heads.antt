-- The heads of a trace, in one table: each sets one limit of a run.
use Rattle.std.specs.Prelude.{ℕ, ◌≤◌, List, [], ◌∷◌, find, Option, codes}
use Rattle.std.specs.Str.{bytes_eq}
use Rattle.tc_units.specs.Units.{most_huge}
use Rattle.tc_model.specs.Limits.{most_picks}
use Rattle.tc_model.specs.Limits.{most_cpus, most_threads}
use Rattle.tc_model.specs.declared.config.Config.{Config}
use Rattle.tc_model.specs.declared.config.Head.{Head}
use Rattle.tc_model.specs.declared.config.Head.TheVariants.{Cpus, Threads, Huge, Cache, Region, Slack, Transfer, Slab, Percpu, Events, Window, Domains}

-- all heads
abbrev pub heads : List Head
heads = Cpus ∷ Threads ∷ Huge ∷ Cache ∷ Region ∷ Slack ∷ Transfer ∷ Slab ∷ Percpu ∷ Events ∷ Window ∷ Domains ∷ []

-- what a head is called, its least and its greatest value, and its value in a trace without it
pub record HeadRule : Type 0 where
  pub name : List ℕ
  pub least : ℕ
  pub most : ℕ
  pub default : ℕ

abbrev pub head_rule : Head → HeadRule
head_rule Cpus = record { name = codes "cpus"; least = 1; most = most_cpus; default = 1 }
head_rule Threads = record { name = codes "threads"; least = 1; most = most_threads; default = 1 }
head_rule Huge = record { name = codes "huge"; least = 1; most = most_huge; default = 64 }
head_rule Cache = record { name = codes "cache"; least = 0; most = most_huge; default = 8 }
head_rule Region = record { name = codes "region"; least = 2; most = 512; default = 512 }
head_rule Slack = record { name = codes "slack"; least = 0; most = 1048576; default = 8192 }
head_rule Transfer = record { name = codes "transfer"; least = 0; most = 4096; default = 64 }
head_rule Slab = record { name = codes "slab"; least = 1; most = 2048; default = 2048 }
head_rule Percpu = record { name = codes "percpu"; least = 0; most = 268435456; default = 1572864 }
head_rule Events = record { name = codes "events"; least = 1; most = most_picks; default = most_picks }
head_rule Window = record { name = codes "window"; least = 0; most = 65536; default = 0 }
head_rule Domains = record { name = codes "domains"; least = 0; most = most_cpus; default = 0 }

-- the head of a name
abbrev pub head_of : List ℕ → Option Head
head_of name = find (λ head. bytes_eq name (head_rule head).name) heads

-- a value that a head may have
abbrev pub IsValueOf : Head → ℕ → Type 0
IsValueOf head value = ((head_rule head).least ≤ value) × (value ≤ (head_rule head).most)

-- the limit that a head sets
abbrev pub head_limit : Head → Config → ℕ
head_limit Cpus config = config.cpus
head_limit Threads config = config.threads
head_limit Huge config = config.huge
head_limit Cache config = config.cache
head_limit Region config = config.region
head_limit Slack config = config.slack
head_limit Transfer config = config.transfer
head_limit Slab config = config.slab
head_limit Percpu config = config.percpu
head_limit Events config = config.events
head_limit Window config = config.window
head_limit Domains config = config.domains

-- the limits with one of them set anew
abbrev pub with_limit : Head → ℕ → Config → Config
with_limit Cpus value config = record config { cpus = value }
with_limit Threads value config = record config { threads = value }
with_limit Huge value config = record config { huge = value }
with_limit Cache value config = record config { cache = value }
with_limit Region value config = record config { region = value }
with_limit Slack value config = record config { slack = value }
with_limit Transfer value config = record config { transfer = value }
with_limit Slab value config = record config { slab = value }
with_limit Percpu value config = record config { percpu = value }
with_limit Events value config = record config { events = value }
with_limit Window value config = record config { window = value }
with_limit Domains value config = record config { domains = value }

-- the limits of a trace without heads
abbrev pub default_config : Config
default_config = let default = λ (head : Head). (head_rule head).default in record {
  cpus = default Cpus;
  threads = default Threads;
  huge = default Huge;
  cache = default Cache;
  region = default Region;
  slack = default Slack;
  transfer = default Transfer;
  slab = default Slab;
  percpu = default Percpu;
  events = default Events;
  window = default Window;
  domains = default Domains;
}
