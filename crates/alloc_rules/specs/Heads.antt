-- What the class table and the heads of a trace say of the parts: how many there are.
use Rattle.std.specs.Prelude.{◌≡◌, ℕ, ◌≤◌, List, length}
use Rattle.tc_model.specs.Input.{labels_of, Asked}
use Rattle.transfer_cache.specs.Transfer.{Transfer}
use Rattle.alloc_rules.specs.Machine.{Parts}
use Rattle.call_steps.specs.Local.{Local}
use Rattle.call_steps.specs.Fronts.{FrontRules}

-- a transfer list has room for so many objects, and no more of them
pub record HasRoom (most : ℕ) (t : Transfer) : Type 0 where
  pub room : t.room ≡ most
  pub within : length t.objects ≤ most

-- there are as many parts, hugepages of the map, names and threads as the table and the heads say
pub record AreAsMany {P V R : Type 0} (r : FrontRules P V R) (asked : Asked) (p : Parts P) (locals : List (Local V R)) : Type 0 where
  pub fronts : length p.fronts ≡ length r.parts
  pub shards : length p.shards ≡ length r.calls.rows
  pub huge : p.map.huge ≡ asked.config.huge
  pub names : length p.names ≡ labels_of asked
  pub threads : length locals ≡ asked.config.threads
