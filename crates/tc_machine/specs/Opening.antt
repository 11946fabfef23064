-- The parts and the locals with which a run begins.
use Rattle.std.specs.Prelude.{ℕ, List, [], map, length, replicate}
use Rattle.std.specs.List.{range_with_len}
use Rattle.tc_model.specs.declared.config.Config.{Config}
use Rattle.tc_model.specs.declared.calls.Script.{Script}
use Rattle.name_table.specs.declared.table.NameState.TheVariants as name
use Rattle.call_steps.specs.Calls.{About}
use Rattle.call_steps.specs.Fronts.{FrontRules}
use Rattle.call_steps.specs.Local.{Local, first_local}
use Rattle.alloc_rules.specs.Machine.{Parts, first_parts}
use Rattle.tc_machine.specs.Inputs.{script_at}

module _ {P V R : Type 0} (r : FrontRules P V R) (about : R → About) where
  -- the first parts under these limits, with so many labels
  abbrev pub parts_at : Config → ℕ → Parts P
  parts_at config labels = record (first_parts r about (record { config = config; calls = [] })) { names = replicate labels name.Unpublished }

  -- a thread for each script
  abbrev pub local_at : List Script → ℕ → Local V R
  local_at scripts t = first_local r.calls (record { 0 = t }) (r.seats t) (script_at scripts t)

  abbrev pub locals_at : List Script → List (Local V R)
  locals_at scripts = map (local_at scripts) (range_with_len 0 (length scripts))
