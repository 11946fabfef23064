-- The allocator over a front-end as a machine of an input.
use Rattle.tc_model.specs.Input.{Input}
use Rattle.tc_model.specs.Run.{Rules}
use Rattle.call_steps.specs.declared.setting.Setting.{Setting}
use Rattle.call_steps.specs.Calls.{About}
use Rattle.call_steps.specs.Fronts.{FrontRules}
use Rattle.call_steps.specs.Local.{Local}
use Rattle.alloc_rules.specs.declared.part.Part.{Part}
use Rattle.alloc_rules.specs.Inputs.{setting_of}
use Rattle.alloc_rules.specs.Machine.{rules}

-- its rules, over the front-end that the input's setting opens
abbrev pub rules_in : {P V R : Type 0} → (Setting → FrontRules P V R) → (R → About) → Input → Rules (Part P) (Local V R)
rules_in fronts about input = rules (fronts (setting_of input)) about input.asked
