use Rattle.std.proofs.Common.{ap, ◌∙◌, map}
use Rattle.tc_model.specs.declared.calls.Script.{Script}
use Rattle.tc_model.specs.Input.{script_of}
use Rattle.trace_reader.specs.Kept.{calls_of}
use Rattle.trace_reader.proofs.Joins.{scripts-first}
use Rattle.trace_reader.proofs.calls.Calls.into_scripts.Goals as goal

pub returns-clause-scripts : goal.returns-clause-scripts
returns-clause-scripts c =
    c.in_ok-scripts.ensures
    ∙ ap (map {B = Script} (λ v. record { calls = v })) c.truncate.ensures.items
    ∙ scripts-first c.args.self.scripts.items (λ t. script_of t (calls_of c.args.self)) c.args.threads c.requires.room c.requires.kept.scripts
