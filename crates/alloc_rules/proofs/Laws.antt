-- The laws of the rules over any front-end that meets its law, for every valid trace.
use Rattle.std.proofs.Common.{ℕ, List}
use Rattle.alloc_rules.proofs.Common.{Planned, Asked, Regs, About, Standing, IsLawful, FrontRules, IsValid, HoldsAfter, AreLawful}
use Rattle.alloc_rules.proofs.{Afterwards.holds_after, Runs.picks_are, Runs.served_order, Runs.sound}
use Rattle.alloc_rules.proofs.SerialLaws.{are_threads, ends, never_waits, rises}

pub in_every_order : {P V R : Type 0} (r : FrontRules P V R) (about : R → About) (planned : Planned → Type 0) (Holds : ℕ → List P → List (Standing V R) → Type 0)
    (fits : P → V → Regs → R → Type 0) (law : IsLawful r about planned Holds fits) (asked : Asked) (valid : IsValid r.calls.rows planned asked)
    → AreLawful r about asked fits (HoldsAfter r about Holds asked)
in_every_order r about planned Holds fits law asked valid =
    record {
      sound = sound law valid;
      threads = are_threads law valid;
      never_waits = never_waits law valid;
      rises = rises law valid;
      ends = ends law valid;
      picks = picks_are law valid;
      holds = λ order of. holds_after law valid order of.few (served_order law valid order of);
    }
