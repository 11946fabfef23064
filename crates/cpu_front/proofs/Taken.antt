-- The caches take every call of a trace.
use Rattle.std.proofs.Common.{◌≡◌, ℕ, true, List, [], ◌∷◌, Option, Some, None, refl, ap, ◌∙◌}
use Rattle.std.specs.Prelude.{fold}
use Rattle.tc_model.specs.declared.calls.Planned.{Planned}
use Rattle.tc_model.specs.declared.calls.Script.{Script}
use Rattle.tc_model.specs.Input.{ThreadCall}
use Rattle.alloc_rules.specs.Inputs.{not_taken}
use Rattle.tc_machine.specs.Taken.{lesser, refused_at, refused_in, refused_line}

pub all_taken : (calls : List ThreadCall) → not_taken (λ call. true) calls ≡ 0
all_taken [] = refl
all_taken (c ∷ cs) = all_taken cs

-- so that no line is refused
less_none : (line : Option ℕ) → lesser line None ≡ line
less_none None = refl
less_none (Some line) = refl

none_in : (script : List Planned) (least : Option ℕ) → fold (λ so (p : Planned). lesser so (refused_at (λ call. true) p)) least script ≡ least
none_in [] least = refl
none_in (p ∷ ps) least = none_in ps (lesser least None) ∙ less_none least

none_of : (scripts : List Script) (least : Option ℕ) → fold (λ so (s : Script). lesser so (refused_in (λ call. true) s.calls)) least scripts ≡ least
none_of [] least = refl
none_of (s ∷ ss) least = none_of ss (lesser least (refused_in (λ call. true) s.calls)) ∙ (ap (lesser least) (none_in s.calls None) ∙ less_none least)

pub none_refused : (scripts : List Script) → refused_line (λ call. true) scripts ≡ None
none_refused scripts = none_of scripts None
