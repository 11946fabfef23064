-- Calls whose labels are new one after another.
use Rattle.std.proofs.Common.{◌≡◌, ℕ, List, [], ◌∷◌, ◌++◌, length, drop, take, sym, ap, ◌∙◌, arith}
use Rattle.std.proofs.lemmas.List.{append-nil, append_assoc, length-append, take-append-drop}
use Rattle.tc_model.specs.declared.answers.CallLine.{CallLine}
use Rattle.tc_model.specs.declared.calls.Call.{Call}
use Rattle.tc_model.specs.declared.calls.Call.TheVariants.{Malloc, Free}
use Rattle.heap_sample.specs.Samples.{IsFirstUse}
use Rattle.heap_sample.specs.Profiles.{AreFirstUses}

abbrev pub FirstUsesFrom : List CallLine → List CallLine → Type 0
FirstUsesFrom before [] = Unit {0}
FirstUsesFrom before (c ∷ calls) = IsFirstUse before c.call × FirstUsesFrom (before ++ c ∷ []) calls

uses_behind : (before calls : List CallLine) → FirstUsesFrom before calls → (earlier : List CallLine) (c : CallLine) (later : List CallLine)
    → earlier ++ c ∷ later ≡ calls → IsFirstUse (before ++ earlier) c.call
uses_behind before [] uses earlier c later is = absurd (omega (arith, ap length is, length-append earlier (c ∷ later)))
uses_behind before (d ∷ calls) uses [] c later is = grind (arith, append-nil)
uses_behind before (d ∷ calls) uses (x ∷ earlier) c later is =
    grind (arith, uses_behind (before ++ d ∷ []) calls uses.1 earlier c later (ap (λ (xs : List CallLine). drop 1 xs) is), append_assoc)

-- the call of a line
pub record IsOf (l : CallLine) (k : Call) : Type 0 where
  pub call : l.call ≡ k

pub call_of : {l m : CallLine} {k : Call} → l ≡ m → m.call ≡ k → IsOf l k
call_of e h = record { call = ap (λ (x : CallLine). x.call) e ∙ h }

abbrev pub allocates : ℕ → ℕ → Call
allocates label size = Malloc (record { 0 = label }) size

abbrev pub frees : ℕ → Call
frees label = Free (record { 0 = label })

pub first_uses : (calls : List CallLine) → FirstUsesFrom [] calls → AreFirstUses calls
first_uses calls uses earlier c later is = uses_behind [] calls uses earlier c later is

-- the first ones of such calls are such calls
pub first_of : (calls : List CallLine) (k : ℕ) → AreFirstUses calls → AreFirstUses (take k calls)
first_of calls k uses earlier c later is =
    uses earlier c (later ++ drop k calls) (sym (append_assoc earlier (c ∷ later) (drop k calls)) ∙ ap (λ (xs : List CallLine). xs ++ drop k calls) is ∙ take-append-drop k calls)
