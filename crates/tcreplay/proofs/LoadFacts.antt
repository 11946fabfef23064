-- What a load of a file gives, and what is made of it.
use Rattle.std.proofs.Common.{◌≡◌, ℕ, ◌+◌, ◌<◌, ◌≤◌, inl, inr, cond, List, [], length, Option, Some, None, Ok, Err, refl, sym, ap, subst, arith}
use Rattle.std.specs.Prelude.{IsNone, IfSome, IsSomeAnd, replicate}
use Rattle.std.specs.FinMap.{get}
use Rattle.std.proofs.lemmas.Bool.{lt-ltb, le-ltb}
use Rattle.std.proofs.lemmas.List.{length-replicate}
use Rattle.tc_ports.specs.Faults.{one_more}
use Rattle.std.specs.Prelude.{Vec}
use Rattle.std.specs.Global.{Global}
use Rattle.tc_ports.specs.declared.shelf.LoadFault.{LoadFault}
use Rattle.tc_ports.specs.declared.shelf.LoadFault.TheVariants as load
use Rattle.tc_ports.specs.Shelves.{Files, Refused, LoadCounted}
use Rattle.tc_ports.specs.Ends.{Shelving}
use Rattle.tcreplay.specs.declared.outcome.End.{End}
use Rattle.tcreplay.specs.declared.outcome.End.TheVariants.{TooLong}
use Rattle.tcreplay.specs.Verdict.{within, file_within}
use Rattle.tcreplay.specs.Reads.{load_end, IsFile, IsLoad}

-- bytes that aren't more than a limit, and bytes that are
pub within_ok : (limit : ℕ) (bytes : List ℕ) → length bytes ≤ limit → within limit bytes ≡ Ok bytes
within_ok limit bytes short = ap (λ b. cond b (Err (TooLong limit)) (Ok bytes)) (le-ltb limit (length bytes) short)

pub within_long : (limit : ℕ) (bytes : List ℕ) → limit < length bytes → within limit bytes ≡ Err (TooLong limit)
within_long limit bytes long = ap (λ b. cond b (Err (TooLong limit)) (Ok bytes)) (lt-ltb limit (length bytes) long)

-- one byte more than a limit
abbrev pub too_many : ℕ → List ℕ
too_many limit = replicate (limit + 1) 0

pub too_many_long : (limit : ℕ) → limit < length (too_many limit)
too_many_long limit = omega (arith, length-replicate {A = ℕ} (limit + 1) 0)

-- a file that is told, or else some file
abbrev pub some_file : Option Files → List ℕ → Option (List ℕ)
some_file None name = Some []
some_file (Some all) name = get all name

pub some_file_is : (files : Option Files) (name : List ℕ) → IsFile files name (some_file files name)
some_file_is None name = refl
some_file_is (Some all) name = refl

-- the file that was given, one that is missing, and one that is too long
pub given_is : (files : Option Files) (name bytes : List ℕ) → IfSome files (λ all. get all name ≡ Some bytes) → IsFile files name (Some bytes)
given_is None name bytes told = refl
given_is (Some all) name bytes told = sym told

pub missing_is : (files : Option Files) (name : List ℕ) → (IsNone files → ⊥) → IfSome files (λ all. get all name ≡ None) → IsFile files name None
missing_is None name told is = absurd (told refl)
missing_is (Some all) name told is = sym is

long_one : (file : Option (List ℕ)) (limit : ℕ) → IsSomeAnd file (λ bytes. limit < length bytes) → file_within limit file ≡ Err (TooLong limit)
long_one None limit long = absurd long
long_one (Some bytes) limit long = within_long limit bytes long

pub long_is : (files : Option Files) (name : List ℕ) (limit : ℕ) → IfSome files (λ all. IsSomeAnd (get all name) (λ bytes. limit < length bytes))
    → (file : Option (List ℕ)) × IsFile files name file × (file_within limit file ≡ Err (TooLong limit))
long_is None name limit long = (Some (too_many limit), refl, within_long limit (too_many limit) (too_many_long limit))
long_is (Some all) name limit long = (get all name, refl, long_one (get all name) limit long)

-- a load that gave its bytes, and one that didn't
pub load_ok : (name : List ℕ) (limit : ℕ) (before after : Shelving) (bytes : Vec ℕ Global) → length bytes.items ≤ limit
    → IfSome before.files (λ all. get all name ≡ Some bytes.items) → after.files ≡ before.files → after.loads ≡ one_more before.loads
    → after.faults ≡ before.faults → IsLoad (λ (v : Vec ℕ Global). v.items) (file_within limit) name before after (Ok bytes)
load_ok name limit before after bytes short whole files once count =
    grind (arith, given_is before.files name bytes.items whole, within_ok limit bytes.items short)

failed_load : (name : List ℕ) (limit : ℕ) (before after : Shelving) (fault : LoadFault) → IfSome before.files (λ all. Refused (get all name) limit fault)
    → (IsNone before.files → fault ≡ load.Missing → ⊥) → after.files ≡ before.files → after.loads ≡ one_more before.loads
    → LoadCounted fault before.faults after.faults → IsLoad (λ (v : Vec ℕ Global). v.items) (file_within limit) name before after (Err (load_end limit fault))
failed_load name limit before after load.Failed refused untold files once count =
    record { file = some_file before.files name; told = some_file_is before.files name; step = inr (inr (refl, count)); files = files; once = once }
failed_load name limit before after load.Missing refused untold files once count =
    record { file = None; told = missing_is before.files name (λ none. untold none refl) refused; step = inl (refl, count); files = files; once = once }
failed_load name limit before after load.TooLong refused untold files once count = grind (arith, long_is before.files name limit refused)
failed_load name limit before after load.Memory refused untold files once count =
    record { file = some_file before.files name; told = some_file_is before.files name; step = inr (inl (refl, count)); files = files; once = once }

pub load_fails : (name : List ℕ) (limit : ℕ) (before after : Shelving) (fault : LoadFault) (end : End) → end ≡ load_end limit fault
    → IfSome before.files (λ all. Refused (get all name) limit fault) → (IsNone before.files → fault ≡ load.Missing → ⊥) → after.files ≡ before.files
    → after.loads ≡ one_more before.loads → LoadCounted fault before.faults after.faults
    → IsLoad (λ (v : Vec ℕ Global). v.items) (file_within limit) name before after (Err end)
load_fails name limit before after fault end is refused untold files once count =
    subst (λ e. IsLoad (λ (v : Vec ℕ Global). v.items) (file_within limit) name before after (Err e)) (sym is) (failed_load name limit before after fault refused untold files once count)
