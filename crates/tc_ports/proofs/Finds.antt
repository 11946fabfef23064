-- A scan of files for a name, one file on.
use Rattle.std.proofs.Common.{◌≡◌, ℕ, ◌+◌, ◌<◌, Bool, true, false, cond, List, ◌∷◌, map, length, get_or, drop, Some, sym, ap, ◌∙◌, nat_eq}
use Rattle.std.specs.Prelude.{Option}
use Rattle.std.specs.Ordering.{nat_cmp}
use Rattle.std.specs.Cmp.Lexicographic.{slice_cmp, pointwise, texts_ties, nat_list_cmp_total}
use Rattle.std.specs.String.{string_bytes}
use Rattle.std.specs.FinMap.{find, get, get-from_entries}
use Rattle.std.proofs.lemmas.List.{drop_more}
use Rattle.tc_ports.specs.declared.mem_shelf.Shelved.{Shelved}
use Rattle.tc_ports.specs.Shelved.{entry_of, files_of}

-- what a scan finds
abbrev pub found : List ℕ → List Shelved → Option (List ℕ)
found name files = find (slice_cmp nat_cmp) name (map entry_of files)

found_at : (name : List ℕ) (files : List Shelved) (i : ℕ) (file : Shelved) (same : Bool)
    → i < length files → file ≡ get_or files i file → pointwise nat_eq name (string_bytes file.name) ≡ same
    → found name (drop i files) ≡ cond same (Some file.bytes.items) (found name (drop (i + 1) files))
found_at name files i file same within is test =
    ap (found name) (drop_more files i file within)
    ∙ ap (λ (f : Shelved). found name (f ∷ drop (i + 1) files)) (sym is)
    ∙ ap (λ (b : Bool). cond b (Some file.bytes.items) (found name (drop (i + 1) files)))
    (sym (texts_ties name (string_bytes file.name)) ∙ test)

pub found_here : (name : List ℕ) (files : List Shelved) (i : ℕ) (file : Shelved)
    → i < length files → file ≡ get_or files i file → pointwise nat_eq name (string_bytes file.name) ≡ true
    → found name (drop i files) ≡ Some file.bytes.items
found_here name files i file within is test = found_at name files i file true within is test

pub found_later : (name : List ℕ) (files : List Shelved) (i : ℕ) (file : Shelved)
    → i < length files → file ≡ get_or files i file → pointwise nat_eq name (string_bytes file.name) ≡ false
    → found name (drop i files) ≡ found name (drop (i + 1) files)
found_later name files i file within is test = found_at name files i file false within is test

-- the map of the files has what a scan finds
pub files_found : (files : List Shelved) (name : List ℕ) → get (files_of files) name ≡ found name files
files_found files name = get-from_entries nat_list_cmp_total (map entry_of files) name
