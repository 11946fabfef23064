-- Before an act the thread's account is in the books.
use Rattle.std.proofs.Common.{◌≡◌, ℕ, List, Some, slice_get, arith}
use Rattle.alloc_rules.proofs.Common.{slice_get-map, Books, Local, About, AreBooksOf, account_of, FrontRules, Parts}

pub account_at : {P V R : Type 0} {r : FrontRules P V R} {about : R → About} {p : Parts P} {locals : List (Local V R)} {b : Books} {l : Local V R} (t : ℕ)
    → AreBooksOf r about p locals b → slice_get locals t ≡ Some l → slice_get b.accounts t ≡ Some (account_of about l)
account_at {about = about} {locals = locals} t books local = grind (arith, slice_get-map)
