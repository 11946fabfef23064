-- How a call goes on behind its last span, and what that makes of its account.
use Rattle.std.proofs.Common.{◌≡◌, List, [], sym, subst, arith}
use Rattle.alloc_rules.proofs.Common.{Addr, ClassRow, Other, Onward, FrontCalls, AreEntries, Local, ends, clears, About}
use Rattle.alloc_rules.proofs.Common.{about_onward, doing_about, IsOnward}
use Rattle.alloc_rules.proofs.Weighing.{bare, quiet, weighs_same}
use Rattle.alloc_rules.proofs.Goings.{Silent, comes_as, ends_as, other_doing}

module _ {V R : Type 0} (e : FrontCalls V R) (about : R → About) (entries : AreEntries e about) where
  -- with an empty hand a call ends, or goes on without a label
  closed : (l after : Local V R) → l.regs.hand.items ≡ [] → Silent about l after (quiet l.regs.class.0 l.rest) → Silent about l after (bare Other l.regs.class.0 l.regs.hand.items l.rest)
  closed l after none closes = subst (λ (h : List Addr). Silent about l after (bare Other l.regs.class.0 h l.rest)) (sym none) closes

  pub ends_silent : (l : Local V R) → l.regs.hand.items ≡ [] → Silent about l (ends e l) (bare Other l.regs.class.0 l.regs.hand.items l.rest)
  ends_silent l none = closed l (ends e l) none (ends_as e about entries l l.regs.class.0 none)

  pub onward_silent : (rows : List ClassRow) (l : Local V R) (next : Onward R) → IsOnward rows about next → l.regs.hand.items ≡ []
      → Silent about l (clears e l next []) (bare (doing_about (about_onward about next)) l.regs.class.0 l.regs.hand.items l.rest)
  onward_silent rows l next is none = grind (arith, weighs_same, bare, closed, comes_as, other_doing, ends_silent)
