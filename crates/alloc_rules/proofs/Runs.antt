-- Every run: what holds at the start holds after every order, and each part that is wanted is there and fits.
use Rattle.std.proofs.Common.{◌≡◌, ℕ, ◌≤◌, false, List, [], ◌∷◌, ◌++◌, length, Some, refl, sym, ap, ◌∙◌, subst, arith, slice_get, slice_set}
use Rattle.alloc_rules.proofs.Common.{PartNo, MOST_PICKS, Asked, World, world_of, with_pair, run, FitsThere, IsOrder, IsKeptWith, run_keeps_with, Planned}
use Rattle.alloc_rules.proofs.Common.{Regs, Local, About, Part, Standing, IsLawful, FrontRules, parts_of, place_of, after, waits, rules, Fits, IsValid}
use Rattle.tc_model.specs.Sound.{IsSound}
use Rattle.alloc_rules.proofs.{First.served_first, Reached.Reached, Reached.reached, Serving.IsServed, Serving.Moment, Serving.is_pick, Serving.served}
use Rattle.alloc_rules.specs.Law.{IsPick}
use Rattle.tc_model.proofs.Lists.{set_here}

-- two lists with one place set alike are set to the same there
set_is : {X : Type 0} (xs : List X) (t : ℕ) (l x y : X) → slice_get xs t ≡ Some l → slice_set xs t x ≡ slice_set xs t y → x ≡ y
set_is xs t l x y here same = let e : Some x ≡ Some y = sym (set_here xs t x l here) ∙ (ap (λ zs. slice_get zs t) same ∙ set_here xs t y l here) in cc

module _ {P V R : Type 0} {r : FrontRules P V R} {about : R → About} {planned : Planned → Type 0} {Holds : ℕ → List P → List (Standing V R) → Type 0}
    {fits : P → V → Regs → R → Type 0} (law : IsLawful r about planned Holds fits) {asked : Asked} (valid : IsValid r.calls.rows planned asked)
    (w : World (Part P) (Local V R)) (order : List ℕ) (few : length order ≤ MOST_PICKS) (good : IsServed r about planned Holds asked w order) (t : ℕ)
    (l : Local V R) (local : slice_get w.locals t ≡ Some l) (place : PartNo) (want : place_of r about l ≡ Some place) where
  here : slice_get good.locals t ≡ Some l
  here = ap (λ (v : World (Part P) (Local V R)). slice_get v.locals t) (sym good.is) ∙ local

  now : Moment r about planned Holds asked good.parts good.locals good.books order t l
  now = grind (arith, here)

  found : Reached law valid now place.0
  found = reached law valid now l.step refl place want

  there : slice_get w.parts place.0 ≡ Some found.part
  there = ap (λ (v : World (Part P) (Local V R)). slice_get v.parts place.0) good.is ∙ found.there

  ready : FitsThere (Fits r.calls.rows fits) w place.0 l
  ready = record { part = found.part; there = there; fit = found.fit }

  goes_on : (q : Part P) → slice_get w.parts place.0 ≡ Some q → waits q l ≡ false → IsServed r about planned Holds asked (with_pair w place.0 t (after r about q l)) (order ++ t ∷ [])
  goes_on q is goes =
      let same : found.part ≡ q = let e : Some found.part ≡ Some q = sym there ∙ is in cc in
      let g = found.goes (subst (λ (x : Part P). waits x l ≡ false) (sym same) goes) in
      let next : IsServed r about planned Holds asked (with_pair (world_of (parts_of r.split good.parts) good.locals) place.0 t (after r about found.part l)) (order ++ t ∷ []) =
      served now law.entries g.acted (with_pair (world_of (parts_of r.split good.parts) good.locals) place.0 t (after r about found.part l)) g.is good.count good.tells
      in
      subst (λ (x : Part P). IsServed r about planned Holds asked (with_pair w place.0 t (after r about x l)) (order ++ t ∷ [])) same
      (subst (λ (v : World (Part P) (Local V R)). IsServed r about planned Holds asked (with_pair v place.0 t (after r about found.part l)) (order ++ t ∷ [])) (sym good.is) next)

  picked : (q : Part P) → slice_get w.parts place.0 ≡ Some q → waits q l ≡ false → IsPick r about asked w.locals order t l (after r about q l).1
  picked q is goes =
      let same : found.part ≡ q = let e : Some found.part ≡ Some q = sym there ∙ is in cc in
      let g = found.goes (subst (λ (x : Part P). waits x l ≡ false) (sym same) goes) in
      let sets : slice_set good.locals t (after r about found.part l).1 ≡ slice_set good.locals t g.left = ap (λ (v : World (Part P) (Local V R)). v.locals) g.is in
      let left : (after r about found.part l).1 ≡ g.left = set_is good.locals t l (after r about found.part l).1 g.left here sets in
      let now_is : good.locals ≡ w.locals = ap (λ (v : World (Part P) (Local V R)). v.locals) (sym good.is) in
      subst (λ (x : Part P). IsPick r about asked w.locals order t l (after r about x l).1) same
      (subst (λ (x : Local V R). IsPick r about asked w.locals order t l x) (sym left)
      (subst (λ (xs : List (Local V R)). IsPick r about asked xs order t l g.left) now_is (is_pick now law.entries g.acted)))

module _ {P V R : Type 0} {r : FrontRules P V R} {about : R → About} {planned : Planned → Type 0} {Holds : ℕ → List P → List (Standing V R) → Type 0}
    {fits : P → V → Regs → R → Type 0} (law : IsLawful r about planned Holds fits) {asked : Asked} (valid : IsValid r.calls.rows planned asked) where
  pub served_kept : IsKeptWith MOST_PICKS (rules r about asked) (IsServed r about planned Holds asked)
  served_kept w order t l place q few good local want there goes = goes_on law valid w order (omega (arith, few)) good t l local place want q there goes

  -- after every order of picks that move
  pub served_order : (order : List ℕ) → IsOrder (rules r about asked) order → IsServed r about planned Holds asked (run (rules r about asked) order) order
  served_order order of =
      run_keeps_with MOST_PICKS (rules r about asked) (IsServed r about planned Holds asked) served_kept (served_first law valid) order of.few of.moves

  -- each pair that a pick takes fits
  pub sound : IsSound (rules r about asked) (Fits r.calls.rows fits)
  sound order t of l place local want = ready law valid (run (rules r about asked) order) order of.few (served_order order of) t l local place want

  -- what each pick makes of its thread
  pub picks_are : (order : List ℕ) (t : ℕ) (l : Local V R) (place : PartNo) (part : Part P) → IsOrder (rules r about asked) order
      → slice_get (run (rules r about asked) order).locals t ≡ Some l → place_of r about l ≡ Some place
      → slice_get (run (rules r about asked) order).parts place.0 ≡ Some part → waits part l ≡ false
      → IsPick r about asked (run (rules r about asked) order).locals order t l (after r about part l).1
  picks_are order t l place part of local want at goes = picked law valid (run (rules r about asked) order) order of.few (served_order order of) t l local place want part at goes
