-- What holds of a thread at the start and is kept by each pick, its own and those of others, holds of it after every order.
use Rattle.std.proofs.Common.{◌≡◌, ℕ, ◌<◌, false, List, [], ◌∷◌, ◌++◌, length, map, Some, refl, sym, ap, ◌∙◌, subst, arith, option_map, slice_get}
use Rattle.std.proofs.lemmas.List.Sums.{fold-append}
use Rattle.alloc_rules.proofs.Common.{range_with_len, slice_get-map, slice_get_within, length-map, length-range_with_len, PartNo, MOST_PICKS, Asked, World, run, IsOrder, IsKeptWith}
use Rattle.alloc_rules.proofs.Common.{run_keeps_with, Planned, Regs, Local, About, Part, Standing, IsLawful, FrontRules, place_of, after, waits, rules, IsValid}
use Rattle.alloc_rules.specs.Machine.{first_of}
use Rattle.tc_model.specs.Run.{start, pick}
use Rattle.tc_model.proofs.MovingFacts.{pick_moves}
use Rattle.std.proofs.Common.{slice_set, ◌≤◌}
use Rattle.alloc_rules.proofs.Common.{Path}
use Rattle.tc_model.proofs.Lists.{set_here}
use Rattle.alloc_rules.proofs.{Reached.reached, Serving.Moment}
use Rattle.alloc_rules.proofs.{First.number_at, First.served_first, Runs.served_kept, Serving.IsServed, Sets.each_set}

same_local : {X : Type 0} (x y : X) → Some x ≡ Some y → x ≡ y
same_local x y is = cc

module _ {P V R : Type 0} {r : FrontRules P V R} {about : R → About} {planned : Planned → Type 0} {Holds : ℕ → List P → List (Standing V R) → Type 0}
    {fits : P → V → Regs → R → Type 0} (law : IsLawful r about planned Holds fits) {asked : Asked} (valid : IsValid r.calls.rows planned asked)
    (Keeps : List ℕ → ℕ → Local V R → Type 0) where
  -- A pick of thread t, which moves, behind an order: the world then, the thread's local, and the part that this wants.
  pub record Picks (past : List ℕ) (w : World (Part P) (Local V R)) (t : ℕ) (l : Local V R) (place : PartNo) (q : Part P) : Type 0 where
    pub few : length past < MOST_PICKS
    pub is : w ≡ run (rules r about asked) past
    pub served : IsServed r about planned Holds asked w past
    pub local : slice_get w.locals t ≡ Some l
    pub want : place_of r about l ≡ Some place
    pub there : slice_get w.parts place.0 ≡ Some q
    pub goes : waits q l ≡ false

  pub record IsKeptAlong : Type 0 where
    pub first : (t : ℕ) → Keeps [] t (first_of r about asked t)
    pub own : (past : List ℕ) (w : World (Part P) (Local V R)) (t : ℕ) (l : Local V R) (place : PartNo) (q : Part P) → Picks past w t l place q → Keeps past t l → Keeps (past ++ t ∷ []) t (after r about q l).1
    pub other : (past : List ℕ) (t u : ℕ) (k : Local V R) → (t ≡ u → ⊥) → Keeps past u k → Keeps (past ++ t ∷ []) u k

  record Along (w : World (Part P) (Local V R)) (past : List ℕ) : Type 0 where
    served : IsServed r about planned Holds asked w past
    is : w ≡ run (rules r about asked) past
    all : (t : ℕ) (l : Local V R) → slice_get w.locals t ≡ Some l → Keeps past t l

  module _ (kept : IsKeptAlong) where
    along_first : Along (start (rules r about asked)) []
    along_first =
        record {
          served = served_first law valid;
          is = refl;
          all = λ t l at.
              (let n : ℕ = asked.config.threads in
              let within = slice_get_within (map (first_of r about asked) (range_with_len 0 n)) t l at in
              let below : t < n = omega (arith, within, length-map (range_with_len 0 n) (first_of r about asked), length-range_with_len 0 n) in
              let is = slice_get-map (first_of r about asked) (range_with_len 0 n) t ∙ ap (option_map (first_of r about asked)) (number_at n t below) in
              subst (Keeps [] t) (same_local (first_of r about asked t) l (sym is ∙ at)) (kept.first t));
        }

    along_kept : IsKeptWith MOST_PICKS (rules r about asked) Along
    along_kept w past t l place q few along local want there goes =
        let picks : Picks past w t l place q = record { few = few; is = along.is; served = along.served; local = local; want = want; there = there; goes = goes } in
        record {
          served = served_kept law valid w past t l place q few along.served local want there goes;
          is = sym (fold-append (pick (rules r about asked)) (start (rules r about asked)) past (t ∷ []) ∙ (ap (λ v. pick (rules r about asked) v t) (sym along.is)
              ∙ pick_moves (rules r about asked) w t (record { local = l; place = place; part = q; local_there = local; wants = want; part_there = there; goes = goes })));
          all = each_set (Keeps (past ++ t ∷ [])) w.locals t (after r about q l).1 l local (kept.own past w t l place q picks (along.all t l local))
              (λ u k apart is. kept.other past t u k apart (along.all u k is));
        }

    -- after every order of picks that move
    pub along : (order : List ℕ) → IsOrder (rules r about asked) order → (t : ℕ) (l : Local V R) → slice_get (run (rules r about asked) order).locals t ≡ Some l → Keeps order t l
    along order of = (run_keeps_with MOST_PICKS (rules r about asked) Along along_kept along_first order of.few of.moves).all

  -- such a pick goes on within its call, or ends it
  pub path_of : (past : List ℕ) (w : World (Part P) (Local V R)) (t : ℕ) (l : Local V R) (place : PartNo) (q : Part P) → Picks past w t l place q → Path r.calls about l (after r about q l).1
  path_of past w t l place q picks =
      let good = picks.served in
      let here : slice_get good.locals t ≡ Some l = ap (λ (v : World (Part P) (Local V R)). slice_get v.locals t) (sym good.is) ∙ picks.local in
      let few : length past ≤ MOST_PICKS = omega (arith, picks.few) in
      let now : Moment r about planned Holds asked good.parts good.locals good.books past t l =
      record { placed = good.placed; books = good.books_of; facts = good.facts; front = good.front; works = good.works; of = good.of; local = here; few = few }
      in
      let found = reached law valid now l.step refl place picks.want in
      let there = ap (λ (v : World (Part P) (Local V R)). slice_get v.parts place.0) good.is ∙ found.there in
      let same : found.part ≡ q = same_local found.part q (sym there ∙ picks.there) in
      let g = found.goes (subst (λ (x : Part P). waits x l ≡ false) (sym same) picks.goes) in
      let sets : slice_set good.locals t (after r about found.part l).1 ≡ slice_set good.locals t g.left = ap (λ (v : World (Part P) (Local V R)). v.locals) g.is in
      let left : (after r about found.part l).1 ≡ g.left =
      same_local _ _ (sym (set_here good.locals t (after r about found.part l).1 l here) ∙ (ap (λ zs. slice_get zs t) sets ∙ set_here good.locals t g.left l here))
      in
      subst (λ (x : Part P). Path r.calls about l (after r about x l).1) same (subst (λ (x : Local V R). Path r.calls about l x) (sym left) g.acted.path)
