use Rattle.std.proofs.Common.{◌≡◌, ℕ, ◌*◌, Bool, true, false, cond, List, length, take, drop, eqb, refl, sym, ap, ◌∙◌, arith}
use Rattle.huge_table.proofs.Common.{used_count, Hugepage, spans, Table, emptied_where, over_span, noted_row, HasBits, table_of, AreKept, nat_tests}
use Rattle.huge_table.proofs.Common.{Inside, each_is}
use Rattle.huge_table.proofs.Sizes.{arena}
use Rattle.huge_table.proofs.table.HugeTable.empty_unused.Goals as goal

noted : (t : Table) (row : List Bool) (h : ℕ) (b : Bool) → row ≡ t.used → b ≡ eqb (used_count (take 256 (drop (256 * h) row))) 0 → b ≡ eqb (used_count (noted_row t h)) 0
noted t row h b same count = count ∙ ap (λ (r : List Bool). eqb (used_count (take 256 (drop (256 * h) r))) 0) same

room : (t : Inside) (now : Table) → table_of t ≡ now → AreKept t → HasBits now
room t now view kept = let size = arena t now view in let used = ap (λ (x : Table). length x.used) view in omega (arith, kept.used)

stays : (t : Table) (h : ℕ) → t ≡ over_span h 1 (emptied_where false) t
stays t h = ap (λ (xs : List Hugepage). record t { pages = xs }) (sym (each_is (λ k x. cond (spans 1 k h) (emptied_where false x) x) t.pages t.pages refl (λ k some inside. same (spans 1 k h) _)))
  where
    same : (b : Bool) (x : Hugepage) → cond b (emptied_where false x) x ≡ x
    same true x = refl
    same false x = refl

pub returns-then-has_none : goal.returns-then-has_none
returns-then-has_none c = grind (arith, nat_tests, noted, room)

pub returns-else-has_none : goal.returns-else-has_none
returns-else-has_none c = record {
  table = stays c.args.self.now c.args.place ∙ ap (λ (b : Bool). over_span c.args.place 1 (emptied_where b) c.args.self.now)
      (noted c.args.self.now c.self.inside.used c.args.place false (ap (λ (x : Table). x.used) c.self.view_is) (sym c.if-has_none.false ∙ c.has_none.ensures));
  room = room c.self.inside c.args.self.now c.self.view_is c.self.invariant;
}
