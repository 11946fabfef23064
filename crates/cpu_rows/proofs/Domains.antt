-- Acts at the cache of a class in a domain.
use Rattle.std.proofs.Common.{◌≡◌, ◌≢◌, refl, ℕ, ◌+◌, ◌-◌, ◌<◌, ◌≤◌, Bool, cond, List, ◌++◌, length, drop, ap, sym, arith}
use Rattle.cpu_rows.proofs.Common.{cond_both, eq-eqb, ne_eqb, leb-true, length-append, length-take, length-drop, length-reverse, Addr, Class, ClassRow}
use Rattle.cpu_rows.proofs.Common.{Config, Regs, HAND_ROOM, LOADED_ROOM, emptied, room, Transfer, last_first, without_last, objects_at, CpuSeat}
use Rattle.cpu_rows.proofs.Common.{Asking, Giving, CpuStep, DomainStep, Next, no_class, row_of, leaving, takes, domain_acts}
use Rattle.cpu_rows.proofs.Common.{about_row, as_row, FitsDomain, AreRows, DomainShape, HasRoom, Here, at_next, regs_next, IsNext, IsAct}
use Rattle.cpu_rows.proofs.Common.{Domain, cpu_stored, cpu_front, limits_of, objects_append, objects_last}
use Rattle.call_steps.specs.declared.step.Next.TheVariants as next
use Rattle.cpu_rows.specs.declared.row.CpuRow.TheVariants as front
use Rattle.cpu_rows.specs.declared.row.DomainStep.TheVariants as domain
use Rattle.cpu_rows.specs.CpuActs as acts
use Rattle.cpu_rows.proofs.{Acts.gives_to_shard, Threads.Comes, Threads.KeepsRegs}

-- a cache has the objects of its class alone
stored_own : (k : Class) (q : Transfer) (n : ℕ) → cpu_stored (Domain k q) k.0 n ≡ objects_at n q.objects
stored_own k q n = ap (λ (b : Bool). cond b (objects_at n q.objects) 0) (eq-eqb k.0 k.0 refl)

stored_other : (k : Class) (q : Transfer) (j n : ℕ) → j ≢ k.0 → cpu_stored (Domain k q) j n ≡ 0
stored_other k q j n apart = ap (λ (b : Bool). cond b (objects_at n q.objects) 0) (ne_eqb k.0 j (λ e. apart (sym e)))

module _ (rows : List ClassRow) (c : Config) (t : ℕ) (q : Transfer) (v : CpuSeat) (g : Regs) where
  -- What an act leaves: it moves objects, its cache has room, and the thread comes on.
  pub record Leaves (row : DomainStep) (x : acts.Left Transfer) : Type 0 where
    pub seat : x.seat ≡ v
    pub act : IsAct (cpu_front rows c) about_row (Domain g.class q) g (front.Domain row) (leaving (Domain g.class x.part) x.seat x.regs x.next)
    pub room : HasRoom c.transfer q → HasRoom c.transfer x.part
    pub keeps : KeepsRegs rows c g (regs_next x.regs x.next)
    pub comes : Comes rows c v g (regs_next x.regs x.next) (Here (front.Domain row)) (at_next x.next)

  -- it comes there, and moves these objects
  record Goes (row : DomainStep) (new : Transfer) (r : Regs) (n : Next) : Type 0 where
    pub thread : r.thread ≡ g.thread
    pub class : r.class ≡ g.class
    pub hand : room r.hand ≡ room g.hand
    pub moves : (n : ℕ) → objects_at n new.objects + objects_at n r.hand.items ≡ objects_at n q.objects + objects_at n g.hand.items
    pub next : IsNext (cpu_front rows c) about_row (front.Domain row) g r n
    pub has : HasRoom c.transfer q → HasRoom c.transfer new
    pub keeps : KeepsRegs rows c g (regs_next r n)
    pub comes : Comes rows c v g (regs_next r n) (Here (front.Domain row)) (at_next n)

  leaves : (row : DomainStep) (new : Transfer) (r : Regs) (n : Next) → g.class.0 < length rows → Goes row new r n → Leaves row (leaving new v r n)
  leaves row new r n low x = grind (arith, stored_other, stored_own)

  -- Take: the last objects of the cache, so many at most
  takes_by : (a : Asking) (kept list : List Addr) → DomainShape (limits_of rows c) v g (domain.Take a) → g.class.0 < length rows
      → length list ≤ LOADED_ROOM → length list ≤ g.hand.spare → length kept ≤ length q.objects →
      ((n : ℕ) → objects_at n kept + objects_at n list ≡ objects_at n q.objects)
      → (let n = takes g a list in Leaves (domain.Take a) (leaving (record { objects = kept; room = q.room }) v n.0 n.1))
  takes_by a kept list shape low few fit fewer moves = grind (arith, length-append, objects_append)

  abbrev put : Regs
  put = record g { hand = emptied g.hand }

  abbrev fuller : Transfer
  fuller = record q { objects = q.objects ++ g.hand.items }

  put_as : (w : Giving CpuStep) → length q.objects + length g.hand.items ≤ q.room
      → IsNext (cpu_front rows c) about_row (front.Domain (domain.Put w)) g put (next.Gave (as_row w)) → KeepsRegs rows c g
      (regs_next put (next.Gave (as_row w))) → Comes rows c v g (regs_next put (next.Gave (as_row w))) (Here (front.Domain (domain.Put w))) (at_next (next.Gave (as_row w)))
      → Goes (domain.Put w) fuller put (next.Gave (as_row w))
  put_as w fits may keeps come = grind (arith, length-append, objects_append)

  abbrev still : KeepsRegs rows c g put
  still = record { thread = refl; loaded = refl; ran = omega arith; epoch = refl; pc = λ pc. pc }

  -- Put: it takes the whole hand, and what comes behind that comes at once
  put_by : (w : Giving CpuStep) → DomainShape (limits_of rows c) v g (domain.Put w) → length q.objects + length g.hand.items ≤ q.room
      → Goes (domain.Put w) fuller put (next.Gave (as_row w))
  put_by w shape fits = grind (arith, put_as)

  -- or the shard is to get it
  give_by : (w : Giving CpuStep) → DomainShape (limits_of rows c) v g (domain.Put w) → Goes (domain.Put w) q g (next.Give (as_row w))
  give_by w shape = grind (arith, gives_to_shard)

  pub domain_leaves : (row : DomainStep) → DomainShape (limits_of rows c) v g row → FitsDomain rows g row → g.class.0 < length rows → AreRows rows
      → Leaves row (domain_acts rows q v g row)
  domain_leaves (domain.Take a) shape fits low are =
      let n : ℕ = (row_of rows g.class).batch in
      let back = length-reverse (drop (length q.objects - n) q.objects) in
      grind (
        arith,
        takes_by a (without_last n q.objects) (last_first n q.objects) shape low,
        back,
        length-drop (length q.objects - n) q.objects,
        are.each g.class.0 no_class low,
        length-take (length q.objects - n) q.objects,
        λ (m : ℕ). objects_last m n q.objects,
      )
  domain_leaves (domain.Put w) shape fits low are = grind (arith, cond_both, give_by, leb-true, put_by)

  pub domain_fits : (row : DomainStep) → DomainShape (limits_of rows c) v g row → room g.hand ≡ HAND_ROOM → g.class.0 < length rows → AreRows rows
      → FitsDomain rows g row
  domain_fits row shape has low are = grind arith
