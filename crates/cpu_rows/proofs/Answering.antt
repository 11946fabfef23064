-- A drain or a resize is answered busy, and a capacity, exactly as the CPU stands.
use Rattle.std.proofs.Common.{◌≡◌, ℕ, ◌<◌, ◌≤◌, ◌↔◌, Bool, true, false, ltb, cond, List, [], ◌∷◌, ◌++◌, Option, Some, None, refl, sym, ap, subst, arith, ◌≢◌}
use Rattle.cpu_rows.proofs.Common.{ltb-true, ltb-false, Class, ThreadNo, ClassRow, Call, Resize, Answer, Busy, CapSet, OverLimit, OverStatic, CpuSlab}
use Rattle.cpu_rows.proofs.Common.{cap_fault, CpuPart, Local, Step, Stopping, Resizing, ends, decided, cap_answer, stops, follows, cpu_calls, call_of, Input}
use Rattle.cpu_rows.proofs.Common.{about_row, Decides, front_after, CpuFrontPart, front_of}
use Rattle.alloc_rules.proofs.Answering.{decides_by, decides_none, ends_goes}
use Rattle.cpu_rows.specs.Answers.{AnswersBusy, AnswersCap, DecidesCap, bytes_with}
use Rattle.call_steps.specs.declared.step.Step.TheVariants as does
use Rattle.cpu_rows.specs.declared.row.CpuRow.TheVariants as front
use Rattle.cpu_rows.specs.declared.row.CpuStep.TheVariants as cpu
use Rattle.cpu_rows.specs.CpuFront as caches

-- busy, by who is the stopper
busy_of : (rows : List ClassRow) (p : CpuPart) (l : Local) (s : Stopping) (owner : ThreadNo) (o : Option ThreadNo)
    → Decides l (follows (cpu_calls rows) l (Some (call_of s)) (stops p l.regs.thread s o).1) (Busy owner) ↔ (o ≡ Some owner)
busy_of rows p l s owner None = (λ d. absurd (decides_none l _ (Busy owner) refl d), λ is. absurd (cc))
busy_of rows p l s owner (Some u) =
    let told = (ends_goes (cpu_calls rows) (decided l (call_of s) (Busy u))).answers in
    let law = decides_by l (ends (cpu_calls rows) (decided l (call_of s) (Busy u))) (call_of s) (Busy u) (Busy owner) told in
    (λ d. let same : Busy u ≡ Busy owner = law.0 d in cc, λ is. law.1 cc)

-- what an act leaves of its thread at a CPU, by the step
abbrev after_step : Input → CpuPart → Local → Step → CpuFrontPart × Local
after_step input p l s = front_after (front_of input) about_row (caches.Cpu p) l s

pub answers_busy : (input : Input) (p : CpuPart) (l : Local) → ((s : Stopping) → l.step ≡ does.Front (front.Cpu (cpu.Stop s)) → p.stopper ≢ Some l.regs.thread) → AnswersBusy input p l
answers_busy input p l other s owner step = grind (arith, busy_of input.rows p l s owner p.stopper, other s step)

-- a capacity, by the two comparisons
module _ (l next : Local) (slab : CpuSlab) (k : Class) (n : ℕ) (call : Call) where
  cap_by : (a b : Bool) → ltb slab.most n ≡ a → ltb slab.limit (bytes_with slab k n) ≡ b
      → next.answers ≡ l.answers ++ record { act = l.acts; call = call; answer = cond a (OverStatic slab.most) (cond b (OverLimit (bytes_with slab k n)) CapSet) } ∷ []
      → DecidesCap l next slab k n
  cap_by true b over more is =
      let high : slab.most < n = ltb-true slab.most n over in
      let law : (y : Answer) → Decides l next y ↔ (OverStatic slab.most ≡ y) = λ y. decides_by l next call (OverStatic slab.most) y is in
      grind (arith, law CapSet)
  cap_by false true over more is =
      let low : n ≤ slab.most = omega (arith, ltb-false slab.most n over) in
      let high : slab.limit < bytes_with slab k n = ltb-true slab.limit (bytes_with slab k n) more in
      let law : (y : Answer) → Decides l next y ↔ (OverLimit (bytes_with slab k n) ≡ y) = λ y. decides_by l next call (OverLimit (bytes_with slab k n)) y is in
      grind (arith, law CapSet)
  cap_by false false over more is =
      let low : n ≤ slab.most = omega (arith, ltb-false slab.most n over) in
      let few : bytes_with slab k n ≤ slab.limit = omega (arith, ltb-false slab.limit (bytes_with slab k n) more) in
      let law : (y : Answer) → Decides l next y ↔ (CapSet ≡ y) = λ y. decides_by l next call CapSet y is in
      record {
        over_static = λ most. (λ d. let e : CapSet ≡ OverStatic most = (law (OverStatic most)).0 d in absurd (cc), λ of. absurd (omega (arith, low, of.1)));
        over_limit = λ sum. (λ d. let e : CapSet ≡ OverLimit sum = (law (OverLimit sum)).0 d in absurd (cc), λ of. absurd (omega (arith, few, of.1, of.2)));
        set = (λ d. (low, few), λ of. (law CapSet).1 refl);
      }

answer_by : (a b : Bool) (slab : CpuSlab) (k n : ℕ) → ltb slab.most n ≡ a → ltb slab.limit (bytes_with slab (record { 0 = k }) n) ≡ b
    → cap_answer (cap_fault slab k n) ≡ cond a (OverStatic slab.most) (cond b (OverLimit (bytes_with slab (record { 0 = k }) n)) CapSet)
answer_by a b slab k n over more = grind arith

pub answers_cap : (input : Input) (p : CpuPart) (l : Local) → ((r : Resizing) → l.step ≡ does.Front (front.Cpu (cpu.SetCap r)) → l.regs.class ≡ r.class) → AnswersCap input p l
answers_cap input p l class r step =
    let own : Class = l.regs.class in
    let a : Bool = ltb p.slab.most r.cap in
    let b : Bool = ltb p.slab.limit (bytes_with p.slab own r.cap) in
    let call : Call = Resize r.cpu r.class r.cap in
    let answers = ap (λ (x : Answer). l.answers ++ record { act = l.acts; call = call; answer = x } ∷ []) (answer_by a b p.slab own.0 r.cap refl refl) in
    let told : DecidesCap l (after_step input p l (does.Front (front.Cpu (cpu.SetCap r)))).1 p.slab own r.cap = cap_by l _ p.slab own r.cap call a b refl refl answers in
    subst (λ (k : Class). DecidesCap l (after_step input p l l.step).1 p.slab k r.cap) (class r step) (subst (λ (x : Step). DecidesCap l (after_step input p l x).1 p.slab own r.cap) (sym step) told)
