-- What it means that a line passes all rules.
use Rattle.std.proofs.Common.{◌≡◌, ◌<◌, true, false, List, length, Option, Some, None, Ok, Err, cond, refl, arith}
use Rattle.std.specs.Option.{option_and_then, option_map_or}
use Rattle.std.proofs.lemmas.Bool.{cases_Bool}
use Rattle.std.proofs.lemmas.Bool.Decides.{nat_tests}
use Rattle.tc_model.specs.declared.calls.Call.{Call}
use Rattle.tc_model.specs.declared.answers.Answer.{Answer}
use Rattle.tc_model.specs.declared.answers.CallLine.{CallLine}
use Rattle.tc_model.specs.Blocks.{blocks_after}
use Rattle.journal_audit.specs.declared.told.Told.{Told}
use Rattle.journal_audit.specs.declared.verdict.AuditWhy.{AuditWhy}
use Rattle.journal_audit.specs.declared.verdict.AuditWhy.TheVariants as why
use Rattle.journal_audit.specs.Forms.{names, answer_of}
use Rattle.journal_audit.specs.Rules.{Plan, next_call, line_of, call_told, has_length, is_in_arena, overlaps, frees_own, broken, judged_call, judged}

-- an answered call keeps the rules behind these
pub record Keeps (plan : Plan) (earlier : List CallLine) (call : Call) (answer : Answer) : Type 0 where
  pub long : has_length plan.rows call answer ≡ true
  pub inside : is_in_arena plan.huge answer ≡ true
  pub apart : overlaps (blocks_after earlier) answer ≡ false
  pub own : frees_own earlier call answer ≡ true

-- a line tells the thread's next call, which keeps the rules
pub record Passes (plan : Plan) (earlier : List CallLine) (form : Option Told) (c : CallLine) : Type 0 where
  pub few : length earlier < 1000000
  pub told : Told
  pub form_is : form ≡ Some told
  pub call : Call
  pub next : next_call plan.scripts earlier told.thread ≡ Some call
  pub names_it : names told.act call ≡ true
  pub line : c ≡ line_of told call
  pub keeps : Keeps plan earlier c.call c.answer

-- where no rule fails, what each asks is kept
keeps_all : (plan : Plan) (earlier : List CallLine) (call : Call) (answer : Answer) → broken plan earlier call answer ≡ None → Keeps plan earlier call answer
keeps_all plan earlier call answer h = grind (arith)

pub none_broken : (plan : Plan) (earlier : List CallLine) (call : Call) (answer : Answer) → Keeps plan earlier call answer → broken plan earlier call answer ≡ None
none_broken plan earlier call answer k = grind (arith)

by_rules : (plan : Plan) (earlier : List CallLine) (told : Told) (call : Call) (c : CallLine) (reason : Option AuditWhy) → length earlier < 1000000
    → next_call plan.scripts earlier told.thread ≡ Some call → names told.act call ≡ true
    → broken plan earlier call (line_of told call).answer ≡ reason → option_map_or Err reason (Ok (line_of told call)) ≡ Ok c → Passes plan earlier (Some told) c
by_rules plan earlier told call c reason few next is_named none h = grind (arith)

by_call : (plan : Plan) (earlier : List CallLine) (told : Told) (c : CallLine) (next : Option Call) → length earlier < 1000000
    → next_call plan.scripts earlier told.thread ≡ next
    → judged_call plan earlier (option_and_then (λ (x : Call). cond (names told.act x) (Some (line_of told x)) None) next) ≡ Ok c → Passes plan earlier (Some told) c
by_call plan earlier told c None few is h = absurd (cc)
by_call plan earlier told c (Some call) few is h = grind (arith, by_rules, cases_Bool, cond, judged_call, line_of, names)

by_form : (plan : Plan) (earlier : List CallLine) (form : Option Told) (c : CallLine) → length earlier < 1000000
    → option_map_or (λ told. judged_call plan earlier (call_told plan.scripts earlier told)) form (Err why.Form) ≡ Ok c → Passes plan earlier form c
by_form plan earlier None c few h = absurd (cc)
by_form plan earlier (Some told) c few h = by_call plan earlier told c _ few refl h

-- a line is judged to tell a call exactly where it passes
pub passes : (plan : Plan) (earlier : List CallLine) (form : Option Told) (c : CallLine) → judged plan earlier form ≡ Ok c → Passes plan earlier form c
passes plan earlier form c h = grind (arith, nat_tests, by_form)

pub judged_ok : (plan : Plan) (earlier : List CallLine) (form : Option Told) (c : CallLine) → Passes plan earlier form c → judged plan earlier form ≡ Ok c
judged_ok plan earlier form c p = grind (arith, nat_tests, none_broken)

-- what is known of a line that is judged to tell a call
pub record IsTold (plan : Plan) (earlier : List CallLine) (told : Told) (call : Call) : Type 0 where
  pub few : length earlier < 1000000
  pub next : next_call plan.scripts earlier told.thread ≡ Some call
  pub names_it : names told.act call ≡ true
  pub keeps : Keeps plan earlier call (answer_of told.act)

pub is_told : (plan : Plan) (earlier : List CallLine) (told : Told) (call : Call) → judged plan earlier (Some told) ≡ Ok (line_of told call) → IsTold plan earlier told call
is_told plan earlier told call h = grind (arith, passes plan earlier (Some told) (line_of told call) h)
