-- A move over the books of the parts.
use Rattle.std.proofs.Common.{◌≡◌, ℕ, ◌+◌, ◌++◌, ◌*◌, false, List, None, ap, find, is_some, arith}
use Rattle.alloc_rules.proofs.Common.{cases_lt, lt-ltb, slice_get_past, page_bytes, pages_holding, class_of, length_of, option_map_or, Run}
use Rattle.alloc_rules.proofs.Common.{SpanRef, ClassRow, NameState, Setup, Books, Said, Move, Parts, AreBooksOf, About}
use Rattle.alloc_rules.proofs.Common.{FrontRules, SpanMap, Local, Does, account_of, decided_at, runs_like, spans_like}
use Rattle.std.proofs.lemmas.List.Folds.{find_at}
use Rattle.heap_rules.specs.Heap as heaps
use Rattle.tc_units.specs.Classes.{serves}

-- An act that leaves the stock, and changes the names so: a move to other runs and spans.
pub leaves : {P V R : Type 0} {r : FrontRules P V R} {about : R → About} {m : Setup} {p : Parts P} {locals : List (Local V R)} {b : Books} {heap : List Run}
    {spans : List SpanRef} {said : List Said} {l after : Local V R} → AreBooksOf r about p locals b
    → (h : heaps.Heap) (x : SpanMap) (f : List NameState → List NameState)
    → Move m b (account_of about l) b.stock heap spans (f b.names) (account_of about after) said → ((q : Run) → runs_like q heap ≡ runs_like q h.runs)
    → ((s : SpanRef) → spans_like s spans ≡ spans_like s x.spans) → after.acts ≡ l.acts + 1 → after.answers ≡ l.answers ++ decided_at l.acts said
    → Does r about m (record p { heap = h; map = x; names = f p.names }) b l after
leaves {about = about} {m = m} {p = p} {b = b} {heap = heap} {spans = spans} {said = said} {l = l} {after = after} books h x f move like_heap like_spans acts answers =
    record {
      heap = heap;
      spans = spans;
      said = said;
      move = grind (arith, f p.names);
      like_heap = like_heap;
      like_spans = like_spans;
      acts = acts;
      answers = answers;
    }

-- no row serves a request without a class, so its block has whole pages
pub no_row : (rows : List ClassRow) (size : ℕ) → is_some (class_of rows size) ≡ false → find (serves size) rows ≡ None
no_row rows size none = grind (arith, cases_lt, find_at, lt-ltb, slice_get_past)

pub no_row_length : (rows : List ClassRow) (size : ℕ) → class_of rows size ≡ None → length_of rows size ≡ pages_holding size * page_bytes
no_row_length rows size none = ap (λ row. option_map_or (λ (x : ClassRow). x.size) row (pages_holding size * page_bytes)) (no_row rows size (ap is_some none))
