-- Each act keeps what holds.
use Rattle.holdings.specs.Accounts.{Account}
use Rattle.holdings.specs.Books.{Books, Setup, Stock}
use Rattle.tc_model.specs.declared.answers.CallLine.{CallLine}
use Rattle.holdings.specs.Moves.{ClearsRun, ClearsSpan, FindsObject, FindsRun, FreesObject, FreesRun, FreesSpan, GetsFirst, GetsNone, GetsObject, GetsRun, GetsSpan}
use Rattle.holdings.specs.Moves.{Move, MovesHand, Names, Nothing, One, Rests, Said, SaysOther, SetsRun, SetsSpan, TakesAddr, TakesNull, books_with, lines}
use Rattle.holdings.specs.Facts.{Facts}
use Rattle.std.proofs.Common.{List, Some, [], subst, sym, ℕ, ◌++◌, ◌≡◌}
use Rattle.holdings.specs.Laws.{MovesKeep}
use Rattle.name_table.specs.declared.table.NameState.{NameState}
use Rattle.tc_units.specs.declared.spans.Run.{Run}
use Rattle.tc_units.specs.declared.spans.SpanRef.{SpanRef}
use Rattle.std.proofs.lemmas.List.{append-nil}
use Rattle.tc_model.specs.Chains.{at}
use Rattle.std.specs.List.{slice_get}
use Rattle.holdings.proofs.Quiet.{becomes, becomes_once, says_other}
use Rattle.holdings.proofs.MapMoves.{clears_run, clears_span, finds_run, frees_span, gets_span, sets_run, sets_span}
use Rattle.holdings.proofs.GetMoves.{finds_object, gets_first, gets_object}
use Rattle.holdings.proofs.ObjectMoves.{frees_object, moves_hand}
use Rattle.holdings.proofs.LargeMoves.{frees_run, gets_none, gets_run}
use Rattle.holdings.proofs.NameMoves.{publishes_name, takes_addr, takes_null}

other_said : (m : Setup) (b : Books) (calls : List CallLine) (t : ℕ) {new : List Said} → SaysOther new → Facts m b calls → Facts m b (calls ++ lines t new)
other_said m b calls t Nothing f = subst (Facts m b) (sym (append-nil calls)) f
other_said m b calls t (One said is) f = says_other m b calls (record { thread = record { 0 = t }; call = said.call; answer = said.answer }) f is

silent : (m : Setup) (b : Books) (calls : List CallLine) → Facts m b calls → Facts m b (calls ++ [])
silent m b calls f = subst (Facts m b) (sym (append-nil calls)) f

move_keeps : (m : Setup) (b : Books) (calls : List CallLine) (t : ℕ) (a : Account) {stock : Stock} {heap : List Run} {spans : List SpanRef} {names : List NameState} {w : Account} {new : List Said}
    → Facts m b calls → slice_get b.accounts t ≡ Some a → Move m b a stock heap spans names w new
    → Facts m (books_with b stock heap spans names t w) (calls ++ lines t new)
move_keeps m b calls t a f at (Rests w new same says) = other_said m _ calls t says (becomes_once m b calls f t a w at same)
move_keeps m b calls t a f at (GetsNone label size w is same) = becomes m b t a _ w _ _ _ _ _ at (gets_none f t a at label size is) same
move_keeps m b calls t a f at (GetsRun label size r w is clear placed length_is same) = becomes m b t a _ w _ _ _ _ _ at (gets_run f t a at label size r is clear placed length_is) same
move_keeps m b calls t a f at (GetsObject label size g o rest w is class empty move cut same) = becomes m b t a _ w _ _ _ _ _ at (gets_object f t a at label size g o rest is class empty cut move) same
move_keeps m b calls t a f at (GetsFirst label size g r o rest apart mapped w is clear class empty first firstm move cut same) =
    becomes m b t a _ w _ _ _ _ _ at (gets_first f t a at label size g o rest is class empty cut r apart mapped clear first firstm move) same
move_keeps m b calls t a f at (GetsSpan r w below clear placed same) = silent m _ calls (becomes m b t a _ w _ _ _ _ _ at (gets_span f t a at r below clear placed) same)
move_keeps m b calls t a f at (SetsRun r w is none same) = silent m _ calls (becomes m b t a _ w _ _ _ _ _ at (sets_run f t a at r is none) same)
move_keeps m b calls t a f at (SetsSpan r apart w is first empty same) = silent m _ calls (becomes m b t a _ w _ _ _ _ _ at (sets_span f t a at r apart is first empty) same)
move_keeps m b calls t a f at (FindsObject label o span k w is empty clear unclear there holds_page kind same) =
    silent m _ calls (becomes m b t a _ w _ _ _ _ _ at (finds_object f t a at label o span k is empty clear there holds_page kind unclear) same)
move_keeps m b calls t a f at (FindsRun label r w is there empty same) = silent m _ calls (becomes m b t a _ w _ _ _ _ _ at (finds_run f t a at label r is there empty) same)
move_keeps m b calls t a f at (ClearsRun label r w is first empty same) = silent m _ calls (becomes m b t a _ w _ _ _ _ _ at (clears_run f t a at label r is first empty) same)
move_keeps m b calls t a f at (ClearsSpan s mapped w first empty same) = silent m _ calls (becomes m b t a _ w _ _ _ _ _ at (clears_span f t a at s mapped first empty) same)
move_keeps m b calls t a f at (FreesRun label r w is first empty clear same) = becomes m b t a _ w _ _ _ _ _ at (frees_run f t a at label r is first empty clear) same
move_keeps m b calls t a f at (FreesSpan s apart w is first rest same) = silent m _ calls (becomes m b t a _ w _ _ _ _ _ at (frees_span f t a at s apart is first rest) same)
move_keeps m b calls t a f at (MovesHand g hand freed w move cut freeing both same) = silent m _ calls (becomes m b t a _ w _ _ _ _ _ at (moves_hand f t a at g hand freed move cut freeing) same)
move_keeps m b calls t a f at (FreesObject label o g freed w is move cut both same) = becomes m b t a _ w _ _ _ _ _ at (frees_object f t a at g [] freed move cut label o is) same
move_keeps m b calls t a f at (Names label value w is empty clear old same) = silent m _ calls (becomes m b t a _ w _ _ _ _ _ at (publishes_name f t a at label value is empty clear old) same)
move_keeps m b calls t a f at (TakesNull label w is old same) = becomes m b t a _ w _ _ _ _ _ at (takes_null f t a at label is old) same
move_keeps m b calls t a f at (TakesAddr label o w is old same) = silent m _ calls (becomes m b t a _ w _ _ _ _ _ at (takes_addr f t a at label is o old) same)

pub acts_keep : MovesKeep
acts_keep m b calls t a w stock heap spans names new f at move = move_keeps m b calls t a f at move
