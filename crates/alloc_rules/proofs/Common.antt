-- The names of other crates and of the definitions that most proofs here cite, passed on from one place. Declares nothing.
pub use Rattle.alloc_rules.{specs.Acts.IsBefore, specs.Acts.setup, specs.Acts.setup_of, specs.Fits.Fits, specs.Fits.fits_step, specs.Heads.HasRoom, specs.declared.part.Part.Part}
pub use Rattle.alloc_rules.specs.Accounts.{account_of, apart_of, clears_of, mapped_of, off_of}
pub use Rattle.alloc_rules.specs.Answers.{AnswersNone, Decides, RefusesThere, pages_asked}
pub use Rattle.alloc_rules.specs.FrontLaw.{FitsAt, IsAct, IsLawful, IsNext, IsOwn, RefusesAs, idle}
pub use Rattle.alloc_rules.specs.Law.{AreLawful, HoldsAfter, books_of, calls}
pub use Rattle.alloc_rules.specs.Laws.{AddsSome, FrontActsKeep, FrontActsMove, HeapActsKeep, HeapActsMove, IsFoundClass, IsKept, IsKindThere}
pub use Rattle.alloc_rules.specs.Laws.{IsLowRun, MapActsKeep, MapActsMove, NamesActsKeep, NamesActsMove, ShardActsFit, ShardActsKeep, ShardActsMove}
pub use Rattle.alloc_rules.specs.Machine.{Parts, after, first_of, first_parts, first_shard, first_shards, heap_config, middle_of, number, number_of, parts_of}
pub use Rattle.alloc_rules.specs.Machine.{place_of, rules, turns, waits}
pub use Rattle.alloc_rules.specs.Scripts.{Closes, Comes, GoesOn, IsIn, Path, Stays, doing_of, is_under_way}
pub use Rattle.alloc_rules.specs.Shapes.{HandAbout, HasNone, HasSpans, IsAsked, IsGiving, IsOnward, IsShaped, StepShape}
pub use Rattle.alloc_rules.specs.Standings.{At, Away, Here, Later, Standing, at_hand, at_next, at_row, at_step, regs_next, stand, standing_of}
pub use Rattle.alloc_rules.specs.Stocks.{AreBooksOf, ArePartsOk, Does, IsShardOf, decided_at, shard_at, stock_of}
pub use Rattle.alloc_rules.specs.Told.{TellsFirst, TellsScript, lines_by}
pub use Rattle.alloc_rules.specs.Valid.{IsCall, IsInOrder, IsValid, got_in, put_in}
pub use Rattle.alloc_rules.specs.declared.part.Part.TheVariants.{Front, Heap, Map, Names}
pub use Rattle.call_steps.{specs.Kept.call_at, specs.Kept.target_at, specs.declared.step.Asking.Asking, specs.declared.step.Freeing.Freeing}
pub use Rattle.call_steps.{specs.declared.step.Giving.Giving, specs.declared.step.HeapStep.HeapStep, specs.declared.step.MapStep.MapStep}
pub use Rattle.call_steps.{specs.declared.step.NamesStep.NamesStep, specs.declared.step.Next.Next, specs.declared.step.Onward.Onward}
pub use Rattle.call_steps.{specs.declared.step.Serving.Serving, specs.declared.step.ShardStep.ShardStep, specs.declared.step.Step.Step}
pub use Rattle.call_steps.specs.Acts.{after_new, after_new_span, after_take, found, frees_span, front_after, heap_after}
pub use Rattle.call_steps.specs.Acts.{map_after, names_after, shard_after, waits_for}
pub use Rattle.call_steps.specs.Calls.{About, HasNoLabel, about_giving, about_onward, call_about}
pub use Rattle.call_steps.specs.Rows.{IsOf, doing_about, undecided, under, without_call}
pub use Rattle.call_steps.specs.Fits.{FitsAdd, FitsBatch, FitsFront, FitsGive, FitsHeap, FitsMap, FitsNames, FitsShard}
pub use Rattle.call_steps.specs.Follows.{MayDecide, MayGoOnDecided, follows}
pub use Rattle.call_steps.specs.Fronts.{AreEntries, FrontCalls, FrontRules, IsEntry, KeepsHand, Left}
pub use Rattle.call_steps.specs.Hands.{clears, gave, given_back, publishes, serves, serves_first, stock_regs, stock_step, with_hand as to_hand, with_hand}
pub use Rattle.call_steps.specs.Local.{Decided, Local, class_row, decided, ends, first_act, first_of_call, goes}
pub use Rattle.call_steps.specs.Local.{idle_local, next_call, regs_of_call, step_or, thread_no, told}
pub use Rattle.call_steps.specs.Shapes.{AreRows, BeginsWith, IsClassRow, most_slots}
pub use Rattle.call_steps.specs.ShardActs.{fetches, with_more}
pub use Rattle.call_steps.specs.declared.step.HeapStep.TheVariants.{FreeSpan, GiveBack, New, NewSpan, Unback}
pub use Rattle.call_steps.specs.declared.step.MapStep.TheVariants.{Clear, ClearSpan, Lookup, Set, SetSpan}
pub use Rattle.call_steps.specs.declared.step.ShardStep.TheVariants.{AddFetch, Fetch, Give}
pub use Rattle.central_free.specs.Central.{IsApartFrom, IsOfRow, IsTakenIn, opening}
pub use Rattle.class_shard.{proofs.AddsMove.add_moves, proofs.FetchesMove.fetch_moves, proofs.GivesMove.give_moves, proofs.SpansAreCut.spans_cut}
pub use Rattle.class_shard.specs.Laws.{IsAdded, IsCutInto, IsFetched, IsSame, LiesInSpan, begun_at, found_at, objects_in_spans, spans_in, with_new}
pub use Rattle.class_shard.specs.Shard.{Shard, after_fetch, after_give, fetched, freed_by, places}
pub use Rattle.heap_rules.{proofs.Ended.free_leaves, proofs.Fits.holds_from, proofs.Given.new_gives, proofs.Released.release_keeps, specs.Laws.IsGiven}
pub use Rattle.heap_rules.{specs.Release.release, specs.Sound.IsInside, specs.Sound.IsSound, specs.declared.config.HeapConfig.HeapConfig}
pub use Rattle.heap_rules.proofs.Live.{count-with_item, count-without, unused_counts}
pub use Rattle.heap_rules.specs.New.{Placed, new, none_fits}
pub use Rattle.holdings.{proofs.Finding.frees_find, specs.Facts.Facts, specs.Facts.IsStanding}
pub use Rattle.holdings.proofs.Held.{clears_are_there, hands_are_taken, mapped_are_there, names_are_live, objects_are_once, offs_live}
pub use Rattle.holdings.proofs.MapFacts.{all_spans, is_large, one_number, run_found, span_all, span_at_found}
pub use Rattle.holdings.proofs.Sums.{Counts, bit_is, bit_most, class_zero, counted, counts_append, counts_most, least, less_counts, like, like_span}
pub use Rattle.holdings.proofs.Sums.{name_cases, none_counts, of_all, of_run, same_run_is, same_run_refl, same_run_start, same_span_is, same_span_refl}
pub use Rattle.holdings.proofs.Sums.{same_span_run, shift, starting, starting_span, sum_of_both, without_counts}
pub use Rattle.holdings.specs.Accounts.{Account, Asks, Doing, Frees, Holds, Other, Publishes, Takes, WeighSame, asking, gets, got, in_hand, is_out, is_taken}
pub use Rattle.holdings.specs.Accounts.{is_unpublished, loose, mentions, named_at, pending, publishing, put, puts, taking, unpublished, untaken}
pub use Rattle.holdings.specs.Books.{Begins, Books, IsCut, IsOfClass, LiesIn, Setup, Stock, class_number, no_class, size_of}
pub use Rattle.holdings.specs.Laws.{Found, HasNothing, IsFirst, IsMapped, IsOff, IsTaken}
pub use Rattle.holdings.specs.Moves.{AddSpan, ClearsRun, ClearsSpan, FindsObject, FindsRun, FreesObject, FreesRun, FreesSpan, GetsFirst, GetsNone, GetsObject}
pub use Rattle.holdings.specs.Moves.{GetsRun, GetsSpan, Move, MoveObjects, MovesHand, One, Rests, Said, SaysOther, SetsRun, SetsSpan, TakesAddr}
pub use Rattle.holdings.specs.Moves.{TakesNull, books_with, lines}
pub use Rattle.holdings.specs.Runs.{IsPlaced, address_of, bit, block_of, first_byte, large, less, objects_at, run_of, runs_at, runs_like, same_run, same_span}
pub use Rattle.holdings.specs.Runs.{small, spans_at, spans_like, spans_of_run, without}
pub use Rattle.name_table.{specs.Names.state_of, specs.declared.table.NameState.NameState}
pub use Rattle.page_map.proofs.SpanFacts.{find_there, with_span-well_formed, without_span-well_formed}
pub use Rattle.page_map.specs.Spans.{IsWellFormed, SpanMap, holds, with_span, without_span}
pub use Rattle.rseq_core.{specs.declared.regs.Regs.Regs, specs.declared.regs.TheConstants.HAND_ROOM, specs.declared.regs.TheConstants.LOADED_ROOM}
pub use Rattle.rseq_core.specs.Bags.{appended, emptied, room, without_first}
pub use Rattle.span_list.specs.Span.{SpanState, objects_of}
pub use Rattle.std.{specs.List.position_or_len, specs.List.range_with_len, specs.Option.option_map_or, specs.Prelude.IsSomeAnd}
pub use Rattle.std.proofs.{Math.Seq.append_snoc, lemmas.List.FromFn.get_or-range_with_len, lemmas.List.FromFn.length-range_with_len}
pub use Rattle.std.proofs.lemmas.Bool.{and_from, and_parts, cases_Bool, cases_eq, cases_lt, cond-true, cond_both, eq-eqb, eqb-true}
pub use Rattle.std.proofs.lemmas.Bool.{false_from_ne_true, false≢true, le-leb, le-ltb, leb-true, lt-ltb, ltb-false, ltb-true, ne_eqb}
pub use Rattle.std.proofs.lemmas.List.{append-nil, append_cancel_left, get_or-map, get_or-set_other, get_or-set_same, get_or_default, get_or_past}
pub use Rattle.std.proofs.lemmas.List.{length-append, length-drop, length-map, length-set, length-take, map-append, reverse-append, take-append-drop, take_all}
pub use Rattle.std.proofs.lemmas.List.Elements.{All-cons, All-contains, All-head, All-map, All-nil, All-set, All-tail, All-weaker, filter-append}
pub use Rattle.std.proofs.lemmas.List.Sums.{count_by-le-length, get_or-le-sum_by, sum_by-append, sum_by-cons, sum_by-le-sum_by}
pub use Rattle.std.proofs.lemmas.Option.{get_or_from_slice_get, slice_get-get_or, slice_get-map, slice_get_past, slice_get_within}
pub use Rattle.tc_model.{specs.declared.answers.Answer.Answer, specs.declared.answers.CallLine.CallLine, specs.declared.calls.Call.Call}
pub use Rattle.tc_model.{specs.declared.calls.Planned.Planned, specs.declared.machine.PartNo.PartNo, specs.declared.machine.TheConstants.MOST_PICKS}
pub use Rattle.tc_model.proofs.CallSteps.{calls-step, picks-cons, picks-push_other, picks-push_same, picks-step}
pub use Rattle.tc_model.proofs.MovingFacts.{IsKeptWith, front_moves, move_all, run_keeps_with}
pub use Rattle.tc_model.specs.Blocks.{Extent, blocks_after, live_bytes, meets}
pub use Rattle.std.specs.Option.{option_map_or}
pub use Rattle.tc_model.specs.Calls.{AreAt, AreBelow, AreOfPicks, AreRising, picks_of}
pub use Rattle.tc_model.specs.Input.{Asked, Input, ThreadCall, label_end, labels_of, script_of}
pub use Rattle.tc_model.specs.Replays.{HaveEnded, done_in}
pub use Rattle.tc_model.specs.Run.{Rules, World, run, start, with_pair, world_of}
pub use Rattle.tc_model.specs.Serial.{AreThreads, Ends, NeverWaits, Rises, next_turn}
pub use Rattle.tc_model.specs.Sound.{FitsThere, IsOrder, IsReady}
pub use Rattle.tc_model.specs.Steps.{moving, stepped}
pub use Rattle.tc_model.specs.declared.answers.Answer.TheVariants.{Block, Freed, FreedNull, NoBlock, Released}
pub use Rattle.tc_model.specs.declared.calls.Call.TheVariants.{Drain, Free, Malloc, Release, Resize}
pub use Rattle.tc_units.{specs.Bag.Contents, specs.Units.page_bytes, specs.Units.pages_holding, specs.declared.spans.ClassRow.ClassRow}
pub use Rattle.tc_units.{specs.declared.spans.Run.Run, specs.declared.spans.SpanKind.SpanKind, specs.declared.spans.SpanKind.TheVariants.Large}
pub use Rattle.tc_units.{specs.declared.spans.SpanKind.TheVariants.Small, specs.declared.spans.SpanRef.SpanRef, specs.declared.units.Addr.Addr}
pub use Rattle.tc_units.{specs.declared.units.Class.Class, specs.declared.units.Label.Label, specs.declared.units.ThreadNo.ThreadNo}
pub use Rattle.tc_units.proofs.Counts.{count_le, count_none, count_some, one-false, one-true}
pub use Rattle.tc_units.specs.Classes.{class_of, length_of}
pub use Rattle.transfer_cache.specs.Transfer.{Transfer, last_first, without_last}
