-- The transcript of what was read is that of what the stream held. Assumes nothing.
use Rattle.std.proofs.Common.{[], ap, rules}
use Rattle.requests.specs.Requests.{ruled}
use Rattle.book.specs.View.{state_of}
use Rattle.runner.proofs.Steps.{none_done}
use Rattle.runner.proofs.Reading.{read_is, run_done, written, moved, held_done, nothing_done, same_read}
use Rattle.runner.proofs.streams.run_streams.Goals as goal
use Rattle.runner.proofs.streams.run_streams.Goals.{After-write_all}

pub returns-in_err-read_to_end-clause-law : goal.returns-in_err-read_to_end-clause-law
returns-in_err-read_to_end-clause-law g c law = ([], none_done (ruled law) _ [])

pub returns-in-Ok-clause-transcript : goal.returns-in-Ok-clause-transcript
returns-in-Ok-clause-transcript g c law =
    let s = state_of g.L.Balances c.args.book.now in
    written (ruled law) s _ _ _ _ _ _
    (read_is (ruled law) s _ _ _ _ _ (ap g.I.Read.remaining c.take.ensures.inner) c.take.ensures.limit c.new-bytes.ensures.items c.in_ok-read_to_end.ensures.bytes)
    (search rules)
    c.write_all.ensures.bytes

pub returns-in-Ok-clause-state : goal.returns-in-Ok-clause-state
returns-in-Ok-clause-state g c law =
    let s = state_of g.L.Balances c.args.book.now in
    moved (ruled law) s _ _ _ _
    (read_is (ruled law) s _ _ _ _ _ (ap g.I.Read.remaining c.take.ensures.inner) c.take.ensures.limit c.new-bytes.ensures.items c.in_ok-read_to_end.ensures.bytes)
    (search rules)

pub returns-in-Ok-clause-law : goal.returns-in-Ok-clause-law
returns-in-Ok-clause-law g c law = (_, run_done (ruled law) _ _ _ (c.in-Ok.ensures.state law))

pub returns-in_err-read_to_end-clause-done : goal.returns-in_err-read_to_end-clause-done
returns-in_err-read_to_end-clause-done g c law = nothing_done (ruled law) _ _

pub returns-clause-done : goal.returns-clause-done
returns-clause-done g c law =
    let s = state_of g.L.Balances c.args.book.now in
    held_done (ruled law) s _ _ _
    (same_read (ruled law) s _ _ c.deref.result.now c.deref.ensures.value (read_is (ruled law) s _ _ _ _ _ (ap g.I.Read.remaining c.take.ensures.inner) c.take.ensures.limit c.new-bytes.ensures.items c.in_ok-read_to_end.ensures.bytes))
    c.in-Err.ensures.unmoved (c.in-Err.ensures.memory law)

pub returns-in-Ok-clause-done : goal.returns-in-Ok-clause-done
returns-in-Ok-clause-done g c law =
    let s = state_of g.L.Balances c.args.book.now in
    held_done (ruled law) s _ _ _
    (same_read (ruled law) s _ _ c.deref.result.now c.deref.ensures.value (read_is (ruled law) s _ _ _ _ _ (ap g.I.Read.remaining c.take.ensures.inner) c.take.ensures.limit c.new-bytes.ensures.items c.in_ok-read_to_end.ensures.bytes))
    c.in-Ok.ensures.unmoved (run_done (ruled law) _ _ _ (c.in-Ok.ensures.state law))
