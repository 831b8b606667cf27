-- The transcript is handed out, or memory ran out. Assumes nothing.
use Rattle.std.proofs.Common.{◌≡◌, MatchResult, subst}
use Rattle.model.specs.State.{State}
use Rattle.requests.specs.Requests.{ruled}
use Rattle.runner.specs.Transcript.{transcript_of}
use Rattle.exports.specs.Exports.{HandsOut}
use Rattle.exports.proofs.Handing.{handed}
use Rattle.exports.proofs.seutmilai_sheet_transcript.Goals as goal

pub returns : goal.returns
returns c law =
    let input = c.args.input.now in
    let before = c.args.output.now in
    let since = c.hand_out.new.output in
    handed c.hand_out.result c.unwrap_or.result _ before since c.unwrap_or.ensures
    (subst (λ (s : State). MatchResult c.hand_out.result (λ n. HandsOut n (transcript_of (ruled law) s input) before since) (λ _. since ≡ before)) c.open_sheet-book.ensures (c.hand_out.ensures law))
