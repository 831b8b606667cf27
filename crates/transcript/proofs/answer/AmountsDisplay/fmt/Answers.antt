-- Assumes nothing.
use Rattle.std.proofs.Common.{[], get_or, take, pos, sym, refl, ap, ◌∙◌}
use Rattle.money.specs.declared.quantity.Minor.{Minor}
use Rattle.std.specs.List.{flat_map}
use Rattle.std.proofs.Output.{has_written_append, has_written_of_eq}
use Rattle.std.proofs.lemmas.List.{flat_map_more, take_more, take_all}
use Rattle.transcript.specs.Text.{amount_text}
use Rattle.transcript.proofs.answer.AmountsDisplay.fmt.Goals as goal

pub loop-amount-preserved : goal.loop-amount-preserved
loop-amount-preserved g c plain =
    let xs = c.args.self.now.amounts.now in
    let i = c.loop-amount.amount-index in
    let none : Minor = record { 0 = pos 0 } in
    let so_far = c.loop-amount.invariant plain in
    let more = c.in_ok-write.ensures.writes so_far.plain refl in
    has_written_of_eq g.W.Write.write_str_gives _ _ _ _ (flat_map_more amount_text [] (take i xs) (get_or xs i none) ∙ ap (flat_map amount_text) (sym (take_more xs i none c.loop-amount-test.true)))
    (has_written_append g.W.Write.write_str_gives _ _ _ _ _ so_far more)

pub returns-clause-writes : goal.returns-clause-writes
returns-clause-writes g c plain _ =
    has_written_of_eq g.W.Write.write_str_gives _ _ _ _ (ap (flat_map amount_text) (take_all c.loop-amount.amount-index c.args.self.now.amounts.now c.loop-amount-test.false)) (c.loop-amount.invariant plain)
