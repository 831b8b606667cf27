-- The part that is copied is as much of the text as the list takes. Assumes nothing.
use Rattle.exports.proofs.Fronts.{front_written}
use Rattle.exports.proofs.text.write_front.Goals as goal

pub returns : goal.returns
returns c =
    front_written c.args.text.now c.args.list.now _ _ c.min-count.ensures c.copy_from_slice.ensures.after
