-- Two transfers of money and the residues, one after the other. Assumes nothing.
use Rattle.model.specs.Postings.{conversion_legs}
use Rattle.postings.proofs.Drawing.{drawn_up}
use Rattle.postings.proofs.conversion.conversion_entry.Goals as goal

pub returns : goal.returns
returns c =
    rw (c.entry.ensures, c.add_residues.ensures, c.add_money-2.ensures, c.add_money.ensures, c.new-draft.ensures, c.new.ensures, c.new-2.ensures, c.new-3.ensures)
    (drawn_up (conversion_legs c.args.exchange c.args.from c.args.to c.args.booked c.args.docketed))
