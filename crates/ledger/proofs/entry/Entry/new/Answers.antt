-- Legs that make an entry are few enough to be stored. Assumes nothing.
use Rattle.std.proofs.Common.{◌≤◌, length, sym, rules}
use Rattle.std.proofs.lemmas.Bool.Decides.{Decides-at}
use Rattle.ledger.specs.Entries.{most_legs}
use Rattle.ledger.proofs.Entries.{entry_legs_lem, entry_decides}
use Rattle.ledger.proofs.entry.Entry.new.Goals as goal

pub returns-then-not-is_entry-clause-tells : goal.returns-then-not-is_entry-clause-tells
returns-then-not-is_entry-clause-tells c = Decides-at _ _ c.if-not-is_entry.ensures (entry_decides c.args.legs.now)

pub returns-in_err-ok-clause-value : goal.returns-in_err-ok-clause-value
returns-in_err-ok-clause-value c =
    let few : length c.args.legs.now ≤ most_legs = (entry_legs_lem _ (sym c.if-not-is_entry.ensures)).few in
    search rules

pub returns-clause-tells : goal.returns-clause-tells
returns-clause-tells c = Decides-at _ _ c.if-not-is_entry.ensures (entry_decides c.args.legs.now)
