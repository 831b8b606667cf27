-- Every column is read in turn. Assumes nothing.
use Rattle.std.proofs.Common.{pos, arith, rules}
use Rattle.ledger.proofs.Meanings.{row_is}
use Rattle.ledger.proofs.Reading.{made_at}
use Rattle.ledger.proofs.ledger.Balances.row.Goals as goal

pub returns : goal.returns
returns g c =
    let m = g.Self.Balances.meaning c.args.self.now in
    row_is m c.args.account c.from_fn.result c.from_fn.ensures.items.long
    (λ k h. made_at _ _ (λ i. m.cell c.args.account i) (λ i y q call. search rules) c.from_fn.result 34 0 c.from_fn.ensures.items.each k (pos 0) (omega arith) (omega arith))
