-- The entries of the book's calls, leg by leg and in order; plus is debit. Assumes nothing.
use Rattle.std.specs.Prelude.{ℕ, cond, List, [], ◌∷◌, ◌++◌, ℤ, pos, ◌*ℤ◌, neg_ℤ, int_div}
use Rattle.std.specs.Int.Signed.{le_z}
use Rattle.money.specs.declared.currency.Currency.{Currency}
use Rattle.money.specs.declared.quantity.Minor.{Minor}
use Rattle.money.specs.Table.{number_of}
use Rattle.ledger.specs.declared.column.FractionColumn.{FractionColumn}
use Rattle.ledger.specs.declared.leg.Leg.{Leg}
use Rattle.ledger.specs.Columns.{fraction_number, whole_parts, currency_of}
use Rattle.ledger.specs.Legs.{leg}
use Rattle.apportion.specs.declared.share.Share.{Share}
use Rattle.model.specs.declared.record.Record.{Record}
use Rattle.model.specs.declared.request.Division.{Division}
use Rattle.model.specs.declared.request.Exchange.{Exchange}
use Rattle.model.specs.State.{exchange_account, docket_account}
use Rattle.model.specs.Docket.{Residue, residues_of}

-- an amount in column k from account p to account q
abbrev pub transfer : ℕ → ℕ → ℕ → ℤ → List Leg
transfer p q k x = leg p k (neg_ℤ x) ∷ leg q k x ∷ []

-- residues from account p to account q, each in its column
abbrev pub transfers : ℕ → ℕ → List Residue → List Leg
transfers p q [] = []
transfers p q (z ∷ zs) = transfer p q (fraction_number z.column) z.parts.0 ++ transfers p q zs

-- a conversion that books b: the amount into the exchange account, b out of it, and the residues of the record that is
-- made from the exchange account to the docket account
abbrev pub conversion_legs : Exchange → Currency → Currency → Minor → Record → List Leg
conversion_legs x from to b r =
    transfer x.from exchange_account (number_of from) x.amount.0
    ++ (transfer exchange_account x.to (number_of to) b.0
    ++ transfers exchange_account docket_account (residues_of r))

-- a carry: the residues of the record from the docket account to the account
abbrev pub carry_legs : Record → ℕ → List Leg
carry_legs r account = transfers docket_account account (residues_of r)

-- the shares of a split in list order, in column k
abbrev pub portion_legs : ℕ → List Share → List Minor → List Leg
portion_legs k [] given = []
portion_legs k (s ∷ shares) [] = []
portion_legs k (s ∷ shares) (b ∷ given) = leg s.account k b.0 ∷ portion_legs k shares given

-- a split: the amount out of the account, then each portion to its share
abbrev pub split_legs : Division → Currency → List Share → List Minor → List Leg
split_legs d c shares given = leg d.account (number_of c) (neg_ℤ d.amount.0) ∷ portion_legs (number_of c) shares given

-- the most minor units that a sweep moves, either way
abbrev pub most_swept : ℕ
most_swept = 1000

-- z, but at most n either way
abbrev pub within : ℕ → ℤ → ℤ
within n z = cond (le_z z (pos n)) (cond (le_z (neg_ℤ (pos n)) z) z (neg_ℤ (pos n))) (pos n)

-- q: the whole minor units in a cell of parts, cut toward zero, and at most 1,000 either way
abbrev pub sweepable : FractionColumn → ℤ → ℤ
sweepable f cell = within most_swept (int_div cell (pos (whole_parts f)))

-- a sweep of q minor units: they go to the account in the column's currency, and their parts leave it
abbrev pub sweep_legs : ℕ → FractionColumn → ℤ → List Leg
sweep_legs account f q =
    leg account (number_of (currency_of f)) q
    ∷ leg exchange_account (number_of (currency_of f)) (neg_ℤ q)
    ∷ leg account (fraction_number f) (neg_ℤ (q *ℤ pos (whole_parts f)))
    ∷ leg exchange_account (fraction_number f) (q *ℤ pos (whole_parts f))
    ∷ []
