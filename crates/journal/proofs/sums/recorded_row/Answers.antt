-- One record more is in the row, and all are at the end. Assumes nothing.
use Rattle.std.proofs.Common.{◌+◌, List, get_or, ℤ, pos, sym, ◌∙◌, subst, arith}
use Rattle.std.proofs.lemmas.Int.{ints}
use Rattle.ledger.specs.Legs.{leg}
use Rattle.journal.proofs.Rows.{Row, range_of, row_none, row_same, row_more, row_all}
use Rattle.journal.proofs.sums.recorded_row.Goals as goal
use Rattle.journal.proofs.sums.recorded_row.Goals.{then-is_leg_of, else-is_leg_of}

pub loop-leg-init : goal.loop-leg-init
loop-leg-init c = row_none c.args.records.now c.args.account

pub loop-leg-preserved : goal.loop-leg-preserved
loop-leg-preserved c =
    let rs = c.args.records.now in
    let a = c.args.account in
    let i = c.loop-leg.leg-index in
    let blank = leg 0 0 (pos 0) in
    let l = get_or rs i blank in
    elim c.if-is_leg_of.branch [
      | then-is_leg_of w ↦
          let is = sym c.is_leg_of.ensures ∙ w.if-is_leg_of.true in
          let r = range_of l a is in
          let held = c.loop-leg.invariant.small l.column (omega (arith, r.column)) in
          subst (λ (row : List ℤ). Row rs a (i + 1) row) (sym w.row-is)
          (row_more rs a i blank c.loop-leg.row c.loop-leg-test.true c.loop-leg.invariant _ is (omega (arith, ints, r.amount, held, c.requires, c.loop-leg-test.true)))
      | else-is_leg_of w ↦
          subst (λ (row : List ℤ). Row rs a (i + 1) row) (sym w.row-is)
          (row_same rs a i blank c.loop-leg.row c.loop-leg-test.true c.loop-leg.invariant (sym c.is_leg_of.ensures ∙ w.if-is_leg_of.false))
    ]

pub returns-clause-cells : goal.returns-clause-cells
returns-clause-cells c = row_all c.args.records.now c.args.account c.loop-leg.leg-index c.loop-leg.row c.loop-leg-test.false c.loop-leg.invariant
