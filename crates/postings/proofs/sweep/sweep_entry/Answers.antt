-- Four legs, one after the other. Assumes nothing.
use Rattle.std.proofs.Common.{◌≡◌, ◌^◌, ◌<◌, pos, ◌*ℤ◌, nat_abs, arith, w64, SFits, to_z, of_z, rules}
use mir.Syntax.{w128}
use Rattle.std.proofs.lemmas.Int.{ints}
use Rattle.ledger.specs.Columns.{whole_parts}
use Rattle.model.specs.Postings.{sweep_legs}
use Rattle.postings.proofs.Drawing.{drawn_up, widened, negated}
use Rattle.postings.proofs.sweep.sweep_entry.Goals as goal

pub returns : goal.returns
returns c =
    let q = c.args.swept.0 in
    let z = q *ℤ pos (whole_parts c.args.column) in
    let fits : SFits w64 q = search rules in
    let few : nat_abs q < 2 ^ 127 = omega (arith, ints) in
    let small : nat_abs z < 2 ^ 127 = omega (arith, ints, c.parts_in-parts.ensures) in
    let parts : to_z w128 (of_z w128 c.parts_in-parts.result) ≡ z = omega (arith, ints, c.parts_in-parts.ensures) in
    rw (c.entry.ensures, c.add_leg-4.ensures, c.add_leg-3.ensures, c.add_leg-2.ensures, c.add_leg.ensures, c.new-draft.ensures)
    (rw (c.number-2.ensures, c.number.ensures, c.number-money.ensures, c.currency.ensures, widened q fits, negated q few, parts, negated z small)
    (drawn_up (sweep_legs c.args.account c.args.column q)))
