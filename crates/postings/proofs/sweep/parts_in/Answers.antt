-- The product fits, and is what it should be. Assumes nothing.
use Rattle.std.proofs.Common.{◌≡◌, ◌*◌, ◌^◌, ◌≤◌, pos, ◌*ℤ◌, nat_abs, sym, ap, ◌∙◌, subst, arith, w64, SFits, to_z, of_z, rules}
use mir.Syntax.{w128}
use Rattle.std.proofs.lemmas.Int.{ints, to_z-of_z, fits_signed_from_abs}
use Rattle.ledger.specs.Columns.{whole_parts}
use Rattle.postings.specs.Sweeps.{most_parts}
use Rattle.postings.proofs.Drawing.{widened}
use Rattle.postings.proofs.Sweeping.{parts_small, product_bound}
use Rattle.postings.proofs.sweep.parts_in.Goals as goal
use Rattle.postings.proofs.sweep.parts_in.Goals.{After-parts}

-- the product as the machine has it, which fits
product : (c : After-parts) → (to_z w128 (of_z w128 (to_z w64 (of_z w64 c.args.units.0))) *ℤ to_z w128 c.parts.result ≡ c.args.units.0 *ℤ pos (whole_parts c.args.column)) × (nat_abs (c.args.units.0 *ℤ pos (whole_parts c.args.column)) ≤ 2 ^ 63 * most_parts)
product c =
    let fits : SFits w64 c.args.units.0 = search rules in
    let small = (parts_small c.args.column).1 in
    let parts : to_z w128 c.parts.result ≡ pos (whole_parts c.args.column) = omega (arith, ints, c.parts.ensures, small) in
    (λ i. widened c.args.units.0 fits i *ℤ parts i, product_bound c.args.units.0 (whole_parts c.args.column) fits small)

pub overflow_mul-result : goal.overflow_mul-result
overflow_mul-result c =
    let p = product (goal.at.overflow_mul-result c).After-parts in
    subst (SFits w128) (sym p.0) (fits_signed_from_abs w128 _ (omega (arith, p.1)))

pub returns : goal.returns
returns c =
    let p = product (goal.at.returns c).After-parts in
    let same = ap (λ z. to_z w128 (of_z w128 z)) p.0 ∙ to_z-of_z w128 _ (fits_signed_from_abs w128 _ (omega (arith, p.1))) in
    record { value = same; bound = subst (λ z. nat_abs z ≤ 2 ^ 63 * most_parts) (sym same) p.1 }
