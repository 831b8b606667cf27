-- Where no share or no portion is left, no leg is. Assumes nothing.
use Rattle.std.proofs.Common.{◌≡◌, pos, ◌-ℤ◌, neg_ℤ, sym, ap, ◌∙◌, arith, w64, SFits, to_z, of_z, rules}
use mir.Syntax.{w128}
use Rattle.std.proofs.lemmas.Int.{ints}
use Rattle.std.proofs.lemmas.Slice.Zip.{either_empty_from_Zip}
use Rattle.ledger.specs.Legs.{leg}
use Rattle.model.specs.Postings.{portion_legs, split_legs}
use Rattle.postings.specs.Drafts.{drawn, with_leg, with_legs, entry_in}
use Rattle.postings.proofs.Drawing.{drawn_up, widened, negated}
use Rattle.postings.proofs.Splitting.{no_legs}
use Rattle.postings.proofs.split.split_entry.Goals as goal

pub returns : goal.returns
returns c =
    let d = c.args.division in
    let ss = c.args.shares.now in
    let ps = c.args.portions.now in
    let z = d.amount.0 in
    let fits : SFits w64 z = search rules in
    let out : to_z w128 (of_z w128 (pos 0 -ℤ to_z w128 (of_z w128 (to_z w64 (of_z w64 z))))) ≡ neg_ℤ z = rw (widened z fits) (negated z (omega (arith, ints))) in
    let none = no_legs c.number-column.result _ _ (either_empty_from_Zip c.loop-share.share-iterator c.next.new.self c.next.result c.in-None.is c.next.ensures.steps) in
    let first = c.add_leg.ensures ∙ (λ i. with_leg (c.new-draft.ensures i) (leg d.account (c.number-column.ensures i) (out i))) in
    c.entry.ensures
    ∙ ap entry_in (
    sym (ap (with_legs (drawn c.loop-share.draft)) none)
    ∙ c.loop-share.invariant
    ∙ (λ i. with_legs (first i) (portion_legs (c.number-column.ensures i) ss ps))
    )
    ∙ drawn_up (split_legs d c.args.currency ss ps)
