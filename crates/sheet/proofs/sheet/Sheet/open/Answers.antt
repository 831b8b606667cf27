-- The list is cleared, or too short. Assumes nothing.
use Rattle.std.proofs.Common.{sym, refl, ◌∙◌, arith}
use Rattle.sheet.proofs.Opening.{filled, opened_meaning}
use Rattle.sheet.proofs.sheet.Sheet.open.Goals as goal

pub returns : goal.returns
returns c =
    let enough = sym c.is_long.ensures ∙ c.if-not-is_long.false in
    let is = filled c.args.cells.now c.fill.new.self enough (c.fill.ensures.after (λ y e. e)) in
    record { meaning = opened_meaning c.args.cells.now _ c.min.result c.args.room enough is (omega arith); cells = is; named = refl }
