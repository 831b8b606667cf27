-- One account more is written. Assumes nothing.
use Rattle.std.proofs.Common.{ℕ, ◌+◌, List, ◌++◌, length, string_bytes, sym, ap, ◌∙◌, append-nil, arith}
use Rattle.std.specs.List.{flat_map}
use Rattle.ledger.specs.Limits.{columns}
use Rattle.transcript.specs.declared.audit.Cell.{Cell}
use Rattle.transcript.specs.Text.{cell_text}
use Rattle.book.specs.View.{state_of}
use Rattle.runner.specs.Audit.{cells_of}
use Rattle.runner.proofs.Listing.{accounts_none, text_more, count_more}
use Rattle.runner.proofs.audit.write_cells.Goals as goal

pub loop-account-init : goal.loop-account-init
loop-account-init g c =
    let s = state_of g.L.Balances c.args.book.now in
    let e = accounts_none s in
    let before = string_bytes c.args.transcript.now in
    (sym (append-nil before) ∙ ap (λ (xs : List Cell). before ++ flat_map cell_text xs) (sym e), ap length (sym e), omega arith)

pub loop-account-preserved : goal.loop-account-preserved
loop-account-preserved g c =
    let s = state_of g.L.Balances c.args.book.now in
    let a = c.loop-account.account in
    let before = string_bytes c.args.transcript.now in
    let inv = c.loop-account.invariant in
    let wrote = c.in_ok-cells.ensures in (
      wrote.text ∙ ap (λ (bs : List ℕ). bs ++ flat_map cell_text (cells_of s a columns)) inv.0 ∙ text_more s a before,
      (λ i. inv.1 i + wrote.count i) ∙ count_more s a,
      omega (arith, wrote.bound, inv.2),
    )
