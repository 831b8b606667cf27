-- One cell more is written if it holds something. Assumes nothing.
use Rattle.std.proofs.Common.{◌≡◌, ℕ, ◌+◌, true, false, List, ◌++◌, length, get_or, ℤ, pos, string_bytes, sym, ap, ◌∙◌, append-nil, arith, w64, SFits, to_z, of_z, rules}
use Rattle.std.proofs.lemmas.Int.{to_z-of_z}
use Rattle.std.specs.List.{flat_map}
use Rattle.ledger.specs.Entries.{is_zero}
use Rattle.ledger.proofs.Meanings.{row_reads}
use Rattle.transcript.specs.declared.audit.Cell.{Cell}
use Rattle.transcript.specs.Text.{cell_text}
use Rattle.book.specs.View.{state_of}
use Rattle.runner.specs.Audit.{cell_at}
use Rattle.runner.proofs.Listing.{row_length, cells_none, cells_same, text_kept, count_kept, not_zero, zero_is}
use Rattle.runner.proofs.audit.write_account.Goals as goal
use Rattle.runner.proofs.audit.write_account.Goals.{then-amount-ne0+in_ok-append, else-amount-ne0}

pub loop-column-init : goal.loop-column-init
loop-column-init g c =
    let s = state_of g.L.Balances c.args.book.now in
    let e = cells_none s c.args.account in
    let before = string_bytes c.args.transcript.now in
    (sym (append-nil before) ∙ ap (λ (xs : List Cell). before ++ flat_map cell_text xs) (sym e), ap length (sym e), omega arith)

pub loop-column-preserved : goal.loop-column-preserved
loop-column-preserved g c =
    let s = state_of g.L.Balances c.args.book.now in
    let a = c.args.account in
    let k = c.loop-column.column in
    let before = string_bytes c.args.transcript.now in
    let inv = c.loop-column.invariant in
    let row = c.row-row.result in
    let amount = get_or row k (pos 0) in
    let fits : SFits w64 amount = search rules in
    let is : amount ≡ s.ledger.cell a k = ap (λ (xs : List ℤ). get_or xs k (pos 0)) c.row-row.ensures.value ∙ row_reads s.ledger a k (pos 0) (omega (arith, c.loop-column-test.true, ap length c.row-row.ensures.value, row_length s.ledger a)) in
    elim c.if-amount-ne0.branch [
      | then-amount-ne0+in_ok-append w ↦
          let some : is_zero (s.ledger.cell a k) ≡ false = ap is_zero (sym is) ∙ not_zero amount (λ (e : amount ≡ pos 0). w.if-amount-ne0.true (ap (of_z w64) e)) in
          let wrote = w.in_ok-append.ensures in (
            ap string_bytes w.transcript-is
                ∙ wrote
                ∙ ap (λ (z : ℤ). string_bytes c.loop-column.transcript ++ cell_text (record { account = a; column = k; amount = z })) (to_z-of_z w64 amount fits ∙ is)
                ∙ ap (λ (bs : List ℕ). bs ++ cell_text (cell_at s a k)) inv.0
                ∙ text_kept s a k before some,
            w.cells-is ∙ ap (λ (n : ℕ). n + 1) inv.1 ∙ count_kept s a k some,
            omega (arith, w.cells-is, inv.2),
          )
      | else-amount-ne0 w ↦
          let none : is_zero (s.ledger.cell a k) ≡ true = ap is_zero (sym is) ∙ zero_is amount (sym (to_z-of_z w64 amount fits) ∙ ap (to_z w64) w.if-amount-ne0.false) in
          let e = cells_same s a k none in (
            ap string_bytes w.transcript-is ∙ inv.0 ∙ ap (λ (xs : List Cell). before ++ flat_map cell_text xs) (sym e),
            w.cells-is ∙ inv.1 ∙ ap length (sym e),
            omega (arith, w.cells-is, inv.2),
          )
    ]
