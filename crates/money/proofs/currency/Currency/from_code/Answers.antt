-- Assumes nothing.
use Rattle.std.proofs.Common.{◌≡◌, sym, refl, ap, ◌∙◌, arith}
use Rattle.std.specs.Str.{bytes_eq}
use Rattle.money.proofs.Codes.{coded_from, coded_start, coded_end, coded_here, coded_more}
use Rattle.money.proofs.currency.Currency.from_code.Goals as goal

pub loop-currency-init : goal.loop-currency-init
loop-currency-init c = coded_start c.args.code

pub returns : goal.returns
returns c =
    let e : c.loop-currency.currency-index ≡ 12 = omega arith in
    sym (c.loop-currency.invariant ∙ ap (coded_from c.args.code) e ∙ coded_end c.args.code)

pub returns-then-eq : goal.returns-then-eq
returns-then-eq c =
    sym (c.loop-currency.invariant ∙ coded_here c.args.code c.loop-currency.currency-index _ (omega arith) refl
    (ap (bytes_eq c.args.code) (sym c.code.ensures) ∙ sym c.eq.ensures ∙ c.if-eq.true))

pub loop-currency-preserved : goal.loop-currency-preserved
loop-currency-preserved c =
    c.loop-currency.invariant ∙ coded_more c.args.code c.loop-currency.currency-index _ (omega arith) refl
    (ap (bytes_eq c.args.code) (sym c.code.ensures) ∙ sym c.eq.ensures ∙ c.if-eq.false)
