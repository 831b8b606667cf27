-- Assumes nothing.
use Rattle.std.proofs.Common.{◌≡◌, ℕ, List, ◌++◌, get_or, refl, ap, ◌∙◌, subst}
use lib.Utf8.{encode}
use Rattle.std.specs.Fmt.{HasWritten}
use Rattle.money.specs.declared.currency.National.TheVariants.{Bef, Dem, Esp, Frf, Iep, Itl, Luf, Nlg, Ats, Pte, Fim}
use Rattle.money.specs.declared.currency.Currency.{Currency}
use Rattle.money.specs.declared.currency.Currency.TheVariants.{Euro, National as Of}
use Rattle.money.specs.Table.{code_of}
use Rattle.money.proofs.currency.CurrencyDisplay.fmt.Goals as goal

-- three bytes as three characters
abbrev spelled : List ℕ → List ℕ
spelled code = encode (get_or code 0 0) ++ (encode (get_or code 1 0) ++ encode (get_or code 2 0))

spelled_code : (c : Currency) → spelled (code_of c) ≡ code_of c
unfolding encode
spelled_code Euro = refl
spelled_code (Of Bef) = refl
spelled_code (Of Dem) = refl
spelled_code (Of Esp) = refl
spelled_code (Of Frf) = refl
spelled_code (Of Iep) = refl
spelled_code (Of Itl) = refl
spelled_code (Of Luf) = refl
spelled_code (Of Nlg) = refl
spelled_code (Of Ats) = refl
spelled_code (Of Pte) = refl
spelled_code (Of Fim) = refl

pub returns-clause-writes : goal.returns-clause-writes
returns-clause-writes g c plain ok =
    let same : spelled c.code.result ≡ code_of c.args.self.now = ap spelled c.code.ensures ∙ spelled_code c.args.self.now in
    subst (λ (text : List ℕ). HasWritten g.W.Write.write_str_gives c.args.f.now text c.write.new.self) same (c.write.ensures.writes plain ok)
