-- The bytes of each line that the runner writes. Assumes nothing.
use Rattle.std.specs.Prelude.{ℕ, List, [], ◌∷◌, ◌++◌, codes, decimal}
use Rattle.std.proofs.Math.Utf8.{encode}
use Rattle.std.specs.List.{flat_map}
use Rattle.std.specs.Fmt.{signed_decimal}
use Rattle.register.specs.Register.{registered, refusal_text}
use Rattle.money.specs.declared.quantity.Minor.{Minor}
use Rattle.money.specs.Table.{number_of}
use Rattle.model.specs.declared.record.Record.{Record}
use Rattle.model.specs.declared.record.Standing.{Standing}
use Rattle.model.specs.declared.record.Standing.TheVariants.{Out, Parked}
use Rattle.transcript.specs.declared.answer.Answer.{Answer}
use Rattle.transcript.specs.declared.answer.Answer.TheVariants.{Done, Converted, Split, Swept, Refused}
use Rattle.transcript.specs.declared.answer.Line.{Line}
use Rattle.transcript.specs.declared.audit.Heading.{Heading}
use Rattle.transcript.specs.declared.audit.Cell.{Cell}
use Rattle.transcript.specs.declared.audit.End.{End}

-- the end of a line
abbrev pub newline : List ℕ
newline = 10 ∷ []

-- a word after another, with a space between
abbrev and : List ℕ → List ℕ → List ℕ
and word rest = word ++ (codes " " ++ rest)

-- an amount after a space
abbrev pub amount_text : Minor → List ℕ
amount_text b = codes " " ++ signed_decimal b.0

-- amounts in a row
abbrev pub amounts_text : List Minor → List ℕ
amounts_text bs = flat_map amount_text bs

-- ok and the answer's numbers, or no and the refusal
abbrev pub answer_text : Answer → List ℕ
answer_text Done = codes "ok"
answer_text (Converted b n) = codes "ok " ++ and (signed_decimal b.0) (decimal n)
answer_text (Split given) = codes "ok" ++ amounts_text given.amounts.now
answer_text (Swept q) = codes "ok " ++ signed_decimal q.0
answer_text (Refused fault) = codes "no " ++ refusal_text (registered fault)

-- the line's number and the answer
abbrev pub line_text : Line → List ℕ
line_text x = and (decimal x.number) (answer_text x.answer ++ newline)

-- audit, the kind's letter and the room
abbrev pub heading_text : Heading → List ℕ
heading_text x = codes "audit " ++ and (encode x.kind) (decimal x.room ++ newline)

-- cell, account, column and amount
abbrev pub cell_text : Cell → List ℕ
cell_text x = codes "cell " ++ and (decimal x.account) (and (decimal x.column) (signed_decimal x.amount ++ newline))

-- o for a slip that is out, p for one that is parked
abbrev pub standing_text : Standing → List ℕ
standing_text Out = codes "o"
standing_text Parked = codes "p"

-- open, the number, the standing, the numbers of both currencies and both residues
abbrev pub open_text : Record → List ℕ
open_text r =
    codes "open " ++ and (decimal r.number) (and (standing_text r.standing) (and (decimal (number_of r.from))
    (and (decimal (number_of r.to)) (and (signed_decimal r.euro.0) (signed_decimal r.national.0 ++ newline)))))

-- end, and how many cell and open lines there are
abbrev pub end_text : End → List ℕ
end_text x = codes "end " ++ and (decimal x.cells) (decimal x.records ++ newline)
