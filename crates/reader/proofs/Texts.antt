-- A word says something exactly if it is written so. Assumes nothing.
use Rattle.std.proofs.Common.{◌≡◌, ℕ, suc, ◌+◌, ◌-◌, ◌*◌, ◌^◌, ◌<◌, Bool, true, false, cond, ◌&&◌, eqb, ltb, leb, List, [], ◌∷◌, ◌++◌, length, take, drop, ℤ, pos, neg_ℤ, Some, None, Ok, Err, decimal, Option, Result, sym, refl, ap, ◌∙◌, subst, inl, inr, ⊎_elim, arith}
use Rattle.std.specs.Option.{option_map}
use Rattle.std.proofs.lemmas.Fmt.{decimal_nonempty}
use Rattle.std.proofs.lemmas.Option.{cond_some, none-some}
use Rattle.std.proofs.lemmas.List.{take_all, take-append-le, length-append}
use Rattle.std.proofs.lemmas.Bool.{leb-true, lt-leb, ne_eqb, eqb-true, and_parts, and_left, cond-true, cond-false, cases_Bool, lt-ltb, ltb-true}
use Rattle.register.specs.Register.{Refusal}
use Rattle.money.specs.Conversions.{minors}
use Rattle.money.specs.Table.{coded, code_of, number_of}
use Rattle.money.specs.declared.currency.Currency.{Currency}
use Rattle.money.specs.declared.currency.Currency.TheVariants.{Euro, National as Of}
use Rattle.money.specs.declared.currency.National.TheVariants.{Bef, Dem, Esp, Frf, Iep, Itl, Luf, Nlg, Ats, Pte, Fim}
use Rattle.money.specs.declared.quantity.Minor.{Minor}
use Rattle.money.proofs.Names.{names}
use Rattle.apportion.specs.declared.share.Share.{Share}
use Rattle.reader.specs.Bytes.{before, colon}
use Rattle.reader.specs.Kinds.{Kind, name, number, signed, code, pair, kind_by, kind_of, read_piece}
use Rattle.reader.specs.Limits.{most_digits}
use Rattle.reader.specs.Numbers.{digit, digits_after, plain, number_in, signed_in, capital, code_in, both, pair_in}
use Rattle.reader.specs.Requests.{number_at, amount_at, signed_at, currency_at, share_at, and_then, as_number, as_signed, as_share, as_currency, number_if_known}
use Rattle.reader.specs.Words.{Piece}
use Rattle.reader.specs.Writing.{SpellsNumber, SpellsAmount, SpellsSigned, SpellsCurrency, SpellsShare}
use Rattle.reader.proofs.Parts.{before_joins}
use Rattle.reader.proofs.Spelling.{one_spelling, decimal_digits, all_digits, some_way}

-- a step that gave something came of one that did
pub chained : {A B : Type 0} (r : Result A Refusal) (f : A → Result B Refusal) (y : B) → and_then r f ≡ Ok y → (x : A) × (r ≡ Ok x) × (f x ≡ Ok y)
chained (Ok x) f y h = (x, refl, h)
chained (Err e) f y h = cc

-- what could be read, where that is the kind
abbrev Says : Option ℕ → Option ℤ → Option (List ℕ) → Option (ℕ × ℕ) → Kind → Type 0
Says o z c p name = Unit {0}
Says o z c p (number n) = o ≡ Some n
Says o z c p (signed y) = z ≡ Some y
Says o z c p (code bs) = c ≡ Some bs
Says o z c p (pair m n) = p ≡ Some (m, n)

kind_says : (o : Option ℕ) (z : Option ℤ) (c : Option (List ℕ)) (p : Option (ℕ × ℕ)) → Says o z c p (kind_by o z c p)
kind_says (Some n) z c p = refl
kind_says None (Some y) c p = refl
kind_says None None (Some bs) p = refl
kind_says None None None (Some p) = refl
kind_says None None None None = tt

-- a text of a kind says what that kind says
text_says : (bs : List ℕ) (k : Kind) → kind_of bs ≡ k → Says (number_in bs) (signed_in bs) (code_in bs) (pair_in bs) k
text_says bs k h = subst (Says (number_in bs) (signed_in bs) (code_in bs) (pair_in bs)) h (kind_says (number_in bs) (signed_in bs) (code_in bs) (pair_in bs))

-- what gave a number, a signed number, a share or a currency was of that kind
as_number_lem : (c : ℕ) (k : Kind) (n : ℕ) → as_number c k ≡ Ok n → k ≡ number n
as_number_lem c (number m) n h = cc
as_number_lem c _ n h = cc

as_signed_lem : (c : ℕ) (k : Kind) (m : Minor) → as_signed c k ≡ Ok m → k ≡ signed m.0
as_signed_lem c (signed z) m h = let e : record { 0 = z } ≡ m = cc in ap (λ x. signed x.0) e
as_signed_lem c _ m h = cc

as_share_lem : (c : ℕ) (k : Kind) (s : Share) → as_share c k ≡ Ok s → k ≡ pair s.account s.weight
as_share_lem c (pair a b) s h = let e : record { account = a; weight = b } ≡ s = cc in ap (λ x. pair x.account x.weight) e
as_share_lem c _ s h = cc

if_known : (c : ℕ) (o : Option Currency) (n : ℕ) → number_if_known c o ≡ Ok n → (k : Currency) × (o ≡ Some k) × (number_of k ≡ n)
if_known c (Some k) n h = (k, refl, cc)
if_known c None n h = cc

as_currency_lem : (c : ℕ) (k : Kind) (n : ℕ) → as_currency c k ≡ Ok n → (bs : List ℕ) × (k ≡ code bs) × (number_if_known c (coded bs) ≡ Ok n)
as_currency_lem c (code bs) n h = (bs, refl, h)
as_currency_lem c _ n h = cc

-- numbers

spells_number : (bs : List ℕ) (n : ℕ) → number_in bs ≡ Some n → SpellsNumber n bs
spells_number bs n h = let p = one_spelling.nothing_else bs n h in record { short = p.1; digits = p.0 }

kind_of_number : (bs : List ℕ) (n : ℕ) → SpellsNumber n bs → kind_of bs ≡ number n
kind_of_number bs n h =
    ap (λ o. kind_by o (signed_in bs) (code_in bs) (pair_in bs)) (ap number_in h.digits ∙ one_spelling.reads_back n h.short)

pub number_spelt : (p : Piece) (n : ℕ) → number_at (read_piece p) ≡ Ok n → SpellsNumber n p.text
unfolding number_at
number_spelt p n h = spells_number p.text n (text_says p.text (number n) (as_number_lem p.column (kind_of p.text) n h))

pub number_read : (p : Piece) (n : ℕ) → SpellsNumber n p.text → number_at (read_piece p) ≡ Ok n
unfolding number_at
number_read p n h = ap (as_number p.column) (kind_of_number p.text n h)

pub amount_spelt : (p : Piece) (m : Minor) → amount_at (read_piece p) ≡ Ok m → SpellsAmount m p.text
unfolding amount_at
amount_spelt p m h =
    let s = chained (as_number p.column (kind_of p.text)) (λ n. Ok (minors n)) m h in
    let is : minors s.0 ≡ m = let e = s.2 in cc in
    record { count = s.0; is = sym is; number = spells_number p.text s.0 (text_says p.text (number s.0) (as_number_lem p.column (kind_of p.text) s.0 s.1)) }

pub amount_read : (p : Piece) (m : Minor) → SpellsAmount m p.text → amount_at (read_piece p) ≡ Ok m
unfolding amount_at
amount_read p m h =
    ap (λ k. and_then (as_number p.column k) (λ n. Ok (minors n))) (kind_of_number p.text h.count h.number)
    ∙ ap (λ x. Ok x) (sym h.is)

-- a number has no byte that is no digit

either_none : {A : Type 0} (t : Bool) → ◌≡◌ {A = Option A} (cond t None None) None
either_none true = refl
either_none false = refl

digits_broken : (n b : ℕ) (xs ys : List ℕ) → digit b ≡ false → digits_after n (xs ++ (b ∷ ys)) ≡ None
digits_broken n b [] ys h = cond-false (digit b) _ None h
digits_broken n b (x ∷ xs) ys h =
    ap (λ o. cond (digit x) o None) (digits_broken (n * 10 + (x - 48)) b xs ys h) ∙ either_none (digit x)

no_number : (b : ℕ) (xs ys : List ℕ) → digit b ≡ false → number_in (xs ++ (b ∷ ys)) ≡ None
no_number b xs ys h =
    ap (λ o. cond (plain (xs ++ (b ∷ ys)) && leb (length (xs ++ (b ∷ ys))) most_digits) o None) (digits_broken 0 b xs ys h)
    ∙ either_none (plain (xs ++ (b ∷ ys)) && leb (length (xs ++ (b ∷ ys))) most_digits)

-- signed numbers

mapped_some : {A B : Type 0} (f : A → B) (o : Option A) (y : B) → option_map f o ≡ Some y → (x : A) × (o ≡ Some x) × (f x ≡ y)
mapped_some f (Some x) y h = (x, refl, cc)
mapped_some f None y h = cc

spells_signed : (bs : List ℕ) (m : Minor) → signed_in bs ≡ Some m.0 → SpellsSigned m bs
spells_signed [] m h = absurd (none-some m.0 h)
spells_signed (b ∷ bs) m h =
    ⊎_elim
    (λ e.
    let s = mapped_some pos (number_in bs) m.0 (sym (cond-true (eqb b 43) _ _ e) ∙ h) in
    let n = spells_number bs s.0 s.1 in
    record {
      count = s.0;
      short = n.short;
      sign = inl (λ i. record { 0 = sym s.2 i }, λ i. eqb-true b 43 e i ∷ n.digits i);
    })
    (λ e.
    let rest = sym (cond-false (eqb b 43) _ _ e) ∙ h in
    ⊎_elim
    (λ f.
    let s = mapped_some (λ n. neg_ℤ (pos n)) (number_in bs) m.0 (sym (cond-true (eqb b 45) _ _ f) ∙ rest) in
    let n = spells_number bs s.0 s.1 in
    record {
      count = s.0;
      short = n.short;
      sign = inr (λ i. record { 0 = sym s.2 i }, λ i. eqb-true b 45 f i ∷ n.digits i);
    })
    (λ f. absurd (none-some m.0 (sym (cond-false (eqb b 45) _ _ f) ∙ rest)))
    (cases_Bool (eqb b 45)))
    (cases_Bool (eqb b 43))

-- a sign and then a number are a signed number
sign_kind : (sign n : ℕ) (f : ℕ → ℤ) (c : Option (List ℕ)) (p : Option (ℕ × ℕ)) → digit sign ≡ false → n < 10 ^ most_digits → kind_by (number_in (sign ∷ decimal n)) (option_map f (number_in (decimal n))) c p ≡ signed (f n)
sign_kind sign n f c p d h =
    ap (λ o. kind_by o (option_map f (number_in (decimal n))) c p) (no_number sign [] (decimal n) d)
    ∙ ap (λ o. kind_by None (option_map f o) c p) (one_spelling.reads_back n h)

kind_of_signed : (bs : List ℕ) (m : Minor) → SpellsSigned m bs → kind_of bs ≡ signed m.0
kind_of_signed bs m h =
    ⊎_elim
    (λ s. ap kind_of s.1 ∙ sign_kind 43 h.count pos _ _ refl h.short ∙ ap (λ x. signed x.0) (sym s.0))
    (λ s. ap kind_of s.1 ∙ sign_kind 45 h.count (λ n. neg_ℤ (pos n)) _ _ refl h.short ∙ ap (λ x. signed x.0) (sym s.0))
    h.sign

pub signed_spelt : (p : Piece) (m : Minor) → signed_at (read_piece p) ≡ Ok m → SpellsSigned m p.text
unfolding signed_at
signed_spelt p m h = spells_signed p.text m (text_says p.text (signed m.0) (as_signed_lem p.column (kind_of p.text) m h))

pub signed_read : (p : Piece) (m : Minor) → SpellsSigned m p.text → signed_at (read_piece p) ≡ Ok m
unfolding signed_at
signed_read p m h = ap (as_signed p.column) (kind_of_signed p.text m h)

-- currencies

code_in_lem : (bs cs : List ℕ) → code_in bs ≡ Some cs → cs ≡ bs
code_in_lem (a ∷ b ∷ c ∷ []) cs h = sym (cond_some (capital a && (capital b && capital c)) (a ∷ b ∷ c ∷ []) cs h).1
code_in_lem _ cs h = absurd (none-some cs h)

kind_of_code : (k : Currency) → kind_of (code_of k) ≡ code (code_of k)
kind_of_code Euro = refl
kind_of_code (Of Bef) = refl
kind_of_code (Of Dem) = refl
kind_of_code (Of Esp) = refl
kind_of_code (Of Frf) = refl
kind_of_code (Of Iep) = refl
kind_of_code (Of Itl) = refl
kind_of_code (Of Luf) = refl
kind_of_code (Of Nlg) = refl
kind_of_code (Of Ats) = refl
kind_of_code (Of Pte) = refl
kind_of_code (Of Fim) = refl

pub currency_spelt : (p : Piece) (n : ℕ) → currency_at (read_piece p) ≡ Ok n → SpellsCurrency n p.text
unfolding currency_at
currency_spelt p n h =
    let s = as_currency_lem p.column (kind_of p.text) n h in
    let k = if_known p.column (coded s.0) n s.2 in
    let is = code_in_lem p.text s.0 (text_says p.text (code s.0) s.1) in
    record { currency = k.0; number = k.2; code = sym (names.code_is s.0 k.0 k.1 ∙ is) }

pub currency_read : (p : Piece) (n : ℕ) → SpellsCurrency n p.text → currency_at (read_piece p) ≡ Ok n
unfolding currency_at
currency_read p n h =
    ap (as_currency p.column) (ap kind_of h.code ∙ kind_of_code h.currency)
    ∙ ap (number_if_known p.column) (names.by_code h.currency) ∙ ap (λ k. Ok k) h.number

-- shares

both_some : (o p : Option ℕ) (m n : ℕ) → both o p ≡ Some (m, n) → (o ≡ Some m) × (p ≡ Some n)
both_some None p m n h = absurd (none-some (m, n) h)
both_some (Some a) None m n h = absurd (none-some (m, n) h)
both_some (Some a) (Some b) m n h =
    let e : ◌≡◌ {A = ℕ × ℕ} (a, b) (m, n) = cc in
    (ap (λ q. Some q.0) e, ap (λ q. Some q.1) e)

spells_share : (bs : List ℕ) (s : Share) → pair_in bs ≡ Some (s.account, s.weight) → SpellsShare s bs
spells_share bs s h =
    let e = some_way (ltb (before colon bs) (length bs)) _ (s.account, s.weight) h in
    let q = both_some _ _ s.account s.weight e.1 in
    let a = spells_number _ s.account q.0 in
    let b = spells_number _ s.weight q.1 in
    record {
      account = a.short;
      weight = b.short;
      pair = before_joins colon bs (ltb-true _ _ e.0) ∙ (λ i. a.digits i ++ (colon ∷ b.digits i));
    }

-- digits to the first colon
before_digits : (xs ys : List ℕ) → all_digits xs ≡ true → before colon (xs ++ (colon ∷ ys)) ≡ length xs
before_digits [] ys h = refl
before_digits (x ∷ xs) ys h =
    let d = and_parts (digit x) (all_digits xs) h in
    let small = leb-true x 57 (and_parts (leb 48 x) (leb x 57) d.0).1 in
    cond-false (eqb x colon) 0 _ (ne_eqb x colon (λ e. omega arith)) ∙ ap suc (before_digits xs ys d.1)

no_code : (x : ℕ) (xs : List ℕ) → digit x ≡ true → code_in (x ∷ xs) ≡ None
no_code x xs d =
    let small = leb-true x 57 (and_parts (leb 48 x) (leb x 57) d).1 in
    let low : capital x ≡ false = and_left (leb 65 x) (leb x 90) (lt-leb 65 x (omega arith)) in
    no_code_at x xs low
  where
    no_code_at : (x : ℕ) (xs : List ℕ) → capital x ≡ false → code_in (x ∷ xs) ≡ None
    no_code_at x [] low = refl
    no_code_at x (b ∷ []) low = refl
    no_code_at x (b ∷ c ∷ []) low = cond-false _ (Some (x ∷ b ∷ c ∷ [])) None (and_left (capital x) (capital b && capital c) low)
    no_code_at x (b ∷ c ∷ y ∷ xs) low = refl

no_sign : (x : ℕ) (xs : List ℕ) → digit x ≡ true → signed_in (x ∷ xs) ≡ None
no_sign x xs d =
    let large = leb-true 48 x (and_parts (leb 48 x) (leb x 57) d).0 in
    cond-false (eqb x 43) _ _ (ne_eqb x 43 (λ e. omega arith)) ∙ cond-false (eqb x 45) _ _ (ne_eqb x 45 (λ e. omega arith))

-- a word that begins with digits up to a colon has only one reading
digits_colon : (xs ys : List ℕ) → 0 < length xs → all_digits xs ≡ true → (signed_in (xs ++ (colon ∷ ys)) ≡ None) × (code_in (xs ++ (colon ∷ ys)) ≡ None)
digits_colon [] ys some h = absurd (omega arith)
digits_colon (x ∷ xs) ys some h =
    let d = (and_parts (digit x) (all_digits xs) h).0 in
    (no_sign x (xs ++ (colon ∷ ys)) d, no_code x (xs ++ (colon ∷ ys)) d)

drop_past : (xs : List ℕ) (b : ℕ) (ys : List ℕ) → drop (length xs + 1) (xs ++ (b ∷ ys)) ≡ ys
drop_past [] b ys = refl
drop_past (x ∷ xs) b ys =
    let up : suc (length xs) + 1 ≡ suc (length xs + 1) = omega arith in
    ap (λ k. drop k (x ∷ (xs ++ (b ∷ ys)))) up ∙ drop_past xs b ys

pair_in_lem : (m n : ℕ) → m < 10 ^ most_digits → n < 10 ^ most_digits → pair_in (decimal m ++ (colon ∷ decimal n)) ≡ Some (m, n)
pair_in_lem m n hm hn =
    let xs = decimal m in
    let ys = decimal n in
    let at = before_digits xs ys (decimal_digits m hm) in
    let long : length xs < length (xs ++ (colon ∷ ys)) = omega (arith, length-append xs (colon ∷ ys)) in
    let front : take (length xs) (xs ++ (colon ∷ ys)) ≡ xs = take-append-le (length xs) xs (colon ∷ ys) (omega arith) ∙ take_all (length xs) xs (omega arith) in
    let back : drop (length xs + 1) (xs ++ (colon ∷ ys)) ≡ ys = drop_past xs colon ys in
    ap (λ k. cond (ltb k (length (xs ++ (colon ∷ ys)))) (both (number_in (take k (xs ++ (colon ∷ ys)))) (number_in (drop (k + 1) (xs ++ (colon ∷ ys))))) None) at
    ∙ cond-true _ _ None (lt-ltb _ _ long)
    ∙ (λ i. both (number_in (front i)) (number_in (back i)))
    ∙ (λ i. both (one_spelling.reads_back m hm i) (one_spelling.reads_back n hn i))

kind_of_share : (bs : List ℕ) (s : Share) → SpellsShare s bs → kind_of bs ≡ pair s.account s.weight
kind_of_share bs s h =
    let xs = decimal s.account in
    let ys = decimal s.weight in
    let only = digits_colon xs ys (decimal_nonempty s.account (omega (arith, h.account))) (decimal_digits s.account h.account) in
    ap kind_of h.pair
    ∙ (λ i. kind_by (no_number colon xs ys refl i) (only.0 i) (only.1 i) (pair_in_lem s.account s.weight h.account h.weight i))

pub share_spelt : (p : Piece) (s : Share) → share_at (read_piece p) ≡ Ok s → SpellsShare s p.text
unfolding share_at
share_spelt p s h =
    spells_share p.text s (text_says p.text (pair s.account s.weight) (as_share_lem p.column (kind_of p.text) s h))

pub share_read : (p : Piece) (s : Share) → SpellsShare s p.text → share_at (read_piece p) ≡ Ok s
unfolding share_at
share_read p s h = ap (as_share p.column) (kind_of_share p.text s h)
