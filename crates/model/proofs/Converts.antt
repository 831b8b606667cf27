-- What conversions owe. Assumes nothing.
use Rattle.std.proofs.Common.{◌≡◌, ℕ, suc, ◌+◌, ◌*◌, ◌<◌, ◌≤◌, cond, eqb, ltb, ◌≢◌, List, ◌∷◌, length, ℤ, pos, ◌+ℤ◌, ◌-ℤ◌, ◌*ℤ◌, neg_ℤ, nat_abs, Some, Ok, Result, sym, refl, ap, ◌∙◌, subst, ap₂, subst₂, arith}
use borrow.Author.Differences.{ints}
use lib.Signed.{le_z}
use Rattle.std.proofs.lemmas.Bool.{eq-eqb, ne_eqb}
use Rattle.register.specs.Register.{Refusal, by_book}
use Rattle.money.specs.declared.conversion.Conversion.{Conversion}
use Rattle.money.specs.declared.conversion.Route.{Route}
use Rattle.money.specs.declared.conversion.Route.TheVariants.{IntoEuro, FromEuro, Between}
use Rattle.money.specs.declared.currency.Currency.{Currency}
use Rattle.money.specs.declared.currency.Currency.TheVariants.{Euro, National as Of}
use Rattle.money.specs.declared.currency.National.{National}
use Rattle.money.specs.declared.quantity.Minor.{Minor}
use Rattle.money.specs.Conversions.{most_amount, exchanged, booked, convertible, bounded, converted, route_of}
use Rattle.money.specs.Laws.{Lossless, start, end}
use Rattle.money.specs.Rounding.{residue_of}
use Rattle.money.specs.Table.{table, rate, parts, number_of, numbered}
use Rattle.money.proofs.Lossless.{lossless}
use Rattle.money.proofs.Names.{names}
use Rattle.ledger.specs.declared.leg.Leg.{Leg}
use Rattle.ledger.specs.Legs.{leg, column_sum, rise}
use Rattle.ledger.specs.Limits.{accounts}
use Rattle.ledger.proofs.Columns.{national_bounds}
use Rattle.ledger.proofs.Rises.{by_equal}
use Rattle.model.specs.declared.record.Record.{Record}
use Rattle.model.specs.declared.record.Standing.TheVariants.{Out}
use Rattle.model.specs.declared.request.Exchange.{Exchange}
use Rattle.model.specs.Calls.{convert}
use Rattle.model.specs.Conservation.{slips}
use Rattle.model.specs.Docket.{most_records, most_slips, record_of, residues_of}
use Rattle.model.specs.History.{Event, held, status, Origin, origin, source_of, target_of, amount_of, euro_residue, national_residue, origin_of, residue_at, residue_in, origin_legs, exact_out, cents_booked, mills_passed, exact_in, units_booked}
use Rattle.model.specs.Postings.{transfers}
use Rattle.model.specs.Results.{unless}
use Rattle.model.specs.State.{State}
use Rattle.model.specs.Step.{Movement, fitness, currency_at, account_at, converts, converting}
use Rattle.model.proofs.Accepted.{and_then_lem, ok_same, cond_then, cond_else, Named, account_named, Names, currency_named}
use Rattle.model.proofs.Carries.{told_record}
use Rattle.model.proofs.Docket.{recorded}
use Rattle.model.proofs.Kept.{Balanced, Sound, Kept}
use Rattle.model.proofs.Legs.{at_off, rise_off, rise_beside, pair_column, origin_to, origin_from, origin_column, origin_all}
use Rattle.model.proofs.Slips.{cond_same, cond_other}

-- ---- what a conversion has passed

-- a route that joins the two currencies
record Ends (route : Route) (from to : Currency) : Type 0 where
  start_is : start route ≡ from
  end_is : end route ≡ to

ends_at : (from to : Currency) (r route : Route) → Ends r from to → ◌≡◌ {A = Result Route Refusal} (Ok r) (Ok route) → Ends route from to
ends_at from to r route x e = subst (λ (y : Route). Ends y from to) (ok_same r route e) x

route_ends : (from to : Currency) (route : Route) → route_of from to ≡ Ok route → Ends route from to
route_ends Euro Euro route e = let z : ◌≡◌ {A = ℕ} 0 1 = cc in absurd (omega arith)
route_ends Euro (Of j) route e = ends_at Euro (Of j) (FromEuro j) route (record { start_is = refl; end_is = refl }) e
route_ends (Of i) Euro route e = ends_at (Of i) Euro (IntoEuro i) route (record { start_is = refl; end_is = refl }) e
route_ends (Of i) (Of j) route e =
    ends_at (Of i) (Of j) (Between i j) route (record { start_is = refl; end_is = refl })
    (cond_else (eqb (table i).number (table j).number) (Ok (Between i j)) (by_book 3 0) route e)

is_exchanged : (route : Route) (amount : ℤ) (c : Conversion) → converted route amount ≡ Ok c → c ≡ exchanged route (nat_abs amount)
is_exchanged route amount c e =
    let x : Conversion = exchanged route (nat_abs amount) in
    sym (ok_same x c (cond_then (le_z (booked x).0 (pos most_amount)) (Ok x) (by_book 9 0) c (cond_then (convertible amount) (bounded x) (by_book 5 0) c e)))

-- ---- the record is the origin that the history tells

abbrev origin_for : Currency → Currency → ℕ → ℤ → Origin
origin_for from to amount b = record { from = from; to = to; euro = euro_residue from to amount b; national = national_residue from to amount b }

route_record : (n : ℕ) (route : Route) (amount : ℕ)
    → record_of n (start route) (end route) (exchanged route amount) ≡ recorded n (origin_for (start route) (end route) amount (booked (exchanged route amount)).0) Out
unfolding residue_of
route_record n (IntoEuro i) amount = refl
route_record n (FromEuro j) amount = refl
route_record n (Between i j) amount = refl

record_told : (n : ℕ) (route : Route) (amount : ℕ) (from to : Currency) → Ends route from to
    → record_of n from to (exchanged route amount) ≡ recorded n (origin_for from to amount (booked (exchanged route amount)).0) Out
record_told n route amount from to e =
    subst₂ (λ (f t : Currency). record_of n f t (exchanged route amount) ≡ recorded n (origin_for f t amount (booked (exchanged route amount)).0) Out)
    e.start_is e.end_is (route_record n route amount)

-- ---- exact amounts

same_national : (i k : National) → (table k).number ≡ (table i).number → k ≡ i
same_national i k e = let s : Some (Of k) ≡ Some (Of i) = sym (names.by_number (Of k)) ∙ ap numbered e ∙ names.by_number (Of i) in cc

none_left : (d r : ℕ) (z : ℤ) → z ≡ pos 0 → pos 0 ≡ pos d *ℤ (pos 0 +ℤ pos 0) +ℤ pos r *ℤ pos 0 +ℤ z
none_left d r z e = omega (arith, ints)

-- one currency, or two
by_national : (P : National → Type 0) (i k : National) → P i → ((table k).number ≢ (table i).number → P k) → P k
by_national P i k same other = by_equal (table k).number (table i).number (λ e. subst P (sym (same_national i k e)) same) other

euro_here : (i : National) (to : Currency) (amount : ℕ) (b : ℤ)
    → exact_out i (Of i) to amount b ≡ pos (10 * rate i) *ℤ (cents_booked i (Of i) to amount b +ℤ pos 0) +ℤ pos (rate i) *ℤ mills_passed i (Of i) to amount b +ℤ residue_at 11 (Of i) (euro_residue (Of i) to amount b) (11 + (table i).number)
euro_here i Euro amount b =
    let none : b +ℤ pos 0 ≡ b = omega (arith, ints) in
    rw (eq-eqb (table i).number (table i).number refl, eq-eqb (11 + (table i).number) (11 + (table i).number) refl, none) (omega (arith, ints))
euro_here i (Of j) amount b = rw (eq-eqb (table i).number (table i).number refl, eq-eqb (11 + (table i).number) (11 + (table i).number) refl) (omega (arith, ints))

euro_off : (i k : National) (to : Currency) (amount : ℕ) (b : ℤ) → (table k).number ≢ (table i).number
    → exact_out i (Of k) to amount b ≡ pos (10 * rate i) *ℤ (cents_booked i (Of k) to amount b +ℤ pos 0) +ℤ pos (rate i) *ℤ mills_passed i (Of k) to amount b +ℤ residue_at 11 (Of k) (euro_residue (Of k) to amount b) (11 + (table i).number)
euro_off i k Euro amount b ne =
    let far : 11 + (table k).number ≢ 11 + (table i).number = λ e. ne (omega arith) in
    rw (ne_eqb (table k).number (table i).number ne, ne_eqb (11 + (table k).number) (11 + (table i).number) far) (omega (arith, ints))
euro_off i k (Of j) amount b ne =
    let far : 11 + (table k).number ≢ 11 + (table i).number = λ e. ne (omega arith) in
    rw (ne_eqb (table k).number (table i).number ne, ne_eqb (11 + (table k).number) (11 + (table i).number) far) (omega (arith, ints))

-- M is the cents booked, the mills passed on, and the euro residue
euro_exact : (i : National) (from to : Currency) (amount : ℕ) (b : ℤ)
    → exact_out i from to amount b ≡ pos (10 * rate i) *ℤ (cents_booked i from to amount b +ℤ pos 0) +ℤ pos (rate i) *ℤ mills_passed i from to amount b +ℤ residue_at 11 from (euro_residue from to amount b) (11 + (table i).number)
euro_exact i Euro to amount b = none_left (10 * rate i) (rate i) (pos 0) refl
euro_exact i (Of k) to amount b =
    by_national (λ k. exact_out i (Of k) to amount b ≡ pos (10 * rate i) *ℤ (cents_booked i (Of k) to amount b +ℤ pos 0) +ℤ pos (rate i) *ℤ mills_passed i (Of k) to amount b +ℤ residue_at 11 (Of k) (euro_residue (Of k) to amount b) (11 + (table i).number))
    i k (euro_here i to amount b) (euro_off i k to amount b)

national_here : (j : National) (from : Currency) (amount : ℕ) (b : ℤ)
    → exact_in j from (Of j) amount b ≡ pos (parts j) *ℤ (units_booked j from (Of j) amount b +ℤ pos 0) +ℤ residue_at 22 (Of j) (national_residue from (Of j) amount b) (22 + (table j).number)
national_here j from amount b =
    let none : b +ℤ pos 0 ≡ b = omega (arith, ints) in
    rw (eq-eqb (table j).number (table j).number refl, eq-eqb (22 + (table j).number) (22 + (table j).number) refl, none) (omega (arith, ints))

national_off : (j k : National) (from : Currency) (amount : ℕ) (b : ℤ) → (table k).number ≢ (table j).number
    → exact_in j from (Of k) amount b ≡ pos (parts j) *ℤ (units_booked j from (Of k) amount b +ℤ pos 0) +ℤ residue_at 22 (Of k) (national_residue from (Of k) amount b) (22 + (table j).number)
national_off j k from amount b ne =
    let far : 22 + (table k).number ≢ 22 + (table j).number = λ e. ne (omega arith) in
    rw (ne_eqb (table k).number (table j).number ne, ne_eqb (22 + (table k).number) (22 + (table j).number) far) (omega (arith, ints))

-- N is the units booked and the national residue
national_exact : (j : National) (from to : Currency) (amount : ℕ) (b : ℤ)
    → exact_in j from to amount b ≡ pos (parts j) *ℤ (units_booked j from to amount b +ℤ pos 0) +ℤ residue_at 22 to (national_residue from to amount b) (22 + (table j).number)
national_exact j from Euro amount b = omega (arith, ints)
national_exact j from (Of k) amount b =
    by_national (λ k. exact_in j from (Of k) amount b ≡ pos (parts j) *ℤ (units_booked j from (Of k) amount b +ℤ pos 0) +ℤ residue_at 22 (Of k) (national_residue from (Of k) amount b) (22 + (table j).number))
    j k (national_here j from amount b) (national_off j k from amount b)

-- the other fraction stands in another column
national_beside : (c : Currency) (z : ℤ) (i : National) → residue_at 22 c z (11 + (table i).number) ≡ pos 0
national_beside Euro z i = refl
national_beside (Of j) z i =
    let a = national_bounds i in
    let b = national_bounds j in
    at_off (22 + (table j).number) (11 + (table i).number) z (omega (arith, a.1, b.0))

euro_beside : (c : Currency) (z : ℤ) (j : National) → residue_at 11 c z (22 + (table j).number) ≡ pos 0
euro_beside Euro z j = refl
euro_beside (Of i) z j =
    let a = national_bounds i in
    let b = national_bounds j in
    at_off (11 + (table i).number) (22 + (table j).number) z (omega (arith, a.1, b.0))

-- ---- the legs

currency_bound : (c : Currency) → number_of c ≤ 11
currency_bound Euro = omega arith
currency_bound (Of i) = (national_bounds i).1

abbrev legs_for : Exchange → ℤ → Origin → List Leg
legs_for x b w =
    leg x.from x.source (neg_ℤ x.amount.0) ∷ leg 0 x.source x.amount.0
    ∷ leg 0 x.target (neg_ℤ b) ∷ leg x.to x.target b ∷ origin_legs 0 1 w

-- in the fraction columns the exchange account loses the residues
exchange_rise : (x : Exchange) (b : ℤ) (w : Origin) (k : ℕ) → x.source ≤ 11 → x.target ≤ 11 → 12 ≤ k → rise (legs_for x b w) 0 k ≡ neg_ℤ (residue_in w k)
exchange_rise x b w k s t h =
    rise_beside x.from 0 x.source (neg_ℤ x.amount.0) _ k (omega arith)
    ∙ rise_beside 0 0 x.source x.amount.0 _ k (omega arith)
    ∙ rise_beside 0 0 x.target (neg_ℤ b) _ k (omega arith)
    ∙ rise_beside x.to 0 x.target b _ k (omega arith)
    ∙ origin_from 0 1 w k (omega arith)

docket_rise : (x : Exchange) (b : ℤ) (w : Origin) (k : ℕ) → Named x.from → Named x.to → rise (legs_for x b w) 1 k ≡ residue_in w k
docket_rise x b w k f t =
    let p : 2 ≤ x.from = f.low in
    let q : 2 ≤ x.to = t.low in
    rise_off x.from 1 x.source (neg_ℤ x.amount.0) _ k (omega arith)
    ∙ rise_off 0 1 x.source x.amount.0 _ k (omega arith)
    ∙ rise_off 0 1 x.target (neg_ℤ b) _ k (omega arith)
    ∙ rise_off x.to 1 x.target b _ k (omega arith)
    ∙ origin_to 0 1 w k (omega arith)

column_sum_lem : (x : Exchange) (b : ℤ) (w : Origin) (k : ℕ) → column_sum (legs_for x b w) k ≡ pos 0
column_sum_lem x b w k =
    pair_column x.from 0 x.source x.amount.0 (leg 0 x.target (neg_ℤ b) ∷ leg x.to x.target b ∷ origin_legs 0 1 w) k
    ∙ pair_column 0 x.to x.target b (origin_legs 0 1 w) k
    ∙ origin_column 0 1 w k

euro_left_lem : (d r : ℕ) (e c m z y u : ℤ) → e ≡ pos d *ℤ (c +ℤ pos 0) +ℤ pos r *ℤ m +ℤ z → y ≡ pos 0 → u ≡ neg_ℤ (z +ℤ y) → e ≡ pos d *ℤ (c +ℤ pos 0) +ℤ pos r *ℤ m -ℤ u
euro_left_lem d r e c m z y u p q t = omega (arith, ints)

national_left_lem : (d : ℕ) (e c z y u : ℤ) → e ≡ pos d *ℤ (c +ℤ pos 0) +ℤ z → y ≡ pos 0 → u ≡ neg_ℤ (y +ℤ z) → e ≡ pos d *ℤ (c +ℤ pos 0) -ℤ u
national_left_lem d e c z y u p q t = omega (arith, ints)

-- what the two currencies and accounts of an accepted conversion are
record Passed (x : Exchange) (from to : Currency) : Type 0 where
  source : Names x.source from
  target : Names x.target to
  payer : Named x.from
  payee : Named x.to

convert_balanced : (x : Exchange) (from to : Currency) (n : ℕ) (b : Minor) → Passed x from to → Balanced (convert x) (b, n) (legs_for x b.0 (origin_of x b.0))
convert_balanced x from to n b f =
    let w : Origin = origin_of x b.0 in
    let s : x.source ≤ 11 = subst (λ (k : ℕ). k ≤ 11) f.source.number (currency_bound from) in
    let t : x.target ≤ 11 = subst (λ (k : ℕ). k ≤ 11) f.target.number (currency_bound to) in
    let p : x.from < accounts = f.payer.high in
    let q : x.to < accounts = f.payee.high in
    record {
      within = (p, (omega arith, (omega arith, (q, origin_all (λ l. l.account < accounts) 0 1 w (λ _ _. omega arith) (λ _ _. omega arith)))));
      columns = λ k. column_sum_lem x b.0 w k;
      euro = λ i.
          let low = national_bounds i in
          euro_left_lem (10 * rate i) (rate i) _ (cents_booked i (source_of x) (target_of x) (amount_of x) b.0) (mills_passed i (source_of x) (target_of x) (amount_of x) b.0) _ _ _ (euro_exact i (source_of x) (target_of x) (amount_of x) b.0) (national_beside (target_of x) w.national i)
          (exchange_rise x b.0 w (11 + (table i).number) s t (omega (arith, low.0)));
      national = λ j.
          let low = national_bounds j in
          national_left_lem (parts j) _ (units_booked j (source_of x) (target_of x) (amount_of x) b.0) _ _ _ (national_exact j (source_of x) (target_of x) (amount_of x) b.0) (euro_beside (source_of x) w.euro j)
          (exchange_rise x b.0 w (22 + (table j).number) s t (omega (arith, low.0)));
    }

-- ---- the conversion

abbrev with_legs : Exchange → ℤ → ℕ → ℕ → List Leg → List Leg
with_legs x b s t ls = leg x.from s (neg_ℤ x.amount.0) ∷ leg 0 s x.amount.0 ∷ leg 0 t (neg_ℤ b) ∷ leg x.to t b ∷ ls

convert_sound : (o s : State) (h : List Event) (x : Exchange) (from to : Currency) (route : Route) (c : Conversion) → Kept o s h → Passed x from to → Ends route from to → c ≡ exchanged route (amount_of x)
    → Sound o s h (convert x) (converts s x from to c)
unfolding status origin
convert_sound o s h x from to route c k f e d =
    let g : ℕ = s.given in
    let b : ℤ = (booked c).0 in
    let w : Origin = origin_of x b in
    let next : g + 1 ≡ suc g = omega arith in
    let told : record_of (g + 1) from to c ≡ recorded (g + 1) w Out =
    ap (record_of (g + 1) from to) d ∙ record_told (g + 1) route (amount_of x) from to e
    ∙ ap (λ (y : Conversion). recorded (g + 1) (origin_for from to (amount_of x) (booked y).0) Out) (sym d)
    ∙ ap₂ (λ (y z : Currency). recorded (g + 1) (origin_for y z (amount_of x) b) Out) (sym f.source.currency) (sym f.target.currency) in
    let here : cond (eqb (g + 1) (suc g)) w (origin h (suc g)) ≡ w = cond_same (g + 1) (suc g) w (origin h (suc g)) next in
    let n : g + 1 ≡ suc (slips h) = next ∙ ap suc k.count in
    record {
      makes = record {
        statuses = λ m l. cond_other (g + 1) m (held Out) (status h m) (omega arith);
        origins = λ m l. cond_other (g + 1) m w (origin h m) (omega arith);
        fresh = (
          cond_same (g + 1) (suc g) (held Out) (status h (suc g)) next,
          told ∙ ap₂ (λ (m : ℕ) (y : Origin). recorded m y Out) next (sym here),
          tt,
        );
        beyond = λ m l. cond_other (g + 1) m (held Out) (status h m) (omega arith);
      };
      count = refl;
      timely = n;
      told =
          ap₂ (λ (y z : ℕ). with_legs x b y z (transfers 0 1 (residues_of (record_of (g + 1) from to c)))) f.source.number f.target.number
          ∙ ap (with_legs x b x.source x.target) (ap (λ (r : Record). transfers 0 1 (residues_of r)) told ∙ told_record 0 1 (g + 1) w Out);
      balanced = convert_balanced x from to (g + 1) (booked c) f;
      residues = λ j.
          let r = docket_rise x b w j f.payer f.payee in
          let y : residue_in (cond (eqb (g + 1) (suc g)) w (origin h (suc g))) j ≡ residue_in w j = ap (λ (v : Origin). residue_in v j) here in
          omega (arith, ints);
      due = (
        (c, (route, e.start_is ∙ sym f.source.currency, e.end_is ∙ sym f.target.currency, subst (Lossless route (amount_of x)) (sym d) (lossless route (amount_of x))), refl),
        n,
      );
      fair = tt;
    }

pub convert_accepted : (o s : State) (h : List Event) (x : Exchange) (v : Movement (Minor × ℕ)) → Kept o s h → converting s x ≡ Ok v → Sound o s h (convert x) v
convert_accepted o s h x v k e =
    let a = and_then_lem (fitness s) _ v e in
    let b = and_then_lem (currency_at x.source 0) _ v a.2 in
    let c = and_then_lem (currency_at x.target 0) _ v b.2 in
    let d = and_then_lem (route_of b.0 c.0) _ v c.2 in
    let p = and_then_lem (account_at x.from 0) _ v d.2 in
    let q = and_then_lem (account_at x.to 0) _ v p.2 in
    let r = and_then_lem (converted d.0 x.amount.0) _ v q.2 in
    let t = and_then_lem (unless (ltb (length s.docket) most_records) 10 0) _ v r.2 in
    let u = and_then_lem (unless (ltb s.given most_slips) 11 0) _ v t.2 in
    let f : Passed x b.0 c.0 = record {
      source = currency_named x.source 0 b.0 b.1;
      target = currency_named x.target 0 c.0 c.1;
      payer = account_named x.from 0 p.0 p.1;
      payee = account_named x.to 0 q.0 q.1;
    } in
    subst (Sound o s h (convert x)) (ok_same _ v u.2)
    (convert_sound o s h x b.0 c.0 d.0 r.0 k f (route_ends b.0 c.0 d.0 d.1) (is_exchanged d.0 x.amount.0 r.0 r.1))
