-- Numbers, carries and what follows a carry, by what each call says of a number. Assumes nothing.
use Rattle.std.proofs.Common.{◌≡◌, ℕ, zero, suc, ◌+◌, cond, eqb, ◌≢◌, List, [], ◌∷◌, ◌++◌, length, Ok, Err, sym, refl, ap, ◌∙◌, ap₂, append-nil, arith, length-append}
use Rattle.std.specs.List.{range_with_len, AllByRecursion}
use Rattle.std.proofs.lemmas.Bool.{eq-eqb, ne_eqb}
use Rattle.ledger.proofs.Rises.{by_equal}
use Rattle.model.specs.declared.record.Standing.{Standing}
use Rattle.model.specs.declared.record.Standing.TheVariants.{Out, Parked}
use Rattle.model.specs.Calls.{Call, carry, Reply}
use Rattle.model.specs.Conservation.{EachAccepted}
use Rattle.model.specs.History.{Event, event, Mention, none, gives, parks, retakes, carries, mention, Status, never, held, carried, becomes, status, given_by, carried_by, account_of, Elsewhere, Unconcerned}
use Rattle.model.proofs.Changes.{Known, carried≢never}

pub cond_same : {A : Type 0} (a b : ℕ) (x y : A) → a ≡ b → cond (eqb a b) x y ≡ x
cond_same a b x y e = rw (eq-eqb a b e)

pub cond_other : {A : Type 0} (a b : ℕ) (x y : A) → a ≢ b → cond (eqb a b) x y ≡ y
cond_other a b x y n = rw (ne_eqb a b n)

-- a number that is given is the next after g; one that is parked, taken up or carried is on the docket
abbrev pub Timely : Mention → ℕ → (ℕ → Status) → Type 0
Timely none g t = Unit {0}
Timely (gives k) g t = k ≡ suc g
Timely (parks k) g t = (p : Standing) × (t k ≡ held p)
Timely (retakes k) g t = (p : Standing) × (t k ≡ held p)
Timely (carries k a) g t = (p : Standing) × (t k ≡ held p)

-- so no call speaks of a number that is carried
abbrev pub Allowed : Mention → (ℕ → Status) → Type 0
Allowed none t = Unit {0}
Allowed (gives k) t = t k ≡ never
Allowed (parks k) t = (p : Standing) × (t k ≡ held p)
Allowed (retakes k) t = (p : Standing) × (t k ≡ held p)
Allowed (carries k a) t = (p : Standing) × (t k ≡ held p)

abbrev pub AllowedThen : List Event → (c : Call) → Reply c → Type 0
AllowedThen h c r = Allowed (mention c r) (status h)

pub allowed : (m : Mention) (g : ℕ) (t : ℕ → Status) → Timely m g t → Known g t → Allowed m t
allowed none g t x k = tt
allowed (gives n) g t x k = k.later n (omega (arith, x))
allowed (parks n) g t x k = x
allowed (retakes n) g t x k = x
allowed (carries n a) g t x k = x

-- ---- the numbers given

counting_next : (a n : ℕ) → range_with_len a (suc n) ≡ range_with_len a n ++ ((a + n) ∷ [])
counting_next a zero = let e : a ≡ a + 0 = omega arith in ap (λ (x : ℕ). x ∷ []) e
counting_next a (suc n) =
    let e : a + 1 + n ≡ a + suc n = omega arith in
    ap (λ (l : List ℕ). a ∷ l) (counting_next (a + 1) n ∙ ap (λ (x : ℕ). range_with_len (a + 1) n ++ (x ∷ [])) e)

unmoved : (xs : List ℕ) → xs ≡ range_with_len 1 (length xs) → xs ++ [] ≡ range_with_len 1 (length (xs ++ []))
unmoved xs e = append-nil xs ∙ e ∙ ap (λ (l : List ℕ). range_with_len 1 (length l)) (sym (append-nil xs))

pub numbers_more : (m : Mention) (xs : List ℕ) (t : ℕ → Status) → Timely m (length xs) t → xs ≡ range_with_len 1 (length xs) → xs ++ given_by m ≡ range_with_len 1 (length (xs ++ given_by m))
numbers_more none xs t x e = unmoved xs e
numbers_more (gives k) xs t x e =
    let n : k ≡ 1 + length xs = omega (arith, x) in
    let l : suc (length xs) ≡ length (xs ++ (k ∷ [])) = simp length-append (omega arith) in
    ap₂ (λ (ys : List ℕ) (y : ℕ). ys ++ (y ∷ [])) e n ∙ sym (counting_next 1 (length xs)) ∙ ap (range_with_len 1) l
numbers_more (parks k) xs t x e = unmoved xs e
numbers_more (retakes k) xs t x e = unmoved xs e
numbers_more (carries k a) xs t x e = unmoved xs e

-- ---- carries

-- a number that was on no account and becomes s
not_carried_lem : (k n : ℕ) (s : Status) (t : ℕ → Status) (xs : List ℕ) → account_of (t k) ≡ [] → account_of s ≡ [] → xs ≡ account_of (t n) → xs ++ [] ≡ account_of (cond (eqb k n) s (t n))
not_carried_lem k n s t xs z y e =
    by_equal k n
    (λ q. append-nil xs ∙ e ∙ ap (λ (m : ℕ). account_of (t m)) (sym q) ∙ z ∙ sym y ∙ sym (ap account_of (cond_same k n s (t n) q)))
    (λ ne. append-nil xs ∙ e ∙ sym (ap account_of (cond_other k n s (t n) ne)))

pub once_more : (m : Mention) (t : ℕ → Status) (n : ℕ) (xs : List ℕ) → Allowed m t → xs ≡ account_of (t n) → xs ++ carried_by m n ≡ account_of (becomes m n (t n))
once_more none t n xs x e = append-nil xs ∙ e
once_more (gives k) t n xs x e = not_carried_lem k n (held Out) t xs (ap account_of x) refl e
once_more (parks k) t n xs x e = not_carried_lem k n (held Parked) t xs (ap account_of x.1) refl e
once_more (retakes k) t n xs x e = not_carried_lem k n (held Out) t xs (ap account_of x.1) refl e
once_more (carries k a) t n xs x e =
    by_equal k n
    (λ q.
    ap₂ (λ (ys zs : List ℕ). ys ++ zs) (e ∙ ap (λ (m : ℕ). account_of (t m)) (sym q) ∙ ap account_of x.1) (cond_same k n (a ∷ []) [] q)
    ∙ sym (ap account_of (cond_same k n (carried a) (t n) q)))
    (λ ne.
    ap (λ (zs : List ℕ). xs ++ zs) (cond_other k n (a ∷ []) [] ne) ∙ append-nil xs ∙ e
    ∙ sym (ap account_of (cond_other k n (carried a) (t n) ne)))

-- ---- after a carry

carried≢held : (a : ℕ) (p : Standing) → carried a ≢ held p
carried≢held a p e = let z : ◌≡◌ {A = ℕ} 0 1 = cc in omega arith

-- a call that is allowed leaves a number that is carried alone
other_than : (k n a : ℕ) (s : Status) (t : ℕ → Status) → t n ≡ carried a → carried a ≢ t k → (k ≢ n) × (cond (eqb k n) s (t n) ≡ carried a)
other_than k n a s t e d =
    let ne : k ≢ n = λ q. d (sym e ∙ ap t (sym q)) in
    (ne, cond_other k n s (t n) ne ∙ e)

leaves_alone : (m : Mention) (t : ℕ → Status) (n a : ℕ) → Allowed m t → t n ≡ carried a → Elsewhere m n × (becomes m n (t n) ≡ carried a)
leaves_alone none t n a x e = (tt, e)
leaves_alone (gives k) t n a x e = other_than k n a (held Out) t e (λ q. carried≢never a (q ∙ x))
leaves_alone (parks k) t n a x e = other_than k n a (held Parked) t e (λ q. carried≢held a x.0 (q ∙ x.1))
leaves_alone (retakes k) t n a x e = other_than k n a (held Out) t e (λ q. carried≢held a x.0 (q ∙ x.1))
leaves_alone (carries k b) t n a x e = other_than k n a (carried b) t e (λ q. carried≢held a x.0 (q ∙ x.1))

pub after_carry : (later earlier : List Event) (mark n a : ℕ) → EachAccepted AllowedThen (later ++ (event (carry mark n a) (Ok tt) ∷ earlier))
    → (status (later ++ (event (carry mark n a) (Ok tt) ∷ earlier)) n ≡ carried a) × AllByRecursion (Unconcerned n) later
unfolding status
after_carry [] earlier mark n a x = (cond_same n n (carried a) (status earlier n) refl, tt)
after_carry (event c (Ok r) ∷ later) earlier mark n a x =
    let h : List Event = later ++ (event (carry mark n a) (Ok tt) ∷ earlier) in
    let i = after_carry later earlier mark n a x.1 in
    let l = leaves_alone (mention c r) (status h) n a x.0 i.0 in
    (l.1, (l.0, i.1))
after_carry (event c (Err f) ∷ later) earlier mark n a x = let i = after_carry later earlier mark n a x in (i.0, (tt, i.1))
