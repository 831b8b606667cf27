-- Texts in a row. Assumes nothing.
use Rattle.std.proofs.Common.{◌≡◌, List, [], ◌∷◌, ◌++◌, map, IfOk, IfErr, Ok, Err, Result, sym, refl, ap, ◌∙◌, append_assoc}
use Rattle.std.specs.List.{flat_map}

pub joined-map : {X Y A : Type 0} (f : Y → List A) (g : X → Y) (xs : List X) → flat_map f (map g xs) ≡ flat_map (λ x. f (g x)) xs
joined-map f g [] = refl
joined-map f g (x ∷ xs) = ap (λ ys. f (g x) ++ ys) (joined-map f g xs)

pub joined-append : {X A : Type 0} (f : X → List A) (xs ys : List X) → flat_map f (xs ++ ys) ≡ flat_map f xs ++ flat_map f ys
joined-append f [] ys = refl
joined-append f (x ∷ xs) ys = ap (λ zs. f x ++ zs) (joined-append f xs ys) ∙ sym (append_assoc (f x) (flat_map f xs) (flat_map f ys))

-- four texts appended one after the other
pub appended_four : {A : Type 0} (b₀ b₁ b₂ b₃ b₄ w x y z : List A) → b₁ ≡ b₀ ++ w → b₂ ≡ b₁ ++ x → b₃ ≡ b₂ ++ y → b₄ ≡ b₃ ++ z → b₄ ≡ b₀ ++ (w ++ (x ++ (y ++ z)))
appended_four b₀ b₁ b₂ b₃ b₄ w x y z p q r s =
    s ∙ ap (λ l. l ++ z) (r ∙ ap (λ l. l ++ y) (q ∙ ap (λ l. l ++ x) p)) ∙ simp append_assoc

-- what holds anyway holds if memory sufficed, and if it did not
pub made_anyway : {X Y P : Type 0} (r : Result X Y) → P → IfOk r (λ _. P)
made_anyway (Ok x) p = p
made_anyway (Err y) p = tt

pub refused_anyway : {X Y P : Type 0} (r : Result X Y) → P → IfErr r (λ _. P)
refused_anyway (Ok x) p = tt
refused_anyway (Err y) p = p
