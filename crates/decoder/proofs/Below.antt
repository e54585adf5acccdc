-- A test that antt computes at each number below n holds of each; a number that is none of a list's; and that no
-- value is a refusal. Assumes nothing.
use mathlib.Core.Path.{◌≡◌, refl, sym, subst⁻¹}
use mathlib.Core.Bool.{Bool, true, false, ◌&&◌, and-false}
use mathlib.Core.List.{List, [], ◌∷◌}
use mathlib.Core.Logic.{⊎_elim}
use Prim.Native.Nat.{ℕ, zero, suc, ◌<◌}
use native.Mathlib.Nat.{not-suc-le-zero, eq-or-lt_of_le, le_of_suc-le-suc}
use native.Mathlib.Omega.{arith}
use borrow.Author.Tests.{ne_eqb}
use Rattle.decoder.specs.Table.{is_one_of}
use Rattle.decoder.specs.Table.Answer.{gives, refuses}

abbrev pub all : ℕ → (ℕ → Bool) → Bool
all zero f = true
all (suc n) f = f n && all n f

pub and_left : (a b : Bool) → (a && b) ≡ true → a ≡ true
and_left true b e = refl
and_left false b e = e

pub and_right : (a b : Bool) → (a && b) ≡ true → b ≡ true
and_right true b e = e
and_right false b e = cc

-- a test that another one follows from may stand beside it
pub implied : (p t : Bool) → (t ≡ true → p ≡ true) → t ≡ (p && t)
implied p true h = rw (h refl)
implied p false h = sym (and-false p)

-- two tests that follow from each other are one
pub agree : (a b : Bool) → (a ≡ true → b ≡ true) → (b ≡ true → a ≡ true) → a ≡ b
agree true b f g = sym (f refl)
agree false true f g = g refl
agree false false f g = refl

pub below : (f : ℕ → Bool) (n : ℕ) → all n f ≡ true → (k : ℕ) → k < n → f k ≡ true
below f zero e k h = absurd (not-suc-le-zero h)
below f (suc n) e k h =
    ⊎_elim (λ same. subst⁻¹ (λ (m : ℕ). f m ≡ true) same (and_left (f n) (all n f) e))
    (λ less. below f n (and_right (f n) (all n f) e) k less)
    (eq-or-lt_of_le (le_of_suc-le-suc h))

-- What a match's last arm knows of its number: it is none of the numbers above it, the last one first.
abbrev pub Refuted : ℕ → List ℕ → Type 0
Refuted t [] = Unit {0}
Refuted t (k ∷ ks) = Refuted t ks × (t ≡ k → ⊥)

pub not_one : (t : ℕ) (ks : List ℕ) → Refuted t ks → is_one_of t ks ≡ false
not_one t [] h = refl
not_one t (k ∷ ks) h = rw (ne_eqb t k h.1) (not_one t ks h.0)

-- A value and a refusal are never the same answer.
pub no_value : {A : Type 0} {a : A} {n : ℕ} → gives a ≡ refuses n → ⊥
no_value e = let z : ◌≡◌ {A = ℕ} 0 1 = cc in omega arith
