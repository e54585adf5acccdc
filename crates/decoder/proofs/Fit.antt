-- Operands that fit their fields. Assumes nothing.
use mathlib.Core.Path.{◌≡◌, refl, sym}
use mathlib.Core.Bool.{Bool, true, false, cond}
use Prim.Native.Nat.{ℕ, ◌<◌}
use native.Mathlib.Omega.{arith}
use lib.Dec.{leb}
use borrow.Author.Tests.{leb-true, le-leb}
use Rattle.decoder.specs.declared.instruction.Dest.{Dest}
use Rattle.decoder.specs.declared.instruction.Dest.TheVariants.{W, File}
use Rattle.decoder.specs.declared.instruction.Operands.{Operands}
use Rattle.decoder.specs.declared.instruction.Operands.TheVariants.{None, F, FD, FB, K8, K11}
use Rattle.decoder.specs.Table.Answer.{gives, refuses}
use Rattle.decoder.specs.Printed.{Fit, fit_of, placed, bit_of}
use Rattle.decoder.specs.Inner.{fields_of}
use Rattle.decoder.proofs.Below.{and_left, and_right, no_value}

-- The test and the statement say the same.
pub fit_true : (o : Operands) → fit_of o ≡ true → Fit o
fit_true None e = tt
fit_true (F f) e = leb-true f 127 e
fit_true (FD f d) e = leb-true f 127 e
fit_true (FB f b) e = (leb-true f 127 (and_left (leb f 127) (leb b 7) e), leb-true b 7 (and_right (leb f 127) (leb b 7) e))
fit_true (K8 k) e = leb-true k 255 e
fit_true (K11 k) e = leb-true k 2047 e

pub true_fit : (o : Operands) → Fit o → fit_of o ≡ true
true_fit None h = refl
true_fit (F f) h = le-leb f 127 h
true_fit (FD f d) h = le-leb f 127 h
true_fit (FB f b) h = simp (le-leb f 127 h.0, le-leb b 7 h.1)
true_fit (K8 k) h = le-leb k 255 h
true_fit (K11 k) h = le-leb k 2047 h

pub bit_below : (d : Dest) → bit_of d < 2
bit_below W = omega arith
bit_below File = omega arith

-- They take at most the eleven low bits of a word.
pub placed_small : (o : Operands) → Fit o → placed o < 2048
placed_small None h = omega arith
placed_small (F f) h = omega arith
placed_small (FD f d) h = omega (arith, bit_below d)
placed_small (FB f b) h = omega arith
placed_small (K8 k) h = omega arith
placed_small (K11 k) h = omega arith

-- What code has placed: the operands fit, and these are their bits.
pub record Placing (o : Operands) (b : ℕ) : Type 0 where
  pub fit : fit_of o ≡ true
  pub are : b ≡ placed o
  pub small : b < 2048

pub placing_gives : (o : Operands) (b : ℕ) → gives b ≡ fields_of o → Placing o b
unfolding fields_of
placing_gives o b e = go (fit_of o) refl e
  where
    go : (t : Bool) → fit_of o ≡ t → gives b ≡ cond t (gives (placed o)) (refuses 10) → Placing o b
    go true f e = let are : b ≡ placed o = cc in record { fit = f; are = are; small = omega (arith, placed_small o (fit_true o f)) }
    go false f e = absurd (no_value e)

pub placing_refuses : (o : Operands) (n : ℕ) → refuses n ≡ fields_of o → (fit_of o ≡ false) × (n ≡ 10)
unfolding fields_of
placing_refuses o n e = go (fit_of o) refl e
  where
    go : (t : Bool) → fit_of o ≡ t → refuses n ≡ cond t (gives (placed o)) (refuses 10) → (fit_of o ≡ false) × (n ≡ 10)
    go true f e = absurd (no_value (sym e))
    go false f e = let same : n ≡ 10 = cc in (f, same)
