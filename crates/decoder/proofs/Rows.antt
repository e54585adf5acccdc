-- Which row of Table 29-1 fits a word is seen from the word's upper bits.
-- Assumes nothing.
use mathlib.Core.Path.{◌≡◌, refl, sym, ap, ◌∙◌, fun_ext}
use mathlib.Core.Bool.{Bool, true, false, cond, ◌&&◌}
use Prim.Native.Nat.{ℕ, ◌+◌, ◌-◌, ◌/◌, ◌^◌, ◌≤◌}
use native.Mathlib.Omega.{arith}
use lib.Dec.{eqb, leb}
use lib.Pow.{shr-shr}
use borrow.Author.Tests.{eqb-true, eq-eqb, leb-true, leb-false}
use Rattle.decoder.proofs.Below.{implied}
use Rattle.decoder.specs.declared.instruction.Dest.{Dest}
use Rattle.decoder.specs.Table.{rows, rows_of, first_of, decode_of, fixed, field_f, field_d, field_b, field_k8, field_k11}

-- The test of a row, where the word without its m low bits is t: where the row leaves out as many bits or more, a test of t alone.
unfoldable pub fixed_at : ℕ → ℕ → ℕ → ℕ → ℕ → Bool
fixed_at w t m c n = cond (leb m n) (eqb (t / 2 ^ (n - m)) c) (eqb t (c / 2 ^ (m - n)) && fixed w c n)

-- Leaving out m bits and then n - m is leaving out n.
rest : (w m n : ℕ) → m ≤ n → w / 2 ^ m / 2 ^ (n - m) ≡ w / 2 ^ n
rest w m n h = let e : m + (n - m) ≡ n = omega arith in shr-shr w m (n - m) ∙ ap (λ (k : ℕ). w / 2 ^ k) e

fixed_at_lem : (w m c n : ℕ) → fixed w c n ≡ fixed_at w (w / 2 ^ m) m c n
unfolding fixed_at fixed
fixed_at_lem w m c n = go (leb m n) refl
  where
    go : (t : Bool) → leb m n ≡ t → fixed w c n ≡ cond t (eqb (w / 2 ^ m / 2 ^ (n - m)) c) (eqb (w / 2 ^ m) (c / 2 ^ (m - n)) && fixed w c n)
    go true e = ap (λ (v : ℕ). eqb v c) (sym (rest w m n (leb-true m n e)))
    go false e =
        let more : n ≤ m = omega (arith, leb-false m n e) in
        implied (eqb (w / 2 ^ m) (c / 2 ^ (m - n))) (fixed w c n)
        (λ fits. eq-eqb _ _ (sym (rest w n m more) ∙ ap (λ (v : ℕ). v / 2 ^ (m - n)) (eqb-true (w / 2 ^ n) c fits)))

rows_at : (w t m : ℕ) → w / 2 ^ m ≡ t → rows_of w ≡ rows (fixed_at w t m) w (field_f w) (field_d w) (field_b w) (field_k8 w) (field_k11 w)
unfolding rows_of
rows_at w t m e =
    ap (λ (is : ℕ → ℕ → Bool). rows is w (field_f w) (field_d w) (field_b w) (field_k8 w) (field_k11 w))
    (fun_ext (λ c. fun_ext (λ n. fixed_at_lem w m c n ∙ ap (λ (v : ℕ). fixed_at w v m c n) e)))

-- A word's fields, as code or a proof has read them.
pub record Fields (w f : ℕ) (d : Dest) (b k8 k11 : ℕ) : Type 0 where
  pub is_f : f ≡ field_f w
  pub is_d : d ≡ field_d w
  pub is_b : b ≡ field_b w
  pub is_k8 : k8 ≡ field_k8 w
  pub is_k11 : k11 ≡ field_k11 w

-- What a word means, by its upper bits and its fields. At a numeral t the right row is found by computing.
pub decode_at : {w f : ℕ} {d : Dest} {b k8 k11 : ℕ} (t m : ℕ) → w / 2 ^ m ≡ t → Fields w f d b k8 k11
    → first_of (rows (fixed_at w t m) w f d b k8 k11) ≡ decode_of w
unfolding decode_of
decode_at {w} t m e h = simp (h.is_f, h.is_d, h.is_b, h.is_k8, h.is_k11) (sym (ap first_of (rows_at w t m e)))

pub own_fields : (w : ℕ) → Fields w (field_f w) (field_d w) (field_b w) (field_k8 w) (field_k11 w)
own_fields w = record { is_f = refl; is_d = refl; is_b = refl; is_k8 = refl; is_k11 = refl }
