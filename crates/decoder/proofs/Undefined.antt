-- Which words are undefined: exactly those that document 01 lists. Assumes nothing.
use mathlib.Core.Path.{◌≡◌, refl, sym, ap, ◌∙◌, fun_ext}
use mathlib.Core.Bool.{Bool, true, false, cond, ◌&&◌, ◌||◌, beq, and-false, or-false, or-true}
use mathlib.Core.List.{List, [], ◌∷◌}
use Prim.Native.Nat.{ℕ, ◌+◌, ◌*◌, ◌/◌, ◌^◌, ◌≤◌, ◌<◌}
use native.Mathlib.Nat.{div-lt_iff_lt-mul}
use native.Mathlib.Omega.{arith}
use lib.Dec.{eqb, leb, ltb}
use lib.Pow.{pow_pos}
use borrow.Author.Tests.{eqb-true, eq-eqb, leb-true, le-leb, lt-leb, lt-ltb, le-ltb, ltb-true, ltb-false}
use Rattle.decoder.specs.declared.instruction.Instruction.{Instruction}
use Rattle.decoder.specs.Table.{Answer, Row, rows, rows_of, first_of, decode_of, fixed, field_f, field_d, field_b, field_k8, field_k11, undefined_of, is_one_of}
use Rattle.decoder.specs.Table.Answer.{gives, refuses}
use Rattle.decoder.proofs.Below.{all, below, implied, agree, and_left, and_right, Refuted, not_one}
use Rattle.decoder.proofs.Rows.{fixed_at, decode_at, own_fields}

abbrev pub is_refused : Answer Instruction → Bool
is_refused (gives i) = false
is_refused (refuses n) = true

same : (a b : Bool) → beq a b ≡ true → a ≡ b
same true true e = refl
same true false e = cc
same false true e = cc
same false false e = refl

-- A word that no row fits answers 6.
no_row : (rs : List Row) → is_refused (first_of rs) ≡ true → first_of rs ≡ refuses 6
no_row [] e = refl
no_row (r ∷ rs) e = go r.fits (no_row rs) e
  where
    go : (t : Bool) → (is_refused (first_of rs) ≡ true → first_of rs ≡ refuses 6)
        → is_refused (cond t (gives r.instruction) (first_of rs)) ≡ true → cond t (gives r.instruction) (first_of rs) ≡ refuses 6
    go true h e = cc
    go false h e = h e

pub refused_6 : (w : ℕ) → is_refused (decode_of w) ≡ true → decode_of w ≡ refuses 6
unfolding decode_of
refused_6 w e = no_row (rows_of w) e

-- Above 0x3FFF: the fixed bits of each row of the table make a smaller word.
high : (w c n : ℕ) → 0x4000 ≤ w → fixed w c n ≡ (ltb 0x4000 ((c + 1) * 2 ^ n) && fixed w c n)
unfolding fixed
high w c n h = implied (ltb 0x4000 ((c + 1) * 2 ^ n)) (fixed w c n) (λ e. lt-ltb _ _ (more (eqb-true (w / 2 ^ n) c e)))
  where
    more : w / 2 ^ n ≡ c → 0x4000 < (c + 1) * 2 ^ n
    more e =
        let less : w / 2 ^ n < c + 1 = omega arith in
        let room : w < (c + 1) * 2 ^ n = (div-lt_iff_lt-mul (pow_pos n)).0 less in
        omega arith

pub high_word : (w : ℕ) → 0x4000 ≤ w → is_refused (decode_of w) ≡ true
unfolding decode_of rows_of rows
high_word w h =
    ap (λ (is : ℕ → ℕ → Bool). is_refused (first_of (rows is w (field_f w) (field_d w) (field_b w) (field_k8 w) (field_k11 w))))
    (fun_ext (λ c. fun_ext (λ n. high w c n h)))

-- 0x0200 to 0x3FFF: the upper six bits tell, and only 0x3B has no row.
abbrev top_tells : ℕ → ℕ → Bool
top_tells w t = ltb t 2 || beq (is_refused (first_of (rows (fixed_at w t 8) w (field_f w) (field_d w) (field_b w) (field_k8 w) (field_k11 w)))) (eqb t 0x3B)

by_top : (w : ℕ) → all 64 (top_tells w) ≡ true
unfolding rows fixed_at
by_top w = refl

middle : (w : ℕ) → 2 ≤ w / 2 ^ 8 → w / 2 ^ 8 < 64 → is_refused (decode_of w) ≡ eqb (w / 2 ^ 8) 0x3B
middle w least most =
    sym (ap is_refused (decode_at (w / 2 ^ 8) 8 refl (own_fields w)))
    ∙ same _ _ (rw (le-ltb (w / 2 ^ 8) 2 least) at (below (top_tells w) 64 (by_top w) (w / 2 ^ 8) most))

listed : (w : ℕ) → 2 ≤ w / 2 ^ 8 → w / 2 ^ 8 < 64 → undefined_of w ≡ eqb (w / 2 ^ 8) 0x3B
unfolding undefined_of
listed w least most =
    simp (lt-leb w 0x007F (omega arith), le-ltb 0x3FFF w (omega arith), or-false)
    (agree (leb 0x3B00 w && leb w 0x3BFF) (eqb (w / 2 ^ 8) 0x3B)
    (λ in_it. eq-eqb _ _ (within (leb-true 0x3B00 w (and_left (leb 0x3B00 w) (leb w 0x3BFF) in_it)) (leb-true w 0x3BFF (and_right (leb 0x3B00 w) (leb w 0x3BFF) in_it))))
    (λ is_it. let e : w / 2 ^ 8 ≡ 0x3B = eqb-true _ _ is_it in simp (le-leb 0x3B00 w (omega arith), le-leb w 0x3BFF (omega arith))))
  where
    within : 0x3B00 ≤ w → w ≤ 0x3BFF → w / 2 ^ 8 ≡ 0x3B
    within from to = omega arith

-- The lowest 0x0200 words, one by one.
abbrev agrees : ℕ → Bool
agrees w = beq (is_refused (decode_of w)) (undefined_of w)

one_by_one : all 0x0200 agrees ≡ true
unfolding decode_of rows_of rows fixed undefined_of
one_by_one = refl

pub over : (w : ℕ) → 0x4000 ≤ w → undefined_of w ≡ true
unfolding undefined_of
over w h = simp (lt-leb w 0x007F (omega arith), lt-leb w 0x3BFF (omega arith), lt-ltb 0x3FFF w (omega arith), and-false, or-true)

pub undefined_exactly : (w : ℕ) → is_refused (decode_of w) ≡ undefined_of w
undefined_exactly w = go (ltb w 0x0200) refl (ltb w 0x4000) refl
  where
    go : (low : Bool) → ltb w 0x0200 ≡ low → (word : Bool) → ltb w 0x4000 ≡ word → is_refused (decode_of w) ≡ undefined_of w
    go true l word h = same (is_refused (decode_of w)) (undefined_of w) (below agrees 0x0200 one_by_one w (ltb-true w 0x0200 l))
    go false l true h =
        let least : 0x0200 ≤ w = ltb-false w 0x0200 l in
        let most : w < 0x4000 = ltb-true w 0x4000 h in
        let from : 2 ≤ w / 2 ^ 8 = omega arith in
        let to : w / 2 ^ 8 < 64 = omega arith in
        middle w from to ∙ sym (listed w from to)
    go false l false h = high_word w (ltb-false w 0x4000 h) ∙ sym (over w (ltb-false w 0x4000 h))

refused : (w : ℕ) → undefined_of w ≡ true → refuses 6 ≡ decode_of w
refused w e = sym (refused_6 w (undefined_exactly w ∙ e))

-- For the code's last arms, whose numbers stand here last one first: a word with no row among the lowest 0x0080, and
-- one whose upper six bits have none.
abbrev pub lowest : List ℕ
lowest = 0x64 ∷ 0x63 ∷ 0x09 ∷ 0x08 ∷ 0x60 ∷ 0x40 ∷ 0x20 ∷ 0x00 ∷ []

pub no_low_row : (w : ℕ) → w < 0x0080 → Refuted w lowest → refuses 6 ≡ decode_of w
unfolding undefined_of
no_low_row w low none =
    let listed_or_not : ℕ → Bool = λ v. is_one_of v lowest || undefined_of v in
    refused w (rw (not_one w lowest none) at (below listed_or_not 0x0080 refl w low))

abbrev pub tops : List ℕ
tops =
    63 ∷ 62 ∷ 61 ∷ 60 ∷ 58 ∷ 57 ∷ 56 ∷ 55 ∷ 54 ∷ 53 ∷ 52 ∷ 51 ∷ 50 ∷ 49 ∷ 48 ∷ 47 ∷ 46 ∷ 45 ∷ 44 ∷ 43 ∷ 42 ∷ 41 ∷ 40 ∷ 39 ∷ 38 ∷ 37 ∷ 36 ∷ 35 ∷ 34 ∷ 33 ∷ 32
    ∷ 31 ∷ 30 ∷ 29 ∷ 28 ∷ 27 ∷ 26 ∷ 25 ∷ 24 ∷ 23 ∷ 22 ∷ 21 ∷ 20 ∷ 19 ∷ 18 ∷ 17 ∷ 16 ∷ 15 ∷ 14 ∷ 13 ∷ 12 ∷ 11 ∷ 10 ∷ 9 ∷ 8 ∷ 7 ∷ 6 ∷ 5 ∷ 4 ∷ 3 ∷ 2 ∷ []

pub no_top_row : (w : ℕ) → 2 ≤ w / 2 ^ 8 → Refuted (w / 2 ^ 8) tops → refuses 6 ≡ decode_of w
no_top_row w least none = go (ltb (w / 2 ^ 8) 64) refl
  where
    go : (t : Bool) → ltb (w / 2 ^ 8) 64 ≡ t → refuses 6 ≡ decode_of w
    go true e =
        let most : w / 2 ^ 8 < 64 = ltb-true (w / 2 ^ 8) 64 e in
        let only : ℕ → Bool = λ t. is_one_of t tops || ltb t 2 || eqb t 0x3B in
        let is : eqb (w / 2 ^ 8) 0x3B ≡ true = rw (not_one (w / 2 ^ 8) tops none, le-ltb (w / 2 ^ 8) 2 least) at (below only 64 refl (w / 2 ^ 8) most) in
        sym (refused_6 w (middle w least most ∙ is))
    go false e =
        let over : 64 ≤ w / 2 ^ 8 = ltb-false (w / 2 ^ 8) 64 e in
        sym (refused_6 w (high_word w (omega arith)))
