-- Digits and their lengths, and texts written one behind the other into a buffer. Assumes nothing.
use mathlib.Core.Path.{◌≡◌, refl, sym, ◌∙◌}
use mathlib.Core.Bool.{cond}
use mathlib.Core.List.{List, [], ◌∷◌, ◌++◌, append_assoc}
use Prim.Native.Nat.{ℕ, zero, suc, ◌+◌, ◌-◌, ◌/◌, ◌%◌, ◌<◌}
use native.Mathlib.Nat.{zero-add}
use native.Mathlib.Omega.{arith}
use lib.Dec.{eqb, ltb}
use lib.ListN.{length, length-append, take, drop}
use lib.Utf8.{encode}
use borrow.Author.Tests.{eqb-true, ltb-true}
use Rattle.std.proofs.lemmas.List.{take_at, drop_at, drop-drop}
use Rattle.std.proofs.lemmas.Str.{encode_ascii}
use Rattle.decoder.specs.Table.Answer.{gives}
use Rattle.decoder.specs.Text.{digit, hex, written}
use Rattle.decoder.specs.Inner.{Wrote}
use Rattle.decoder.proofs.Below.{below}

pub hex_length : (n v : ℕ) → length (hex n v) ≡ n
unfolding hex
hex_length zero v = refl
hex_length (suc n) v = length-append (hex n (v / 16)) (digit _ ∷ []) ∙ rw (hex_length n (v / 16)) (omega arith)

-- 0 to 9 and then A to F.
pub digit_is : (d : ℕ) → d < 16 → digit d ≡ cond (ltb d 10) (0x30 + d) (0x41 + (d - 10))
unfolding digit
digit_is d h = eqb-true _ _ (below (λ v. eqb (digit v) (cond (ltb v 10) (0x30 + v) (0x41 + (v - 10)))) 16 refl d h)

-- A digit is one byte of text.
digit_below : (d : ℕ) → d < 16 → digit d < 128
unfolding digit
digit_below d h = ltb-true (digit d) 128 (below (λ v. ltb (digit v) 128) 16 refl d h)

pub digit_text : (d : ℕ) {c : ℕ} → c ≡ digit d → d < 16 → encode c ≡ digit d ∷ []
digit_text d e h = rw e (encode_ascii (digit d) (digit_below d h))

-- The upper digits and the last one.
pub hex_more : (n v : ℕ) (a b c : List ℕ) → (n ≡ 0 → ⊥) → b ≡ a ++ hex (n - 1) (v / 16) → c ≡ b ++ digit (v % 16) ∷ [] → c ≡ a ++ hex n v
unfolding hex
hex_more zero v a b c h p q = absurd (h refl)
hex_more (suc n) v a b c h p q = let less : suc n - 1 ≡ n = omega arith in q ∙ rw (p, less) (append_assoc a (hex n (v / 16)) (digit (v % 16) ∷ []))

-- A text from the start of a buffer, and one more behind it.
pub wrote_none : (l : List ℕ) → Wrote l l 0 0 []
wrote_none l = record { bytes = refl; place = refl }

pub wrote_more : (a b c s t : List ℕ) (m n : ℕ) → Wrote a b 0 m s → Wrote b c m n t → Wrote a c 0 n (s ++ t)
wrote_more a b c s t m n p q =
    let front : take (length s) (s ++ drop (length s) a) ≡ s = take_at s (drop (length s) a) (length s) refl in
    let past : drop (length s) (s ++ drop (length s) a) ≡ drop (length s) a = drop_at s (drop (length s) a) (length s) refl in
    let rest : drop (length s + length t) (s ++ drop (length s) a) ≡ drop (length s + length t) a =
    sym (drop-drop (length t) (length s) (s ++ drop (length s) a)) ∙ rw past (drop-drop (length t) (length s) a) in
    record {
      bytes = q.bytes ∙ rw (p.place, p.bytes, zero-add (length s), front, rest, zero-add (length (s ++ t)), length-append s t) refl;
      place = omega (arith, p.place, q.place, length-append s t);
    }

-- What a call that wrote a text from the start leaves.
pub wrote_left : (a b s : List ℕ) (m : ℕ) → Wrote a b 0 m s → record { answer = gives m; bytes = b } ≡ written s a
wrote_left a b s m p = rw (p.place, p.bytes, zero-add (length s)) refl
