-- The promises of a sum, of a turned byte and of a bit determine them: two that keep one are equal. The other promises
-- are equations as they stand. Assumes nothing.
use Rattle.std.proofs.Common.{◌≡◌, Bool, true, false, ℕ, ◌%◌, refl, sym, ap, ◌∙◌, arith}
use Rattle.alu.specs.declared.operations.Sum.{Sum}
use Rattle.alu.specs.declared.operations.Turned.{Turned}
use Rattle.alu.specs.Alu.{Result, to_bit, bit_of, is_zero}
use Rattle.alu.specs.Answers.{result_of, turn_of, Adds, Subtracts, TurnsLeft, TurnsRight}

-- A bit says which truth value it stands for.
pub same_bit : (q r : Bool) → to_bit q ≡ to_bit r → q ≡ r
same_bit true true e = refl
same_bit true false e = absurd (omega arith)
same_bit false true e = absurd (omega arith)
same_bit false false e = refl

pub bit_once : (x b : ℕ) (q r : Bool) → to_bit q ≡ bit_of (b % 8) x → to_bit r ≡ bit_of (b % 8) x → q ≡ r
bit_once x b q r p t = same_bit q r (p ∙ sym t)

pub is_zero_once : (v : ℕ) (q r : Bool) → to_bit q ≡ is_zero v → to_bit r ≡ is_zero v → q ≡ r
is_zero_once v q r p t = same_bit q r (p ∙ sym t)

same_sum : (q r : Sum) → result_of q ≡ result_of r → q ≡ r
same_sum q r e =
    let value : q.value ≡ r.value = ap (λ (t : Result). t.value) e in
    let flags : (result_of q).flags ≡ (result_of r).flags = ap (λ (t : Result). t.flags) e in
    let digit : to_bit q.digit ≡ to_bit r.digit = cc in
    let carry : to_bit q.carry ≡ to_bit r.carry = cc in
    rw (value, same_bit q.digit r.digit digit, same_bit q.carry r.carry carry)

pub adds_once : (x w : ℕ) (q r : Sum) → Adds x w q → Adds x w r → q ≡ r
adds_once x w q r p t = same_sum q r (p ∙ sym t)

pub subtracts_once : (x w : ℕ) (q r : Sum) → Subtracts x w q → Subtracts x w r → q ≡ r
subtracts_once x w q r p t = same_sum q r (p ∙ sym t)

same_turn : (q r : Turned) → turn_of q ≡ turn_of r → q ≡ r
same_turn q r e =
    let value : q.value ≡ r.value = ap (λ (t : Result). t.value) e in
    let flags : (turn_of q).flags ≡ (turn_of r).flags = ap (λ (t : Result). t.flags) e in
    let carry : to_bit q.carry ≡ to_bit r.carry = cc in
    rw (value, same_bit q.carry r.carry carry)

pub turns_left_once : (x status : ℕ) (q r : Turned) → TurnsLeft x status q → TurnsLeft x status r → q ≡ r
turns_left_once x status q r p t = same_turn q r (p ∙ sym t)

pub turns_right_once : (x status : ℕ) (q r : Turned) → TurnsRight x status q → TurnsRight x status r → q ≡ r
turns_right_once x status q r p t = same_turn q r (p ∙ sym t)
