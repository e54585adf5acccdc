-- A turn of `push_hex` pushes one digit more, which is one byte of text. Assumes nothing.
use Rattle.std.proofs.Common.{◌≡◌, ℕ, ◌+◌, ◌-◌, ◌*◌, ◌/◌, ◌%◌, ◌<◌, ◌^◌, [], ◌∷◌, sym, ap, ◌∙◌, arith, rules}
use lib.ListN.{length-append}
use lib.Utf8.{encode}
use Rattle.std.proofs.Math.Nat.{div-one}
use Rattle.std.proofs.lemmas.List.{append-nil}
use Rattle.std.proofs.lemmas.Nat.{shr-shr}
use Rattle.decoder.specs.Text.{hex, digit}
use Rattle.decoder.proofs.Writing.{digit_text, hex_more}
use Rattle.decoder.proofs.text.push_hex.Goals as goal

pub loop-i-init : goal.loop-i-init
unfolding hex
loop-i-init g c = record { bytes = sym (append-nil _); len = omega arith }

pub push-requires : goal.push-requires
push-requires g c =
    let last : encode c.hex_digit.result ≡ digit (c.args.v / 2 ^ (4 * (c.args.digits - 1 - c.loop-i.i)) % 16) ∷ [] = digit_text _ c.hex_digit.ensures (omega arith) in
    (search rules, rw last (omega (arith, c.loop-i.invariant.len)))

-- What is left of v above a place is its sixteenth one place higher.
above : (v digits i : ℕ) → i < digits → v / 2 ^ (4 * (digits - 1 - i)) / 16 ≡ v / 2 ^ (4 * (digits - i))
above v digits i h =
    let places : 4 * (digits - 1 - i) + 4 ≡ 4 * (digits - i) = omega arith in
    shr-shr v (4 * (digits - 1 - i)) 4 ∙ ap (λ (k : ℕ). v / 2 ^ k) places

pub loop-i-preserved : goal.loop-i-preserved
loop-i-preserved g c =
    let l = c.loop-i in
    let place = c.args.digits - 1 - l.i in
    let last : encode c.hex_digit.result ≡ digit (c.args.v / 2 ^ (4 * place) % 16) ∷ [] = digit_text _ c.hex_digit.ensures (omega arith) in
    let bytes = rw last at c.push.ensures.bytes in
    let next : c.args.digits - (l.i + 1) ≡ place = omega arith in
    let less : l.i + 1 - 1 ≡ l.i = omega arith in
    record {
      bytes = rw next (hex_more (l.i + 1) (c.args.v / 2 ^ (4 * place)) _ _ _ (λ e. omega arith) (rw (less, above c.args.v c.args.digits l.i c.loop-i-test.true) l.invariant.bytes) bytes);
      len = rw bytes (omega (arith, length-append l.text.bytes (digit (c.args.v / 2 ^ (4 * place) % 16) ∷ []), l.invariant.len));
    }

pub returns-clause-bytes : goal.returns-clause-bytes
returns-clause-bytes g c =
    let all : c.loop-i.i ≡ c.args.digits = omega arith in
    let none : c.args.digits - c.args.digits ≡ 0 = omega arith in
    rw (all, none, div-one c.args.v) at c.loop-i.invariant.bytes

pub returns-clause-len : goal.returns-clause-len
returns-clause-len g c = omega (arith, c.loop-i.invariant.len)
