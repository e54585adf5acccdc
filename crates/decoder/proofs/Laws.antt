-- What the layers above may cite of the decoder, and nothing else. Assumes nothing.
use mathlib.Core.Path.{◌≡◌, refl, sym, ap, ◌∙◌}
use mathlib.Core.Bool.{Bool, true, false, cond, true≢false}
use mathlib.Core.List.{List, ◌++◌}
use Prim.Native.Nat.{ℕ, ◌-◌, ◌≤◌, ◌<◌}
use native.Mathlib.Omega.{arith}
use lib.Dec.{ltb}
use lib.ListN.{length, length-append, drop}
use borrow.Author.Tests.{ltb-true, ltb-false, le-ltb}
use Rattle.decoder.specs.declared.instruction.Instruction.{Instruction}
use Rattle.std.specs.Prelude.{Result, Ok, Err, IsOk}
use Rattle.std.proofs.Common.{rules}
use Rattle.decoder.specs.declared.refusal.Refusal.{Refusal}
use Rattle.decoder.specs.Table.{Answer, decode_of, x_of, undefined_of}
use Rattle.decoder.specs.Table.Answer.{gives, refuses}
use Rattle.decoder.specs.Printed.{printed_of, fit_of, InRange, word_of, encode_of}
use Rattle.decoder.specs.Text.{text_of, Left, written, refused}
use Rattle.decoder.specs.Listing.{list_of, listing_of}
use Rattle.decoder.specs.Answers.{Lists, left_of}
use Rattle.decoder.proofs.Below.{no_value}
use Rattle.decoder.proofs.Fit.{true_fit, fit_true}
use Rattle.decoder.proofs.Undefined.{is_refused, refused_6, undefined_exactly, over}
use Rattle.decoder.proofs.RoundTrip as trip
use Rattle.decoder.proofs.TextLength as texts

-- The operands of a decoded word are in range.
pub operands_in_range : (w : ℕ) (i : Instruction) → decode_of w ≡ gives i → InRange i
operands_in_range w i e = (trip.encode-decode w i e).1

-- An instruction with operands in range is encoded to one word, and the decoder reads it back.
pub encode_in_range : (i : Instruction) → InRange i → encode_of i ≡ gives (word_of i)
unfolding encode_of
encode_in_range i h = rw (true_fit (printed_of i).operands h)

pub decode-encode : (i : Instruction) → InRange i → decode_of (word_of i) ≡ gives i
decode-encode i h = trip.decode-encode i h

-- So two instructions never share a word.
pub one_word_each : (i j : Instruction) → InRange i → InRange j → word_of i ≡ word_of j → i ≡ j
one_word_each i j p q e = let same : gives i ≡ gives j = sym (decode-encode i p) ∙ ap decode_of e ∙ decode-encode j q in cc

-- An instruction with an operand out of range is refused with 10, and no other is.
pub encode_out_of_range : (i : Instruction) → (InRange i → ⊥) → encode_of i ≡ refuses 10
unfolding encode_of
encode_out_of_range i h = go (fit_of (printed_of i).operands) refl
  where
    go : (t : Bool) → fit_of (printed_of i).operands ≡ t → cond t (gives (word_of i)) (refuses 10) ≡ refuses 10
    go true e = absurd (h (fit_true (printed_of i).operands e))
    go false e = refl

-- Encoding the instruction of a defined word gives the word with its x bits 0.
pub x_bits_within : (w : ℕ) (i : Instruction) → decode_of w ≡ gives i → x_of w ≤ w
x_bits_within w i e = omega (arith, (trip.encode-decode w i e).0)

pub encode-decode : (w : ℕ) (i : Instruction) → decode_of w ≡ gives i → encode_of i ≡ gives (w - x_of w)
encode-decode w i e =
    let word : word_of i ≡ w - x_of w = omega (arith, (trip.encode-decode w i e).0) in
    encode_in_range i (operands_in_range w i e) ∙ ap (λ (v : ℕ). gives v) word

-- The undefined words are those that document 01 lists: they answer 6, and every other word has an instruction.
pub undefined_word : (w : ℕ) → undefined_of w ≡ true → decode_of w ≡ refuses 6
undefined_word w e = refused_6 w (undefined_exactly w ∙ e)

pub defined_word : (w : ℕ) → undefined_of w ≡ false → (i : Instruction) × (decode_of w ≡ gives i)
defined_word w e = go (decode_of w) refl (undefined_exactly w ∙ e)
  where
    go : (x : Answer Instruction) → decode_of w ≡ x → is_refused (decode_of w) ≡ false → (i : Instruction) × (decode_of w ≡ gives i)
    go (gives i) d f = (i, d)
    go (refuses n) d f = absurd (true≢false (sym (ap is_refused d) ∙ f))

-- Every instruction's word has 14 bits.
pub word_below : (i : Instruction) → InRange i → word_of i < 0x4000
word_below i h = go (ltb (word_of i) 0x4000) refl
  where
    go : (t : Bool) → ltb (word_of i) 0x4000 ≡ t → word_of i < 0x4000
    go true e = ltb-true (word_of i) 0x4000 e
    go false e = absurd (no_value (sym (decode-encode i h) ∙ undefined_word (word_of i) (over (word_of i) (ltb-false (word_of i) 0x4000 e))))

-- A text has at most 14 bytes, which is what a buffer is asked to have.
pub text_length : (i : Instruction) → length (text_of i) ≤ 14
text_length i = omega (arith, texts.text_length i)

-- A call that says it wrote n bytes has a buffer of at least n.
prefix : (n : ℕ) (text before after : List ℕ) → record { answer = gives n; bytes = after } ≡ written text before → n ≤ length after
prefix n text before after e =
    let count : gives n ≡ gives (length text) = ap (λ (l : Left). l.answer) e in
    let same : n ≡ length text = cc in
    let whole : after ≡ text ++ drop (length text) before = ap (λ (l : Left). l.bytes) e in
    rw whole (omega (arith, length-append text (drop (length text) before)))

pub listing_within : (input before : List ℕ) (n : ℕ) (after : List ℕ) → Lists input before (Ok n) after → n ≤ length after
unfolding list_of
listing_within input before n after e = go (ltb (length before) 204800) e
  where
    go : (t : Bool) → record { answer = gives n; bytes = after } ≡ cond t (refused 70 before) (written (listing_of input) before) → n ≤ length after
    go true e = absurd (no_value (ap (λ (l : Left). l.answer) e))
    go false e = prefix n (listing_of input) before after e

-- A buffer with room for every listing is given one.
pub listing_given : (input before after : List ℕ) (r : Result ℕ Refusal) → 204800 ≤ length before → Lists input before r after → IsOk r
unfolding list_of
listing_given input before after (Ok n) room e = search rules
listing_given input before after (Err refusal) room e =
    let wrote : left_of (Err refusal) after ≡ written (listing_of input) before = rw (le-ltb (length before) 204800 room) at e in
    absurd (no_value (sym (ap (λ (l : Left). l.answer) wrote)))
