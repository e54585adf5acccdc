-- The lines of a listing and their lengths, and what an input of the right form has. Assumes nothing.
use Rattle.std.specs.Prelude.{codes}
use mathlib.Core.Path.{◌≡◌, refl, ap, ◌∙◌}
use mathlib.Core.Bool.{Bool, true, false, cond, not, ◌&&◌}
use mathlib.Core.List.{List, [], ◌++◌, append_assoc}
use Prim.Native.Nat.{ℕ, zero, suc, ◌+◌, ◌*◌, ◌/◌, ◌%◌, ◌≤◌, ◌<◌}
use native.Mathlib.Nat.{not-suc-le-zero}
use native.Mathlib.Omega.{arith}
use lib.Dec.{lit≤, leb, eqb}
use lib.ListN.{length, length-append, get_or, take, drop}
use borrow.Author.Tests.{leb-true, le-leb, lt-leb, eqb-true, eq-eqb}
use Rattle.std.specs.Simd.{first_chunks}
use Rattle.std.proofs.lemmas.List.{get_or-take, get_or-drop}
use Rattle.decoder.specs.declared.instruction.Instruction.{Instruction}
use Rattle.decoder.specs.Table.{Answer, decode_of}
use Rattle.decoder.specs.Table.Answer.{gives, refuses}
use Rattle.decoder.specs.Text.{hex}
use Rattle.decoder.specs.Listing.{shown, number_at, line_of, lines_of, word_at, length_of, kind_of, accepted_of, listing_of}
use Rattle.decoder.specs.Inner.{Words, form_of, word_in, lines_in}
use Rattle.decoder.proofs.Below.{agree, and_left, and_right}
use Rattle.decoder.proofs.TextLength.{text_length}
use Rattle.decoder.proofs.Writing.{hex_length}

-- Four digits and a space take five bytes, and a word's text or ???? at most 13.
number_length : (v : ℕ) → length (hex 4 v ++ codes " ") ≡ 5
number_length v = length-append (hex 4 v) (codes " ") ∙ rw (hex_length 4 v)

shown_short : (x : Answer Instruction) → length (shown x) ≤ 13
shown_short (gives i) = text_length i
shown_short (refuses n) = lit≤ tt

-- The line is its parts, one behind the other.
in_parts : (address word : ℕ) → line_of address word ≡ (hex 4 address ++ codes " ") ++ (hex 4 word ++ codes " ") ++ shown (decode_of word) ++ codes "\n"
unfolding line_of
in_parts address word =
    ap (λ (t : List ℕ). t ++ shown (decode_of word) ++ codes "\n") (append_assoc (hex 4 address ++ codes " ") (hex 4 word) (codes " "))

pub line_length : (address word : ℕ) → length (line_of address word) ≤ 25
line_length address word =
    let one = number_length address in
    let two = number_length word in
    let three = shown_short (decode_of word) in
    let to_two = length-append (hex 4 address ++ codes " ") (hex 4 word ++ codes " ") in
    let to_three = length-append ((hex 4 address ++ codes " ") ++ (hex 4 word ++ codes " ")) (shown (decode_of word)) in
    let to_end = length-append ((hex 4 address ++ codes " ") ++ (hex 4 word ++ codes " ") ++ shown (decode_of word)) (codes "\n") in
    rw (in_parts address word) (omega arith)

pub lines_in_length : (n : ℕ) (words : List (List ℕ)) → length (lines_in n words) ≤ 25 * n
unfolding lines_in
lines_in_length zero words = lit≤ tt
lines_in_length (suc n) words =
    let line = line_of n (word_in (get_or words n [])) in
    omega (arith, length-append (lines_in n words) line, lines_in_length n words, line_length n (word_in (get_or words n [])))

-- An input of four bytes or more is accepted where its header is of the right form, and a shorter one is not.
pub short_input : (input : List ℕ) → length input < 4 → accepted_of input ≡ false
unfolding accepted_of
short_input input h = simp (lt-leb 4 (length input) h) refl

behind_header : (input : List ℕ) (bytes : ℕ) → bytes + 4 ≡ length input → accepted_of input ≡ form_of (length_of input) (kind_of input) bytes
unfolding accepted_of form_of
behind_header input bytes e =
    simp (le-leb 4 (length input) (omega arith))
    (ap (λ (whole : Bool). eqb (length_of input % 2) 0 && not (eqb (length_of input) 0) && leb (length_of input) 16384 && eqb (kind_of input) 1 && whole)
    (agree (eqb (length input) (4 + length_of input)) (eqb bytes (length_of input))
    (λ t. let same : length input ≡ 4 + length_of input = eqb-true _ _ t in eq-eqb _ _ (omega arith))
    (λ t. let same : bytes ≡ length_of input = eqb-true _ _ t in eq-eqb _ _ (omega arith))))

in_header : (input header : List ℕ) (at : ℕ) → header ≡ take 4 input → at + 1 < 4 → number_at header at ≡ number_at input at
in_header input header at e h = rw (e, get_or-take 4 input at 0 (omega arith), get_or-take 4 input (at + 1) 0 h) refl

-- An input taken apart: its header, the two numbers of that, and what is behind it.
pub record Apart (input header rest : List ℕ) (size kind : ℕ) : Type 0 where
  pub front : header ≡ take 4 input
  pub behind : rest ≡ drop 4 input
  pub count : length rest + 4 ≡ length input
  pub is_size : size ≡ number_at header 0
  pub is_kind : kind ≡ number_at header 2

pub by_form : (input header rest : List ℕ) (size kind : ℕ) → Apart input header rest size kind → accepted_of input ≡ form_of size kind (length rest)
by_form input header rest size kind h =
    rw (h.is_size, h.is_kind, in_header input header 0 h.front (omega arith), in_header input header 2 h.front (omega arith))
    (behind_header input (length rest) h.count)

form_true : (length kind bytes : ℕ) → form_of length kind bytes ≡ true → (length ≤ 16384) × (bytes ≡ length)
unfolding form_of
form_true length kind bytes e =
    let even = eqb (length % 2) 0 in
    let some = not (eqb length 0) in
    let most = leb length 16384 in
    let words = eqb kind 1 in
    let to_most : (even && some && most) ≡ true = and_left (even && some && most) words (and_left (even && some && most && words) (eqb bytes length) e) in
    (leb-true _ _ (and_right (even && some) most to_most), eqb-true _ _ (and_right (even && some && most && words) (eqb bytes length) e))

-- The words of an input: each pair of bytes behind the header.
pair_at : (xs : List ℕ) (k i : ℕ) → i < k → word_in (get_or (first_chunks 2 k xs) i []) ≡ number_at xs (2 * i)
pair_at xs zero i h = absurd (not-suc-le-zero h)
pair_at xs (suc k) zero h = rw (get_or-take 2 xs 0 0 (omega arith), get_or-take 2 xs 1 0 (omega arith)) refl
pair_at xs (suc k) (suc i) h =
    let first : 2 + 2 * i ≡ 2 * suc i = omega arith in
    let second : 2 + (2 * i + 1) ≡ 2 * suc i + 1 = omega arith in
    pair_at (drop 2 xs) k i (omega arith)
    ∙ rw (get_or-drop 2 xs (2 * i) 0, get_or-drop 2 xs (2 * i + 1) 0, first, second) refl

lines_same : (input : List ℕ) (k n : ℕ) → n ≤ k → lines_in n (first_chunks 2 k (drop 4 input)) ≡ lines_of n input
unfolding lines_in lines_of
lines_same input k zero h = refl
lines_same input k (suc n) h =
    let second : 4 + (2 * n + 1) ≡ 4 + 2 * n + 1 = omega arith in
    let word : word_in (get_or (first_chunks 2 k (drop 4 input)) n []) ≡ word_at input n =
    pair_at (drop 4 input) k n h ∙ rw (get_or-drop 4 input (2 * n) 0, get_or-drop 4 input (2 * n + 1) 0, second) refl in
    rw (lines_same input k n (omega arith), word) refl

pub lines_length : (n : ℕ) (input : List ℕ) → length (lines_of n input) ≤ 25 * n
lines_length n input = rw (← lines_same input n n (omega arith)) (lines_in_length n (first_chunks 2 n (drop 4 input)))

-- What an accepted input has.
pub record Good (input : List ℕ) : Type 0 where
  pub most : length_of input ≤ 16384
  pub exact : length input ≡ 4 + length_of input

pub good : (input : List ℕ) → accepted_of input ≡ true → Good input
unfolding accepted_of
good input e =
    let long = leb 4 (length input) in
    let even = eqb (length_of input % 2) 0 in
    let some = not (eqb (length_of input) 0) in
    let short = leb (length_of input) 16384 in
    let kind = eqb (kind_of input) 1 in
    let whole = eqb (length input) (4 + length_of input) in
    record {
      most = leb-true (length_of input) 16384 (and_right (long && even && some) short (and_left (long && even && some && short) kind (and_left (long && even && some && short && kind) whole e)));
      exact = eqb-true (length input) (4 + length_of input) (and_right (long && even && some && short && kind) whole e);
    }

-- Every listing has room in LISTING_ROOM bytes.
pub listing_length : (input : List ℕ) → length (listing_of input) ≤ 204800
unfolding listing_of
listing_length input = go (accepted_of input) refl
  where
    go : (t : Bool) → accepted_of input ≡ t → length (cond t (lines_of (length_of input / 2) input) (codes "REFUSED\n")) ≤ 204800
    go true e = omega (arith, (good input e).most, lines_length (length_of input / 2) input)
    go false e = lit≤ tt

pub words_read : (input header rest : List ℕ) (words : List (List ℕ)) (size kind : ℕ) → Apart input header rest size kind
    → form_of size kind (length rest) ≡ true → words ≡ first_chunks 2 (length rest / 2) rest → length words ≡ length rest / 2 → Words input words
words_read input header rest words size kind h t e count =
    let most = (form_true size kind (length rest) t).0 in
    let exact = (form_true size kind (length rest) t).1 in
    let same : length rest ≡ length_of input = exact ∙ h.is_size ∙ in_header input header 0 h.front (omega arith) in
    record {
      accepted = by_form input header rest size kind h ∙ t;
      most = omega (arith, count, exact, most);
      lines = rw (count, e, ← same) (rw h.behind (lines_same input _ _ (omega arith)));
    }
