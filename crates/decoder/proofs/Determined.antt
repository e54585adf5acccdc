-- Each promise determines the answer and every lent byte: two answers that keep it are equal. Assumes nothing.
use mathlib.Core.Path.{◌≡◌, refl, sym, ap, ◌∙◌}
use mathlib.Core.Bool.{cond}
use mathlib.Core.List.{List}
use Prim.Native.Nat.{ℕ}
use lib.Dec.{eqb}
use Rattle.std.specs.Prelude.{Result, Ok, Err}
use Rattle.decoder.specs.declared.instruction.Instruction.{Instruction}
use Rattle.decoder.specs.declared.refusal.Refusal.{Refusal}
use Rattle.decoder.specs.declared.refusal.Refusal.TheVariants.{Undefined, TooLarge, ShortText, ShortListing}
use Rattle.decoder.specs.Text.{Left}
use Rattle.decoder.specs.Answers.{number_of, answer_of, left_of, Decodes, Encodes, Disassembles, Lists}

-- No two refusals share a number: a number is read back to its refusal.
abbrev refusal_of : ℕ → Refusal
refusal_of n = cond (eqb n 6) Undefined (cond (eqb n 10) TooLarge (cond (eqb n 11) ShortText ShortListing))

read_back : (r : Refusal) → refusal_of (number_of r) ≡ r
read_back Undefined = refl
read_back TooLarge = refl
read_back ShortText = refl
read_back ShortListing = refl

same_number : (r s : Refusal) → number_of r ≡ number_of s → r ≡ s
same_number r s e = sym (read_back r) ∙ ap refusal_of e ∙ read_back s

same_answer : {A : Type 0} (r s : Result A Refusal) → answer_of r ≡ answer_of s → r ≡ s
same_answer (Ok a) (Ok b) e = cc
same_answer (Ok a) (Err s) e = cc
same_answer (Err r) (Ok b) e = cc
same_answer (Err r) (Err s) e =
    let number : number_of r ≡ number_of s = cc in
    ap (λ (t : Refusal). Err t) (same_number r s number)

-- two equal outcomes have equal answers and equal bytes
same_left : (r s : Result ℕ Refusal) (after after' : List ℕ) → left_of r after ≡ left_of s after' → (r ≡ s) × (after ≡ after')
same_left r s after after' e = (same_answer r s (ap (λ (l : Left). l.answer) e), ap (λ (l : Left). l.bytes) e)

pub decodes_once : (word : ℕ) (r s : Result Instruction Refusal) → Decodes word r → Decodes word s → r ≡ s
decodes_once word r s p q = same_answer r s (p ∙ sym q)

pub encodes_once : (i : Instruction) (r s : Result ℕ Refusal) → Encodes i r → Encodes i s → r ≡ s
encodes_once i r s p q = same_answer r s (p ∙ sym q)

pub disassembles_once : (word : ℕ) (before : List ℕ) (r s : Result ℕ Refusal) (after after' : List ℕ)
    → Disassembles word before r after → Disassembles word before s after' → (r ≡ s) × (after ≡ after')
disassembles_once word before r s after after' p q = same_left r s after after' (p ∙ sym q)

pub lists_once : (input before : List ℕ) (r s : Result ℕ Refusal) (after after' : List ℕ)
    → Lists input before r after → Lists input before s after' → (r ≡ s) × (after ≡ after')
lists_once input before r s after after' p q = same_left r s after after' (p ∙ sym q)
