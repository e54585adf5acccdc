-- Each promise determines the answer and every lent byte: two answers that keep it are equal. Assumes nothing.
use mathlib.Core.Path.{◌≡◌, refl, sym, ap, ◌∙◌}
use mathlib.Core.Bool.{cond}
use mathlib.Core.List.{List}
use lib.Dec.{eqb}
use Prim.Native.Nat.{ℕ}
use Rattle.std.specs.Prelude.{Result, Ok, Err}
use Rattle.machine.specs.declared.refusal.Refusal.{Refusal}
use Rattle.machine.specs.declared.refusal.Refusal.TheVariants.{Sizes, State, Length, PastWords, Undefined, StackFull, StackEmpty, CountedPcl}
use Rattle.machine.specs.declared.running.Finish.{Finish}
use Rattle.machine.specs.declared.running.Finish.TheVariants.{All, Asleep}
use Rattle.machine.specs.declared.state.State as state
use Rattle.machine.specs.declared.running.Ran.{Ran}
use Rattle.machine.specs.Run.{Told, Left}
use Rattle.machine.specs.Numbers.{end_number}
use Rattle.machine.specs.Answers.{told, Runs, IsBlank, IsBlankFile}

-- The end that has a number; a larger number stands for none, and any will do.
numbered : ℕ → Result Finish Refusal
numbered n =
    cond (eqb n 0) (Ok All)
    (cond (eqb n 1) (Ok Asleep)
    (cond (eqb n 2) (Err Sizes)
    (cond (eqb n 3) (Err State)
    (cond (eqb n 4) (Err Length)
    (cond (eqb n 5) (Err PastWords)
    (cond (eqb n 6) (Err Undefined)
    (cond (eqb n 7) (Err StackFull)
    (cond (eqb n 8) (Err StackEmpty) (Err CountedPcl)))))))))

numbered_end : (e : Result Finish Refusal) → numbered (end_number e) ≡ e
unfolding numbered
numbered_end (Ok All) = refl
numbered_end (Ok Asleep) = refl
numbered_end (Err Sizes) = refl
numbered_end (Err State) = refl
numbered_end (Err Length) = refl
numbered_end (Err PastWords) = refl
numbered_end (Err Undefined) = refl
numbered_end (Err StackFull) = refl
numbered_end (Err StackEmpty) = refl
numbered_end (Err CountedPcl) = refl

-- No two ends have one number.
pub same_end : (d e : Result Finish Refusal) → end_number d ≡ end_number e → d ≡ e
same_end d e same = sym (numbered_end d) ∙ ap numbered same ∙ numbered_end e

same_ran : (q r : Ran) → told q ≡ told r → q ≡ r
same_ran q r same =
    let at : q.state ≡ r.state = ap (λ (t : Told). t.state) same in
    let done : q.done ≡ r.done = ap (λ (t : Told). t.done) same in
    let cycles : q.cycles ≡ r.cycles = ap (λ (t : Told). t.cycles) same in
    let end : q.end ≡ r.end = same_end q.end r.end (ap (λ (t : Told). t.number) same) in
    rw (at, done, cycles, end)

pub runs_once : (words before : List ℕ) (s : state.State) (n : ℕ) (q r : Ran) (after later : List ℕ) → Runs words before s n q after
    → Runs words before s n r later → (q ≡ r) × (after ≡ later)
runs_once words before s n q r after later p t =
    let same : ◌≡◌ {A = Left} (record { ran = told q; file = after }) (record { ran = told r; file = later }) = p ∙ sym t in
    (same_ran q r (ap (λ (l : Left). l.ran) same), ap (λ (l : Left). l.file) same)

pub blank_once : (q r : state.State) → IsBlank q → IsBlank r → q ≡ r
blank_once q r p t = p ∙ sym t

pub blank_file_once : (q r : List ℕ) → IsBlankFile q → IsBlankFile r → q ≡ r
blank_file_once q r p t = p ∙ sym t
