-- What a run of n instructions is made of: its first steps and its later ones, the sum of its cycles, and what it has
-- done when it stops. Assumes nothing.
use mathlib.Core.Path.{◌≡◌, refl, sym, ap, ◌∙◌}
use mathlib.Core.List.{List, ◌∷◌}
use Prim.Native.Nat.{ℕ, zero, suc, ◌+◌, ◌≤◌}
use native.Mathlib.Omega.{arith}
use lib.ListN.{length}
use Rattle.machine.specs.declared.state.State.{State}
use Rattle.machine.specs.Step.{Outcome, step_of}
use Rattle.machine.specs.Step.Outcome.{done, refused}
use Rattle.machine.specs.Step.Note.{going, cleared, asleep}
use Rattle.machine.specs.Run.{Left, ends, after, followed, steps_of, costs_of, sum}
use Rattle.machine.specs.Inner.{Within}
use Rattle.machine.proofs.Within.{Kept, step_kept}
use Rattle.machine.proofs.Turns.{after_after, after_none}

-- n instructions and then m more, where the n were all done and the last was no SLEEP.
module _ (words : List ℕ) where
  pub then : (n m : ℕ) (s : State) (file : List ℕ) → Within s → length file ≡ 512 → (steps_of words n s file).ran.number ≡ 0
      → steps_of words (n + m) s file
      ≡ after (steps_of words n s file).ran.done (steps_of words n s file).ran.cycles
      (steps_of words m (steps_of words n s file).ran.state (steps_of words n s file).file)
  unfolding steps_of
  then zero m s file h bytes e = let none : 0 + m ≡ m = omega arith in rw none (sym (after_none _))
  then (suc n) m s file h bytes e =
      let one : suc n + m ≡ suc (n + m) = omega arith in
      rw one (go (λ s' file' w b z. then n m s' file' w b z) (step_of words s file) (step_kept words s file h bytes) e)
    where
      go : ((s' : State) (file' : List ℕ) → Within s' → length file' ≡ 512 → (steps_of words n s' file').ran.number ≡ 0
          → steps_of words (n + m) s' file'
          ≡ after (steps_of words n s' file').ran.done (steps_of words n s' file').ran.cycles
          (steps_of words m (steps_of words n s' file').ran.state (steps_of words n s' file').file))
          → (o : Outcome) → Kept o → (followed (steps_of words n) s file o).ran.number ≡ 0
          → followed (steps_of words (n + m)) s file o
          ≡ after (followed (steps_of words n) s file o).ran.done (followed (steps_of words n) s file o).ran.cycles
          (steps_of words m (followed (steps_of words n) s file o).ran.state (followed (steps_of words n) s file o).file)
      go ih (refused q) k e = absurd (omega arith)
      go ih (done s' file' c going) k e = ap (after 1 c) (ih s' file' k.0 k.1 e) ∙ after_after 1 c _ _ _
      go ih (done s' file' c cleared) k e = ap (after 1 c) (ih s' file' k.0 k.1 e) ∙ after_after 1 c _ _ _
      go ih (done s' file' c asleep) k e = absurd (omega arith)

  -- What a run keeps, what its counts are, and that all n are done where the answer is 0.
  pub record Sound (n : ℕ) (s : State) (file : List ℕ) : Type 0 where
    pub within : Within (steps_of words n s file).ran.state
    pub bytes : length (steps_of words n s file).file ≡ 512
    pub cycles : (steps_of words n s file).ran.cycles ≡ sum (costs_of words n s file)
    pub count : (steps_of words n s file).ran.done ≡ length (costs_of words n s file)
    pub number : (steps_of words n s file).ran.number ≤ 9
    pub all : (steps_of words n s file).ran.number ≡ 0 → (steps_of words n s file).ran.done ≡ n
    pub some : (steps_of words n s file).ran.done ≤ n

  pub sound : (n : ℕ) (s : State) (file : List ℕ) → Within s → length file ≡ 512 → Sound n s file
  unfolding steps_of costs_of
  sound zero s file h bytes = record { within = h; bytes = bytes; cycles = refl; count = refl; number = omega arith; all = λ e. refl; some = omega arith }
  sound (suc n) s file h bytes = go (λ s' file' w b. sound n s' file' w b) (step_of words s file) refl (step_kept words s file h bytes)
    where
      more : (s' : State) (file' : List ℕ) (c : ℕ) → steps_of words (suc n) s file ≡ after 1 c (steps_of words n s' file')
          → costs_of words (suc n) s file ≡ c ∷ costs_of words n s' file' → Sound n s' file' → Sound (suc n) s file
      more s' file' c e k l =
          record {
            within = rw e l.within;
            bytes = rw e l.bytes;
            cycles = rw (e, k, l.cycles);
            count = rw (e, k, l.count) (omega arith);
            number = rw e l.number;
            all = λ z. rw e (let w = l.all (rw e at z) in omega (arith, w));
            some = rw e (omega (arith, l.some));
          }

      go : ((s' : State) (file' : List ℕ) → Within s' → length file' ≡ 512 → Sound n s' file')
          → (o : Outcome) → step_of words s file ≡ o → Kept o → Sound (suc n) s file
      go ih (refused q) e k =
          record { within = rw e h; bytes = rw e bytes; cycles = rw e; count = rw e; number = rw e k.1; all = λ z. let y : q ≡ 0 = rw e at z in absurd (omega (arith, y, k.0)); some = rw e (omega arith) }
      go ih (done s' file' c going) e k = more s' file' c (rw e) (rw e) (ih s' file' k.0 k.1)
      go ih (done s' file' c cleared) e k = more s' file' c (rw e) (rw e) (ih s' file' k.0 k.1)
      go ih (done s' file' c asleep) e k =
          record { within = rw e k.0; bytes = rw e k.1; cycles = rw e (omega arith); count = rw e; number = rw e (omega arith); all = λ z. let y : ◌≡◌ {A = ℕ} 1 0 = rw e at z in absurd (omega (arith, y)); some = rw e (omega arith) }

  -- A run that is refused at an instruction has done just the instructions before it.
  pub record Broken (l : Left) (s : State) (file : List ℕ) : Type 0 where
    pub before : steps_of words l.ran.done s file ≡ ends l.ran.state l.file l.ran.done l.ran.cycles 0
    pub at : step_of words l.ran.state l.file ≡ refused l.ran.number

  pub broken : (n : ℕ) (s : State) (file : List ℕ) → Within s → length file ≡ 512 → 5 ≤ (steps_of words n s file).ran.number
      → Broken (steps_of words n s file) s file
  unfolding steps_of
  broken zero s file h bytes five = absurd (omega arith)
  broken (suc n) s file h bytes five = go (λ s' file' w b z. broken n s' file' w b z) (step_of words s file) refl (step_kept words s file h bytes) five
    where
      more : (s' : State) (file' : List ℕ) (c : ℕ) (l : Left) → steps_of words (suc l.ran.done) s file ≡ after 1 c (steps_of words l.ran.done s' file')
          → Broken l s' file' → Broken (after 1 c l) s file
      more s' file' c l e b =
          let one : 1 + l.ran.done ≡ suc l.ran.done = omega arith in
          record { before = ap (λ (k : ℕ). steps_of words k s file) one ∙ e ∙ ap (after 1 c) b.before; at = b.at }

      go : ((s' : State) (file' : List ℕ) → Within s' → length file' ≡ 512 → 5 ≤ (steps_of words n s' file').ran.number
          → Broken (steps_of words n s' file') s' file')
          → (o : Outcome) → step_of words s file ≡ o → Kept o → 5 ≤ (followed (steps_of words n) s file o).ran.number
          → Broken (followed (steps_of words n) s file o) s file
      go ih (refused q) e k five = record { before = refl; at = e }
      go ih (done s' file' c going) e k five = more s' file' c _ (rw e) (ih s' file' k.0 k.1 five)
      go ih (done s' file' c cleared) e k five = more s' file' c _ (rw e) (ih s' file' k.0 k.1 five)
      go ih (done s' file' c asleep) e k five = absurd (omega arith)
