-- Where the code's tests on the low seven bits of an address lead. Assumes nothing.
use mathlib.Core.Path.{◌≡◌, sym, ap, ◌∙◌}
use mathlib.Core.Logic.{◌≢◌}
use mathlib.Core.Bool.{Bool, true, false, cond}
use mathlib.Core.List.{List}
use Prim.Native.Nat.{ℕ, ◌+◌, ◌*◌, ◌/◌, ◌%◌, ◌≤◌, ◌<◌}
use native.Mathlib.Omega.{arith}
use lib.Dec.{eqb}
use lib.ListN.{get_or}
use borrow.Author.Tests.{ne_eqb, le-leb, lt-leb}
use Rattle.machine.specs.declared.place.Place.TheVariants.{Nowhere, Counter, Latch, Cell}
use Rattle.machine.specs.Registers.{PCLATH, address_of, place_of, place_at, cell_of, shared}

pub plain_place : (a : ℕ) → a % 128 ≢ 0 → a % 128 ≢ 2 → a % 128 ≢ 3 → a % 128 ≢ 4 → a % 128 ≢ 10 → a % 128 ≢ 11 → a % 128 < 112 → place_of a ≡ Cell a
unfolding place_of shared
plain_place a h0 h2 h3 h4 h10 h11 h =
    rw (ne_eqb _ _ h0, ne_eqb _ _ h2, ne_eqb _ _ h3, ne_eqb _ _ h4, ne_eqb _ _ h10, ne_eqb _ _ h11, lt-leb _ _ h)

pub upper_place : (a : ℕ) → 112 ≤ a % 128 → place_of a ≡ Cell (a % 128)
unfolding place_of shared
upper_place a h =
    rw (ne_eqb (a % 128) 0 (omega arith), ne_eqb (a % 128) 2 (omega arith), ne_eqb (a % 128) 3 (omega arith), ne_eqb (a % 128) 4 (omega arith), ne_eqb (a % 128) 10 (omega arith), ne_eqb (a % 128) 11 (omega arith), le-leb _ _ h)

-- The address of a register that is not INDF.
pub direct : (file : List ℕ) (f : ℕ) → f ≢ 0 → address_of file f ≡ get_or file 3 0 / 32 % 4 * 128 + f
unfolding address_of
direct file f h = rw (ne_eqb f 0 h)

-- The registers that the code finds first.
pub plain_register : (file : List ℕ) (f : ℕ) → 12 ≤ f → f < 112 → Cell (get_or file 3 0 / 32 % 4 * 128 + f) ≡ place_at file f
plain_register file f h k =
    let q : (get_or file 3 0 / 32 % 4 * 128 + f) % 128 ≡ f = omega arith in
    rw (direct file f (omega arith)) (sym (plain_place (get_or file 3 0 / 32 % 4 * 128 + f) (omega arith) (omega arith) (omega arith) (omega arith) (omega arith) (omega arith) (omega arith)))

pub upper_register : (file : List ℕ) (f : ℕ) → 112 ≤ f → f ≤ 127 → Cell f ≡ place_at file f
upper_register file f h k =
    let q : (get_or file 3 0 / 32 % 4 * 128 + f) % 128 ≡ f = omega arith in
    rw (direct file f (omega arith)) (sym (upper_place (get_or file 3 0 / 32 % 4 * 128 + f) (omega arith) ∙ ap Cell q))

-- An address leads into the file.
place_inside : (a : ℕ) → a < 512 → cell_of (place_of a) < 512
unfolding place_of
place_inside a h = go (eqb (a % 128) 0) (eqb (a % 128) 0x02) (eqb (a % 128) PCLATH) (shared (a % 128))
  where
    go : (p q r t : Bool) → cell_of (cond p Nowhere (cond q Counter (cond r Latch (cond t (Cell (a % 128)) (Cell a))))) < 512
    go true q r t = omega arith
    go false true r t = omega arith
    go false false true t = omega arith
    go false false false true = omega arith
    go false false false false = h

pub inside : (file : List ℕ) (f : ℕ) → f ≤ 127 → get_or file 3 0 < 256 → get_or file 4 0 < 256 → cell_of (place_at file f) < 512
unfolding address_of
inside file f h status fsr = place_inside _ (go (eqb f 0))
  where
    go : (t : Bool) → cond t (get_or file 3 0 / 128 * 256 + get_or file 4 0) (get_or file 3 0 / 32 % 4 * 128 + f) < 512
    go true = omega arith
    go false = omega arith
