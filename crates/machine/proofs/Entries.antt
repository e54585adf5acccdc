-- The test of the stack's entries is one test of each. Assumes nothing.
use mathlib.Core.Path.{◌≡◌, refl, ap}
use mathlib.Core.Bool.{Bool, ◌&&◌}
use mathlib.Core.List.{List, [], ◌∷◌}
use Prim.Native.Nat.{ℕ}
use lib.Dec.{leb}
use Rattle.std.specs.List.{list_all}
use Rattle.machine.specs.Run.{entries_fit}

pub all_fit : (stack : List ℕ) → list_all (λ r. leb r 8191) stack ≡ entries_fit stack
unfolding entries_fit
all_fit [] = refl
all_fit (r ∷ rs) = ap (λ (t : Bool). leb r 8191 && t) (all_fit rs)
