-- A read puts its bytes behind those that were read before. Assumes nothing.
use Rattle.std.proofs.Common.{◌≡◌, ℕ, ◌+◌, ◌≤◌, List, ◌++◌, length, take, rules, sym, ap, subst, ◌∙◌, length-take-le}
use Rattle.std.proofs.lemmas.List.{take-append-le}
use Rattle.std.proofs.Math.Seq.{take-append-add}
use Rattle.std.proofs.KnownBytes.{Consumes-trans}
use Rattle.std.specs.Io.KnownBytes.{Consumes}
use Rattle.std.specs.declared.option.Option.{Option}
use Rattle.listing.proofs.read_full.Goals as goal

-- The first n bytes of the part are read next, and the part stands behind the first f bytes of xs.
joined_more : (a b c : Option (List ℕ)) (xs part rest : List ℕ) (f n : ℕ) → f ≤ length xs → n ≤ length part
    → Consumes a b (take f xs) → Consumes b c (take n part) → Consumes a c (take (f + n) (take f xs ++ (part ++ rest)))
joined_more a b c xs part rest f n within fits before read =
    let long : length (take f xs) ≡ f = length-take-le f xs within in
    let split : take (f + n) (take f xs ++ (part ++ rest)) ≡ take f xs ++ take n part =
    ap (λ (m : ℕ). take (m + n) (take f xs ++ (part ++ rest))) (sym long) ∙ take-append-add (take f xs) (part ++ rest) n
    ∙ ap (λ (l : List ℕ). take f xs ++ l) (take-append-le n part rest fits) in
    subst (Consumes a c) (sym split) (Consumes-trans a b c (take f xs) (take n part) before read)

pub loop-done-preserved : goal.loop-done-preserved
loop-done-preserved g c = record {
  same_room = search rules;
  within = search rules;
  joined = joined_more _ _ _ _ _ _ _ _ c.loop-done.invariant.within c.in_ok-n.ensures.bound.0 c.loop-done.invariant.joined c.in_ok-n.ensures.bytes.0;
}
