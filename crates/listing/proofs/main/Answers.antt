-- What `list` says that it wrote lies within the buffer, which has room for every listing. Assumes nothing.
use Rattle.std.proofs.Common.{◌≡◌, ◌≤◌, ℕ, List, Result, Ok, length, sym, subst, arith, rules, length-take-le}
use Rattle.decoder.specs.declared.refusal.Refusal.{Refusal}
use Rattle.decoder.specs.Answers.{Lists}
use Rattle.decoder.proofs.Laws.{listing_given, listing_within}
use Rattle.listing.proofs.main.Goals as goal

within : (input before after : List ℕ) (r : Result ℕ Refusal) (n : ℕ) → Lists input before r after → r ≡ Ok n → n ≤ length after
within input before after r n e is = listing_within input before n after (subst (λ (s : Result ℕ Refusal). Lists input before s after) is e)

pub unwrap-length-requires : goal.unwrap-length-requires
unwrap-length-requires c = listing_given _ _ _ _ (search (arith, rules)) c.list.ensures

pub slice_bounds-text-end : goal.slice_bounds-text-end
slice_bounds-text-end c = within _ _ _ _ _ c.list.ensures c.unwrap-length.ensures

pub slice_bounds-write_all-end : goal.slice_bounds-write_all-end
slice_bounds-write_all-end c = sym (length-take-le _ _ (within _ _ _ _ _ c.list.ensures c.unwrap-length.ensures))
