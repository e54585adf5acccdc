-- `encode` adds the operands' bits to the row's word, or passes on that one is too large. Assumes nothing.
use Rattle.std.proofs.Common.{refl, arith}
use Rattle.std.proofs.lemmas.Result.{err_from_is_err_and}
use Rattle.decoder.specs.Printed.{printed_of, encode_of, word_of}
use Rattle.decoder.proofs.Fit.{fit_true, placing_gives, placing_refuses}
use Rattle.decoder.proofs.Laws.{word_below}
use Rattle.decoder.proofs.encoding.encode.Goals as goal

pub returns-in_err-bits : goal.returns-in_err-bits
unfolding encode_of
returns-in_err-bits c =
    let passed = err_from_is_err_and c.from_residual.result c.from_residual.ensures.1 in
    let too_large = placing_refuses _ _ (rw c.printed-row.ensures.operands at c.in_err-bits.ensures) in
    rw (passed.1, passed.2, too_large.0, too_large.1) refl

pub overflow_add-result : goal.overflow_add-result
unfolding word_of
overflow_add-result c =
    let bits = placing_gives _ _ (rw c.printed-row.ensures.operands at c.in_ok-bits.ensures) in
    let below = word_below c.args.i (fit_true (printed_of c.args.i).operands bits.fit) in
    omega (arith, c.printed-row.ensures.word, bits.are, below)

pub returns : goal.returns
unfolding encode_of word_of
returns c =
    let bits = placing_gives _ _ (rw c.printed-row.ensures.operands at c.in_ok-bits.ensures) in
    rw (bits.fit, c.printed-row.ensures.word, bits.are) refl
