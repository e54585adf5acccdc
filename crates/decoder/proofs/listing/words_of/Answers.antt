-- `words_of` takes the header apart, and then the words behind it. Assumes nothing.
use Rattle.std.proofs.Common.{sym, ◌∙◌, rules, arith}
use Rattle.decoder.proofs.Lines.{Apart, short_input, by_form, words_read}
use Rattle.decoder.proofs.listing.words_of.Goals as goal
use Rattle.decoder.proofs.listing.words_of.Goals.{After-from}

apart : (c : After-from) → Apart c.args.input.now c.in_ok-header.header.now c.in_ok-header.rest.now c.from.result c.from_le_bytes-kind.result
apart c = record {
  front = c.in_ok-header.ensures.cases.0;
  behind = c.in_ok-header.ensures.cases.1;
  count = c.in_ok-header.ensures.cases.2;
  is_size = omega (arith, c.from.ensures, c.from_le_bytes-length.ensures);
  is_kind = omega (arith, c.from_le_bytes-kind.ensures);
}

pub returns-in_err-header : goal.returns-in_err-header
returns-in_err-header c = rw c.from_residual.ensures (short_input _ c.in_err-header.ensures.cases)

pub returns-then-not-is_form : goal.returns-then-not-is_form
returns-then-not-is_form c =
    by_form _ _ _ _ _ (apart (goal.at.returns-then-not-is_form c).After-from) ∙ sym c.is_form.ensures ∙ c.if-not-is_form.true

pub returns : goal.returns
returns c =
    let form = sym c.is_form.ensures ∙ c.if-not-is_form.false in
    words_read _ _ c.in_ok-header.rest.now c.as_chunks.result.0.now _ _ (apart (goal.at.returns c).After-from) form (search rules) (search rules)
