-- `put_lines` writes one line more. Assumes nothing.
use Rattle.std.proofs.Common.{◌≡◌, ◌∙◌, [], get_or, add-one, arith}
use Rattle.decoder.specs.Inner.{word_in, lines_in}
use Rattle.decoder.proofs.Lines.{lines_in_length}
use Rattle.decoder.proofs.Writing.{wrote_none, wrote_more}
use Rattle.decoder.proofs.listing.put_lines.Goals as goal

pub loop-address-init : goal.loop-address-init
unfolding lines_in
loop-address-init c = wrote_none _

pub put-end-requires : goal.put-end-requires
put-end-requires c =
    omega (arith, c.loop-address.invariant.place, lines_in_length c.loop-address.address c.args.words.now, c.deref.ensures.1, c.loop-address.auto.out)

pub loop-address-preserved : goal.loop-address-preserved
unfolding lines_in
loop-address-preserved c =
    let word : c.from_le_bytes.result ≡ word_in (get_or c.args.words.now c.loop-address.address []) = omega (arith, c.from_le_bytes.ensures) in
    let text = c.as_bytes.ensures.value ∙ c.deref.ensures.0 ∙ c.line_of-line.ensures in
    rw (add-one c.loop-address.address, ← word) (wrote_more _ _ _ _ _ _ _ c.loop-address.invariant (rw text at c.put-end.ensures))
