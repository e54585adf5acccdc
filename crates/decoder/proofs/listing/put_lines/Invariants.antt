-- `put_lines` writes a line for each word. The invariant: the lines before this word's are written. Assumes nothing.
use Rattle.decoder.specs.Inner.{Wrote, lines_in}
use Rattle.decoder.proofs.listing.put_lines.Given as goal

abbrev pub invariant-loop-address : goal.invariant-loop-address
invariant-loop-address l = Wrote l.initial.out l.out 0 l.end (lines_in l.address l.words)
