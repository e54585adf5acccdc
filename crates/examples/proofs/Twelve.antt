-- Each example computes. Assumes nothing.
use mathlib.Core.Path.{refl}
use Rattle.decoder.specs.Table.{decode_of, rows_of, rows, fixed}
use Rattle.decoder.specs.Printed.{encode_of, word_of}
use Rattle.decoder.specs.Text.{text_of, operand_text, hex, digit}
use Rattle.decoder.specs.Listing.{listing_of, accepted_of, lines_of, line_of}
use Rattle.machine.specs.Registers.{address_of, place_of, shared, stored}
use Rattle.machine.specs.Forms.{form_of}
use Rattle.machine.specs.Step.{step_form, done_by, step_of}
use Rattle.machine.specs.Run.{steps_of, sizes_fit, entries_fit, state_fits, run_of}
use Rattle.examples.specs.Twelve.{Examples, Listing}

pub examples : Examples
unfolding decode_of rows_of rows fixed encode_of word_of run_of sizes_fit state_fits entries_fit steps_of step_of done_by form_of step_form stored address_of place_of shared
examples = record {
  example_1 = (refl, refl);
  example_2 = (refl, refl);
  example_3 = (refl, refl);
  example_4 = refl;
  example_5 = ((refl, refl, refl), refl, refl, refl, refl);
  example_6_1 = ((refl, refl, refl), refl, refl);
  example_6_2 = ((refl, refl, refl), refl, refl);
  example_6_3 = ((refl, refl, refl), refl, refl);
  example_7 = ((refl, refl, refl), refl, refl, refl);
  example_8 = ((refl, refl, refl), refl, refl);
  example_9 = ((refl, refl, refl), refl);
  example_10 = ((refl, refl, refl), refl, refl);
  example_11_7 = ((refl, refl, refl), refl);
  example_11_8 = refl;
}

pub listing : Listing
unfolding decode_of rows_of rows fixed text_of operand_text hex digit listing_of accepted_of lines_of line_of
listing = record { prints = refl }
