-- Each entry is tested as `entries_fit` tests it. Assumes nothing.
use Rattle.std.proofs.Common.{◌∙◌, leb, rules, tests}
use Rattle.std.proofs.lemmas.Iterator.{YieldsList-from_slice}
use Rattle.std.proofs.lemmas.Iterator.Search.{all_from_yields_List}
use Rattle.machine.proofs.Entries.{all_fit}
use Rattle.machine.proofs.running.entries_fit.Goals as goal

pub returns : goal.returns
returns c =
    all_from_yields_List (λ r. leb r 8191) _ _ _ c.all.ensures.ran (YieldsList-from_slice c.args.stack cc) (λ x b q k. search (rules, tests)) ∙ all_fit c.args.stack
