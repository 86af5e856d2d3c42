-- `bit_words::clashes::clash_words` meets its contract: of rows that passed their checks the bits say what clashes.
use Rattle.std.proofs.Common.{sym, ap, ◌∙◌}
use Rattle.refusals.specs.Refusals.{number_of}
use Rattle.bit_words.specs.Clashes.{windows_of, clash_words_of}
use Rattle.bit_words.specs.Lent.{windows_refusal}
use Rattle.bit_words.proofs.Clashing.{valid_rows, clash_words}
use Rattle.bit_words.proofs.clashes.clash_words.Goals as goal

pub returns-clause-meaning : goal.returns-clause-meaning
returns-clause-meaning c =
    let t = windows_of c.args.setting c.args.starts.now c.args.ends.now in
    let passed = sym c.in_ok-check_windows.was ∙ c.check_windows.ensures ∙ ap windows_refusal c.windows-table.ensures in
    λ e. rw (c.set_words.ensures ∙ ap clash_words_of c.windows-table.ensures) (clash_words t (valid_rows t (ap number_of (sym passed))))
