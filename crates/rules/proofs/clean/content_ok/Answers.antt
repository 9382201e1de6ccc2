-- A live record's words, or zeros.
use mathlib.Core.Path.{◌∙◌}
use Rattle.rules.proofs.Words.{live_words, zero_words}
use Rattle.rules.proofs.clean.content_ok.Goals as goal

pub returns : goal.returns
returns c =
    let args = c.args in
    c.all_zero.ensures ∙ zero_words args.w args.f args.r args.state args.words.now args.records.now c.if-state-eq-LIVE.false
