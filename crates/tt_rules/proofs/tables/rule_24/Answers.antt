use Rattle.std.proofs.Common.{ap, ◌∙◌}
use Rattle.tt_rules.specs.Lines.{lesser_of}
use Rattle.tt_rules.specs.TableRules.{lines_of_mode}
use Rattle.tt_rules.proofs.LineLemmas.{below-step}
use Rattle.tt_rules.proofs.tables.rule_24.Goals as goal

pub loop-mode-preserved : goal.loop-mode-preserved
loop-mode-preserved c =
    below-step (lines_of_mode c.args.entries.now) c.loop-mode.mode c.loop-mode.found c.lesser-found.result
    c.loop-mode.invariant
    (c.lesser-found.ensures ∙ ap (lesser_of c.loop-mode.found) c.past_rows.ensures)
