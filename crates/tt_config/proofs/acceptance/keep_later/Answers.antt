use Rattle.std.proofs.Common.{None, Some, sym, ◌∙◌}
use Rattle.tt_config.proofs.Asked.{broken_by}
use Rattle.tt_config.proofs.SoundConfig.{elaborated_sound}
use Rattle.tt_config.proofs.acceptance.keep_later.Goals as goal

pub returns-in-Some-clause-rule : goal.returns-in-Some-clause-rule
returns-in-Some-clause-rule c =
    broken_by c.args.rows.now None (Some c.in-Some.field-0) c.requires.first
    (sym c.in-Some.is ∙ c.in_ok-later_broken.ensures)

pub returns-in-None-clause-kept : goal.returns-in-None-clause-kept
returns-in-None-clause-kept c =
    broken_by c.args.rows.now None None c.requires.first (sym c.in-None.is ∙ c.in_ok-later_broken.ensures)

pub returns-in-None-clause-sound : goal.returns-in-None-clause-sound
returns-in-None-clause-sound c =
    rw c.requires.elaborated
    (elaborated_sound c.args.rows.now c.requires.rows c.requires.few
    (broken_by c.args.rows.now None None c.requires.first (sym c.in-None.is ∙ c.in_ok-later_broken.ensures)))
