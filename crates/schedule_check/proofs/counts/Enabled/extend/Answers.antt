use Rattle.std.proofs.Common.{◌<◌, ℕ, length, sym, subst, ◌∙◌}
use Rattle.std.proofs.lemmas.List.Elements.{All-get_or}
use Rattle.tt_world.specs.declared.config.Enable.{Enable}
use Rattle.schedule_check.specs.Counts.{no_enable}
use Rattle.schedule_check.proofs.Counting.{before_more, cut_here, enabled_more, there}
use Rattle.schedule_check.proofs.counts.Enabled.extend.Goals as goal

pub loop-self-preserved : goal.loop-self-preserved
loop-self-preserved c =
    let rows = c.args.rows.now in
    let enabled = c.loop-self.self in
    let before = sym c.is_enable_before.ensures ∙ c.loop-self-test.true in
    let l : enabled.end < length rows =
    there (λ (row : Enable). row.offset) no_enable rows c.args.to enabled.end before in
    let small : c.from.result < 16 = subst (λ (isr : ℕ). isr < 16) (sym c.from.ensures)
    (All-get_or (λ (row : Enable). row.isr.0 < 16) rows enabled.end no_enable l c.requires.isrs) in
    record {
      enabled = enabled_more rows enabled c.from.result c.loop-self.invariant.enabled l c.from.ensures small;
      first = c.loop-self.invariant.first;
      before = before_more (λ (row : Enable). row.offset) no_enable rows c.args.to enabled.end
          c.loop-self.invariant.before before;
    }

pub returns-clause-end : goal.returns-clause-end
returns-clause-end c =
    cut_here (λ (row : Enable). row.offset) no_enable c.args.rows.now c.args.to c.requires.ascending
    c.loop-self.self.end c.loop-self.invariant.enabled.within c.loop-self.invariant.before
    (sym c.is_enable_before.ensures ∙ c.loop-self-test.false)
