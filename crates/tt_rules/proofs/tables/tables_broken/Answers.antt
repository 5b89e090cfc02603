use Rattle.tt_rules.proofs.tables.tables_broken.Goals as goal

pub returns : goal.returns
returns c = λ d limit modes entries. rw (limit, modes, entries) (simp (
  c.rule_18.ensures,
  c.rule_19.ensures,
  c.rule_20.ensures,
  c.in_ok-places.ensures,
  c.in_ok-sources.ensures,
  c.in_ok-apart.ensures,
  c.rule_24.ensures,
) at c.first_some.ensures)
