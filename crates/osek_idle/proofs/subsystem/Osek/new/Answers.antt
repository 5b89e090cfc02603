use Rattle.std.proofs.Common.{◌≡◌, None, Some, map, ap, sym, subst, ◌∙◌}
use Rattle.std.specs.Prelude.{if◌then◌else◌}
use Rattle.tt_world.specs.declared.config.OsekDef.{OsekDef}
use Rattle.tt_world.specs.declared.config.OisrDef.{OisrDef}
use Rattle.osek_idle.specs.Standing.{states, AreSound}
use Rattle.osek_idle.proofs.Changes.{with_tasks, with_routines}
use Rattle.osek_idle.proofs.Starting.{no_states, no_sound, enough_codes}
use Rattle.osek_idle.proofs.subsystem.Osek.new.Goals as goal

pub returns-clause-sound : goal.returns-clause-sound
returns-clause-sound c =
    let oseks : c.as_slice.result.now ≡ c.args.config.now.oseks = c.as_slice.ensures
    ∙ ap (λ p. p.oseks) c.parts-parts.ensures.same in
    let oisrs : c.as_slice-2.result.now ≡ c.args.config.now.oisrs = c.as_slice-2.ensures
    ∙ ap (λ p. p.oisrs) c.parts-parts.ensures.same in
    record {
      enough = enough_codes c.args.codes.now c.args.config.now c.args.first c.first_tasks.result
          c.first_routines.result
          (c.first_tasks.ensures.priorities ∙ ap (map (λ (task : OsekDef). task.priority)) oseks)
          (c.first_routines.ensures.priorities ∙ ap (map (λ (oisr : OisrDef). oisr.priority)) oisrs) c.requires;
      tasks = c.first_tasks.ensures.sound;
      routines = subst (AreSound c.args.codes.now) (sym c.first_routines.ensures.frames)
          (no_sound c.args.codes.now c.as_slice-2.result.now);
    }

pub returns-clause-state : goal.returns-clause-state
returns-clause-state c =
    let codes = c.args.codes.now in
    let oseks : c.as_slice.result.now ≡ c.args.config.now.oseks = c.as_slice.ensures
    ∙ ap (λ p. p.oseks) c.parts-parts.ensures.same in
    let oisrs : c.as_slice-2.result.now ≡ c.args.config.now.oisrs = c.as_slice-2.ensures
    ∙ ap (λ p. p.oisrs) c.parts-parts.ensures.same in
    with_tasks _ _ _ (c.first_tasks.ensures.state
    ∙ ap (map (λ (task : OsekDef). if task.auto then Some task.body else None)) oseks)
    ∙ with_routines _ _ _ (ap (states codes) c.first_routines.ensures.frames ∙ no_states codes c.as_slice-2.result.now
    ∙ ap (map (λ (oisr : OisrDef). None)) oisrs)
