use Rattle.std.proofs.Common.{◌≡◌, ◌↔◌, ◌≤◌, max, [], IsTrue, ap, sym, subst, ◌∙◌}
use Rattle.std.specs.Prelude.{option_to_list}
use Rattle.task_lang.specs.Tick.{supply_of, state_of, ticks}
use Rattle.task_machine.specs.Standing.{work_in_front}
use Rattle.osek_idle.specs.Subsystem.{owner_left, owner_leaving}
use Rattle.osek_idle.specs.Standing.{subsystem_of}
use Rattle.osek_idle.proofs.subsystem.Osek.advance.Goals as goal

pub advance_owner-requires-clause-left : goal.advance_owner-requires-clause-left
advance_owner-requires-clause-left g c = λ none.
    c.requires.left (ap (owner_left (subsystem_of c.args.codes.now c.args.self.now))
    (sym (sym c.in-Some.is ∙ c.picks.ensures c.args.codes.now)) ∙ none)

pub advance_owner-requires-clause-within : goal.advance_owner-requires-clause-within
advance_owner-requires-clause-within g c =
    let s = subsystem_of c.args.codes.now c.args.self.now in
    subst (λ who. c.args.k ≤ max 1 (work_in_front (owner_left s who)))
    (sym (sym c.in-Some.is ∙ c.picks.ensures c.args.codes.now)) c.requires.within

pub returns-in-Some-clause-others : goal.returns-in-Some-clause-others
returns-in-Some-clause-others g c =
    let s = subsystem_of c.args.codes.now c.args.self.now in
    let new = subsystem_of c.args.codes.now c.advance_owner.new.self in
    subst (λ who. new ≡ owner_leaving who (owner_left new who) s)
    (sym c.in-Some.is ∙ c.picks.ensures c.args.codes.now) c.advance_owner.ensures.others

pub returns-in-Some-clause-ticks : goal.returns-in-Some-clause-ticks
returns-in-Some-clause-ticks g c =
    let s = subsystem_of c.args.codes.now c.args.self.now in
    let new = subsystem_of c.args.codes.now c.advance_owner.new.self in
    let env = c.args.env.now in
    let env' = c.advance_owner.new.env in
    subst (λ who. state_of (owner_left new who) env'.vars env'.cursors (option_to_list c.advance_owner.result.effect)
    ≡ ticks (supply_of env.demands env.values) c.args.k (state_of (owner_left s who) env.vars env.cursors []))
    (sym c.in-Some.is ∙ c.picks.ensures c.args.codes.now) c.advance_owner.ensures.ticks

pub returns-in-Some-clause-ended : goal.returns-in-Some-clause-ended
returns-in-Some-clause-ended g c =
    let new = subsystem_of c.args.codes.now c.advance_owner.new.self in
    subst (λ who. IsTrue c.advance_owner.result.ended ↔ (owner_left new who ≡ []))
    (sym c.in-Some.is ∙ c.picks.ensures c.args.codes.now) c.advance_owner.ensures.ended

pub returns-in-None-clause-others : goal.returns-in-None-clause-others
returns-in-None-clause-others g c =
    absurd (c.requires.left (ap (owner_left (subsystem_of c.args.codes.now c.args.self.now))
    (sym (sym c.in-None.is ∙ c.picks.ensures c.args.codes.now))))

pub returns-in-None-clause-ticks : goal.returns-in-None-clause-ticks
returns-in-None-clause-ticks g c =
    absurd (c.requires.left (ap (owner_left (subsystem_of c.args.codes.now c.args.self.now))
    (sym (sym c.in-None.is ∙ c.picks.ensures c.args.codes.now))))

pub returns-in-None-clause-ended : goal.returns-in-None-clause-ended
returns-in-None-clause-ended g c =
    absurd (c.requires.left (ap (owner_left (subsystem_of c.args.codes.now c.args.self.now))
    (sym (sym c.in-None.is ∙ c.picks.ensures c.args.codes.now))))

pub returns-in-None-clause-counted : goal.returns-in-None-clause-counted
returns-in-None-clause-counted g c =
    absurd (c.requires.left (ap (owner_left (subsystem_of c.args.codes.now c.args.self.now))
    (sym (sym c.in-None.is ∙ c.picks.ensures c.args.codes.now))))
