use Rattle.std.proofs.Common.{◌≡◌, List, ap, sym, ◌∙◌, subst}
use Rattle.task_lang.specs.declared.syntax.Stmt.{Stmt}
use Rattle.tt_base.specs.declared.event.Owner.{Owner}
use Rattle.tt_world.specs.declared.world.Runner.TheVariants as runner
use Rattle.tt_world.specs.Runners.{leaving}
use Rattle.isr_window.specs.Played.{begun}
use Rattle.osek_idle.specs.Subsystem.{Subsystem, begun as oisr_begun, IsSettled}
use Rattle.osek_idle.specs.Standing.{routine_body, setup_of, subsystem_of, IsSound}
use Rattle.stack_dispatch.specs.Due.{CanBegin}
use Rattle.tt_stack.specs.Stacked.{Stacked}
use Rattle.stack_dispatch.specs.State.{RunState, IsFor}
use Rattle.stack_dispatch.specs.contracts.state.State.{the_view}
use Rattle.stack_dispatch.proofs.Beginning.{with_osek, with_oisrs, isr_begins, lefts_begun, oisr_begins, oisr_some, settled_begun}
use Rattle.stack_dispatch.proofs.state.State.begin_routine.Goals as goal

pub invariant_of-self : goal.invariant_of-self
invariant_of-self c =
    let osek = c.self.inside.osek in
    let codes = sym (ap (λ (s : Stacked). s.codes) c.accept.ensures) in (
      subst (λ (ks : List (List Stmt)). IsSound ks osek) codes c.self.invariant.0,
      subst (λ (ks : List (List Stmt)). IsSettled (subsystem_of ks osek)) codes c.self.invariant.1,
      ap (λ (s : Stacked). s.words.mode) c.accept.ensures ∙ c.self.invariant.2,
    )

pub invariant_of-self-in-Oisr : goal.invariant_of-self-in-Oisr
invariant_of-self-in-Oisr c =
    let st = the_view c.self.inside in
    let next = c.accept-in-Oisr.new.self in
    let osek = c.self.inside.osek in
    let n = c.in-Oisr.oisr.0 in
    let config = c.args.config.now in
    let is_for = subst (λ (z : RunState). IsFor config c.args.script.now z.beside)
    (sym c.self.view_is) c.requires.fixed in
    let exists = subst (λ (o : Owner). CanBegin config o c.args.self.now.world) c.in-Oisr.is c.requires.can in
    let state = subst (λ (codes : List (List Stmt)). subsystem_of codes next
    ≡ oisr_begun (routine_body codes (setup_of osek) n) n (subsystem_of codes osek))
    c.codes.ensures c.accept-in-Oisr.ensures.state in (
      subst (λ (codes : List (List Stmt)). IsSound codes next) c.codes.ensures c.accept-in-Oisr.ensures.sound,
      subst IsSettled (sym state)
          (settled_begun _ n _ (λ none. oisr_some config c.requires.rules n exists
          (sym (oisr_begins config c.args.script.now st.beside is_for n exists) ∙ none))
          c.self.invariant.1),
      c.self.invariant.2,
    )

pub returns-in-Isr-clause-world : goal.returns-in-Isr-clause-world
returns-in-Isr-clause-world c =
    let inside = c.self.inside in
    let st = the_view inside in
    let isr = c.in-Isr.isr in
    let config = c.args.config.now in
    let is_for = subst (λ (z : RunState). IsFor config c.args.script.now z.beside)
    (sym c.self.view_is) c.requires.fixed in
    let can = subst (λ (o : Owner). CanBegin config o c.args.self.now.world) c.in-Isr.is c.requires.can in
    ap (λ (s : Stacked). (the_view (record inside { stack = s })).world) c.accept.ensures
    ∙ ap (λ (left : List Stmt). leaving st.world (runner.Isr isr) left)
    (isr_begins config c.args.script.now st.beside is_for isr.0 can.0)
    ∙ ap (λ (o : Owner). begun config o st.world) (sym c.in-Isr.is)
    ∙ ap (λ (z : RunState). begun config c.args.source z.world) c.self.view_is

pub returns-in-Oisr-clause-world : goal.returns-in-Oisr-clause-world
returns-in-Oisr-clause-world c =
    let st = the_view c.self.inside in
    let next = c.accept-in-Oisr.new.self in
    let osek = c.self.inside.osek in
    let oisr = c.in-Oisr.oisr in
    let config = c.args.config.now in
    let is_for = subst (λ (z : RunState). IsFor config c.args.script.now z.beside)
    (sym c.self.view_is) c.requires.fixed in
    let exists = subst (λ (o : Owner). CanBegin config o c.args.self.now.world) c.in-Oisr.is c.requires.can in
    let state = subst (λ (codes : List (List Stmt)). subsystem_of codes next
    ≡ oisr_begun (routine_body codes (setup_of osek) oisr.0) oisr.0 (subsystem_of codes osek)) c.codes.ensures
    c.accept-in-Oisr.ensures.state in
    ap (λ (s : Subsystem). with_osek st.world s) state
    ∙ ap (λ (l : List (List Stmt)). with_oisrs st.world l)
    (lefts_begun _ oisr.0 (subsystem_of c.self.inside.stack.codes osek))
    ∙ ap (λ (left : List Stmt). leaving st.world (runner.Oisr oisr) left)
    (oisr_begins config c.args.script.now st.beside is_for oisr.0 exists)
    ∙ ap (λ (o : Owner). begun config o st.world) (sym c.in-Oisr.is)
    ∙ ap (λ (z : RunState). begun config c.args.source z.world) c.self.view_is
