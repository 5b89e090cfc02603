use Rattle.std.proofs.Common.{◌≡◌, ◌+◌, ℕ, List, length, refl, ap, sym, ◌∙◌, subst}
use Rattle.std.specs.Prelude.{replicate}
use Rattle.task_lang.specs.declared.syntax.Stmt.{Stmt}
use Rattle.tt_world.specs.declared.config.ConfigParts.{ConfigParts}
use Rattle.tt_stack.specs.Stacked.{Stacked}
use Rattle.tt_stack.specs.Words.{Words}
use Rattle.round_end.specs.Round.{Round, first_round}
use Rattle.osek_idle.specs.Subsystem.{IsSettled}
use Rattle.osek_idle.specs.Standing.{HaveOsek, IsSound, setup_of, subsystem_of}
use Rattle.stack_dispatch.specs.State.{bodies_of}
use Rattle.stack_dispatch.proofs.Firsts.{have_osek, first_settled, first_view, words_first}
use Rattle.stack_dispatch.proofs.state.State.new.Goals as goal

pub new-osek-requires : goal.new-osek-requires
new-osek-requires c =
    let same = c.parts-parts.ensures.same in
    let tasks = ap length c.as_slice-2.ensures ∙ ap (λ (p : ConfigParts). length p.tasks) same in
    let isrs = ap length c.as_slice-3.ensures ∙ ap (λ (p : ConfigParts). length p.isrs) same in
    subst (λ (n : ℕ). HaveOsek c.in_ok-codes.codes (n + length c.as_slice-3.result.now) c.args.config.now) (sym tasks)
    (subst (λ (n : ℕ). HaveOsek c.in_ok-codes.codes (length c.args.config.now.tasks + n) c.args.config.now) (sym isrs)
    (have_osek c.args.config.now c.in_ok-codes.codes (c.in_ok-codes.ensures ∙ ap bodies_of same)))

pub invariant_of-result : goal.invariant_of-result
invariant_of-result c =
    let codes : c.new-4.result.codes ≡ c.in_ok-codes.codes = ap (λ (k : Stacked). k.codes) c.new-4.ensures in (
      subst (λ (ks : List (List Stmt)). IsSound ks c.new-osek.result) (sym codes) c.new-osek.ensures.sound,
      subst (λ (ks : List (List Stmt)). IsSettled (subsystem_of ks c.new-osek.result)) (sym codes)
          (subst IsSettled (sym c.new-osek.ensures.state)
          (first_settled c.args.config.now c.parts-parts.ensures.rules)),
      ap (λ (k : Stacked). k.words.mode) c.new-4.ensures ∙ ap (λ (ws : Words). ws.mode) c.in_ok-words.ensures
          ∙ sym (ap (λ (r : Round). r.mode) c.new-3.ensures),
    )

pub returns : goal.returns
returns c =
    let same = c.parts-parts.ensures.same in
    let config = c.args.config.now in
    let script = c.args.script.now in
    let tasks = ap length c.as_slice-2.ensures ∙ ap (λ (p : ConfigParts). length p.tasks) same in
    let isrs = ap length c.as_slice-3.ensures ∙ ap (λ (p : ConfigParts). length p.isrs) same in
    let codes : c.new-4.result.codes ≡ c.in_ok-codes.codes = ap (λ (k : Stacked). k.codes) c.new-4.ensures in
    first_view config script c.requires c.new-3.result c.in_ok-env.env c.new-4.result c.new-5.result
    (setup_of c.new-osek.result)
    (subsystem_of c.new-4.result.codes c.new-osek.result)
    (c.new-3.ensures ∙ ap (first_round config script.start script.rounds) (c.in_ok-times.ensures ∙ c.as_slice.ensures))
    (c.in_ok-env.ensures ∙ ap (λ (p : ConfigParts). record {
      vars = p.vars;
      cursors = replicate (length p.demands) 0;
      demands = p.demands;
      values = script.values;
    }) same)
    (c.new-4.ensures ∙ rw (
      c.in_ok-codes.ensures ∙ ap bodies_of same,
      tasks,
      c.as_slice-4.ensures ∙ ap (λ (p : ConfigParts). p.isrs) same,
      c.in_ok-words.ensures ∙ ap (λ (p : ConfigParts). words_first p script.start) same,
    ) refl)
    (c.new-5.ensures ∙ rw (c.in_ok-arrivals.ensures) refl)
    (c.new-osek.ensures.setup ∙ rw (tasks, isrs) refl)
    (ap (λ (ks : List (List Stmt)). subsystem_of ks c.new-osek.result) codes ∙ c.new-osek.ensures.state)
