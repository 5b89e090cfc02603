use Rattle.std.proofs.Common.{refl, sym, ◌∙◌}
use Rattle.tt_stack.proofs.Seen.{left_now, none_none, none_then, run_at, runs, some_now, sound_now}
use Rattle.tt_stack.proofs.state.TtStack.top.Goals as goal

pub returns-in-Some-clause-runs : goal.returns-in-Some-clause-runs
returns-in-Some-clause-runs c =
    let i = c.self.inside in
    let r = run_at i c.self.invariant c.args.self.now c.self.view_is c.in-Some.top
    (sym c.top.ensures.top ∙ c.in-Some.is) in
    (λ _. runs i c.self.invariant c.args.self.now c.self.view_is c.in-Some.top r, λ _. refl)

pub returns-in-Some-clause-sound : goal.returns-in-Some-clause-sound
returns-in-Some-clause-sound c =
    let i = c.self.inside in
    let r = run_at i c.self.invariant c.args.self.now c.self.view_is c.in-Some.top
    (sym c.top.ensures.top ∙ c.in-Some.is) in
    sound_now i c.self.invariant c.args.self.now c.self.view_is c.in-Some.top r

pub returns-in-Some-clause-left : goal.returns-in-Some-clause-left
returns-in-Some-clause-left c =
    let i = c.self.inside in
    let r = run_at i c.self.invariant c.args.self.now c.self.view_is c.in-Some.top
    (sym c.top.ensures.top ∙ c.in-Some.is) in
    left_now i c.self.invariant c.args.self.now c.self.view_is c.in-Some.top r

pub returns-in-Some-clause-some : goal.returns-in-Some-clause-some
returns-in-Some-clause-some c =
    let i = c.self.inside in
    let r = run_at i c.self.invariant c.args.self.now c.self.view_is c.in-Some.top
    (sym c.top.ensures.top ∙ c.in-Some.is) in
    some_now i c.self.invariant c.args.self.now c.self.view_is c.in-Some.top r

pub returns-in-None-clause-runs : goal.returns-in-None-clause-runs
returns-in-None-clause-runs c =
    let i = c.self.inside in
    let none = none_then i c.self.invariant c.args.self.now c.self.view_is (sym c.top.ensures.top ∙ c.in-None.is) in
    (λ e. cc, λ some. absurd (none_none c.args.self.now some none))
