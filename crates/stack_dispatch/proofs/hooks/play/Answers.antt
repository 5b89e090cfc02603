use Rattle.std.proofs.Common.{◌≡◌, ◌<◌, List, ◌∙◌, subst, length, get_or}
use Rattle.task_lang.specs.declared.syntax.Stmt.{Stmt}
use Rattle.stack_dispatch.proofs.Playing.{others_stay, outs_left, short_at, vars_left}
use Rattle.stack_dispatch.proofs.Telling.{telling}
use Rattle.stack_dispatch.proofs.hooks.play.Goals as goal

pub play_statement-requires : goal.play_statement-requires
play_statement-requires g c =
    let items = c.as_slice-stmt-items in
    short_at items.result.now c.loop-stmt.stmt-index c.stmt-item.result (rw items.ensures c.requires)
    c.loop-stmt-test.true c.stmt-item.is

pub loop-stmt-preserved : goal.loop-stmt-preserved
loop-stmt-preserved g c =
    let items = c.as_slice-stmt-items.ensures in
    let i = c.loop-stmt.stmt-index in
    let stmt = c.stmt-item.result in
    let invariant = c.loop-stmt.invariant in
    let within = subst (λ (body : List Stmt). i < length body) items c.loop-stmt-test.true in
    let is = subst (λ (body : List Stmt). stmt ≡ get_or body i stmt) items c.stmt-item.is in
    let env = c.play_statement.ensures.env in
    record {
      vars = invariant.vars
          ∙ vars_left (telling g.R.Recorder) c.args.at c.args.hook c.args.body.now i stmt within is c.loop-stmt.env
          c.play_statement.new.env env;
      others = others_stay c.args.env.now c.loop-stmt.env c.play_statement.new.env _ invariant.others env;
      told = outs_left (telling g.R.Recorder) c.args.at c.args.hook c.args.body.now i stmt within is c.loop-stmt.env
          c.play_statement.new.env env
          c.args.log.now c.loop-stmt.log c.play_statement.new.log _ invariant.told c.play_statement.ensures.told;
    }
