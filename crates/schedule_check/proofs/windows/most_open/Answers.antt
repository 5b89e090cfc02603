use Rattle.std.proofs.Common.{◌≡◌, ◌<◌, refl, length, ap, ◌∙◌, arith}
use Rattle.std.specs.Prelude.{max}
use Rattle.tt_world.specs.declared.config.ConfigParts.{ConfigParts}
use Rattle.tt_world.specs.Rows.{mode_at}
use Rattle.round_table.specs.TableRows.{TableRows}
use Rattle.schedule_check.specs.Measures.{weight_of}
use Rattle.schedule_check.specs.Windows.{largest, most_in, most_open}
use Rattle.schedule_check.proofs.Answering.{table_is}
use Rattle.schedule_check.proofs.Largest.{larger, largest_more}
use Rattle.schedule_check.proofs.windows.most_open.Goals as goal

pub loop-number-init : goal.loop-number-init
unfolding largest
loop-number-init c = record { most = refl; small = omega arith }

pub loop-number-preserved : goal.loop-number-preserved
loop-number-preserved c =
    let config = c.args.config.now in
    let w = weight_of c.args.measure config in
    let n = c.loop-number.number in
    let test = c.loop-number-test.true in
    let end = c.len-number-end.ensures ∙ ap (λ (p : ConfigParts). length p.modes) c.parts-parts.ensures.same in
    let l : n < length config.modes = omega arith in
    let table = table_is config n c.get.result.now c.args.tables.now c.requires l c.get.ensures in
    let now : c.max-most.result ≡ max c.loop-number.most c.most_in.result = c.max-most.ensures ∙ larger _ _ in
    let most = c.loop-number.invariant.small in
    let bounded = c.most_in.ensures.bounded in
    record {
      most = now ∙ largest_more (λ mode. most_in w config (mode_at config mode)) n c.loop-number.most c.most_in.result
          c.loop-number.invariant.most
          (c.most_in.ensures.exact
          ∙ ap (λ (p : ConfigParts). most_in (weight_of c.args.measure p) p c.get.result.now.mode)
          c.parts-parts.ensures.same
          ∙ ap (λ (t : TableRows). most_in w config t.mode) table);
      small = omega arith;
    }

pub returns-clause-exact : goal.returns-clause-exact
unfolding most_open
returns-clause-exact c =
    let config = c.args.config.now in
    let past = c.loop-number-test.false in
    let all = c.loop-number.auto.number-end in
    let end = c.len-number-end.ensures ∙ ap (λ (p : ConfigParts). length p.modes) c.parts-parts.ensures.same in
    let last : c.loop-number.number ≡ length config.modes = omega arith in
    c.loop-number.invariant.most
    ∙ ap (largest (λ mode. most_in (weight_of c.args.measure config) config (mode_at config mode))) last
