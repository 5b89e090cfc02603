use Rattle.std.proofs.Common.{◌<◌, ◌≤◌, ℕ, List, length, get_or, sym, ap, ◌∙◌, subst, arith, below_more, refl}
use Rattle.std.proofs.lemmas.Bool.{false≢true}
use Rattle.task_lang.specs.declared.demand.Demand.{Demand}
use Rattle.tt_world.specs.declared.config.ConfigParts.{ConfigParts}
use Rattle.tt_world.specs.declared.script.ScriptParts.{ScriptParts}
use Rattle.schedule_check.proofs.KeptValues.{kept_here, kept_all}
use Rattle.schedule_check.proofs.bounds.keeps_values.Goals as goal

pub returns-then-not-are_at_most : goal.returns-then-not-are_at_most
returns-then-not-are_at_most c =
    let demands = c.args.config.now.demands in
    let values = c.args.script.now.values in
    let n = c.loop-number.number in
    let demands-are = c.as_slice-demands.ensures ∙ ap (λ (p : ConfigParts). p.demands) c.parts.ensures.same in
    let values-are = c.as_slice-values.ensures ∙ ap (λ (p : ScriptParts). p.values) c.parts-2.ensures.same in
    let l : n < length demands = subst (λ (xs : List Demand). n < length xs) demands-are c.loop-number-test.true in
    let k : n < length values = (let same = c.requires.values in omega arith) in
    let kept = kept_here demands values n _ c.as_slice-demands.result.now c.index-values-number.result
    c.as_slice.result.now
    c.are_at_most.result demands-are c.loop-number-test.true k
    (c.index-values-number.is ∙ ap (λ (xs : List (List ℕ)). get_or xs n c.index-values-number.result) values-are)
    c.as_slice.ensures c.are_at_most.ensures in
    (λ e. absurd (false≢true e), λ all. absurd (false≢true (sym c.if-not-are_at_most.true ∙ kept ∙ all n)))

pub loop-number-preserved : goal.loop-number-preserved
loop-number-preserved c =
    let demands = c.args.config.now.demands in
    let values = c.args.script.now.values in
    let n = c.loop-number.number in
    let demands-are = c.as_slice-demands.ensures ∙ ap (λ (p : ConfigParts). p.demands) c.parts.ensures.same in
    let values-are = c.as_slice-values.ensures ∙ ap (λ (p : ScriptParts). p.values) c.parts-2.ensures.same in
    let l : n < length demands = subst (λ (xs : List Demand). n < length xs) demands-are c.loop-number-test.true in
    let k : n < length values = (let same = c.requires.values in omega arith) in
    let kept = kept_here demands values n _ c.as_slice-demands.result.now c.index-values-number.result
    c.as_slice.result.now
    c.are_at_most.result demands-are c.loop-number-test.true k
    (c.index-values-number.is ∙ ap (λ (xs : List (List ℕ)). get_or xs n c.index-values-number.result) values-are)
    c.as_slice.ensures c.are_at_most.ensures in
    below_more _ _ c.loop-number.invariant (sym kept ∙ c.if-not-are_at_most.false)

pub returns : goal.returns
returns c =
    let demands = c.args.config.now.demands in
    let values = c.args.script.now.values in
    let demands-are = c.as_slice-demands.ensures ∙ ap (λ (p : ConfigParts). p.demands) c.parts.ensures.same in
    let all : length demands ≤ c.loop-number.number =
    subst (λ (xs : List Demand). length xs ≤ c.loop-number.number) demands-are c.loop-number-test.false in
    let same = c.requires.values in
    (λ e. kept_all demands values c.loop-number.number (omega arith) c.loop-number.invariant, λ kept. refl)
