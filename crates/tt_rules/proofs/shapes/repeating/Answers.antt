use Rattle.std.proofs.Common.{◌≡◌, Bool, false, not, [], ◌∷◌, Option, Some, None, List, refl, ap, sym, ◌∙◌, arith}
use Rattle.std.specs.List.{list_any}
use Rattle.std.specs.HashSet.{contains}
use Rattle.std.proofs.lemmas.Fn.{says_at}
use Rattle.std.proofs.lemmas.Grind.{common_steps}
use Rattle.tt_rules.specs.Shapes.{is_new, passes_key, repeating, same_by, same_keys}
use Rattle.tt_rules.proofs.ActivationLemmas.{none_passes}
use Rattle.tt_rules.proofs.LineLemmas.{least-at}
use Rattle.tt_rules.proofs.shapes.repeating.Goals as goal

module _ {A K : Type 0} (same : K → K → Bool) (key : A → Option K) where
  same-none : (a : Option K) → same_keys same a None ≡ false
  same-none None = refl
  same-none (Some a) = refl

  -- a set that has the keys of the parts above says whether a key is one of theirs
  known : (has : K → Bool) (above : List A)
      → ((q : K) → has q ≡ list_any (λ other. same_keys same (key other) (Some q)) above) → (k : Option K)
      → passes_key has k ≡ list_any (λ other. same_keys same (key other) k) above
  known has above is None = sym (none_passes (λ other. same_keys same (key other) None) above (λ x. same-none (key x)))
  known has above is (Some k) = is k

pub loop-at-init : goal.loop-at-init
loop-at-init g c = λ key answers. ([], (λ q. ap (list_any (g.K.PartialEq.eq q)) c.new-seen.ensures.empty), refl)

pub loop-at-preserved : goal.loop-at-preserved
loop-at-preserved g c = λ key answers.
    let x = c.at-item.result.part in
    let eq = g.K.PartialEq.eq in
    let before = c.loop-at.invariant key answers in
    let is_of = answers x c.key_of.result (says_at g.F.Fn c.key_of.ensures refl) in
    let is_known = known eq key (contains eq c.loop-at.seen) before.0 before.1 (key x) in
    let new : c.in_ok-is_new.is_new ≡ is_new (same_by eq key) before.0 x =
    c.in_ok-is_new.ensures.new ∙ ap (λ o. not (passes_key (contains eq c.loop-at.seen) o)) is_of ∙ ap not is_known in (
      x ∷ before.0,
      (λ q. grind (arith, common_steps, is_of, c.in_ok-is_new.ensures.seen q, before.1 q)),
      least-at (repeating (same_by eq key) before.0) c.args.parts.now c.loop-at.at-index c.at-item.result _ _ _ _ _ _ _
          c.loop-at-test.true c.at-item.is new refl c.with_line_unless-least.ensures before.2,
    )

pub returns : goal.returns
returns g c = λ key answers. grind (arith, common_steps, (c.loop-at.invariant key answers).2)
