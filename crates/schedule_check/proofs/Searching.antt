-- The search for a response end, from one demand to the next.
use Rattle.std.proofs.Common.{ℕ, ◌≡◌, ◌<◌, ◌≤◌, ◌+◌, ◌-◌, false, None, Some, sym, arith, ⊎_elim}
use Rattle.std.proofs.lemmas.Bool.{cases_lt, le-leb, lt-leb}
use Rattle.tt_world.specs.declared.config.Activation.{Activation}
use Rattle.tt_world.specs.declared.config.ModeDef.{ModeDef}
use Rattle.tt_world.specs.declared.config.ConfigParts.{ConfigParts}
use Rattle.schedule_check.specs.Demand.{demand}
use Rattle.schedule_check.specs.Responses.{demand_fits, response}
use Rattle.schedule_check.proofs.Leasts.{least_is, least_none}
use Rattle.schedule_check.proofs.Growing.{demand_more}

module _ (c : ConfigParts) (mode : ModeDef) (row : Activation) where
  -- the demand fits at no offset after the activation's own and before this one
  abbrev pub NoneBefore : ℕ → Type 0
  NoneBefore end = (t : ℕ) → row.offset < t → t < end → demand_fits c mode row t ≡ false

  -- where the demand d up to an offset does not fit, it fits at none before the activation's offset plus d
  pub none_later : (end d : ℕ) → NoneBefore end → row.offset < end → d ≡ demand c mode row.offset end
      → end - row.offset < d → NoneBefore (row.offset + d)
  none_later end d none later is more t a b =
      ⊎_elim (λ (l : t < end). none t a l)
      (λ (g : end ≤ t). let grown = demand_more c mode row.offset end t g in
      lt-leb (demand c mode row.offset t) (t - row.offset) (omega arith))
      (cases_lt t end)

  -- the first at which it fits is the response end
  pub found : (end d : ℕ) → NoneBefore end → row.offset < end → end ≤ row.deadline → d ≡ demand c mode row.offset end
      → d ≤ end - row.offset → Some end ≡ response c mode row
  unfolding response
  found end d none later early is fits =
      sym (least_is (demand_fits c mode row) (row.offset + 1) (row.deadline - row.offset) end (omega arith)
      (omega arith)
      (le-leb (demand c mode row.offset end) (end - row.offset) (omega arith))
      (λ j a b. none j (omega arith) b))

  -- where it fits at none up to the deadline, there is no response end
  pub nothing : (end : ℕ) → NoneBefore end → row.offset ≤ row.deadline → row.deadline < end → None ≡ response c mode row
  unfolding response
  nothing end none h late =
      sym (least_none (demand_fits c mode row) (row.offset + 1) (row.deadline - row.offset)
      (λ j a b. none j (omega arith) (omega arith)))
