-- The parts of an instant that leave the clock and the round as they are, and its tick, which raises the clock.
use Rattle.std.proofs.Common.{ℕ, ◌≡◌, ◌+◌, ◌-◌, List, Bool, true, false, refl, ap, eqb}
use Rattle.std.specs.Prelude.{◌==◌}
use Rattle.std.specs.List.{list_any}
use Rattle.std.proofs.lemmas.Bool.{cond_both}
use Rattle.tt_base.specs.declared.event.Event.{Event}
use Rattle.task_lang.specs.declared.syntax.Stmt.{Stmt}
use Rattle.tt_world.specs.declared.config.Enable.{Enable as EnableRow}
use Rattle.tt_world.specs.declared.config.ConfigParts.{ConfigParts}
use Rattle.tt_world.specs.declared.script.ScriptParts.{ScriptParts}
use Rattle.tt_world.specs.declared.world.Runner.{Runner}
use Rattle.tt_world.specs.declared.world.Runner.TheVariants as runner
use Rattle.tt_world.specs.World.{World, Source, IsrSource, OisrSource}
use Rattle.tt_world.specs.Rows.{offset_of, mode_of, enables_at}
use Rattle.tt_world.specs.Runners.{leaving, runner_of}
use Rattle.tt_world.specs.Rounds.{latch}
use Rattle.tt_world.specs.Gates.{enable, enables, arrived, arrival, arrivals, is_accepted, acceptance, acceptances, sources, arrivals_of, is_held}
use Rattle.tt_world.specs.Step.{step}
use Rattle.tt_world.proofs.Parts.{OfRun, Alone, Anything, LeadsTo, Leads, still_leads, chain_each}
use Rattle.tt_world.proofs.Keeps.{StepKeeps, step_holds}
use Rattle.tt_world.proofs.Parts.{Never}

-- the same clock and round
pub record SameRound (w v : World) : Type 0 where
  pub tick : v.tick ≡ w.tick
  pub start : v.start ≡ w.start
  pub mode : v.mode ≡ w.mode

module _ (c : ConfigParts) (s : ScriptParts) (w : World) where
  abbrev pub S : OfRun
  S v es = SameRound w v

  -- each of these parts keeps them, and never ends the run
  pub latch_same : Leads S S Never (latch c)
  unfolding latch
  latch_same v es p =
      cond_both (eqb (offset_of v) (c.round - c.adjust)) _ _ (LeadsTo S Never es)
      (λ _. record { tick = p.tick; start = p.start; mode = p.mode }) (λ _. p)

  enable_same : (row : EnableRow) → Leads S S Never (enable row)
  unfolding enable
  enable_same row v es p = record { tick = p.tick; start = p.start; mode = p.mode }

  pub enables_same : Leads S S Never (enables c)
  unfolding enables
  enables_same v es p = chain_each S Never enable (enables_at (offset_of v) (mode_of c v).enables) enable_same v es p

  arrived_same : (held : Bool) (source : Source) (v : World) (es : List Event) → S v es
      → LeadsTo S Never es (arrived held source v)
  arrived_same true source v es p = p
  arrived_same false (IsrSource i) v es p = record { tick = p.tick; start = p.start; mode = p.mode }
  arrived_same false (OisrSource i) v es p = record { tick = p.tick; start = p.start; mode = p.mode }

  arrival_same : (source : Source) → Leads S S Never (arrival s source)
  unfolding arrival
  arrival_same source v es p =
      cond_both (list_any (λ (tick : ℕ). tick == v.tick) (arrivals_of s source)) _ _ (LeadsTo S Never es)
      (λ _. arrived_same (is_held v source) source v es p) (λ _. still_leads S Never es v p)

  pub arrivals_same : Leads S S Never (arrivals c s)
  unfolding arrivals
  arrivals_same = chain_each S Never (arrival s) (sources c) arrival_same

  acceptance_same : (source : Source) → Leads S S Never (acceptance c source)
  unfolding acceptance
  acceptance_same (IsrSource i) v es p =
      cond_both (is_accepted v (IsrSource i)) _ _ (LeadsTo S Never es)
      (λ _. record { tick = p.tick; start = p.start; mode = p.mode }) (λ _. p)
  acceptance_same (OisrSource i) v es p =
      cond_both (is_accepted v (OisrSource i)) _ _ (LeadsTo S Never es)
      (λ _. record { tick = p.tick; start = p.start; mode = p.mode }) (λ _. p)

  pub acceptances_same : Leads S S Never (acceptances c)
  unfolding acceptances
  acceptances_same = chain_each S Never (acceptance c) (sources c) acceptance_same

-- a tick raises the clock
module _ (c : ConfigParts) (s : ScriptParts) (w : World) where
  Now : World → Type 0
  Now v = SameRound w v

  pub record OneLater (v : World) : Type 0 where
    pub tick : v.tick ≡ w.tick + 1
    pub start : v.start ≡ w.start
    pub mode : v.mode ≡ w.mode

  left_now : (u : World) (r : Runner) (after : List Stmt) → Now u → Now (leaving u r after)
  unfolding Now
  left_now u (runner.Isr isr) after p = record { tick = p.tick; start = p.start; mode = p.mode }
  left_now u (runner.Job place) after p = record { tick = p.tick; start = p.start; mode = p.mode }
  left_now u (runner.Oisr oisr) after p = record { tick = p.tick; start = p.start; mode = p.mode }
  left_now u (runner.Osek task) after p = record { tick = p.tick; start = p.start; mode = p.mode }
  left_now u runner.Nobody after p = p

  step_now : StepKeeps c s Now Now OneLater
  unfolding Now
  step_now = record {
    free = λ u _ _ _ _ _ p. record { tick = p.tick; start = p.start; mode = p.mode };
    synced = λ u _ p. record { tick = p.tick; start = p.start; mode = p.mode };
    left = λ u after p _. left_now u (runner_of c u) after p;
    over = λ u _ p. record { tick = ap (λ (t : ℕ). t + 1) p.tick; start = p.start; mode = p.mode };
  }

  -- one tick later in the same round
  pub step_later : (es : List Event) → LeadsTo (Alone OneLater) Anything es (step c s w)
  unfolding Now
  step_later es = step_holds c s Now Now OneLater step_now w es (record { tick = refl; start = refl; mode = refl })
