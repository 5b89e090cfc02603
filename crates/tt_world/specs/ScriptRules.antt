-- The rules that the parts of a script meet: those that need no configuration, and those that need one. Each field is
-- one rule.
use Rattle.std.specs.Prelude.{◌≡◌, ℕ, ◌+◌, ◌^◌, ◌<◌, ◌≤◌, ◌&&◌, nat_le, nat_lt, Bool, true, List, [], ◌∷◌, length}
use Rattle.std.specs.List.{list_all}
use Rattle.tt_world.specs.declared.config.ConfigParts.{ConfigParts}
use Rattle.tt_world.specs.declared.script.ScriptParts.{ScriptParts}

-- ticks below 10^12 that ascend strictly from this one on
abbrev pub ticks_ascend : ℕ → List ℕ → Bool
ticks_ascend least [] = true
ticks_ascend least (tick ∷ rest) = nat_le least tick && (nat_lt tick (10 ^ 12) && ticks_ascend (tick + 1) rest)

-- the rules of a script by itself
pub record IsInput (s : ScriptParts) : Type 0 where
  pub some_round : 1 ≤ s.rounds
  pub few_rounds : s.rounds ≤ 100000
  pub values_small : list_all (list_all (λ value. nat_le value 10000000)) s.values ≡ true
  pub isrs_ascending : list_all (ticks_ascend 0) s.arrivals.isrs ≡ true
  pub oisrs_ascending : list_all (ticks_ascend 0) s.arrivals.oisrs ≡ true
  pub times : list_all (λ time. nat_lt time (10 ^ 12)) s.times ≡ true

-- a script for a configuration
pub record IsScript (c : ConfigParts) (s : ScriptParts) : Type 0 where
  pub start : s.start.0 < length c.modes
  pub some_round : 1 ≤ s.rounds
  pub few_rounds : s.rounds ≤ 100000
  pub values : length s.values ≡ length c.demands
  pub values_small : list_all (list_all (λ value. nat_le value 10000000)) s.values ≡ true
  pub isrs : length s.arrivals.isrs ≡ length c.isrs
  pub oisrs : length s.arrivals.oisrs ≡ length c.oisrs
  pub isrs_ascending : list_all (ticks_ascend 0) s.arrivals.isrs ≡ true
  pub oisrs_ascending : list_all (ticks_ascend 0) s.arrivals.oisrs ≡ true
  pub times : list_all (λ time. nat_lt time (10 ^ 12)) s.times ≡ true
