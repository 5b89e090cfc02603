-- The first part of the buffer is what was taken so far, and it was counted.
use Rattle.std.proofs.Common.{◌≡◌, ◌≤◌, ◌-◌, length, take}
use Rattle.std.specs.Io.KnownBytes.{Consumes}
use Rattle.tt_io.specs.Count.{counted}
use Rattle.tt_io.specs.Gave.{Gives}
use Rattle.tt_io.proofs.whole.fill.Given as goal

abbrev pub invariant-loop-taken : goal.invariant-loop-taken
invariant-loop-taken g l = record {
  within : l.taken ≤ length l.buf;
  bytes : Consumes (g.I.Source.left l.fn.source) (g.I.Source.left l.source) (take l.taken l.buf);
  count : g.I.Source.given l.source ≡ counted (g.I.Source.given l.fn.source) l.taken;
  gave : Gives (g.I.Source.gave l.fn.source) (g.I.Source.gave l.source) (take l.taken l.buf);
  never_falls : g.I.Source.faults l.fn.source ≤ g.I.Source.faults l.source;
}

abbrev pub decreases-loop-taken : goal.decreases-loop-taken
decreases-loop-taken g l = length l.initial.buf - l.taken
