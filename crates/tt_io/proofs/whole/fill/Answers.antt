use Rattle.std.proofs.Common.{rules, ap, take, length-take-le, ◌∙◌}
use Rattle.std.proofs.KnownBytes.{Consumes-kept}
use Rattle.tt_io.proofs.Giving.{gives_more}
use Rattle.tt_io.proofs.Taking.{counted_more, taken_more}
use Rattle.tt_io.specs.Count.{counted}
use Rattle.tt_io.proofs.whole.fill.Goals as goal

pub loop-taken-preserved : goal.loop-taken-preserved
loop-taken-preserved g c =
    let so_far = c.loop-taken.invariant in
    let n = c.in-Got.n in
    record {
      within = search rules;
      bytes = taken_more _ _ _ c.loop-taken.buf c.read.new.buf c.loop-taken.taken n so_far.within
          (search rules) so_far.bytes c.in-Got.ensures.got;
      count = c.in-Got.ensures.got_count ∙ ap (λ k. counted k n) so_far.count ∙ counted_more _ c.loop-taken.taken n;
      gave = gives_more _ _ _ c.loop-taken.buf c.read.new.buf c.loop-taken.taken n so_far.within
          (search rules) so_far.gave c.in-Got.ensures.got_gave;
      never_falls = search rules;
    }

pub returns-in-Failed-clause-broken_taken : goal.returns-in-Failed-clause-broken_taken
returns-in-Failed-clause-broken_taken g c =
    let so_far = c.loop-taken.invariant in
    let taken = take c.loop-taken.taken c.loop-taken.buf in (
      c.loop-taken.taken,
      search rules,
      (
        taken,
        length-take-le c.loop-taken.taken c.loop-taken.buf so_far.within,
        Consumes-kept _ _ _ taken so_far.bytes c.in-Failed.ensures.failed.0,
      ),
      c.in-Failed.ensures.failed.1 ∙ so_far.count,
    )

pub returns-in-Failed-clause-broken_gave : goal.returns-in-Failed-clause-broken_gave
returns-in-Failed-clause-broken_gave g c =
    let so_far = c.loop-taken.invariant in (
      c.loop-taken.taken,
      search rules,
      (
        take c.loop-taken.taken c.loop-taken.buf,
        length-take-le c.loop-taken.taken c.loop-taken.buf so_far.within,
        c.in-Failed.ensures.failed_gave ∙ so_far.gave,
      ),
    )
