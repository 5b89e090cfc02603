use Rattle.std.proofs.Common.{reverse}
use Rattle.std.specs.Option.{ghost_name_of}
use borrow.Follows.Closed.{read_of}
use Rattle.tt_parts.proofs.Fronts.{front_read, front_set}
use Rattle.tt_parts.proofs.front_list.FrontList.front_mut.Goals as goal

pub returns : goal.returns
returns g c =
    let v = c.self.inside.reversed in
    rw (← c.self.view_is) (
      (λ i. read_of (ghost_name_of c.last_mut.result) (λ w. front_set w v.items v.len v.ok.0 i) (reverse v.items)),
      record {
        lends = tt;
        value = front_read v.items v.len c.last_mut.result v.ok.0 c.last_mut.ensures.variant c.last_mut.ensures.value;
      },
    )
