-- How a place that takes no time is passed, and how work begins.
use Rattle.std.proofs.Common.{◌≡◌, ◌≢◌, ℕ, ℤ, pos, negsuc, zero, suc, ◌+◌, ◌-◌, ◌≤◌, ◌<◌, List, [], ◌∷◌, ◌++◌, length, Option, Some, None, refl, sym, ap, subst, ◌∙◌, arith}
use Rattle.std.specs.Prelude.{slice_get, slice_index, slice_set}
use Rattle.task_lang.specs.declared.syntax.Expr.{Expr}
use Rattle.std.proofs.lemmas.List.{get_or-set_same, get_or-set_other}
use Rattle.tt_base.specs.declared.number.VarNo.{VarNo}
use Rattle.tt_base.specs.declared.number.DemandNo.{DemandNo}
use Rattle.tt_base.specs.declared.event.Call.{Call}
use Rattle.task_lang.specs.declared.tick.Effect.{Effect}
use Rattle.task_lang.specs.declared.tick.Effect.TheVariants as effect
use Rattle.task_lang.specs.Value.{value_of}
use Rattle.task_machine.specs.Layout.{Stands, expr_code}
use Rattle.task_lang.specs.declared.syntax.Stmt.{Stmt, out-Stmt}
use Rattle.task_lang.specs.declared.syntax.Stmt.TheOpen.{Stmt-F}
use Rattle.task_lang.specs.declared.syntax.Stmt.TheVariants as s
use Rattle.task_lang.specs.declared.syntax.Stmt.TheViews.{roll-Stmt, roll-out-Stmt}
use Rattle.task_lang.specs.Tick.{Supply, State, work_then, repeat_then, branch, tick, tick_by, tick_list, given, use_one}
use Rattle.task_machine.specs.Place.{Left, At_again}
use Rattle.task_lang.specs.declared.syntax.Stmt.TheVariants.{outs-Repeat}
use Rattle.task_machine.specs.Place.{Rests, at_none, passes, work_in}
use Rattle.task_machine.specs.Ticking.{Stepped, begin}
use Rattle.task_machine.specs.declared.instr.Instr.{Instr}
use Rattle.task_machine.specs.declared.instr.Instr.TheVariants as i
use Rattle.task_machine.proofs.Fronts.{Fronts, AtAgain, front_at, none_at, above, body_left}

is_work : (st : Stmt) (n : ℕ) → out-Stmt st ≡ Stmt-F.Work n → st ≡ s.Work n
is_work st n h = sym (roll-out-Stmt st) ∙ ap roll-Stmt h ∙ s.rolls-Work n

-- ---- places that take no time

at_none_zero : (k n : ℕ) → Some n ≡ at_none k → (k ≡ 0) × (n ≡ 1)
at_none_zero zero n e = (refl, cc)
at_none_zero (suc k) n e = cc

module _ (code : List Instr) (cs : List ℕ) where
  abbrev Reaches : ℕ → List Stmt → Type 0
  Reaches p l = (e : ℕ) × Left code cs e p l

  again_done : (d c back p : ℕ) (l : List Stmt) → AtAgain code cs d c back p l → slice_index cs c ≡ 0
      → Reaches (p + 1) l
  again_done d c back p l at done =
      let is : l ≡ at.rest = at.is ∙ ap (λ k. repeat_then k at.inner at.rest) done in
      (c, subst (λ m. Left code cs c (p + 1) m) (sym is) at.later)

  pass_by : (d p n : ℕ) (l : List Stmt) (o : Option Instr) → slice_get code p ≡ o → Some n ≡ passes cs o
      → Left code cs d p l → Reaches (p + n) l
  pass_by d p n l (Some (i.Skip m)) g e left =
      let is : n ≡ m + 1 = cc in
      let same : p + 1 + m ≡ p + n = omega arith in
      (d, subst (λ k. Left code cs d k l) same (front_at code cs d p l left (i.Skip m) g))
  pass_by d p n l (Some (i.Again c back)) g e left =
      let z = at_none_zero (slice_index cs c) n e in
      let r = again_done d c back p l (front_at code cs d p l left (i.Again c back) g) z.0 in
      subst (λ k. Reaches (p + k) l) (sym z.1) r
  pass_by d p n l o g e left = cc

  pub passed : (d p n : ℕ) (l : List Stmt) → Some n ≡ passes cs (slice_get code p) → Left code cs d p l
      → Reaches (p + n) l
  passed d p n l e left = pass_by d p n l (slice_get code p) refl e left

  -- ---- work that begins

  begins_work : (n : ℕ) (d p : ℕ) (l : List Stmt) → 0 < n
      → Fronts code cs l (Stmt-F.Work n) (λ rest. Left code cs d p rest) → Rests code cs l p n
  begins_work zero d p l some f = absurd (omega arith)
  begins_work (suc n) d p l some f = record {
    depth = d;
    below = f.rest;
    left = f.later;
    is = f.is ∙ ap (λ st. st ∷ f.rest) (is_work f.s (suc n) f.front);
    still = λ none. absurd (omega arith);
  }

  work_by : (d p w : ℕ) (l : List Stmt) (o : Option Instr) → slice_get code p ≡ o → w ≡ work_in o → 0 < w
      → Left code cs d p l → Rests code cs l (p + 1) w
  work_by d p w l (Some (i.Work n)) g e some left =
      subst (λ k. Rests code cs l (p + 1) k) (sym e)
      (begins_work n d (p + 1) l (omega arith) (front_at code cs d p l left (i.Work n) g))
  work_by d p w l o g e some left = absurd (omega arith)

  pub work_begun : (d p w : ℕ) (l : List Stmt) → w ≡ work_in (slice_get code p) → 0 < w → Left code cs d p l
      → Rests code cs l (p + 1) w
  work_begun d p w l e some left = work_by d p w l (slice_get code p) refl e some left

-- ---- one tick

-- where no work is begun
pub rests_left : (code : List Instr) (cs : List ℕ) (l : List Stmt) (p : ℕ) (r : Rests code cs l p 0)
    → Left code cs r.depth p l
rests_left code cs l p r = subst (λ m. Left code cs r.depth p m) (sym r.is) r.left

-- what cannot be at a place where a tick is taken
abbrev pub IsPassed : Instr → Type 0
IsPassed (i.Work n) = 1 ≤ n
IsPassed (i.Skip n) = Unit {0}
IsPassed (i.Term t) = Unit {0}
IsPassed _ = ⊥

pub never_passed : (code : List Instr) (cs : List ℕ) (l : List Stmt) (p : ℕ) (j : Instr) → Rests code cs l p 0
    → slice_get code p ≡ Some j → IsPassed j → ⊥
never_passed code cs l p (i.Work n) r g is = let still = r.still refl in let e : n ≡ 0 = ap work_in (sym g)
    ∙ still.idle in omega arith
never_passed code cs l p (i.Skip n) r g is = let still = r.still refl in let e : Some (n + 1) ≡ None =
    ap (passes cs) (sym g) ∙ still.ticks in cc
never_passed code cs l p (i.Term t) r g is = front_at code cs r.depth p l (rests_left code cs l p r) (i.Term t) g
never_passed code cs l p j r g is = is

some_none : (n : ℕ) → Some n ≡ None → ⊥
some_none n e = cc

pub never_done : (code : List Instr) (cs : List ℕ) (l : List Stmt) (p back c : ℕ) → Rests code cs l p 0
    → slice_get code p ≡ Some (i.Again c back) → slice_index cs c ≡ 0 → ⊥
never_done code cs l p back c r g done =
    let still = r.still refl in some_none 1 (ap at_none (sym done) ∙ ap (passes cs) (sym g) ∙ still.ticks)

pub never_ended : (code : List Instr) (cs : List ℕ) (l : List Stmt) (p : ℕ) → Rests code cs l p 0
    → slice_get code p ≡ None → l ≢ [] → ⊥
never_ended code cs l p r g some = some (none_at code cs r.depth p l (rests_left code cs l p r) g)

-- what an evaluation says
abbrev pub Valued : List Instr → ℕ → List ℤ → ℤ → ℕ → Type 0
Valued code p vars v after = (e : Expr) (q : ℕ) → Stands code (p + 1) (expr_code e) q
    → (v ≡ value_of vars e) × (after ≡ q)

pub valued : (code : List Instr) (p : ℕ) (vars : List ℤ) (v w : ℤ) (after : ℕ) → v ≡ w → Valued code p vars w after
    → Valued code p vars v after
valued code p vars v w after is ev e q h = let r = ev e q h in (is ∙ r.0, r.1)

pub moved_step : (code : List Instr) (cs : List ℕ) (p p' : ℕ) (vars : List ℤ) (cursors : List ℕ)
    (effect effect' : Option Effect) (st : State) → p' ≡ p → effect' ≡ effect
    → Stepped code cs p vars cursors effect st → Stepped code cs p' vars cursors effect' st
moved_step code cs p p' vars cursors effect effect' st e f h =
    subst (λ k. Stepped code cs k vars cursors effect' st) (sym e)
    (subst (λ k. Stepped code cs p vars cursors k st) (sym f) h)

tick_front : (code : List Instr) (cs : List ℕ) (supply : Supply) (l : List Stmt) (vars : List ℤ) (cursors : List ℕ)
    (x : Stmt-F Stmt) (Then : List Stmt → Type 0)
    (f : Fronts code cs l x Then) → tick supply (begin l vars cursors) ≡ tick_by supply (begin l vars cursors) x f.rest
unfolding tick
tick_front code cs supply l vars cursors x Then f =
    ap (λ k. tick_list supply (begin l vars cursors) k) f.is
    ∙ ap (λ y. tick_by supply (begin l vars cursors) y f.rest) f.front

branch_zero : (v : ℤ) (a b : List Stmt) → v ≡ pos 0 → branch v a b ≡ b
branch_zero v a b e = rw e refl

branch_other : (v : ℤ) (a b : List Stmt) → v ≢ pos 0 → branch v a b ≡ a
branch_other (pos zero) a b e = absurd (e refl)
branch_other (pos (suc n)) a b e = refl
branch_other (negsuc n) a b e = refl

module _ (code : List Instr) (cs : List ℕ) (supply : Supply) (l : List Stmt) (vars : List ℤ) (cursors : List ℕ)
    (d p : ℕ) (left : Left code cs d p l) where
  pub step_set : (x : VarNo) (v : ℤ) (after : ℕ) (vars' : List ℤ) → slice_get code p ≡ Some (i.Set x)
      → Valued code p vars v after → vars' ≡ slice_set vars x.0 v
      → Stepped code cs after vars' cursors None (tick supply (begin l vars cursors))
  step_set x v after vars' g ev is =
      let at = front_at code cs d p l left (i.Set x) g in
      let r = ev at.e at.q at.test in
      subst (λ st. Stepped code cs after vars' cursors None st)
      (sym (tick_front code cs supply l vars cursors _ _ at.fronts)) (record {
        depth = d;
        left = subst (λ k. Left code cs d k at.fronts.rest) (sym r.1) at.fronts.later;
        vars_are = is ∙ ap (λ k. slice_set vars x.0 k) r.0;
        cursors_are = refl;
        effects_are = refl;
      })

  pub step_out : (v : ℤ) (after : ℕ) → slice_get code p ≡ Some i.Out → Valued code p vars v after
      → Stepped code cs after vars cursors (Some (effect.Out v)) (tick supply (begin l vars cursors))
  step_out v after g ev =
      let at = front_at code cs d p l left i.Out g in
      let r = ev at.e at.q at.test in
      subst (λ st. Stepped code cs after vars cursors (Some (effect.Out v)) st)
      (sym (tick_front code cs supply l vars cursors _ _ at.fronts)) (record {
        depth = d;
        left = subst (λ k. Left code cs d k at.fronts.rest) (sym r.1) at.fronts.later;
        vars_are = refl;
        cursors_are = refl;
        effects_are = ap (λ k. effect.Out k ∷ []) (sym r.0);
      })

  pub step_service : (call : Call) → slice_get code p ≡ Some (i.Service call)
      → Stepped code cs (p + 1) vars cursors (Some (effect.Service call)) (tick supply (begin l vars cursors))
  step_service call g =
      let at = front_at code cs d p l left (i.Service call) g in
      subst (λ st. Stepped code cs (p + 1) vars cursors (Some (effect.Service call)) st)
      (sym (tick_front code cs supply l vars cursors _ _ at)) (record {
        depth = d;
        left = at.later;
        vars_are = refl;
        cursors_are = refl;
        effects_are = refl;
      })

  pub step_if_zero : (n : ℕ) (v : ℤ) (after : ℕ) → slice_get code p ≡ Some (i.If n) → Valued code p vars v after
      → v ≡ pos 0
      → Stepped code cs (after + n) vars cursors None (tick supply (begin l vars cursors))
  step_if_zero n v after g ev none =
      let at = front_at code cs d p l left (i.If n) g in
      let r = ev at.e at.q at.test in
      let is = branch_zero (value_of vars at.e) at.first at.second (sym r.0 ∙ none) in
      subst (λ st. Stepped code cs (after + n) vars cursors None st)
      (sym (tick_front code cs supply l vars cursors _ _ at.fronts)) (record {
        depth = d;
        left = subst (λ k. Left code cs d (k + n) (branch (value_of vars at.e) at.first at.second ++ at.fronts.rest))
            (sym r.1)
            (subst (λ b. Left code cs d (at.q + n) (b ++ at.fronts.rest)) (sym is) at.fronts.later.1);
        vars_are = refl;
        cursors_are = refl;
        effects_are = refl;
      })

  pub step_if_other : (n : ℕ) (v : ℤ) (after : ℕ) → slice_get code p ≡ Some (i.If n) → Valued code p vars v after
      → v ≢ pos 0
      → Stepped code cs after vars cursors None (tick supply (begin l vars cursors))
  step_if_other n v after g ev some =
      let at = front_at code cs d p l left (i.If n) g in
      let r = ev at.e at.q at.test in
      let is = branch_other (value_of vars at.e) at.first at.second (λ z. some (r.0 ∙ z)) in
      subst (λ st. Stepped code cs after vars cursors None st)
      (sym (tick_front code cs supply l vars cursors _ _ at.fronts)) (record {
        depth = d;
        left = subst (λ k. Left code cs d k (branch (value_of vars at.e) at.first at.second ++ at.fronts.rest))
            (sym r.1)
            (subst (λ b. Left code cs d at.q (b ++ at.fronts.rest)) (sym is) at.fronts.later.0);
        vars_are = refl;
        cursors_are = refl;
        effects_are = refl;
      })

  -- the counters of outer repetitions stay the same
  outer : (c m e : ℕ) → e < c → slice_index cs e ≡ slice_index (slice_set cs c m) e
  outer c m e lt = sym (get_or-set_other cs c e m 0 (λ same. absurd (omega (arith, same))))

  pub step_repeat : (n c : ℕ) (cs' : List ℕ) → slice_get code p ≡ Some (i.Repeat c n) → c < length cs
      → cs' ≡ slice_set cs c (n - 1)
      → Stepped code cs' (p + 1) vars cursors None (tick supply (begin l vars cursors))
  step_repeat n c cs' g within is =
      let at = front_at code cs d p l left (i.Repeat c n) g in
      let new = slice_set cs c (n - 1) in
      let rest : Left code new d (at.q + 1) at.fronts.rest =
      above code cs new d (at.q + 1) at.fronts.rest
      (λ e lt. outer c (n - 1) e (omega (arith, at.same))) at.fronts.later in
      let again = At_again d at.q (p + 1) at.back at.inner at.fronts.rest at.again at.far at.body rest in
      let count : slice_index new d ≡ n - 1 = ap (slice_index new) at.same ∙ get_or-set_same cs c (n - 1) 0 within in
      let again' = subst (λ k. Left code new (suc d) at.q (repeat_then k at.inner at.fronts.rest)) count again in
      let all = body_left code new (suc d) (p + 1) at.q at.inner _ at.body again' in
      subst (λ st. Stepped code cs' (p + 1) vars cursors None st)
      (sym (tick_front code cs supply l vars cursors _ _ at.fronts)) (record {
        depth = suc d;
        left = subst (λ k. Left code k (suc d) (p + 1) (at.inner ++ repeat_then (n - 1) at.inner at.fronts.rest))
            (sym is) all;
        vars_are = refl;
        cursors_are = refl;
        effects_are = refl;
      })

  repeat_tick : (m : ℕ) (inner rest : List Stmt) → l ≡ s.Repeat (suc m) inner ∷ rest
      → tick supply (begin l vars cursors)
      ≡ record (begin l vars cursors) { left = inner ++ repeat_then (suc m - 1) inner rest }
  unfolding tick
  repeat_tick m inner rest is =
      ap (λ k. tick_list supply (begin l vars cursors) k) is
      ∙ ap (λ y. tick_by supply (begin l vars cursors) y rest) (outs-Repeat (suc m) inner)

  pub step_again : (back c m : ℕ) (cs' : List ℕ) → slice_get code p ≡ Some (i.Again c back) → c < length cs
      → slice_index cs c ≡ suc m
      → cs' ≡ slice_set cs c m → Stepped code cs' (p - back) vars cursors None (tick supply (begin l vars cursors))
  step_again back c m cs' g within some is =
      let at = front_at code cs d p l left (i.Again c back) g in
      let new = slice_set cs c m in
      let rest : Left code new c (p + 1) at.rest = above code cs new c (p + 1) at.rest (outer c m) at.later in
      let again = At_again c p at.start back at.inner at.rest g at.far at.body rest in
      let count : slice_index new c ≡ suc m - 1 = get_or-set_same cs c m 0 within
      ∙ (let e : m ≡ suc m - 1 = omega arith in e) in
      let again' = subst (λ k. Left code new (suc c) p (repeat_then k at.inner at.rest)) count again in
      let all = body_left code new (suc c) at.start p at.inner _ at.body again' in
      let start : at.start ≡ p - back = omega (arith, at.far) in
      let here = repeat_tick m at.inner at.rest (at.is ∙ ap (λ k. repeat_then k at.inner at.rest) some) in
      subst (λ st. Stepped code cs' (p - back) vars cursors None st) (sym here) (record {
        depth = suc c;
        left = subst (λ k. Left code cs' (suc c) k (at.inner ++ repeat_then (suc m - 1) at.inner at.rest)) start
            (subst (λ k. Left code k (suc c) at.start (at.inner ++ repeat_then (suc m - 1) at.inner at.rest))
            (sym is) all);
        vars_are = refl;
        cursors_are = refl;
        effects_are = refl;
      })

  -- a `take` at the front
  pub record Taken (v : ℕ) (cursors' : List ℕ) (st : State) : Type 0 where
    pub below : List Stmt
    pub later : Left code cs d (p + 1) below
    pub left_is : st.left ≡ work_then v below
    pub vars_are : vars ≡ st.vars
    pub cursors_are : cursors' ≡ st.cursors
    pub effects_are : st.effects ≡ []
    pub some : l ≢ []

  pub step_take : (x : DemandNo) (v : ℕ) (cursors' : List ℕ) → slice_get code p ≡ Some (i.Take x)
      → v ≡ given supply x.0 (slice_index cursors x.0)
      → cursors' ≡ use_one supply x.0 cursors → Taken v cursors' (tick supply (begin l vars cursors))
  step_take x v cursors' g is moved =
      let at = front_at code cs d p l left (i.Take x) g in
      subst (λ st. Taken v cursors' st) (sym (tick_front code cs supply l vars cursors _ _ at)) (record {
        below = at.rest;
        later = at.later;
        left_is = ap (λ n. work_then n at.rest) (sym is);
        vars_are = refl;
        cursors_are = moved;
        effects_are = refl;
        some = λ e. let f = at.is in cc;
      })
