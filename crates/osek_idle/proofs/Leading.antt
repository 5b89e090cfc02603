-- The one that runs before the others, where a frame comes or goes.
use Rattle.std.proofs.Common.{◌≡◌, ℕ, zero, suc, Bool, true, false, ◌+◌, ◌<◌, ◌≤◌, List, [], ◌∷◌, ◌++◌, length, take, drop, Option, None, Some, refl, ap, sym, subst, ◌∙◌, arith, ◌⊎◌, inl, inr, ⊎_elim}
use Rattle.std.specs.Prelude.{filter, nat_lt, slice_index_or, slice_set}
use Rattle.std.specs.List.{range_with_len, refill}
use Rattle.std.specs.Option.{is_some}
use Rattle.std.proofs.lemmas.Bool.{cases_Bool, cases_eq, cases_order, cond_both, false≢true, ltb-false, ltb-true}
use Rattle.std.proofs.lemmas.List.{get_or-set_other, get_or-set_same, length-map, length-set}
use Rattle.std.proofs.Math.Seq.{take-append_seam}
use Rattle.task_machine.specs.declared.frame.Frame.{Frame}
use Rattle.tt_world.specs.Runners.{higher, highest}
use Rattle.osek_idle.specs.Subsystem.{is_ready}
use Rattle.osek_idle.specs.Slots.{first_of, frames, priorities, top_of}
use Rattle.osek_idle.specs.declared.slot.Slot.{Slot}

abbrev priority : List ℕ → ℕ → ℕ
priority ps n = slice_index_or ps n 0

-- the one at t runs before the one at r, or is it
record Leads (ps : List ℕ) (t r : ℕ) : Type 0 where
  least : priority ps r ≤ priority ps t
  before : r < t → priority ps r < priority ps t

leads_itself : (ps : List ℕ) (t r : ℕ) → r ≡ t → Leads ps t r
leads_itself ps t r e = let z = ap (priority ps) e in record { least = omega arith; before = λ l. absurd (omega arith) }

leads_on : (ps : List ℕ) (w t r : ℕ) → Leads ps w t → Leads ps t r → Leads ps w r
leads_on ps w t r one_ two = record {
  least = omega (arith, one_.least, two.least);
  before = λ l.
      ⊎_elim (λ (e : t ≡ w). let z = two.before (omega arith) in omega (arith, one_.least))
      (λ (o : (t < w) ⊎ (w < t)). ⊎_elim (λ (below : t < w). let z = one_.before below in omega (arith, two.least))
      (λ (above : w < t). let z = two.before (omega arith) in omega (arith, one_.least)) o)
      (cases_order t w);
}

-- of the numbers from k up to below e that pass a test, the one that runs before the others
Top : List ℕ → (ℕ → Bool) → (k e : ℕ) → Option ℕ → Type 0
Top ps test k e None = (r : ℕ) → k ≤ r → r < e → test r ≡ true → ⊥
Top ps test k e (Some t) =
    (test t ≡ true) × (k ≤ t) × (t < e) × ((r : ℕ) → k ≤ r → r < e → test r ≡ true → Leads ps t r)

-- ---- the search

top_past : (ps : List ℕ) (test : ℕ → Bool) (k e : ℕ) (o : Option ℕ) → test k ≡ false → Top ps test (k + 1) e o
    → Top ps test k e o
unfolding Top
top_past ps test k e None fails none =
    λ r low high yes_.
    ⊎_elim (λ (is : r ≡ k). false≢true (sym fails ∙ ap test (sym is) ∙ yes_))
    (λ (o : (r < k) ⊎ (k < r)). ⊎_elim (λ (l : r < k). absurd (omega arith))
    (λ (l : k < r). none r (omega arith) high yes_) o) (cases_order r k)
top_past ps test k e (Some t) fails top = (
  top.0,
  omega (arith, top.1),
  top.2,
  λ r low high yes_.
      ⊎_elim (λ (is : r ≡ k). absurd (false≢true (sym fails ∙ ap test (sym is) ∙ yes_)))
      (λ (o : (r < k) ⊎ (k < r)). ⊎_elim (λ (l : r < k). absurd (omega arith))
      (λ (l : k < r). top.3 r (omega arith) high yes_) o) (cases_order r k),
)

top_here : (ps : List ℕ) (test : ℕ → Bool) (k e : ℕ) (o : Option ℕ) → test k ≡ true → k < e
    → Top ps test (k + 1) e o → Top ps test k e (Some (higher ps k o))
unfolding Top
top_here ps test k e None is lt none = (
  is,
  omega arith,
  lt,
  λ r low high yes_.
      ⊎_elim (λ (same : r ≡ k). leads_itself ps k r same)
      (λ (o : (r < k) ⊎ (k < r)). ⊎_elim (λ (l : r < k). absurd (omega arith))
      (λ (l : k < r). absurd (none r (omega arith) high yes_)) o) (cases_order r k),
)
top_here ps test k e (Some t) is lt top =
    cond_both (nat_lt (priority ps k) (priority ps t)) t k (λ (w : ℕ). Top ps test k e (Some w))
    (λ b.
    let less = ltb-true (priority ps k) (priority ps t) b in (
      top.0,
      omega (arith, top.1),
      top.2,
      λ r low high yes_.
          ⊎_elim (λ (same : r ≡ k). let z = ap (priority ps) same in
          record { least = omega arith; before = λ l. omega arith })
          (λ (o : (r < k) ⊎ (k < r)). ⊎_elim (λ (l : r < k). absurd (omega arith))
          (λ (l : k < r). top.3 r (omega arith) high yes_) o) (cases_order r k),
    ))
    (λ b.
    let more = ltb-false (priority ps k) (priority ps t) b in (
      is,
      omega arith,
      lt,
      λ r low high yes_.
          ⊎_elim (λ (same : r ≡ k). leads_itself ps k r same)
          (λ (o : (r < k) ⊎ (k < r)). ⊎_elim (λ (l : r < k). absurd (omega arith))
          (λ (l : k < r). let z = (top.3 r (omega arith) high yes_).least in
          record { least = omega arith; before = λ l'. absurd (omega arith) }) o) (cases_order r k),
    ))

top_in_range : (ps : List ℕ) (test : ℕ → Bool) (m k e : ℕ) → k + m ≡ e
    → Top ps test k e (highest ps (filter test (range_with_len k m)))
unfolding highest Top
top_in_range ps test zero k e is = λ r low high yes_. omega arith
top_in_range ps test (suc m) k e is =
    let rest = top_in_range ps test m (k + 1) e (omega arith) in
    ⊎_elim
    (λ (here : test k ≡ true). rw here (top_here ps test k e (highest ps (filter test (range_with_len (k + 1) m))) here
    (omega arith) rest))
    (λ (fails : test k ≡ false). rw fails (top_past ps test k e (highest ps (filter test (range_with_len (k + 1) m)))
    fails rest))
    (cases_Bool (test k))

top_is : (slots : List Slot)
    → Top (priorities slots) (is_ready (frames slots)) 0 (length slots) (top_of slots)
top_is slots =
    subst (λ n. Top (priorities slots) (is_ready (frames slots)) 0 n (top_of slots))
    (length-map slots (λ (slot : Slot). slot.frame))
    (top_in_range (priorities slots) (is_ready (frames slots)) (length (frames slots)) 0 (length (frames slots))
    (omega arith))

-- there is one alone
same_top : (ps : List ℕ) (test : ℕ → Bool) (e : ℕ) (o o' : Option ℕ) → Top ps test 0 e o → Top ps test 0 e o'
    → o ≡ o'
unfolding Top
same_top ps test e None None a b = refl
same_top ps test e None (Some t) a b = absurd (a t b.1 b.2 b.0)
same_top ps test e (Some t) None a b = absurd (b t a.1 a.2 a.0)
same_top ps test e (Some t) (Some u) a b =
    let over = a.3 u b.1 b.2 b.0 in
    let under = b.3 t a.1 a.2 a.0 in
    ⊎_elim (λ (is : t ≡ u). ap Some is)
    (λ (o : (t < u) ⊎ (u < t)). ⊎_elim (λ (l : t < u). absurd (let z = under.before l in omega (arith, over.least)))
    (λ (l : u < t). absurd (let z = over.before l in omega (arith, under.least))) o)
    (cases_order t u)

-- ---- a frame comes

record Wins (ps : List ℕ) (n t w : ℕ) : Type 0 where
  is : (w ≡ n) ⊎ (w ≡ t)
  over_new : Leads ps w n
  over_top : Leads ps w t

first_wins : (ps : List ℕ) (n t : ℕ) → Wins ps n t (first_of ps n (Some t))
first_wins ps n t =
    cond_both (nat_lt t n) (higher ps t (Some n)) (higher ps n (Some t)) (λ (w : ℕ). Wins ps n t w)
    (λ c.
    let low = ltb-true t n c in
    cond_both (nat_lt (priority ps t) (priority ps n)) n t (λ (w : ℕ). Wins ps n t w)
    (λ b.
    let less = ltb-true (priority ps t) (priority ps n) b in
    record {
      is = inl refl;
      over_new = leads_itself ps n n refl;
      over_top = record { least = omega arith; before = λ l. less };
    })
    (λ b.
    let more = ltb-false (priority ps t) (priority ps n) b in
    record {
      is = inr refl;
      over_new = record { least = more; before = λ l. absurd (omega arith) };
      over_top = leads_itself ps t t refl;
    }))
    (λ c.
    let high = ltb-false t n c in
    cond_both (nat_lt (priority ps n) (priority ps t)) t n (λ (w : ℕ). Wins ps n t w)
    (λ b.
    let less = ltb-true (priority ps n) (priority ps t) b in
    record {
      is = inr refl;
      over_new = record { least = omega arith; before = λ l. less };
      over_top = leads_itself ps t t refl;
    })
    (λ b.
    let more = ltb-false (priority ps n) (priority ps t) b in
    record {
      is = inl refl;
      over_new = leads_itself ps n n refl;
      over_top = record { least = more; before = λ l. absurd (omega arith) };
    }))

module _ (ps : List ℕ) (test test' : ℕ → Bool) (n e : ℕ)
    (others : (r : ℕ) → (r ≡ n → ⊥) → test' r ≡ test r) where
  with_new : (o : Option ℕ) → n < e → test' n ≡ true → Top ps test 0 e o → Top ps test' 0 e (Some (first_of ps n o))
  unfolding Top
  with_new None lt ready none = (
    ready,
    omega arith,
    lt,
    λ r low high yes_.
        ⊎_elim (λ (same : r ≡ n). leads_itself ps n r same)
        (λ (apart : r ≡ n → ⊥). absurd (none r low high (sym (others r apart) ∙ yes_))) (cases_eq r n),
  )
  with_new (Some t) lt ready top =
      let w = first_of ps n (Some t) in
      let wins = first_wins ps n t in
      let stays : test' t ≡ true =
      ⊎_elim (λ (same : t ≡ n). ap test' same ∙ ready) (λ (apart : t ≡ n → ⊥). others t apart ∙ top.0)
      (cases_eq t n) in (
        ⊎_elim (λ (same : w ≡ n). ap test' same ∙ ready) (λ (same : w ≡ t). ap test' same ∙ stays) wins.is,
        omega arith,
        ⊎_elim (λ (same : w ≡ n). subst (λ k. k < e) (sym same) lt)
            (λ (same : w ≡ t). subst (λ k. k < e) (sym same) top.2)
            wins.is,
        λ r low high yes_.
            ⊎_elim (λ (same : r ≡ n). subst (λ k. Leads ps w k) (sym same) wins.over_new)
            (λ (apart : r ≡ n → ⊥). leads_on ps w t r wins.over_top
            (top.3 r low high (sym (others r apart) ∙ yes_))) (cases_eq r n),
      )

  -- ---- a frame goes

  without : (o : Option ℕ) → test' n ≡ false → (o ≡ Some n → ⊥) → Top ps test 0 e o → Top ps test' 0 e o
  unfolding Top
  without None gone other none =
      λ r low high yes_.
      ⊎_elim (λ (same : r ≡ n). false≢true (sym gone ∙ ap test' (sym same) ∙ yes_))
      (λ (apart : r ≡ n → ⊥). none r low high (sym (others r apart) ∙ yes_)) (cases_eq r n)
  without (Some t) gone other top = (
    others t (λ same. other (ap Some same)) ∙ top.0,
    omega arith,
    top.2,
    λ r low high yes_.
        ⊎_elim (λ (same : r ≡ n). absurd (false≢true (sym gone ∙ ap test' (sym same) ∙ yes_)))
        (λ (apart : r ≡ n → ⊥). top.3 r low high (sym (others r apart) ∙ yes_)) (cases_eq r n),
  )

-- ---- slots

none_here : (fs : List (Option Frame)) (n : ℕ) → is_ready (slice_set fs n None) n ≡ false
none_here [] n = refl
none_here (f ∷ fs) zero = refl
none_here (f ∷ fs) (suc n) = none_here fs n

as_long : (old new : List Slot) (n : ℕ) (frame : Option Frame) → frames new ≡ slice_set (frames old) n frame
    → length new ≡ length old
as_long old new n frame set =
    sym (length-map new (λ (slot : Slot). slot.frame)) ∙ ap length set ∙ length-set (frames old) n frame
    ∙ length-map old (λ (slot : Slot). slot.frame)

module _ (old new : List Slot) (n : ℕ) (frame : Option Frame) (same : priorities new ≡ priorities old)
    (set : frames new ≡ slice_set (frames old) n frame) where
  other_ready : (r : ℕ) → (r ≡ n → ⊥) → is_ready (frames new) r ≡ is_ready (frames old) r
  other_ready r apart =
      ap (λ fs. is_ready fs r) set ∙ ap is_some (get_or-set_other (frames old) n r frame None apart)

  top_before : Top (priorities new) (is_ready (frames old)) 0 (length new) (top_of old)
  top_before =
      subst (λ ps. Top ps (is_ready (frames old)) 0 (length new) (top_of old)) (sym same)
      (subst (λ e. Top (priorities old) (is_ready (frames old)) 0 e (top_of old)) (sym (as_long old new n frame set))
      (top_is old))

-- Where a frame comes, the first is the one that led before or the new one.
pub top_with : (old new : List Slot) (n : ℕ) (f : Frame) (top : Option ℕ) → n < length old → top ≡ top_of old
    → priorities new ≡ priorities old → frames new ≡ slice_set (frames old) n (Some f)
    → Some (first_of (priorities new) n top) ≡ top_of new
top_with old new n f top lt is same set =
    same_top (priorities new) (is_ready (frames new)) (length new) _ _
    (with_new (priorities new) (is_ready (frames old)) (is_ready (frames new)) n (length new)
    (other_ready old new n (Some f) same set) top
    (omega (arith, as_long old new n (Some f) set))
    (ap (λ fs. is_ready fs n) set
    ∙ ap is_some (get_or-set_same (frames old) n (Some f) None
    (omega (arith, length-map old (λ (slot : Slot). slot.frame)))))
    (subst (Top (priorities new) (is_ready (frames old)) 0 (length new)) (sym is)
    (top_before old new n (Some f) same set)))
    (top_is new)

-- Where the frame of another one goes, the first stays.
pub top_without : (old new : List Slot) (n : ℕ) (top : Option ℕ) → top ≡ top_of old → (top ≡ Some n → ⊥)
    → priorities new ≡ priorities old → frames new ≡ slice_set (frames old) n None → top ≡ top_of new
top_without old new n top is other same set =
    same_top (priorities new) (is_ready (frames new)) (length new) _ _
    (without (priorities new) (is_ready (frames old)) (is_ready (frames new)) n (length new)
    (other_ready old new n None same set) top
    (ap (λ fs. is_ready fs n) set ∙ none_here (frames old) n) other
    (subst (Top (priorities new) (is_ready (frames old)) 0 (length new)) (sym is)
    (top_before old new n None same set)))
    (top_is new)

-- the slots, after they were changed through a slice
pub refilled : (old new : List Slot) (n : ℕ) (frame : Option Frame) → frames new ≡ slice_set (frames old) n frame
    → refill (length old) old new ≡ new
refilled old new n frame set =
    ap (λ k. take k (new ++ drop (length new) old)) (sym (as_long old new n frame set))
    ∙ take-append_seam new (drop (length new) old)
