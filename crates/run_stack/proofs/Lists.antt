-- The lists of a stack.
use Rattle.std.proofs.Common.{◌≡◌, ◌≢◌, ℕ, zero, suc, ◌+◌, ◌-◌, ◌*◌, ◌^◌, ◌<◌, ◌≤◌, Bool, true, false, cond, nat_lt, List, [], ◌∷◌, ◌++◌, length, take, drop, get_or, refl, sym, ap, ◌∙◌, subst, arith, length-append}
use Rattle.std.proofs.Math.Numerals.{one-add}
use Rattle.std.proofs.Math.ListN.{get_or-append, set}
use Rattle.std.proofs.Math.Seq.{get_or-append_seam, take-append_seam, take-length, set-append_seam}
use Rattle.std.proofs.lemmas.Bool.Decides.{nat_tests}
use Rattle.std.proofs.lemmas.List.Kept.{AllPairs-cons}
use Rattle.std.proofs.lemmas.List.Quantifiers.{all_pairs_push}
use Rattle.std.proofs.lemmas.List.Elements.{All-append, All-push}
use Rattle.std.proofs.lemmas.List.Sums.{sum_by-cons, sum_by_push, sum_by-le}
use Rattle.std.specs.Prelude.{All, AllPairs, IfSome, Some, option_map, option_to_list, slice_get}
use Rattle.std.proofs.lemmas.List.{take-append-le}
use Rattle.std.specs.List.{insert, prefix_len, refill}
use Rattle.task_machine.specs.declared.frame.Frame.{Frame}
use Rattle.run_stack.specs.declared.stack.StackFrame.{StackFrame}
use Rattle.run_stack.specs.Frames.{IsByLevel, IsStack, AreWords, by_level, is_lower, last, standing_at, sum_of_words, with_last, without_last}

-- ---- all of a list

All-first : {X : Type 0} (P : X → Type 0) (x : X) (xs : List X) → All P (x ∷ xs) → P x
All-first P x xs all = all 0 x (omega arith)

All-rest : {X : Type 0} (P : X → Type 0) (x : X) (xs : List X) → All P (x ∷ xs) → All P xs
All-rest P x xs all k d within = all (suc k) d (omega arith)

All-one : {X : Type 0} (P : X → Type 0) (x : X) → P x → All P (x ∷ [])
All-one P x p zero d within = p
All-one P x p (suc k) d within = absurd (omega arith)

All-more : {X : Type 0} (P : X → Type 0) (x : X) (xs : List X) → P x → All P xs → All P (x ∷ xs)
All-more P x xs p all zero d within = p
All-more P x xs p all (suc k) d within = all k d (omega arith)

-- what holds of a list holds of its first part
pub All-front : {X : Type 0} (P : X → Type 0) (xs ys : List X) → All P (xs ++ ys) → All P xs
All-front P xs ys all k d within =
    subst P (get_or-append xs ys d k within) (all k d (omega (arith, length-append xs ys)))

-- and of its last item
pub All-last : {X : Type 0} (P : X → Type 0) (xs : List X) (y : X) → All P (xs ++ y ∷ []) → P y
All-last P xs y all =
    subst P (get_or-append_seam xs y [] y) (all (length xs) y (omega (arith, length-append xs (y ∷ []))))

-- what holds of all pairs of a list holds of those after the first item
pub AllPairs-rest : {X : Type 0} (R : X → X → Type 0) (x : X) (xs : List X) → AllPairs R (x ∷ xs) → AllPairs R xs
AllPairs-rest R x xs pairs i j d before within = pairs (suc i) (suc j) d (omega arith) (omega arith)

-- the first item, and each after it
pub AllPairs-first : {X : Type 0} (R : X → X → Type 0) (x : X) (xs : List X) → AllPairs R (x ∷ xs) → All (R x) xs
AllPairs-first R x xs pairs k d within = pairs 0 (suc k) d (omega arith) (omega arith)

-- what holds of all pairs of a list holds of those of its first part
pub AllPairs-front : {X : Type 0} (R : X → X → Type 0) (xs ys : List X) → AllPairs R (xs ++ ys) → AllPairs R xs
AllPairs-front R xs ys pairs i j d before within =
    let longer : length (xs ++ ys) ≡ length xs + length ys = length-append xs ys in
    subst (λ x. R x (get_or xs j d)) (get_or-append xs ys d i (omega arith))
    (subst (λ y. R (get_or (xs ++ ys) i d) y) (get_or-append xs ys d j within) (pairs i j d before (omega arith)))

-- each item before the last one has the relation R to the last one
pub AllPairs-last : {X : Type 0} (R : X → X → Type 0) (xs : List X) (y : X) → AllPairs R (xs ++ y ∷ [])
    → (k : ℕ) (d : X) → k < length xs → R (get_or xs k d) y
AllPairs-last R xs y pairs k d within =
    let longer : length (xs ++ y ∷ []) ≡ length xs + 1 = length-append xs (y ∷ []) in
    subst (λ x. R x y) (get_or-append xs (y ∷ []) d k within)
    (subst (λ z. R (get_or (xs ++ y ∷ []) k d) z) (get_or-append_seam xs y [] d)
    (pairs k (length xs) d within (omega arith)))

-- ---- a frame among others, by its level

by_level_step : (new f : StackFrame) (fs : List StackFrame) (n : ℕ) (lower : Bool) → insert fs n new ≡ by_level new fs
    → insert (f ∷ fs) (cond lower (1 + n) 0) new ≡ cond lower (f ∷ by_level new fs) (new ∷ f ∷ fs)
by_level_step new f fs n true same =
    ap (λ k. take k (f ∷ fs) ++ new ∷ drop k (f ∷ fs)) (one-add n) ∙ ap (λ l. f ∷ l) same
by_level_step new f fs n false same = refl

-- it is inserted after all of lower levels
pub by_level_is : (new : StackFrame) (fs : List StackFrame)
    → insert fs (prefix_len (is_lower new.level) fs) new ≡ by_level new fs
by_level_is new [] = refl
by_level_is new (f ∷ fs) =
    by_level_step new f fs (prefix_len (is_lower new.level) fs) (is_lower new.level f) (by_level_is new fs)

length_step : (new f : StackFrame) (fs : List StackFrame) (lower : Bool) → length (by_level new fs) ≡ length fs + 1
    → length (cond lower (f ∷ by_level new fs) (new ∷ f ∷ fs)) ≡ length (f ∷ fs) + 1
length_step new f fs true same = omega arith
length_step new f fs false same = omega arith

pub length-by_level : (new : StackFrame) (fs : List StackFrame) → length (by_level new fs) ≡ length fs + 1
length-by_level new [] = refl
length-by_level new (f ∷ fs) = length_step new f fs (is_lower new.level f) (length-by_level new fs)

words_step : (new f : StackFrame) (fs : List StackFrame) (lower : Bool)
    → sum_of_words (by_level new fs) ≡ sum_of_words fs + new.words
    → sum_of_words (cond lower (f ∷ by_level new fs) (new ∷ f ∷ fs)) ≡ sum_of_words (f ∷ fs) + new.words
words_step new f fs true same =
    let more = sum_by-cons (λ (g : StackFrame). g.words) f (by_level new fs) in
    let before = sum_by-cons (λ (g : StackFrame). g.words) f fs in
    omega arith
words_step new f fs false same =
    let more = sum_by-cons (λ (g : StackFrame). g.words) new (f ∷ fs) in
    omega arith

pub sum-by_level : (new : StackFrame) (fs : List StackFrame)
    → sum_of_words (by_level new fs) ≡ sum_of_words fs + new.words
sum-by_level new [] = sum_by-cons (λ (g : StackFrame). g.words) new [] ∙ omega arith
sum-by_level new (f ∷ fs) = words_step new f fs (is_lower new.level f) (sum-by_level new fs)

All_step : (P : StackFrame → Type 0) (new f : StackFrame) (fs : List StackFrame) (lower : Bool) → P new → All P (f ∷ fs)
    → All P (by_level new fs) → All P (cond lower (f ∷ by_level new fs) (new ∷ f ∷ fs))
All_step P new f fs true p all rest = All-more P f (by_level new fs) (All-first P f fs all) rest
All_step P new f fs false p all rest = All-more P new (f ∷ fs) p all

pub All-by_level : (P : StackFrame → Type 0) (new : StackFrame) (fs : List StackFrame) → P new → All P fs
    → All P (by_level new fs)
All-by_level P new [] p all = All-one P new p
All-by_level P new (f ∷ fs) p all =
    All_step P new f fs (is_lower new.level f) p all (All-by_level P new fs p (All-rest P f fs all))

abbrev Below : StackFrame → StackFrame → Type 0
Below f later = f.level < later.level

-- a frame below the first of others is below all of them
below_all : (new f : StackFrame) (fs : List StackFrame) → new.level < f.level → IsByLevel (f ∷ fs)
    → All (Below new) (f ∷ fs)
below_all new f fs less pairs =
    All-more (Below new) f fs less
    (λ k d within. let more = AllPairs-first Below f fs pairs k d within in omega (arith, more))

order_step : (new f : StackFrame) (fs : List StackFrame) (lower : Bool) → nat_lt f.level new.level ≡ lower
    → f.level ≢ new.level → IsByLevel (f ∷ fs) → IsByLevel (by_level new fs)
    → IsByLevel (cond lower (f ∷ by_level new fs) (new ∷ f ∷ fs))
order_step new f fs true is other pairs rest =
    let less : f.level < new.level = grind (arith, nat_tests) in
    AllPairs-cons Below f (by_level new fs)
    (All-by_level (Below f) new fs less (AllPairs-first Below f fs pairs)) rest
order_step new f fs false is other pairs rest =
    let not_less : new.level ≤ f.level = grind (arith, nat_tests) in
    AllPairs-cons Below new (f ∷ fs) (below_all new f fs (omega arith) pairs) pairs

-- the order stays, where no other has its level
pub order-by_level : (new : StackFrame) (fs : List StackFrame) → All (λ f. f.level ≢ new.level) fs → IsByLevel fs
    → IsByLevel (by_level new fs)
order-by_level new [] others pairs = λ i j d before within. absurd (omega arith)
order-by_level new (f ∷ fs) others pairs =
    order_step new f fs (is_lower new.level f) refl (All-first (λ g. g.level ≢ new.level) f fs others) pairs
    (order-by_level new fs (All-rest (λ g. g.level ≢ new.level) f fs others) (AllPairs-rest Below f fs pairs))

-- ---- the last frame

-- a list that is not empty has a last item
pub ends : {X : Type 0} (x : X) (xs : List X) → (front : List X) × (y : X) × (x ∷ xs ≡ front ++ y ∷ [])
ends x [] = ([], x, refl)
ends x (z ∷ zs) = let (front, y, is) = ends z zs in (x ∷ front, y, ap (λ l. x ∷ l) is)

last_place : (front : List StackFrame) (f : StackFrame) → length (front ++ f ∷ []) - 1 ≡ length front
last_place front f = omega (arith, length-append front (f ∷ []))

slice_get_seam : {X : Type 0} (front : List X) (x : X) → slice_get (front ++ x ∷ []) (length front) ≡ Some x
slice_get_seam [] x = refl
slice_get_seam (y ∷ ys) x = slice_get_seam ys x

pub last_is : (front : List StackFrame) (f : StackFrame) → last (front ++ f ∷ []) ≡ Some f
last_is front f = ap (slice_get (front ++ f ∷ [])) (last_place front f) ∙ slice_get_seam front f

-- the last frame has the highest level
pub last_highest : (fs : List StackFrame) → IsByLevel fs
    → IfSome (last fs) (λ top. All (λ (f : StackFrame). f.level ≤ top.level) fs)
last_highest [] order = tt
last_highest (x ∷ xs) order =
    let (front, f, is) = ends x xs in
    let P : StackFrame → Type 0 = λ g. g.level ≤ f.level in
    let R : StackFrame → StackFrame → Type 0 = λ g later. g.level < later.level in
    let lower = AllPairs-last R front f (subst IsByLevel is order) in
    subst (λ (fs : List StackFrame). IfSome (last fs) (λ top. All (λ (g : StackFrame). g.level ≤ top.level) fs)) (sym is)
    (subst (λ o. IfSome o (λ top. All (λ (g : StackFrame). g.level ≤ top.level) (front ++ f ∷ [])))
    (sym (last_is front f))
    (All-push P front f (λ k d l. let less = lower k d l in omega (arith, less)) (omega arith)))

pub without_last_is : (front : List StackFrame) (f : StackFrame) → without_last (front ++ f ∷ []) ≡ front
without_last_is front f =
    ap (λ n. take n (front ++ f ∷ [])) (last_place front f) ∙ take-append_seam front (f ∷ [])

pub with_last_is : (frame : Frame) (front : List StackFrame) (f : StackFrame)
    → with_last frame (front ++ f ∷ []) ≡ front ++ standing_at frame f ∷ []
with_last_is frame front f =
    ap (λ l. l ++ option_to_list (option_map (standing_at frame) (last (front ++ f ∷ [])))) (without_last_is front f)
    ∙ ap (λ o. front ++ option_to_list (option_map (standing_at frame) o)) (last_is front f)

set_last_seam : (frame : Frame) (front : List StackFrame) (f d : StackFrame)
    → set (front ++ f ∷ []) (length (front ++ f ∷ []) - 1)
    (standing_at frame (get_or (front ++ f ∷ []) (length (front ++ f ∷ []) - 1) d))
    ≡ with_last frame (front ++ f ∷ [])
set_last_seam frame front f d =
    ap (λ n. set (front ++ f ∷ []) n (standing_at frame (get_or (front ++ f ∷ []) n d))) (last_place front f)
    ∙ ap (λ g. set (front ++ f ∷ []) (length front) (standing_at frame g)) (get_or-append_seam front f [] d)
    ∙ set-append_seam front f [] (standing_at frame f)
    ∙ sym (with_last_is frame front f)

-- the last frame is changed in place
pub set_last_is : (frame : Frame) (fs : List StackFrame) (d : StackFrame) → 0 < length fs
    → set fs (length fs - 1) (standing_at frame (get_or fs (length fs - 1) d)) ≡ with_last frame fs
set_last_is frame [] d some = absurd (omega arith)
set_last_is frame (x ∷ xs) d some =
    let (front, f, is) = ends x xs in
    let P : List StackFrame → Type 0 =
    λ fs. set fs (length fs - 1) (standing_at frame (get_or fs (length fs - 1) d)) ≡ with_last frame fs in
    subst P (sym is) (set_last_seam frame front f d)

-- two lists of equally many frames, with the same words and levels
pub record Keeps (fs gs : List StackFrame) : Type 0 where
  pub length_is : length gs ≡ length fs
  pub words_are : sum_of_words gs ≡ sum_of_words fs
  pub words_fit : AreWords fs → AreWords gs
  pub order : IsByLevel fs → IsByLevel gs

keeps_seam : (frame : Frame) (front : List StackFrame) (f : StackFrame)
    → Keeps (front ++ f ∷ []) (front ++ standing_at frame f ∷ [])
keeps_seam frame front f = record {
  length_is = omega (arith, length-append front (f ∷ []), length-append front (standing_at frame f ∷ []));
  words_are = sum_by_push (λ (g : StackFrame). g.words) front (standing_at frame f)
      ∙ sym (sum_by_push (λ (g : StackFrame). g.words) front f);
  words_fit = λ all. All-append (λ g. g.words ≤ 2 ^ 32 - 1) front (standing_at frame f ∷ [])
      (All-front (λ g. g.words ≤ 2 ^ 32 - 1) front (f ∷ []) all)
      (All-one (λ g. g.words ≤ 2 ^ 32 - 1) (standing_at frame f) (All-last (λ g. g.words ≤ 2 ^ 32 - 1) front f all));
  order = λ pairs. all_pairs_push Below front (standing_at frame f) (AllPairs-front Below front (f ∷ []) pairs)
      (AllPairs-last Below front f pairs);
}

-- where the last frame is in its body does not matter
pub keeps_with_last : (frame : Frame) (fs : List StackFrame) → 0 < length fs → Keeps fs (with_last frame fs)
keeps_with_last frame [] some = absurd (omega arith)
keeps_with_last frame (x ∷ xs) some =
    let (front, f, is) = ends x xs in
    let P : List StackFrame → Type 0 = λ fs. Keeps fs (with_last frame fs) in
    subst P (sym is) (subst (Keeps (front ++ f ∷ [])) (sym (with_last_is frame front f)) (keeps_seam frame front f))

-- ---- a stack

-- the sum of all words fits its type
pub stack_small : {tasks isrs : List StackFrame} {words : ℕ} → IsStack tasks isrs words → words ≤ 80 * (2 ^ 32 - 1)
stack_small {tasks} {isrs} {words} s =
    let first = sum_by-le (λ (f : StackFrame). f.words) (2 ^ 32 - 1) tasks s.task_words in
    let second = sum_by-le (λ (f : StackFrame). f.words) (2 ^ 32 - 1) isrs s.isr_words in
    omega (arith, s.few_tasks, s.few_isrs, s.sum, first, second)

-- a routine was accepted
pub stack_accepted : {tasks isrs : List StackFrame} {words : ℕ} (new : StackFrame) → length isrs < 16
    → new.words ≤ 2 ^ 32 - 1 → All (λ f. f.level ≢ new.level) isrs → IsStack tasks isrs words
    → IsStack tasks (by_level new isrs) (words + new.words)
stack_accepted {tasks} {isrs} {words} new room fits others s = record {
  few_tasks = s.few_tasks;
  few_isrs = omega (arith, length-by_level new isrs);
  by_level = order-by_level new isrs others s.by_level;
  task_words = s.task_words;
  isr_words = All-by_level (λ g. g.words ≤ 2 ^ 32 - 1) new isrs fits s.isr_words;
  sum = let more = sum-by_level new isrs in omega (arith, s.sum, more);
}

-- the last routine is elsewhere in its body
pub isr_moved : {tasks isrs : List StackFrame} {words : ℕ} (moved : List StackFrame) → Keeps isrs moved
    → IsStack tasks isrs words → IsStack tasks moved words
isr_moved {tasks} {isrs} {words} moved k s = record {
  few_tasks = s.few_tasks;
  few_isrs = omega (arith, s.few_isrs, k.length_is);
  by_level = k.order s.by_level;
  task_words = s.task_words;
  isr_words = k.words_fit s.isr_words;
  sum = omega (arith, s.sum, k.words_are);
}

-- the last task is elsewhere in its body
pub task_moved : {tasks isrs : List StackFrame} {words : ℕ} (moved : List StackFrame) → Keeps tasks moved
    → IsStack tasks isrs words → IsStack moved isrs words
task_moved {tasks} {isrs} {words} moved k s = record {
  few_tasks = omega (arith, s.few_tasks, k.length_is);
  few_isrs = s.few_isrs;
  by_level = s.by_level;
  task_words = k.words_fit s.task_words;
  isr_words = s.isr_words;
  sum = omega (arith, s.sum, k.words_are);
}

-- the frames of a stack, after the last of them was changed through a slice
pub refilled : (frame : Frame) (fs now : List StackFrame) → 0 < length fs → now ≡ with_last frame fs
    → refill (length fs) fs now ≡ with_last frame fs
refilled frame fs now some is =
    let same : length now ≡ length fs = ap length is ∙ (keeps_with_last frame fs some).length_is in
    take-append-le (length fs) now (drop (length now) fs) (omega arith)
    ∙ ap (λ n. take n now) (sym same) ∙ take-length now ∙ is
