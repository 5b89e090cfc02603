-- What is left at a place is the list that is read there.
use Rattle.std.proofs.Common.{◌≡◌, ℕ, zero, suc, ◌+◌, ◌-◌, ◌≤◌, ◌<◌, List, [], ◌∷◌, ◌++◌, length, drop, Some, refl, sym, ap, subst, ◌∙◌, arith, append-nil, length-drop}
use Rattle.std.specs.Prelude.{slice_get, slice_index}
use Rattle.std.proofs.lemmas.Option.{slice_get_within}
use Rattle.task_lang.specs.declared.syntax.Stmt.{Stmt, out-Stmt}
use Rattle.task_lang.specs.Tick.{work_then, repeat_then}
use Rattle.task_machine.specs.Layout.{body_code, layer_code, Stands}
use Rattle.task_machine.specs.Place.{Left, At_end, At_stmt, At_skip, At_again, Rests}
use Rattle.task_machine.specs.Reading.{First, Seen, put, open_first, open_turn, reading, seen_at, left_around, left_at}
use Rattle.task_machine.specs.declared.instr.Instr.{Instr}
use Rattle.task_machine.specs.declared.instr.Instr.TheVariants as i
use Rattle.task_machine.proofs.Fronts.{stmt_layer}
use Rattle.task_machine.proofs.ReadBack.{seen_of, puts, seen_cons, later_at, stmt_reads, body_reads, skipped}

-- what is seen at a place, from the instructions there
seen_drop : (code : List Instr) (p : ℕ) → seen_at code p ≡ seen_of (drop p code)
unfolding reading
seen_drop [] zero = refl
seen_drop [] (suc p) = refl
seen_drop (x ∷ xs) zero = refl
seen_drop (x ∷ xs) (suc p) = seen_drop xs p

length-reading : (xs : List Instr) → length (reading xs) ≡ length xs + 1
unfolding reading
length-reading [] = refl
length-reading (x ∷ xs) = omega (arith, length-reading xs)

drop_get : (code : List Instr) (p : ℕ) (x : Instr) → slice_get code p ≡ Some x → drop p code ≡ x ∷ drop (suc p) code
drop_get [] p x is = cc
drop_get (y ∷ ys) zero x is = let same : y ≡ x = cc in ap (λ z. z ∷ ys) same
drop_get (y ∷ ys) (suc p) x is = drop_get ys p x is

drop_next : (code : List Instr) (p : ℕ) (x : Instr) → slice_get code p ≡ Some x → drop p code ≡ x ∷ drop (p + 1) code
drop_next code p x is = let next : suc p ≡ p + 1 = omega arith in drop_get code p x is ∙ ap (λ n. x ∷ drop n code) next

drop_stands : (code : List Instr) (p : ℕ) (xs : List Instr) (q : ℕ) → Stands code p xs q
    → drop p code ≡ xs ++ drop q code
drop_stands code p [] q h = ap (λ n. drop n code) h
drop_stands code p (x ∷ xs) q h = drop_next code p x h.0 ∙ ap (λ zs. x ∷ zs) (drop_stands code (p + 1) xs q h.1)

drop_all : (code : List Instr) (p : ℕ) → length code ≤ p → drop p code ≡ []
drop_all [] zero past = refl
drop_all [] (suc p) past = refl
drop_all (x ∷ xs) zero past = absurd (omega arith)
drop_all (x ∷ xs) (suc p) past = drop_all xs p (omega arith)

module _ (code : List Instr) (cs : List ℕ) where
  abbrev unwound : Seen → List Stmt
  unwound seen = seen.block ++ left_around code cs seen.around

  left_is : (p : ℕ) (seen : Seen) → seen_at code p ≡ seen → left_at code cs p ≡ unwound seen
  unfolding left_at
  left_is p seen is = ap unwound is

  at_stmt : (d p q : ℕ) (s : Stmt) (rest : List Stmt) → Stands code p (layer_code d (out-Stmt s)) q
      → left_at code cs q ≡ rest → left_at code cs p ≡ s ∷ rest
  at_stmt d p q s rest h later =
      let here : seen_at code p ≡ put s (seen_of (drop q code)) =
      seen_drop code p ∙ ap seen_of
      (drop_stands code p (layer_code d (out-Stmt s)) q h ∙ ap (λ xs. xs ++ drop q code) (sym (stmt_layer s d)))
      ∙ stmt_reads s d (drop q code) in
      left_is p _ here ∙ ap (λ l. s ∷ l) (sym (left_is q _ (seen_drop code q)) ∙ later)

  at_skip : (d p q : ℕ) (second rest : List Stmt) → slice_get code p ≡ Some (i.Skip (length (body_code d second)))
      → Stands code (p + 1) (body_code d second) q → left_at code cs q ≡ rest → left_at code cs p ≡ rest
  at_skip d p q second rest g h later =
      let two = body_code d second in
      let after = drop q code in
      let seen = seen_of after in
      let there : drop p code ≡ i.Skip (length two) ∷ (two ++ after) =
      drop_next code p (i.Skip (length two)) g
      ∙ ap (λ xs. i.Skip (length two) ∷ xs) (drop_stands code (p + 1) two q h) in
      let here : seen_at code p ≡ record {
        exprs = seen.exprs;
        block = [];
        around =
            First second seen.block ∷ seen.around;
      } =
      seen_drop code p ∙ ap seen_of there ∙ seen_cons (i.Skip (length two)) (two ++ after)
      ∙ ap (λ k. open_first (seen_of (two ++ after)) k) (later_at two after)
      ∙ ap (λ k. open_first k seen) (body_reads second d after) ∙ skipped seen second in
      left_is p _ here ∙ sym (left_is q _ (seen_drop code q)) ∙ later

  -- where the turns of a body begin
  at_start : (n p start back : ℕ) → length code ≡ n → start + back ≡ p → p < n → n - (n - (p + 1) + 1 + back) ≡ start
  at_start n p start back long far within = omega arith

  at_again : (d p start back : ℕ) (inner rest : List Stmt) → slice_get code p ≡ Some (i.Again d back) → start + back ≡ p
      → Stands code start (body_code (suc d) inner) p → left_at code cs (p + 1) ≡ rest
      → left_at code cs p ≡ repeat_then (slice_index cs d) inner rest
  at_again d p start back inner rest g far body later =
      let after = drop (p + 1) code in
      let seen = seen_of after in
      let from_end = length (reading after) + back in
      let there : seen_of (drop p code) ≡ open_turn d from_end seen =
      ap seen_of (drop_next code p (i.Again d back) g) ∙ seen_cons (i.Again d back) after in
      let here : seen_at code p ≡ open_turn d from_end seen = seen_drop code p ∙ there in
      let counted : from_end ≡ length code - (p + 1) + 1 + back =
      ap (λ n. n + back) (length-reading after ∙ ap (λ n. n + 1) (length-drop (p + 1) code)) in
      let begins : length code - from_end ≡ start =
      ap (λ n. length code - n) counted
      ∙ at_start (length code) p start back refl far (slice_get_within code p (i.Again d back) g) in
      let whole : (seen_at code (length code - from_end)).block ≡ inner =
      ap (λ n. (seen_at code n).block) begins ∙ ap (λ k. k.block)
      (seen_drop code start ∙ ap seen_of (drop_stands code start (body_code (suc d) inner) p body)
      ∙ body_reads inner (suc d) (drop p code) ∙ ap (puts inner) there)
      ∙ append-nil inner in
      left_is p _ here ∙ ap (λ b. repeat_then (slice_index cs d) b (unwound seen)) whole
      ∙ ap (λ l. repeat_then (slice_index cs d) inner l) (sym (left_is (p + 1) _ (seen_drop code (p + 1))) ∙ later)

  at_end : (p : ℕ) → length code ≤ p → left_at code cs p ≡ []
  unfolding reading left_at
  at_end p past = left_is p _ (seen_drop code p ∙ ap seen_of (drop_all code p past))

  where_left : (d p : ℕ) (l : List Stmt) → Left code cs d p l → left_at code cs p ≡ l
  where_left _ _ _ (At_end p past) = at_end p past
  where_left _ _ _ (At_stmt d p q s x rest o h left) =
      at_stmt d p q s rest (subst (λ y. Stands code p (layer_code d y) q) (sym o) h) (where_left d q rest left)
  where_left _ _ _ (At_skip d p q second rest g h left) = at_skip d p q second rest g h (where_left d q rest left)
  where_left _ _ _ (At_again d p start back inner rest g far body left) =
      at_again d p start back inner rest g far body (where_left d (p + 1) rest left)

  -- With this much work begun before a place, the list that is left is this one.
  pub rests_is : (p work : ℕ) (l : List Stmt) → Rests code cs l p work → work_then work (left_at code cs p) ≡ l
  rests_is p work l r = ap (work_then work) (where_left r.depth p r.below r.left) ∙ sym r.is
