use Rattle.std.proofs.Common.{◌≡◌, ◌<◌, ℕ, ◌-◌, List, [], ◌++◌, rules, arith, length, take, drop, sym, ap, ◌∙◌, append_assoc, length-append, take-append-drop}
use Rattle.std.proofs.lemmas.List.{take_rest}
use Rattle.std.proofs.KnownBytes.{Appends-kept, Appends-nil, Appends-trans}
use Rattle.tt_io.proofs.Passing.{part_after}
use Rattle.tt_io.proofs.whole.put_all.Goals as goal

moves_front : (all done rest : List ℕ) (n : ℕ) → all ≡ done ++ rest
    → all ≡ (done ++ take n rest) ++ take (length rest - n) (drop n rest)
moves_front all done rest n split =
    split ∙ ap (λ l. done ++ l) (sym (take-append-drop n rest)) ∙ sym (append_assoc done (take n rest) (drop n rest))
    ∙ ap (λ l. (done ++ take n rest) ++ l) (sym (take_rest rest n))

some_is_left : (all done rest : List ℕ) → all ≡ done ++ rest → 0 < length rest → all ≡ [] → ⊥
some_is_left all done rest split some none =
    absurd (omega (arith, length-append done rest, ap length split, ap length none))

pub loop-rest-preserved : goal.loop-rest-preserved
loop-rest-preserved g c =
    let so_far = c.loop-rest.invariant in
    let rest = c.loop-rest.rest.now in
    let n = c.in-Took.n in
    record {
      done = so_far.done ++ take n rest;
      split = moves_front _ so_far.done rest n so_far.split;
      appended = Appends-trans _ _ _ _ _ so_far.appended c.in-Took.ensures.took;
      empty = λ none. absurd (some_is_left _ so_far.done rest so_far.split (search rules) none);
      never_falls = search rules;
    }

pub returns-in-Failed-clause-part : goal.returns-in-Failed-clause-part
returns-in-Failed-clause-part g c =
    let so_far = c.loop-rest.invariant in
    part_after _ _ _ so_far.done c.loop-rest.rest.now _ so_far.split so_far.appended
    (0, search rules, Appends-kept _ _ _ _ (Appends-nil _) c.in-Failed.ensures.refused)
