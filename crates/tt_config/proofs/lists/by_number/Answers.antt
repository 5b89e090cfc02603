use Rattle.std.proofs.Common.{◌≡◌, ℕ, ◌+◌, ◌<◌, List, [], ◌∷◌, ◌++◌, length, map, take, get_or, replicate, Option, Some, None, ap, sym, ◌∙◌, arith, refl}
use Rattle.std.proofs.lemmas.Bool.Decides.{nat_tests}
use Rattle.std.proofs.lemmas.Grind.{flat_map-append, get_or-set_at}
use Rattle.std.proofs.lemmas.List.{append-nil, get_or-replicate, get_or-set_other, length-replicate, length-set, map_more}
use Rattle.std.proofs.lemmas.List.FromFn.{fill_by_all}
use Rattle.tt_parts.specs.declared.located.At.{At}
use Rattle.tt_parts.specs.Located.{parts}
use Rattle.tt_rules.specs.Order.{below}
use Rattle.tt_config.specs.Lists.{at_number, by_number, given, put_at}
use Rattle.tt_config.proofs.Counted.{below_is, get_or-each, length-each}
use Rattle.std.proofs.lemmas.Fn.{says_at}
use Rattle.tt_config.proofs.lists.by_number.Goals as goal

-- a list whose item at each number is what belongs to that number is the list of these
same_each : {X : Type 0} (f : ℕ → X) (n : ℕ) (xs : List X) (d : X) → length xs ≡ n
    → ((k : ℕ) → k < n → get_or xs k d ≡ f k) → xs ≡ map f (below n)
same_each f n xs d long each = fill_by_all f xs n d long each ∙ ap (map f) (sym (below_is n))

module _ {A B : Type 0} (count : ℕ) (place : A → Option (ℕ × B)) where
  -- at first none
  by_number-first : (lists : List (List B)) → lists ≡ replicate count [] → lists ≡ by_number count place []
  by_number-first lists is =
      is ∙ same_each (given place []) count (replicate count []) [] (length-replicate count [])
      (λ k lt. get_or-replicate count k [] [] lt)

  given-push : (xs : List A) (x : A) (k : ℕ) → given place (xs ++ x ∷ []) k ≡ given place xs k ++ at_number k (place x)
  given-push xs x k =
      flat_map-append (λ y. at_number k (place y)) xs (x ∷ [])
      ∙ ap (λ ys. given place xs k ++ ys) (append-nil (at_number k (place x)))

  put_one : (xs : List A) (o : Option (ℕ × B)) (k : ℕ) → k < count
      → get_or (put_at o (by_number count place xs)) k [] ≡ given place xs k ++ at_number k o
  put_one xs None k lt = get_or-each (given place xs) count k [] lt ∙ sym (append-nil (given place xs k))
  put_one xs (Some p) k lt =
      grind (
        arith,
        nat_tests,
        get_or-set_at,
        get_or-set_other,
        append-nil (given place xs k),
        length-each (given place xs) count,
        get_or-each (given place xs) count k [] lt,
      )

  length-put : (xs : List A) (o : Option (ℕ × B)) → length (put_at o (by_number count place xs)) ≡ count
  length-put xs None = length-each (given place xs) count
  length-put xs (Some p) = length-set (by_number count place xs) p.0 _ ∙ length-each (given place xs) count

  put-push : (xs : List A) (x : A) → put_at (place x) (by_number count place xs) ≡ by_number count place (xs ++ x ∷ [])
  put-push xs x =
      same_each (given place (xs ++ x ∷ [])) count (put_at (place x) (by_number count place xs)) []
      (length-put xs (place x))
      (λ k lt. put_one xs (place x) k lt ∙ sym (given-push xs x k))

  -- one more part
  by_number-more : (xs : List (At A)) (i : ℕ) (x : At A) (lists more : List (List B)) (o : Option (ℕ × B))
      → i < length xs → x ≡ get_or xs i x
      → lists ≡ by_number count place (parts (take i xs)) → o ≡ place x.part → more ≡ put_at o lists
      → more ≡ by_number count place (parts (take (i + 1) xs))
  by_number-more xs i x lists more o lt is before gives put =
      let whole : parts (take (i + 1) xs) ≡ parts (take i xs) ++ x.part ∷ [] =
      map_more (λ (y : At A). y.part) xs i x lt ∙ (λ j. parts (take i xs) ++ (sym is j).part ∷ []) in
      put ∙ ap (λ p. put_at p lists) gives ∙ ap (put_at (place x.part)) before ∙ put-push (parts (take i xs)) x.part
      ∙ ap (by_number count place) (sym whole)

pub loop-at-init : goal.loop-at-init
loop-at-init g c = λ place answers. by_number-first c.args.count place c.in_ok-lists.lists c.in_ok-lists.ensures

pub loop-at-preserved : goal.loop-at-preserved
loop-at-preserved g c = λ place answers.
    let x = c.at-item.result in
    by_number-more c.args.count place c.args.located.now c.loop-at.at-index x c.loop-at.lists c.put.new.self
    c.place_of.result c.loop-at-test.true c.at-item.is
    (c.loop-at.invariant place answers)
    (answers x.part c.place_of.result (says_at g.F.Fn c.place_of.ensures refl)) c.in_ok-put.ensures
