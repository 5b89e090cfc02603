-- Texts that go to a sink in pieces, straight or by way of a buffer.
use Rattle.std.proofs.Common.{◌≡◌, ◌+◌, ℕ, List, [], ◌++◌, Option, length, take, arith, sym, ap, ◌∙◌, subst, append_assoc, append-nil, length-append}
use Rattle.std.proofs.lemmas.List.{take-append-le}
use Rattle.std.proofs.Math.Seq.{take-append-add}
use Rattle.std.specs.Io.KnownBytes.{Appends}
use Rattle.std.proofs.KnownBytes.{Appends-trans}
use Rattle.tt_io.specs.Known.{AppendsPart}
use Rattle.tt_io.specs.Passes.{Passes}

-- once a prefix was appended, a proper prefix of the rest makes a proper prefix of the whole
pub part_after : (a b c : Option (List ℕ)) (done rest all : List ℕ) → all ≡ done ++ rest → Appends a b done
    → AppendsPart b c rest → AppendsPart a c all
part_after a b c done rest all split front (n, short, part) =
    let taken : take (length done + n) all ≡ done ++ take n rest = ap (take (length done + n)) split
    ∙ take-append-add done rest n in (
      length done + n,
      rw split (omega (arith, length-append done rest)),
      subst (Appends a c) (sym taken) (Appends-trans a b c _ _ front part),
    )

-- a proper prefix of a prefix is one of the whole
pub part_of_front : (a b : Option (List ℕ)) (front rest all : List ℕ) → all ≡ front ++ rest → AppendsPart a b front
    → AppendsPart a b all
part_of_front a b front rest all split (n, short, part) =
    let taken : take n all ≡ take n front = ap (take n) split ∙ take-append-le n front rest (omega arith) in
    (n, rw split (omega (arith, length-append front rest)), subst (Appends a b) (sym taken) part)

-- all was sent, in two pieces, and nothing waits
pub passes_all : (a b c : Option (List ℕ)) (first second all waiting : List ℕ) → all ≡ first ++ second → waiting ≡ []
    → Appends a b first → Appends b c second → Passes a c all waiting
passes_all a b c first second all waiting split none p q = record {
  sent = first ++ second;
  split = split ∙ sym (append-nil (first ++ second)) ∙ ap (λ w. (first ++ second) ++ w) (sym none);
  appended = Appends-trans a b c first second p q;
}

-- a piece was added to what waited, and both went through the buffer
pub passes_more : {a b : Option (List ℕ)} {so_far waiting : List ℕ} {c : Option (List ℕ)} {now : List ℕ}
    (all piece : List ℕ) → all ≡ so_far ++ piece
    → Passes a b so_far waiting → Passes b c (waiting ++ piece) now → Passes a c all now
passes_more {a} {b} {so_far} {waiting} {c} {now} all piece split p q = record {
  sent = p.sent ++ q.sent;
  split = split ∙ ap (λ l. l ++ piece) p.split ∙ append_assoc p.sent waiting piece ∙ ap (λ l. p.sent ++ l) q.split
      ∙ sym (append_assoc p.sent q.sent now);
  appended = Appends-trans a b c p.sent q.sent p.appended q.appended;
}

-- a piece was added to what waited, and a proper prefix of both was appended
pub passes_part : {a b : Option (List ℕ)} {so_far waiting : List ℕ} (c : Option (List ℕ)) (all piece : List ℕ)
    → all ≡ so_far ++ piece
    → Passes a b so_far waiting → AppendsPart b c (waiting ++ piece) → AppendsPart a c all
passes_part {a} {b} {so_far} {waiting} c all piece split p part =
    part_after a b c p.sent (waiting ++ piece) all
    (split ∙ ap (λ l. l ++ piece) p.split ∙ append_assoc p.sent waiting piece) p.appended part

-- a proper prefix of what waited was sent, and with it one of all
pub passes_end_part : {a b : Option (List ℕ)} {so_far waiting : List ℕ} (c : Option (List ℕ)) (all : List ℕ)
    → all ≡ so_far
    → Passes a b so_far waiting → AppendsPart b c waiting → AppendsPart a c all
passes_end_part {a} {b} {so_far} {waiting} c all same p part =
    part_after a b c p.sent waiting all (same ∙ p.split) p.appended part
