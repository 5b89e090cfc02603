-- The text of the bulk document, piece by piece, and its length.
use Rattle.std.proofs.Common.{◌≡◌, ℕ, zero, suc, ◌≤◌, ◌<◌, ◌+◌, ◌*◌, ◌%◌, ◌^◌, List, [], ◌∷◌, ◌++◌, length, refl, sym, ap, subst, ◌∙◌, append_assoc, arith}
use Rattle.std.specs.Prelude.{codes, decimal}
use Rattle.std.proofs.lemmas.List.{length-append}
use Rattle.std.proofs.lemmas.Fmt.{length-decimal-le}
use Rattle.std.proofs.Math.Nat.{mul-le-mul, suc-mul}
use Rattle.osektime_core.specs.TableText.{texts_below}
use Rattle.osektime_core.specs.BulkText.{activation_row, arrival_row, bulk_rows, bulk_round, bulk_tasks, bulk_text, first_rows, isr_rows, start_rows, task_rows}
use Rattle.osektime_core.proofs.TableTexts.{texts_more}

-- ---- a row

-- four pieces
four_joined : (a b c d : List ℕ) → ((a ++ b) ++ c) ++ d ≡ a ++ (b ++ (c ++ d))
four_joined a b c d = simp append_assoc

-- a task and its body, in three pieces
pub task_put : (i : ℕ) (before one two three : List ℕ) → one ≡ before ++ codes "task T" → two ≡ one ++ decimal i
    → three ≡ two ++ (codes " 16" ++ 10 ∷ (codes "work 15" ++ 10 ∷ (codes "end" ++ 10 ∷ [])))
    → three ≡ before ++ task_rows i
task_put i before one two three p q r =
    let body = codes "work 15" ++ 10 ∷ (codes "end" ++ 10 ∷ []) in
    let all : three ≡ ((before ++ codes "task T") ++ decimal i) ++ (codes " 16" ++ 10 ∷ body) = cc in
    all ∙ four_joined before (codes "task T") (decimal i) (codes " 16" ++ 10 ∷ body)
    ∙ ap (λ t. before ++ (codes "task T" ++ t)) (sym (four_joined (decimal i) (codes " 16") (10 ∷ []) body))

-- the row that activates a task, in seven pieces
pub activation_put : (round i same : ℕ) (before a b c d e f g : List ℕ) → same ≡ i → a ≡ before ++ codes "at "
    → b ≡ a ++ decimal (10 * same) → c ≡ b ++ codes " m activate T" → d ≡ c ++ decimal i → e ≡ d ++ 32 ∷ []
    → f ≡ e ++ decimal round → g ≡ f ++ (codes " stringent" ++ 10 ∷ []) → g ≡ before ++ activation_row round i
activation_put round i same before a b c d e f g is p q r s t u v =
    let all : g ≡ ((((((before ++ codes "at ") ++ decimal (10 * i)) ++ codes " m activate T") ++ decimal i) ++ 32 ∷ [])
    ++ decimal round) ++ (codes " stringent" ++ 10 ∷ []) = cc in
    all ∙ simp append_assoc

-- ---- rows one after another

-- one row more
pub row_more : (text : ℕ → List ℕ) (n : ℕ) (before now after : List ℕ) → now ≡ before ++ texts_below text n
    → after ≡ now ++ text n → after ≡ before ++ texts_below text (n + 1)
row_more text n before now after so_far put =
    put ∙ ap (λ t. t ++ text n) so_far ∙ append_assoc before (texts_below text n) (text n)
    ∙ ap (λ t. before ++ t) (sym (texts_more text n))

-- ---- the whole

six_joined : (first tasks isr activations start arrivals a b c d e f : List ℕ) → a ≡ first → b ≡ a ++ tasks
    → c ≡ b ++ isr → d ≡ c ++ activations → e ≡ d ++ start → f ≡ e ++ arrivals
    → f ≡ first ++ (tasks ++ (isr ++ (activations ++ (start ++ arrivals))))
six_joined first tasks isr activations start arrivals a b c d e f p q r s t u =
    let all : f ≡ ((((first ++ tasks) ++ isr) ++ activations) ++ start) ++ arrivals = cc in all ∙ simp append_assoc

pieces : (round n arrivals : ℕ) → List ℕ
pieces round n arrivals =
    first_rows round
    ++ (texts_below task_rows n
    ++ (isr_rows
    ++ (texts_below (activation_row round) n
    ++ (start_rows
    ++ texts_below (arrival_row round) arrivals))))

pieces_are_rows : (round n arrivals : ℕ) → round ≡ 20 * n → pieces round n arrivals ≡ bulk_rows n arrivals
unfolding bulk_rows pieces
pieces_are_rows round n arrivals is = ap (λ r. pieces r n arrivals) is

-- the document, piece by piece
pub bulk_joined : (number n round arrivals : ℕ) (a b c d e f : List ℕ) → n ≡ 2 + number % 31 → round ≡ 20 * n
    → arrivals ≡ 10000 → a ≡ first_rows round → b ≡ a ++ texts_below task_rows n → c ≡ b ++ isr_rows
    → d ≡ c ++ texts_below (activation_row round) n → e ≡ d ++ start_rows
    → f ≡ e ++ texts_below (arrival_row round) arrivals → f ≡ bulk_text number
unfolding bulk_text pieces
bulk_joined number n round arrivals a b c d e f few ticks all p q r s t u =
    six_joined (first_rows round) (texts_below task_rows n) isr_rows (texts_below (activation_row round) n) start_rows
    (texts_below (arrival_row round) arrivals) a b c d e f p q r s t u
    ∙ pieces_are_rows round n arrivals ticks
    ∙ ap (bulk_rows n) all
    ∙ ap (λ m. bulk_rows m 10000) few

-- ---- the length

-- texts of at most this many bytes each
length_of_texts : (text : ℕ → List ℕ) (most n : ℕ) → ((i : ℕ) → i < n → length (text i) ≤ most)
    → length (texts_below text n) ≤ n * most
unfolding texts_below
length_of_texts text most zero each = omega arith
length_of_texts text most (suc n) each =
    let so_far : length (texts_below text n) ≤ n * most = length_of_texts text most n (λ i l. each i (omega arith)) in
    let last : length (text n) ≤ most = each n (omega arith) in
    omega (arith, suc-mul n most, length-append (texts_below text n) (text n))

-- a number that is not large has few digits
few_digits : (n : ℕ) → n < 10 ^ 10 → length (decimal n) ≤ 10
few_digits n small = length-decimal-le 10 n (omega arith) small (omega arith)

first_length : (round : ℕ) → round < 10 ^ 10 → length (first_rows round) ≤ 40
first_length round small = simp length-append (omega (arith, few_digits round small))

task_length : (i : ℕ) → i < 10 ^ 10 → length (task_rows i) ≤ 40
task_length i small = simp length-append (omega (arith, few_digits i small))

activation_length : (round i : ℕ) → round < 10 ^ 10 → 10 * i < 10 ^ 10 → length (activation_row round i) ≤ 60
activation_length round i small few =
    simp length-append (omega (arith, few_digits round small, few_digits (10 * i) few, few_digits i (omega arith)))

arrival_length : (round r : ℕ) → r * round + 5 < 10 ^ 10 → length (arrival_row round r) ≤ 20
arrival_length round r small = simp length-append (omega (arith, few_digits (r * round + 5) small))

-- the rows that are the same in each document
fixed_length : length isr_rows + length start_rows ≤ 80
fixed_length = omega arith

length_of_six : (a b c d e f : List ℕ)
    → length (a ++ (b ++ (c ++ (d ++ (e ++ f)))))
    ≡ length a + (length b + (length c + (length d + (length e + length f))))
length_of_six a b c d e f = simp length-append

-- the document of at most 32 tasks
rows_length : (n round arrivals : ℕ) → n ≤ 32 → round ≡ 20 * n → arrivals ≤ 10000
    → length (pieces round n arrivals) ≤ 2 ^ 20
unfolding pieces
rows_length n round arrivals few is all =
    let tasks : length (texts_below task_rows n) ≤ n * 40 =
    length_of_texts task_rows 40 n (λ i l. task_length i (omega arith)) in
    let activations : length (texts_below (activation_row round) n) ≤ n * 60 =
    length_of_texts (activation_row round) 60 n (λ i l. activation_length round i (omega arith) (omega arith)) in
    let ticks : (r : ℕ) → r < arrivals → r * round ≤ 10000 * 640 =
    λ r l. mul-le-mul {n₁ = r} {m₁ = round} {n₂ = 10000} {m₂ = 640} (omega arith) (omega arith) in
    let arriving : length (texts_below (arrival_row round) arrivals) ≤ arrivals * 20 =
    length_of_texts (arrival_row round) 20 arrivals (λ r l. arrival_length round r (omega (arith, ticks r l))) in
    let first : length (first_rows round) ≤ 40 = first_length round (omega arith) in
    omega (
      arith,
      fixed_length,
      length_of_six (first_rows round) (texts_below task_rows n) isr_rows
          (texts_below (activation_row round) n) start_rows (texts_below (arrival_row round) arrivals),
    )

-- the document is short enough to be read
pub bulk_is_short : (number : ℕ) → length (bulk_text number) ≤ 2 ^ 20
unfolding bulk_text
bulk_is_short number =
    let n = bulk_tasks number in
    subst (λ text. length text ≤ 2 ^ 20) (pieces_are_rows (bulk_round n) n 10000 refl)
    (rows_length n (bulk_round n) 10000 (omega arith) refl (omega arith))
