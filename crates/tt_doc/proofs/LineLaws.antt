-- Laws of lines: the first line of a text, and what follows it.
use Rattle.std.proofs.Common.{◌≡◌, ℕ, ◌+◌, ◌-◌, ◌<◌, ◌≤◌, zero, suc, Bool, true, false, not, ◌&&◌, ◌==◌, List, [], ◌∷◌, ◌++◌, length, get_or, take, drop, Some, None, refl, sym, ap, ◌∙◌, subst, arith}
use Rattle.std.specs.Prelude.{nat_lt, nat_le, slice_range}
use Rattle.std.specs.List.{list_all, position_or_len}
use Rattle.std.proofs.lemmas.Bool.{cond_both, cond-true, cond-false, and_parts, and_from, lt-ltb, le-ltb, ne_eqb, leb-true, not-true, not-false}
use Rattle.std.proofs.lemmas.List.{length-take-le, length-drop, drop-drop, take_all}
use Rattle.std.proofs.lemmas.List.Sums.{prefix_len-le-length, split_at_first, passes_at_first}
use Rattle.tt_doc.specs.declared.lines.LineKind.TheVariants.{Byte, Long, Cut}
use Rattle.tt_doc.specs.LineStep.{BeginsWithFault}
use Rattle.tt_doc.specs.Lines.{Line, in_front, lines_of, is_plain_byte, fault_of}

-- how many plain bytes a text begins with
abbrev plain_len_of : List ℕ → ℕ
plain_len_of text = position_or_len (λ b. not (is_plain_byte b)) text

abbrev line_with : List ℕ → Bool → Line
line_with text ended = record { text = text; ended = ended }

-- a plain byte is no LF
plain_is_no_lf : (b : ℕ) → is_plain_byte b ≡ true → (b == 10) ≡ false
plain_is_no_lf b plain =
    let low = leb-true 32 b (and_parts (nat_le 32 b) (nat_le b 126) plain).0 in
    ne_eqb b 10 (λ e. omega (arith, low))

-- a byte that is no LF is the first byte of the first line
lines_of-other : (b : ℕ) (bytes : List ℕ) → (b == 10) ≡ false → lines_of (b ∷ bytes) ≡ in_front b (lines_of bytes)
lines_of-other b bytes other =
    cond-false (b == 10) (line_with [] true ∷ lines_of bytes) (in_front b (lines_of bytes)) other

-- a plain text, a LF and a rest are one line and the lines of the rest
pub lines_of-plain : (text rest : List ℕ) → list_all is_plain_byte text ≡ true
    → lines_of (text ++ 10 ∷ rest) ≡ record { text = text; ended = true } ∷ lines_of rest
lines_of-plain [] rest plain = refl
lines_of-plain (b ∷ text) rest plain =
    let parts = and_parts (is_plain_byte b) (list_all is_plain_byte text) plain in
    lines_of-other b (text ++ 10 ∷ rest) (plain_is_no_lf b parts.0) ∙ ap (in_front b) (lines_of-plain text rest parts.1)

-- a plain text is one line that no LF ends
lines_of-cut : (text : List ℕ) → list_all is_plain_byte text ≡ true → 0 < length text
    → lines_of text ≡ line_with text false ∷ []
lines_of-cut [] plain some = absurd (omega arith)
lines_of-cut (b ∷ []) plain some = lines_of-other b [] (plain_is_no_lf b (and_parts (is_plain_byte b) true plain).0)
lines_of-cut (b ∷ next ∷ bytes) plain some =
    let parts = and_parts (is_plain_byte b) (list_all is_plain_byte (next ∷ bytes)) plain in
    lines_of-other b (next ∷ bytes) (plain_is_no_lf b parts.0)
    ∙ ap (in_front b) (lines_of-cut (next ∷ bytes) parts.1 (omega arith))

-- a plain line of at most 200 bytes that a LF ends has no fault
pub fault_of-plain : (text : List ℕ) → list_all is_plain_byte text ≡ true → length text ≤ 200
    → fault_of (record { text = text; ended = true }) ≡ None
fault_of-plain text plain short =
    cond-false (not (list_all is_plain_byte text)) (Some Byte) _ (ap not plain)
    ∙ cond-false (nat_lt 200 (length text)) (Some Long) None (le-ltb 200 (length text) short)

-- the first line has a byte that is not plain
record BeginsUnplain (lines : List Line) : Type 0 where
  line : Line
  rest : List Line
  is : lines ≡ line ∷ rest
  unplain : list_all is_plain_byte line.text ≡ false

unplain_in_front : (b : ℕ) (lines : List Line) → is_plain_byte b ≡ false → BeginsUnplain (in_front b lines)
unplain_in_front b [] unplain =
    record { line = line_with (b ∷ []) false; rest = []; is = refl; unplain = ap (λ t. t && true) unplain }
unplain_in_front b (line ∷ lines) unplain = record {
  line = line_with (b ∷ line.text) line.ended;
  rest = lines;
  is = refl;
  unplain = ap (λ t. t && list_all is_plain_byte line.text) unplain;
}

-- a plain text and a byte that is neither plain nor a LF
unplain_line : (text : List ℕ) (b : ℕ) (rest : List ℕ) → list_all is_plain_byte text ≡ true → is_plain_byte b ≡ false
    → (b == 10) ≡ false → BeginsUnplain (lines_of (text ++ b ∷ rest))
unplain_line [] b rest plain unplain other =
    subst BeginsUnplain (sym (lines_of-other b rest other)) (unplain_in_front b (lines_of rest) unplain)
unplain_line (first ∷ text) b rest plain unplain other =
    let parts = and_parts (is_plain_byte first) (list_all is_plain_byte text) plain in
    let later = unplain_line text b rest parts.1 unplain other in
    record {
      line = line_with (first ∷ later.line.text) later.line.ended;
      rest = later.rest;
      is = lines_of-other first (text ++ b ∷ rest) (plain_is_no_lf first parts.0) ∙ ap (in_front first) later.is;
      unplain = ap (λ t. t && list_all is_plain_byte later.line.text) parts.0 ∙ later.unplain;
    }

-- the leading plain bytes are plain
front_is_plain : (text : List ℕ) → list_all is_plain_byte (take (plain_len_of text) text) ≡ true
front_is_plain [] = refl
front_is_plain (b ∷ bytes) =
    cond_both (not (not (is_plain_byte b))) (1 + plain_len_of bytes) 0
    (λ n. list_all is_plain_byte (take n (b ∷ bytes)) ≡ true)
    (λ plain.
    let more : 1 + plain_len_of bytes ≡ suc (plain_len_of bytes) = omega arith in
    ap (λ n. list_all is_plain_byte (take n (b ∷ bytes))) more
    ∙ and_from (is_plain_byte b) (list_all is_plain_byte (take (plain_len_of bytes) bytes))
    (not-false (is_plain_byte b) (not-true (not (is_plain_byte b)) plain)) (front_is_plain bytes))
    (λ unplain. refl)

-- where the first n bytes are plain, the search goes on after them
pub plain_len_more : (n : ℕ) (text : List ℕ) → n ≤ length text → list_all is_plain_byte (take n text) ≡ true
    → plain_len_of text ≡ n + plain_len_of (drop n text)
plain_len_more zero text inside plain = omega arith
plain_len_more (suc n) [] inside plain = absurd (omega arith)
plain_len_more (suc n) (b ∷ bytes) inside plain =
    let parts = and_parts (is_plain_byte b) (list_all is_plain_byte (take n bytes)) plain in
    cond-true (not (not (is_plain_byte b))) (1 + plain_len_of bytes) 0 (ap (λ t. not (not t)) parts.0)
    ∙ omega (arith, plain_len_more n bytes (omega arith) parts.1)

-- a search that passed `at` bytes also passes a plain chunk of n bytes
pub plain_len_further : (text : List ℕ) (at n : ℕ) → at + n ≤ length text
    → list_all is_plain_byte (take (at + n - at) (drop at text)) ≡ true
    → plain_len_of text ≡ at + plain_len_of (drop at text)
    → plain_len_of text ≡ (at + n) + plain_len_of (drop (at + n) text)
plain_len_further text at n inside plain passed =
    let size : at + n - at ≡ n = omega arith in
    let sum : at + (n + plain_len_of (drop (at + n) text)) ≡ (at + n) + plain_len_of (drop (at + n) text) =
    omega arith in
    let more = plain_len_more n (drop at text) (omega (arith, length-drop at text))
    (ap (λ k. list_all is_plain_byte (take k (drop at text))) (sym size) ∙ plain) in
    passed
    ∙ ap (λ k. at + k) (more ∙ ap (λ rest. n + plain_len_of rest) (drop-drop n at text))
    ∙ sum

-- the leading plain bytes of a text, and how many they are
record PlainFront (text : List ℕ) (n : ℕ) : Type 0 where
  plain : list_all is_plain_byte (take n text) ≡ true
  len : length (take n text) ≡ n

plain_front : (text : List ℕ) (n : ℕ) → n ≡ plain_len_of text → PlainFront text n
plain_front text n is =
    subst (PlainFront text) (sym is) (record {
      plain = front_is_plain text;
      len = length-take-le (plain_len_of text) text (prefix_len-le-length (λ b. not (not (is_plain_byte b))) text);
    })

-- the byte at which plain bytes end
record StopsAt (text : List ℕ) (n : ℕ) : Type 0 where
  split : text ≡ take n text ++ get_or text n 0 ∷ drop (n + 1) text
  unplain : is_plain_byte (get_or text n 0) ≡ false

stops_at : (text : List ℕ) (n : ℕ) → n ≡ plain_len_of text → (n ≡ length text → ⊥) → StopsAt text n
stops_at text n is before =
    let test : ℕ → Bool = λ b. not (is_plain_byte b) in
    let short : plain_len_of text < length text =
    omega (arith, prefix_len-le-length (λ b. not (test b)) text, is, before) in
    subst (StopsAt text) (sym is) (record {
      split = split_at_first test text 0 short;
      unplain = not-true (is_plain_byte (get_or text (plain_len_of text) 0)) (passes_at_first test text 0 short);
    })

-- plain bytes up to a LF are a line
lines_of-lf : (text : List ℕ) (n : ℕ) → n ≡ plain_len_of text → (n ≡ length text → ⊥) → get_or text n 0 ≡ 10
    → lines_of text ≡ line_with (take n text) true ∷ lines_of (drop (n + 1) text)
lines_of-lf text n is before lf =
    ap lines_of (stops_at text n is before).split
    ∙ ap (λ b. lines_of (take n text ++ b ∷ drop (n + 1) text)) lf
    ∙ lines_of-plain (take n text) (drop (n + 1) text) (plain_front text n is).plain

-- plain bytes up to the end are a line
lines_of-end : (text : List ℕ) (n : ℕ) → n ≡ plain_len_of text → n ≡ length text → 0 < n
    → lines_of text ≡ line_with (take n text) false ∷ []
lines_of-end text n is end some =
    let whole : take n text ≡ text = take_all n text (omega (arith, end)) in
    lines_of-cut text (ap (list_all is_plain_byte) (sym whole) ∙ (plain_front text n is).plain) (omega (arith, end))
    ∙ ap (λ t. line_with t false ∷ []) (sym whole)

begins_with_long : (text : List ℕ) (n : ℕ) (ended : Bool) (rest : List Line) → n ≡ plain_len_of text → 200 < n
    → lines_of text ≡ line_with (take n text) ended ∷ rest → BeginsWithFault (lines_of text) Long
begins_with_long text n ended rest is long first =
    let front = plain_front text n is in
    let over : 200 < length (take n text) = omega (arith, front.len) in
    record {
      line = line_with (take n text) ended;
      rest = rest;
      is = first;
      fault = cond-false (not (list_all is_plain_byte (take n text))) (Some Byte) _ (ap not front.plain)
          ∙ cond-true (nat_lt 200 (length (take n text))) (Some Long) _ (lt-ltb 200 (length (take n text)) over);
    }

-- the fault of a line that ends at a LF, at another byte, or with the document
pub begins_with_long_line : (text : List ℕ) (n : ℕ) → n ≡ plain_len_of text → (n ≡ length text → ⊥)
    → get_or text n 0 ≡ 10
    → 200 < n → BeginsWithFault (lines_of text) Long
begins_with_long_line text n is before lf long =
    begins_with_long text n true (lines_of (drop (n + 1) text)) is long (lines_of-lf text n is before lf)

pub begins_with_byte : (text : List ℕ) (n : ℕ) → n ≡ plain_len_of text → (n ≡ length text → ⊥)
    → (get_or text n 0 ≡ 10 → ⊥)
    → BeginsWithFault (lines_of text) Byte
begins_with_byte text n is before other =
    let stop = stops_at text n is before in
    let lines = unplain_line (take n text) (get_or text n 0) (drop (n + 1) text)
    (plain_front text n is).plain stop.unplain
    (ne_eqb (get_or text n 0) 10 other) in
    record {
      line = lines.line;
      rest = lines.rest;
      is = ap lines_of stop.split ∙ lines.is;
      fault = cond-true (not (list_all is_plain_byte lines.line.text)) (Some Byte) _ (ap not lines.unplain);
    }

pub begins_with_long_end : (text : List ℕ) (n : ℕ) → n ≡ plain_len_of text → n ≡ length text → 200 < n
    → BeginsWithFault (lines_of text) Long
begins_with_long_end text n is end long =
    begins_with_long text n false [] is long (lines_of-end text n is end (omega arith))

pub begins_with_cut : (text : List ℕ) (n : ℕ) → n ≡ plain_len_of text → n ≡ length text → 0 < n → n ≤ 200
    → BeginsWithFault (lines_of text) Cut
begins_with_cut text n is end some short =
    let front = plain_front text n is in
    let under : length (take n text) ≤ 200 = omega (arith, front.len) in
    record {
      line = line_with (take n text) false;
      rest = [];
      is = lines_of-end text n is end some;
      fault = cond-false (not (list_all is_plain_byte (take n text))) (Some Byte) _ (ap not front.plain)
          ∙ cond-false (nat_lt 200 (length (take n text))) (Some Long) _ (le-ltb 200 (length (take n text)) under);
    }

-- the line that a LF ends, and the lines after it
pub record EndedLine (bytes : List ℕ) (at n : ℕ) : Type 0 where
  pub line : lines_of (drop at bytes)
      ≡ record { text = slice_range bytes at (at + n); ended = true } ∷ lines_of (drop (at + n + 1) bytes)
  pub good : n ≤ 200 → fault_of (record { text = slice_range bytes at (at + n); ended = true }) ≡ None

pub ended_line : (bytes : List ℕ) (at n : ℕ) (rest : List ℕ) → rest ≡ drop at bytes → n ≡ plain_len_of rest
    → (n ≡ length rest → ⊥)
    → get_or rest n 0 ≡ 10 → EndedLine bytes at n
ended_line bytes at n rest is_rest is_len before_end at_lf =
    let is : n ≡ plain_len_of (drop at bytes) = is_len ∙ ap plain_len_of is_rest in
    let before : n ≡ length (drop at bytes) → ⊥ = λ e. before_end (e ∙ ap length (sym is_rest)) in
    let lf : get_or (drop at bytes) n 0 ≡ 10 = ap (λ text. get_or text n 0) (sym is_rest) ∙ at_lf in
    let far : n ≡ at + n - at = omega arith in
    let after : at + (n + 1) ≡ at + n + 1 = omega arith in
    let front = plain_front (drop at bytes) n is in
    let short : n ≤ 200 → length (take n (drop at bytes)) ≤ 200 = λ few. omega (arith, front.len) in
    record {
      line = lines_of-lf (drop at bytes) n is before lf
          ∙ ap (λ k. line_with (take k (drop at bytes)) true ∷ lines_of (drop (n + 1) (drop at bytes))) far
          ∙ ap (λ text. line_with (slice_range bytes at (at + n)) true ∷ lines_of text)
          (drop-drop (n + 1) at bytes ∙ ap (λ k. drop k bytes) after);
      good = λ few. subst (λ k. fault_of (line_with (take k (drop at bytes)) true) ≡ None) far
          (fault_of-plain (take n (drop at bytes)) front.plain (short few));
    }

pub ruleset line_laws = (lines_of-plain, fault_of-plain)
