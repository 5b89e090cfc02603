-- The first statement at the place of a frame.
use Rattle.std.proofs.Common.{◌≡◌, ℕ, suc, ◌+◌, ◌<◌, List, [], ◌∷◌, ◌++◌, length, Some, None, refl, sym, ap, subst, arith}
use Rattle.std.specs.Prelude.{slice_get, slice_index}
use Rattle.std.proofs.lemmas.Option.{slice_get_past}
use Rattle.task_lang.specs.declared.syntax.Expr.{Expr}
use Rattle.task_lang.specs.declared.syntax.Stmt.{Stmt, out-Stmt}
use Rattle.task_lang.specs.declared.syntax.Stmt.TheOpen.{Stmt-F}
use Rattle.task_lang.specs.declared.syntax.Stmt.TheFolds.{fold_out-Stmt}
use Rattle.task_lang.specs.Tick.{repeat_then}
use Rattle.task_machine.specs.Layout.{expr_code, stmt_code, stmt_step, body_code, layer_code, Stands}
use Rattle.task_machine.specs.Place.{Left, At_end, At_stmt, At_skip, At_again}
use Rattle.task_machine.specs.declared.instr.Instr.{Instr}
use Rattle.task_machine.specs.declared.instr.Instr.TheVariants as i

-- the code of a statement, from its level
pub stmt_layer : (s : Stmt) (d : ℕ) → stmt_code s d ≡ layer_code d (out-Stmt s)
stmt_layer s d = ap (λ f. f d) (fold_out-Stmt (ℕ → List Instr) stmt_step s)

pub record Parts (code : List Instr) (p : ℕ) (xs ys : List Instr) (q : ℕ) : Type 0 where
  pub middle : ℕ
  pub first : Stands code p xs middle
  pub second : Stands code middle ys q

pub stands_parts : (code : List Instr) (p : ℕ) (xs ys : List Instr) (q : ℕ) → Stands code p (xs ++ ys) q
    → Parts code p xs ys q
stands_parts code p [] ys q h = record { middle = p; first = refl; second = h }
stands_parts code p (x ∷ xs) ys q h =
    let r = stands_parts code (p + 1) xs ys q h.1 in
    record { middle = r.middle; first = (h.0, r.first); second = r.second }

pub stands_length : (code : List Instr) (p : ℕ) (xs : List Instr) (q : ℕ) → Stands code p xs q → q ≡ p + length xs
stands_length code p [] q h = omega (arith, h)
stands_length code p (x ∷ xs) q h = omega (arith, stands_length code (p + 1) xs q h.1)

module _ (code : List Instr) (cs : List ℕ) where
  -- a body before what is left
  pub body_left : (d p q : ℕ) (body rest : List Stmt) → Stands code p (body_code d body) q → Left code cs d q rest
      → Left code cs d p (body ++ rest)
  body_left d p q [] rest h left = subst (λ n. Left code cs d n rest) (sym h) left
  body_left d p q (s ∷ body) rest h left =
      let r = stands_parts code p (stmt_code s d) (body_code d body) q h in
      At_stmt d p r.middle s (out-Stmt s) (body ++ rest) refl
      (subst (λ c. Stands code p c r.middle) (stmt_layer s d) r.first)
      (body_left d r.middle q body rest r.second left)

  pub record Fronts (l : List Stmt) (x : Stmt-F Stmt) (Then : List Stmt → Type 0) : Type 0 where
    pub s : Stmt
    pub rest : List Stmt
    pub is : l ≡ s ∷ rest
    pub front : out-Stmt s ≡ x
    pub later : Then rest

  pub record AtExpr (d p : ℕ) (l : List Stmt) (x : Expr → Stmt-F Stmt) : Type 0 where
    pub e : Expr
    pub q : ℕ
    pub test : Stands code p (expr_code e) q
    pub fronts : Fronts l (x e) (λ rest. Left code cs d q rest)

  pub record AtIf (d p n : ℕ) (l : List Stmt) : Type 0 where
    pub e : Expr
    pub q : ℕ
    pub first : List Stmt
    pub second : List Stmt
    pub test : Stands code p (expr_code e) q
    pub fronts : Fronts l (Stmt-F.If e first second)
        (λ rest. Left code cs d q (first ++ rest) × Left code cs d (q + n) (second ++ rest))

  pub record AtRepeat (d e p n : ℕ) (l : List Stmt) : Type 0 where
    pub same : d ≡ e
    pub q : ℕ
    pub back : ℕ
    pub inner : List Stmt
    pub body : Stands code p (body_code (suc d) inner) q
    pub again : slice_get code q ≡ Some (i.Again d back)
    pub far : p + back ≡ q
    pub fronts : Fronts l (Stmt-F.Repeat n inner) (λ rest. Left code cs d (q + 1) rest)

  pub record AtAgain (d e back p : ℕ) (l : List Stmt) : Type 0 where
    pub same : d ≡ suc e
    pub start : ℕ
    pub inner : List Stmt
    pub rest : List Stmt
    pub far : start + back ≡ p
    pub body : Stands code start (body_code (suc e) inner) p
    pub later : Left code cs e (p + 1) rest
    pub is : l ≡ repeat_then (slice_index cs e) inner rest

  abbrev pub Front : Instr → ℕ → ℕ → List Stmt → Type 0
  Front (i.Work n) d p l = Fronts l (Stmt-F.Work n) (λ rest. Left code cs d (p + 1) rest)
  Front (i.Take x) d p l = Fronts l (Stmt-F.Take x) (λ rest. Left code cs d (p + 1) rest)
  Front (i.Set x) d p l = AtExpr d (p + 1) l (λ e. Stmt-F.Set x e)
  Front (i.If n) d p l = AtIf d (p + 1) n l
  Front (i.Skip n) d p l = Left code cs d (p + 1 + n) l
  Front (i.Repeat e n) d p l = AtRepeat d e (p + 1) n l
  Front (i.Again e back) d p l = AtAgain d e back p l
  Front i.Out d p l = AtExpr d (p + 1) l (λ e. Stmt-F.Out e)
  Front (i.Service call) d p l = Fronts l (Stmt-F.Service call) (λ rest. Left code cs d (p + 1) rest)
  Front (i.Term t) d p l = ⊥

  -- one instruction is at a place
  seen : (a j : Instr) (d p : ℕ) (l : List Stmt) → slice_get code p ≡ Some a → slice_get code p ≡ Some j
      → Front a d p l → Front j d p l
  seen a j d p l h e f = let same : a ≡ j = cc in subst (λ k. Front k d p l) same f

  moved : (d m n : ℕ) (l : List Stmt) → m ≡ n → Left code cs d n l → Left code cs d m l
  moved d m n l e left = subst (λ k. Left code cs d k l) (sym e) left

  at_if : (d p q : ℕ) (s : Stmt) (e : Expr) (first second rest : List Stmt) → out-Stmt s ≡ Stmt-F.If e first second
      → Stands code p (expr_code e
      ++ (body_code d first ++ i.Skip (length (body_code d second)) ∷ body_code d second)) q → Left code cs d q rest
      → AtIf d p (length (body_code d first) + 1) (s ∷ rest)
  at_if d p q s e first second rest o h left =
      let a = stands_parts code p (expr_code e) _ q h in
      let b = stands_parts code a.middle (body_code d first) _ q a.second in
      let far = stands_length code a.middle (body_code d first) b.middle b.first in
      let skip = At_skip d b.middle q second rest b.second.0 b.second.1 left in
      record {
        e = e;
        q = a.middle;
        first = first;
        second = second;
        test = a.first;
        fronts = record {
          s = s;
          rest = rest;
          is = refl;
          front = o;
          later = (
            body_left d a.middle b.middle first rest b.first skip,
            moved d _ (b.middle + 1) (second ++ rest) (omega (arith, far))
                (body_left d (b.middle + 1) q second rest b.second.1 left),
          );
        };
      }

  at_repeat : (d p q n : ℕ) (s : Stmt) (inner rest : List Stmt) → out-Stmt s ≡ Stmt-F.Repeat n inner
      → Stands code p (body_code (suc d) inner ++ i.Again d (length (body_code (suc d) inner)) ∷ []) q
      → Left code cs d q rest → AtRepeat d d p n (s ∷ rest)
  at_repeat d p q n s inner rest o h left =
      let a = stands_parts code p (body_code (suc d) inner) _ q h in
      record {
        same = refl;
        q = a.middle;
        back = length (body_code (suc d) inner);
        inner = inner;
        body = a.first;
        again = a.second.0;
        far = sym (stands_length code p (body_code (suc d) inner) a.middle a.first);
        fronts = record { s = s; rest = rest; is = refl; front = o; later = moved d _ q rest a.second.1 left };
      }

  pub front_at : (d p : ℕ) (l : List Stmt) → Left code cs d p l → (j : Instr) → slice_get code p ≡ Some j
      → Front j d p l
  front_at _ _ _ (At_end p past) j e = let none : slice_get code p ≡ None = slice_get_past code p past in cc
  front_at _ _ _ (At_stmt d p q s (Stmt-F.Work n) rest o h left) j e =
      seen (i.Work n) j d p (s ∷ rest) h.0 e
      (record { s = s; rest = rest; is = refl; front = o; later = moved d _ q rest h.1 left })
  front_at _ _ _ (At_stmt d p q s (Stmt-F.Take x) rest o h left) j e =
      seen (i.Take x) j d p (s ∷ rest) h.0 e
      (record { s = s; rest = rest; is = refl; front = o; later = moved d _ q rest h.1 left })
  front_at _ _ _ (At_stmt d p q s (Stmt-F.Set x t) rest o h left) j e =
      seen (i.Set x) j d p (s ∷ rest) h.0 e
      (record {
        e = t;
        q = q;
        test = h.1;
        fronts =
            record { s = s; rest = rest; is = refl; front = o; later = left };
      })
  front_at _ _ _ (At_stmt d p q s (Stmt-F.If t first second) rest o h left) j e =
      seen (i.If (length (body_code d first) + 1)) j d p (s ∷ rest) h.0 e
      (at_if d (p + 1) q s t first second rest o h.1 left)
  front_at _ _ _ (At_stmt d p q s (Stmt-F.Repeat n inner) rest o h left) j e =
      seen (i.Repeat d n) j d p (s ∷ rest) h.0 e (at_repeat d (p + 1) q n s inner rest o h.1 left)
  front_at _ _ _ (At_stmt d p q s (Stmt-F.Out t) rest o h left) j e =
      seen i.Out j d p (s ∷ rest) h.0 e
      (record {
        e = t;
        q = q;
        test = h.1;
        fronts =
            record { s = s; rest = rest; is = refl; front = o; later = left };
      })
  front_at _ _ _ (At_stmt d p q s (Stmt-F.Service call) rest o h left) j e =
      seen (i.Service call) j d p (s ∷ rest) h.0 e
      (record { s = s; rest = rest; is = refl; front = o; later = moved d _ q rest h.1 left })
  front_at _ _ _ (At_skip d p q second rest g h left) j e =
      seen (i.Skip (length (body_code d second))) j d p rest g e
      (moved d _ q rest (sym (stands_length code (p + 1) (body_code d second) q h)) left)
  front_at _ _ _ (At_again d p start back inner rest h far body left) j e =
      seen (i.Again d back) j (suc d) p _ h e
      (record {
        same = refl;
        start = start;
        inner = inner;
        rest = rest;
        far = far;
        body = body;
        later = left;
        is =
            refl;
      })

  -- where no instruction is, nothing is left
  pub none_at : (d p : ℕ) (l : List Stmt) → Left code cs d p l → slice_get code p ≡ None → l ≡ []
  none_at _ _ _ (At_end p past) e = refl
  none_at _ _ _ (At_stmt d p q s (Stmt-F.Work n) rest o h left) e = let g = h.0 in cc
  none_at _ _ _ (At_stmt d p q s x rest o h left) e = let g = h.0 in cc
  none_at _ _ _ (At_skip d p q second rest g h left) e = cc
  none_at _ _ _ (At_again d p start back inner rest h far body left) e = cc

-- counters of inner repetitions do not matter
pub above : (code : List Instr) (cs cs' : List ℕ) (d p : ℕ) (l : List Stmt)
    → ((e : ℕ) → e < d → slice_index cs e ≡ slice_index cs' e)
    → Left code cs d p l → Left code cs' d p l
above code cs cs' _ _ _ same (At_end p past) = At_end p past
above code cs cs' _ _ _ same (At_stmt d p q s x rest o h left) =
    At_stmt d p q s x rest o h (above code cs cs' d q rest same left)
above code cs cs' _ _ _ same (At_skip d p q second rest g h left) =
    At_skip d p q second rest g h (above code cs cs' d q rest same left)
above code cs cs' _ _ _ same (At_again d p start back inner rest h far body left) =
    let again = At_again d p start back inner rest h far body
    (above code cs cs' d _ rest (λ e lt. same e (omega arith)) left) in
    subst (λ n. Left code cs' (suc d) p (repeat_then n inner rest)) (sym (same d (omega arith))) again
