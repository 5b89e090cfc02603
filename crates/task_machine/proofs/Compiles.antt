-- A body is compiled to its code.
use Rattle.std.proofs.Common.{◌≡◌, ◌≤◌, ◌<◌, ◌^◌, true, List, length, sym, ap, subst, ◌∙◌}
use Rattle.task_lang.specs.declared.syntax.Stmt.{Stmt}
use Rattle.task_lang.specs.Limits.{nesting_in, each_in, is_number_in_range}
use Rattle.task_machine.specs.Compiled.{IsCompiled}
use Rattle.task_machine.specs.Layout.{body_code, AreInRange}
use Rattle.task_machine.specs.Reading.{body_in}
use Rattle.task_machine.specs.declared.instr.Instr.{Instr}
use Rattle.task_machine.proofs.Ranges.{code_in_range}
use Rattle.task_machine.proofs.ReadBack.{body_in-body_code}

pub is_read : (instrs : List Instr) (body : List Stmt) → instrs ≡ body_code 0 body → body_in instrs ≡ body
is_read instrs body is = ap body_in is ∙ body_in-body_code body

pub is_compiled : (instrs : List Instr) (body : List Stmt) → instrs ≡ body_code 0 body → nesting_in body ≤ 4
    → each_in is_number_in_range body ≡ true → length instrs < 2 ^ 48 → IsCompiled instrs
is_compiled instrs body is deep fits short = record {
  layout = is ∙ ap (body_code 0) (sym (is_read instrs body is));
  range = subst AreInRange (sym is) (code_in_range body deep fits (subst (λ xs. length xs < 2 ^ 48) is short));
}
