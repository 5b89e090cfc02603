use Rattle.std.proofs.Common.{◌≡◌, Option, Some, None, ap, refl, sym, ◌∙◌, arith}
use Rattle.tt_base.specs.declared.names.NameKind.TheVariants as Kind
use Rattle.tt_base.specs.Names.{count_of}
use Rattle.tt_parts.specs.Located.{parts}
use Rattle.tt_rules.specs.declared.broken.Broken.{Broken}
use Rattle.tt_rules.specs.Document.{Document, document_of, limit_of, names_of}
use Rattle.tt_rules.specs.Table.{first_broken, declaration_rules, body_rules, table_rules}
use Rattle.tt_config.proofs.Asked.{few_by_kind, kept, later_by, no_line}
use Rattle.tt_config.proofs.SoundBodies.{tellable}
use Rattle.tt_config.proofs.document.later_broken.Goals as goal
use Rattle.tt_config.proofs.document.later_broken.Goals.{In_default, In_ok-broken, In_ok-broken-2}

declarations : (c : In_ok-broken) → c.in_ok-broken.field-0 ≡ first_broken 9 declaration_rules (document_of c.args.rows.now)
declarations c = c.in_ok-broken.ensures (document_of c.args.rows.now) refl
    (sym (c.as_slice-bodies.ensures ∙ (λ i. (c.requires.elaborated i).bodies)))

tables : (c : In_ok-broken-2) → c.in_ok-broken-2.field-0 ≡ first_broken 18 table_rules (document_of c.args.rows.now)
tables c = c.in_ok-broken-2.ensures (document_of c.args.rows.now)
    (sym (c.limit_of-limit.ensures ∙ (λ i. limit_of (c.requires.elaborated i).declared)))
    (sym (c.count_of-modes.ensures ∙ ap (λ ns. count_of Kind.Mode (parts ns)) c.as_slice.ensures
    ∙ (λ i. count_of Kind.Mode (parts (c.requires.elaborated i).declared.names))))
    (sym (c.as_slice-2.ensures ∙ (λ i. (c.requires.elaborated i).said.entries)))

-- what the rules on bodies answer
bodies : (c : In_default) {b : Option Broken} → ((d : Document) → d.rows ≡ c.args.rows.now → names_of d ≡ c.args.document.now.names
    → parts d.said.demands ≡ c.args.document.now.demands → d.bodies ≡ c.as_slice-bodies.result.now
    → b ≡ first_broken 14 body_rules d) → b ≡ first_broken 14 body_rules (document_of c.args.rows.now)
bodies c is = is (document_of c.args.rows.now) refl (λ i. (sym c.requires.elaborated i).names)
    (λ i. (sym c.requires.elaborated i).demands)
    (sym (c.as_slice-bodies.ensures ∙ (λ i. (c.requires.elaborated i).bodies)))

pub bodies_broken-requires : goal.bodies_broken-requires
bodies_broken-requires c =
    let rows = c.args.rows.now in
    let line = no_line rows c.requires.first in
    let here = sym c.in_default.is ∙ declarations (goal.at.bodies_broken-requires c).In_ok-broken in
    rw c.as_slice-bodies.ensures
    (rw c.requires.elaborated
    (tellable rows c.requires.short (line 1) (line 2) (kept (document_of rows) 9 declaration_rules (sym here) 0)))

pub returns-in-Some : goal.returns-in-Some
returns-in-Some c =
    later_by (document_of c.args.rows.now) (Some c.in-Some.broken) _ _ _
    (sym c.in-Some.is ∙ declarations (goal.at.returns-in-Some c).In_ok-broken) refl refl refl

pub returns-in-Some-bodies_broken : goal.returns-in-Some-bodies_broken
returns-in-Some-bodies_broken c =
    later_by (document_of c.args.rows.now) None (Some c.in-Some-bodies_broken.broken) _ _
    (sym c.in_default.is ∙ declarations (goal.at.returns-in-Some-bodies_broken c).In_ok-broken)
    (bodies (goal.at.returns-in-Some-bodies_broken c).In_default c.in-Some-bodies_broken.ensures) refl refl

pub overflow_cast-modes : goal.overflow_cast-modes
overflow_cast-modes c = grind (arith, few_by_kind c.args.rows.now c.requires.first Kind.Mode)

pub returns-in-Some-2 : goal.returns-in-Some-2
returns-in-Some-2 c =
    later_by (document_of c.args.rows.now) None None (Some c.in-Some-2.broken) _
    (sym c.in_default.is ∙ declarations (goal.at.returns-in-Some-2 c).In_ok-broken)
    (bodies (goal.at.returns-in-Some-2 c).In_default c.in_default-bodies_broken.ensures)
    (sym c.in-Some-2.is ∙ tables (goal.at.returns-in-Some-2 c).In_ok-broken-2) refl

pub returns : goal.returns
returns c =
    later_by (document_of c.args.rows.now) None None None _
    (sym c.in_default.is ∙ declarations (goal.at.returns c).In_ok-broken)
    (bodies (goal.at.returns c).In_default c.in_default-bodies_broken.ensures)
    (sym c.in_default-2.is ∙ tables (goal.at.returns c).In_ok-broken-2)
    (c.in_ok-broken-3.ensures (document_of c.args.rows.now) (λ i. (sym c.requires.elaborated i).declared.first)
    (λ i. (sym c.requires.elaborated i).said))
