use Rattle.std.proofs.Common.{◌≡◌, rules, ap, ◌∙◌, sym, Err, refl}
use Rattle.gimli_base.proofs.TableTurns.{table_begin, table_more, table_again, table_refused}
use Rattle.gimli_base.proofs.TableTurns.{table_end}
use Rattle.gimli_base.proofs.AbbreviationReads.{declaration_at-shorter, declaration_at-some}
use Rattle.gimli_base.proofs.AbbreviationReads.{declaration_at-none, declaration_at-no_code}
use Rattle.gimli_base.proofs.AbbreviationReads.{declaration_at-refused, table_takes_memory-code}
use Rattle.gimli_base.specs.Abbreviations.{table_takes_memory}
use Rattle.gimli_base.proofs.abbrev.Abbreviations.parse.Goals as goal

pub loop-table-init : goal.loop-table-init
loop-table-init g c =
    record { so_far = rw c.new-table.ensures (table_begin _); idle = λ _. refl }

pub returns-in_err-code : goal.returns-in_err-code
returns-in_err-code g c =
    let r : c.from_residual.result ≡ Err c.in_err-code.field-0.0 = search rules in
    let same =
    table_refused _ _ _ _ c.loop-table.invariant.so_far
    (declaration_at-no_code _ _ c.in_err-code.ensures.value) in
    record { value = rw r (λ other. same); without_memory = rw r (λ idle. same) }

pub returns-then-code-eq0 : goal.returns-then-code-eq0
returns-then-code-eq0 g c =
    let same =
    table_end _ _ _ _ c.loop-table.invariant.so_far
    (declaration_at-none _ _ _ c.in_ok-code.ensures.value c.if-code-eq0.true) in
    record { value = same; without_memory = λ idle. same }

pub returns-in_err-tag : goal.returns-in_err-tag
returns-in_err-tag g c =
    let r : c.from_residual-in_err-tag.result ≡ Err c.in_err-tag.field-0.0 = search rules in
    let takes =
    table_takes_memory-code _ _ _ c.in_ok-code.ensures.value c.if-code-eq0.false in
    record {
      value = rw r (λ other. table_refused _ _ _ _ c.loop-table.invariant.so_far
          (declaration_at-refused _ _ _ _ c.in_ok-code.ensures.value c.if-code-eq0.false
          (c.in_err-tag.ensures.declared other _)));
      without_memory = rw r (λ idle. table_refused _ _ _ _ c.loop-table.invariant.so_far
          (declaration_at-refused _ _ _ _ c.in_ok-code.ensures.value c.if-code-eq0.false
          (c.in_err-tag.ensures.without_memory
          (sym takes ∙ ap table_takes_memory (c.loop-table.invariant.idle idle) ∙ idle) _)));
    }

pub loop-table-smaller : goal.loop-table-smaller
loop-table-smaller g c = declaration_at-shorter _ _ _
    (declaration_at-some _ _ _ _ _ c.in_ok-code.ensures.value c.if-code-eq0.false
    (c.in_ok-tag.ensures.declared _))

pub loop-table-preserved : goal.loop-table-preserved
loop-table-preserved g c =
    let there = declaration_at-some _ _ _ _ _ c.in_ok-code.ensures.value c.if-code-eq0.false
    (c.in_ok-tag.ensures.declared _) in
    let takes =
    table_takes_memory-code _ _ _ c.in_ok-code.ensures.value c.if-code-eq0.false in
    record {
      so_far = table_more _ _ _ _ _ _ c.loop-table.invariant.so_far there
          (declaration_at-shorter _ _ _ there) c.in_ok-insert.ensures.new
          c.in_ok-insert.ensures.ok;
      idle = λ idle.
          let same = c.loop-table.invariant.idle idle in
          let headed = c.in_ok-tag.ensures.headed in
          absurd (cc);
    }

pub returns-in_err-insert : goal.returns-in_err-insert
returns-in_err-insert g c =
    let r : c.from_residual-in_err-insert.result ≡ Err c.in_err-insert.field-0.0 = search rules in
    let there = declaration_at-some _ _ _ _ _ c.in_ok-code.ensures.value c.if-code-eq0.false
    (c.in_ok-tag.ensures.declared _) in
    let takes =
    table_takes_memory-code _ _ _ c.in_ok-code.ensures.value c.if-code-eq0.false in
    record {
      value = rw r (λ other.
          let refused = c.in_err-insert.ensures.refused other in
          ap Err refused.0 ∙ sym
          (table_again _ _ _ _ _ c.loop-table.invariant.so_far there
          (declaration_at-shorter _ _ _ there) refused.1));
      without_memory = λ idle.
          let same = c.loop-table.invariant.idle idle in
          let headed = c.in_ok-tag.ensures.headed in
          absurd (cc);
    }
