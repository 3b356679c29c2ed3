use Rattle.std.proofs.Common.{◌≡◌, ℕ, refl, ◌≤◌, rules, ap, ◌∙◌, arith, Err, length}
use Rattle.gimli_base.proofs.AbbreviationReads.{declaration_at-none, declaration_at-no_code}
use Rattle.gimli_c.specs.declared.table.GimliDeclaration.{GimliDeclaration}
use Rattle.gimli_c.proofs.TableReads.{flag_number, tag_refused, tag_zero, flag_refused, flag_wrong}
use Rattle.gimli_c.proofs.TableReads.{attributes_refused, all_read, shorter}
use Rattle.gimli_c.proofs.table.read_declaration.Goals as goal

pub returns-in_err-code-clause-refused : goal.returns-in_err-code-clause-refused
returns-in_err-code-clause-refused g c =
    let r : c.from_residual.result ≡ Err c.in_err-code.field-0.0 = search rules in
    rw r (declaration_at-no_code _ _ c.in_err-code.ensures.value)

pub returns-then-code-eq0-clause-read : goal.returns-then-code-eq0-clause-read
returns-then-code-eq0-clause-read g c =
    (declaration_at-none _ _ _ c.in_ok-code.ensures.value c.if-code-eq0.true, refl)

pub returns-in_err-tag-clause-refused : goal.returns-in_err-tag-clause-refused
returns-in_err-tag-clause-refused g c =
    let r : c.from_residual-in_err-tag.result ≡ Err c.in_err-tag.field-0.0 = search rules in
    rw r (tag_refused _ _ _ c.in_ok-code.ensures.value c.if-code-eq0.false _
    c.in_err-tag.ensures.value)

pub returns-then-tag-eq0-clause-refused : goal.returns-then-tag-eq0-clause-refused
returns-then-tag-eq0-clause-refused g c =
    tag_zero _ _ _ c.in_ok-code.ensures.value c.if-code-eq0.false _ _ c.in_ok-tag.ensures.value
    c.if-tag-eq0.true

pub returns-in_err-has_children-clause-refused : goal.returns-in_err-has_children-clause-refused
returns-in_err-has_children-clause-refused g c =
    let r : c.from_residual-in_err-has_children.result
    ≡ Err c.in_err-has_children.field-0.0 = search rules in
    rw r
    (flag_refused _ _ _ c.in_ok-code.ensures.value c.if-code-eq0.false _ _
    c.in_ok-tag.ensures.value c.if-tag-eq0.false _ c.in_err-has_children.ensures.value)

pub returns-then-has_children-gt1-clause-refused :
    goal.returns-then-has_children-gt1-clause-refused
returns-then-has_children-gt1-clause-refused g c =
    flag_wrong _ _ _ c.in_ok-code.ensures.value c.if-code-eq0.false _ _ c.in_ok-tag.ensures.value
    c.if-tag-eq0.false _ _ c.in_ok-has_children.ensures.value
    (omega (arith, c.if-has_children-gt1.true))

pub read_specifications-requires : goal.read_specifications-requires
read_specifications-requires g c =
    let few : c.in_ok-has_children.has_children ≤ 1 = omega (arith, c.if-has_children-gt1.false) in
    let less = shorter _ _ _ c.in_ok-code.ensures.value c.if-code-eq0.false _ _
    c.in_ok-tag.ensures.value c.if-tag-eq0.false _ _ c.in_ok-has_children.ensures.value few in
    omega (arith, c.requires, less)

pub returns-in_err-attributes-clause-refused : goal.returns-in_err-attributes-clause-refused
returns-in_err-attributes-clause-refused g c =
    let r : c.from_residual-in_err-attributes.result
    ≡ Err c.in_err-attributes.field-0.0 = search rules in
    rw r
    (attributes_refused _ _ _ c.in_ok-code.ensures.value c.if-code-eq0.false _ _
    c.in_ok-tag.ensures.value c.if-tag-eq0.false _ _ c.in_ok-has_children.ensures.value
    (omega (arith, c.if-has_children-gt1.false)) _ c.in_err-attributes.ensures.refused)

pub returns-clause-read : goal.returns-clause-read
returns-clause-read g c =
    let few : c.in_ok-has_children.has_children ≤ 1 = omega (arith, c.if-has_children-gt1.false) in
    let r = c.in_ok-attributes.ensures.read in
    let less = shorter _ _ _ c.in_ok-code.ensures.value c.if-code-eq0.false _ _
    c.in_ok-tag.ensures.value c.if-tag-eq0.false _ _ c.in_ok-has_children.ensures.value few in
    let ss = r.specifications in
    let flag = flag_number c.in_ok-has_children.has_children few in
    let outcome : ℕ → ℕ → GimliDeclaration = λ n f. record {
      code = c.in_ok-code.code;
      first = c.args.from;
      attributes = n;
      tag = c.in_ok-tag.tag;
      has_children = f;
    } in
    record {
      declaration = _;
      read = all_read _ _ _ c.in_ok-code.ensures.value c.if-code-eq0.false _ _
          c.in_ok-tag.ensures.value c.if-tag-eq0.false _ _ c.in_ok-has_children.ensures.value
          few _ _ r.read;
      is = ap (λ (n : ℕ). outcome n c.in_ok-has_children.has_children) r.count
          ∙ ap (λ (f : ℕ). outcome (length ss) f) flag;
      takes = omega (arith, r.takes, less);
      after = r.after;
      steps = r.steps;
    }
