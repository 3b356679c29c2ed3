use Rattle.std.proofs.Common.{rules, ◌≡◌, ◌∙◌, sym, ap, Ok, Err, Some, None}
use Rattle.std.specs.Option.{option_transpose}
use Rattle.gimli_lists.specs.Aranges.{converted_arange}
use Rattle.gimli_lists.proofs.ArangeSteps.{NextRaw, range_none, range_refused, range_found}
use Rattle.gimli_lists.proofs.ArangeSteps.{range_dropped}
use Rattle.gimli_lists.proofs.aranges.entries.next_range.Goals as goal

pub returns-in_err-entry-clause-value : goal.returns-in_err-entry-clause-value
returns-in_err-entry-clause-value g c =
    let z = c.args.address_size in
    let v = g.R.Reader.view c.loop-raw_entry.input in
    let w = g.R.Reader.view c.next_entry.new.input in
    let raw : NextRaw z c.requires v (Some c.in-Some.raw_entry) w =
    record { entry = search rules; left = search rules } in
    let refused : Err c.in_err-entry.field-0.0
    ≡ converted_arange z c.in-Some.raw_entry = search rules in
    let is : c.from_residual-in_err-entry.result ≡ Err c.in_err-entry.field-0.0 = search rules in
    is ∙ ap (λ p. option_transpose p.0)
    (sym (c.loop-raw_entry.invariant.same ∙ range_refused z c.requires v _ w _ raw refused))

pub returns-in_err-entry-clause-left : goal.returns-in_err-entry-clause-left
returns-in_err-entry-clause-left g c =
    let z = c.args.address_size in
    let v = g.R.Reader.view c.loop-raw_entry.input in
    let w = g.R.Reader.view c.next_entry.new.input in
    let raw : NextRaw z c.requires v (Some c.in-Some.raw_entry) w =
    record { entry = search rules; left = search rules } in
    let refused : Err c.in_err-entry.field-0.0
    ≡ converted_arange z c.in-Some.raw_entry = search rules in
    ap (λ p. p.1)
    (sym (c.loop-raw_entry.invariant.same ∙ range_refused z c.requires v _ w _ raw refused))

pub returns-in-Some-2-clause-value : goal.returns-in-Some-2-clause-value
returns-in-Some-2-clause-value g c =
    let z = c.args.address_size in
    let v = g.R.Reader.view c.loop-raw_entry.input in
    let w = g.R.Reader.view c.next_entry.new.input in
    let raw : NextRaw z c.requires v (Some c.in-Some.raw_entry) w =
    record { entry = search rules; left = search rules } in
    let found : Ok (Some c.in-Some-2.entry)
    ≡ converted_arange z c.in-Some.raw_entry = search rules in
    ap (λ p. option_transpose p.0)
    (sym (c.loop-raw_entry.invariant.same ∙ range_found z c.requires v _ w _ raw found))

pub returns-in-Some-2-clause-left : goal.returns-in-Some-2-clause-left
returns-in-Some-2-clause-left g c =
    let z = c.args.address_size in
    let v = g.R.Reader.view c.loop-raw_entry.input in
    let w = g.R.Reader.view c.next_entry.new.input in
    let raw : NextRaw z c.requires v (Some c.in-Some.raw_entry) w =
    record { entry = search rules; left = search rules } in
    let found : Ok (Some c.in-Some-2.entry)
    ≡ converted_arange z c.in-Some.raw_entry = search rules in
    ap (λ p. p.1)
    (sym (c.loop-raw_entry.invariant.same ∙ range_found z c.requires v _ w _ raw found))

pub loop-raw_entry-preserved : goal.loop-raw_entry-preserved
loop-raw_entry-preserved g c =
    let z = c.args.address_size in
    let v = g.R.Reader.view c.loop-raw_entry.input in
    let w = g.R.Reader.view c.next_entry.new.input in
    let raw : NextRaw z c.requires v (Some c.in-Some.raw_entry) w =
    record { entry = search rules; left = search rules } in
    let dropped : Ok None ≡ converted_arange z c.in-Some.raw_entry = search rules in
    record {
      same = c.loop-raw_entry.invariant.same ∙ range_dropped z c.requires v _ w raw dropped;
      shorter = search rules;
    }

pub returns-clause-value : goal.returns-clause-value
returns-clause-value g c =
    let z = c.args.address_size in
    let v = g.R.Reader.view c.loop-raw_entry.input in
    let w = g.R.Reader.view c.next_entry.new.input in
    let raw : NextRaw z c.requires v None w =
    record { entry = search rules; left = search rules } in
    ap (λ p. option_transpose p.0)
    (sym (c.loop-raw_entry.invariant.same ∙ range_none z c.requires v w raw))

pub returns-clause-left : goal.returns-clause-left
returns-clause-left g c =
    let z = c.args.address_size in
    let v = g.R.Reader.view c.loop-raw_entry.input in
    let w = g.R.Reader.view c.next_entry.new.input in
    let raw : NextRaw z c.requires v None w =
    record { entry = search rules; left = search rules } in
    ap (λ p. p.1) (sym (c.loop-raw_entry.invariant.same ∙ range_none z c.requires v w raw))
