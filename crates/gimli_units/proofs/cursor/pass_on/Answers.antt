use Rattle.std.proofs.Common.{◌≡◌, refl, ap, sym, ◌∙◌, arith, true, false, pos, w64, to_z}
use Rattle.std.proofs.Common.{of_z, Err}
use Rattle.gimli_base.specs.Table.{codes_of}
use Rattle.std.specs.Option.{option_map, option_copied}
use Rattle.std.proofs.lemmas.Int.{to_z-of_z}
use Rattle.gimli_units.specs.CursorModel.{CursorView}
use Rattle.gimli_units.specs.SearchSteps.{no_pass, without_entry}
use Rattle.gimli_units.proofs.CursorSteps.{did_refuse}
use Rattle.gimli_units.proofs.HeadReads.{refusal_of_head}
use Rattle.gimli_units.proofs.Memory.{entry_at-never}
use Rattle.gimli_units.proofs.PassedOn.{passed_stays, passed_goes, head_shorter}
use Rattle.gimli_units.proofs.cursor.pass_on.Goals as goal

pub go_to-requires : goal.go_to-requires
go_to-requires g c =
    let n = g.R.Offset.ReaderOffset.number in
    let o = c.in-Ok-default-Some.ensures in
    let deep : to_z w64 (of_z w64 c.next_depth-depth.result) ≡ c.args.raw.now.depth =
    to_z-of_z w64 _ (record { sfits = c.next_depth-depth.type_inv }) ∙ c.next_depth-depth.ensures in
    let shorter = head_shorter g.R.Offset.ReaderOffset.limit c.args.sought
    (without_entry c.args.raw.now 0 (pos 0) c.args.follows 0)
    (option_copied c.in-Ok-default-Some.field-0-0)
    (option_map (λ x. n x.0) c.in-Ok-default-Some.field-0-1) c.read_head_and_sibling.new.self.rest
    c.read_head_and_sibling.new.self.depth o.value o.some o.advances.depth in
    rw deep (omega (arith, shorter, c.requires.shallow))

pub returns-then-is_followed : goal.returns-then-is_followed
returns-then-is_followed g c k =
    let n = g.R.Offset.ReaderOffset.number in
    let s : CursorView = record k { raw = c.args.raw.now; follows = c.args.follows } in
    let o = c.in-Ok-default-Some.ensures in
    let deep : to_z w64 (of_z w64 c.next_depth-depth.result) ≡ c.args.raw.now.depth =
    to_z-of_z w64 _ (record { sfits = c.next_depth-depth.type_inv }) ∙ c.next_depth-depth.ensures in
    let looks = rw (to_z-of_z w64 c.args.sought c.ranges.sought, deep) at c.is_followed.ensures in
    passed_goes g.R.Offset.ReaderOffset.limit c.args.sought s c.go_to.new.self
    c.read_head_and_sibling.new.self (option_copied c.in-Ok-default-Some.field-0-0)
    (option_map (λ x. n x.0) c.in-Ok-default-Some.field-0-1) (n c.in-Ok-default-Some.target.0)
    c.requires.some o.value o.some o.advances.same o.advances.depth (sym looks ∙ c.if-is_followed.true)
    (ap (option_map (λ x. n x.0)) c.in-Ok-default-Some.field-0-1-is) (rw deep at c.go_to.ensures)

pub returns-else-is_followed : goal.returns-else-is_followed
returns-else-is_followed g c k =
    let n = g.R.Offset.ReaderOffset.number in
    let s : CursorView = record k { raw = c.args.raw.now; follows = c.args.follows } in
    let o = c.in-Ok-default-Some.ensures in
    let deep : to_z w64 (of_z w64 c.next_depth-depth.result) ≡ c.args.raw.now.depth =
    to_z-of_z w64 _ (record { sfits = c.next_depth-depth.type_inv }) ∙ c.next_depth-depth.ensures in
    let looks = rw (to_z-of_z w64 c.args.sought c.ranges.sought, deep) at c.is_followed.ensures in
    passed_stays g.R.Offset.ReaderOffset.limit c.args.sought s c.read_head_and_sibling.new.self
    (option_copied c.in-Ok-default-Some.field-0-0)
    (option_map (λ x. n x.0) c.in-Ok-default-Some.field-0-1) c.requires.some o.value o.some o.advances.same
    o.advances.depth
    (λ f. let x : true ≡ false = sym f ∙ sym looks ∙ c.if-is_followed.false in absurd (cc))

pub returns-in-Ok-default-None : goal.returns-in-Ok-default-None
returns-in-Ok-default-None g c k =
    let n = g.R.Offset.ReaderOffset.number in
    let s : CursorView = record k { raw = c.args.raw.now; follows = c.args.follows } in
    let o = c.in-Ok-default-None.ensures in
    passed_stays g.R.Offset.ReaderOffset.limit c.args.sought s c.read_head_and_sibling.new.self
    (option_copied c.in-Ok-default-None.field-0-0)
    (option_map (λ x. n x.0) c.in-Ok-default-None.field-0-1) c.requires.some o.value o.some o.advances.same
    o.advances.depth (λ f. ap (option_map (λ x. n x.0)) c.in-Ok-default-None.field-0-1-is)

pub returns-in-Err : goal.returns-in-Err
returns-in-Err g c k =
    let limit = g.R.Offset.ReaderOffset.limit in
    let s : CursorView = record k { raw = c.args.raw.now; follows = c.args.follows } in
    let o = c.in-Err.ensures in
    no_pass c.in-Err.error
    (did_refuse limit s c.empty.new.self c.read_head_and_sibling.new.self c.in-Err.error _ _ _
    c.requires.some
    (λ _. refusal_of_head limit c.args.raw.now c.in-Err.error o.value)
    (λ _. refusal_of_head limit c.args.raw.now c.in-Err.error o.value)
    c.empty.ensures o.advances.kept refl refl refl) refl
    (λ is. entry_at-never limit c.args.raw.now.encoding (codes_of c.args.raw.now.abbreviations)
    c.args.raw.now.rest
    (sym (refusal_of_head limit c.args.raw.now c.in-Err.error o.value) ∙ ap Err is))
