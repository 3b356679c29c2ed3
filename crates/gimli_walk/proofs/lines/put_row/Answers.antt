use Rattle.std.proofs.Common.{arith, rules}
use Rattle.std.proofs.Math.ListN.{drop_of_length-le}
use Rattle.gimli_walk.proofs.RowText.{row_text}
use Rattle.gimli_walk.proofs.lines.put_row.Goals as goal

pub returns-clause-value : goal.returns-clause-value
returns-clause-value c =
    let a = c.args in
    let none = drop_of_length-le a.line.now {i = 48} (omega (arith, c.told-line)) in
    row_text a.offset a.depth a.tag a.has_children c.from-flag.result _ _ _ _ _ _ _ _ _
    c.from-flag.ensures none
    c.put_byte-end.ensures.value c.put_byte-flag_at.ensures.value c.put_byte-gap.ensures.value
    c.put_short-tag_at.ensures.value c.put_byte-gap-2.ensures.value
    (search (rules, c.put_signed-depth_at.ensures.value)) c.put_byte-gap-3.ensures.value
    c.put_hexadecimal.ensures.value
