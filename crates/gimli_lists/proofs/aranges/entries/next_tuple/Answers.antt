use Rattle.std.proofs.Common.{arith, ◌≤◌, ◌*◌, length}
use Rattle.gimli_lists.proofs.TupleReads.{pair_found, next_tuple_read}
use Rattle.gimli_lists.proofs.aranges.entries.next_tuple.Goals as goal

pub returns-in_err-pair : goal.returns-in_err-pair
returns-in_err-pair g c =
    let within : 2 * c.args.address_size
    ≤ length (g.R.Reader.view c.args.input.now).bytes =
    omega (arith, c.len.ensures, c.into_u64.ensures.value, c.from.ensures) in
    absurd (pair_found _ c.requires _ _ within c.in_err-pair.ensures.value)

pub returns : goal.returns
returns g c =
    let within : 2 * c.args.address_size
    ≤ length (g.R.Reader.view c.args.input.now).bytes =
    omega (arith, c.len.ensures, c.into_u64.ensures.value, c.from.ensures) in
    next_tuple_read _ c.requires _ _ _ _ within c.in_ok-pair.ensures.value
