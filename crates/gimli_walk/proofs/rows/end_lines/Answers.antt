use Rattle.std.proofs.Common.{◌≡◌, Err, rules}
use Rattle.gimli_walk.specs.declared.lines.Stop.TheVariants.{Memory}
use Rattle.gimli_walk.proofs.StoppedLines.{front_ends}
use Rattle.gimli_walk.proofs.rows.end_lines.Goals as goal

pub returns-in_ok-write_error-in-Err-Memory-clause-lines : goal.returns-in_ok-write_error-in-Err-Memory-clause-lines
returns-in_ok-write_error-in-Err-Memory-clause-lines g c = λ start text front.
    let stopped : c.args.written ≡ Err Memory = search rules in
    front_ends start _ _ text (rw stopped at front) c.in_ok-write_error-in-Err-Memory.ensures
