use Rattle.std.proofs.Common.{◌≡◌, ℕ, false, Option, List, Result, Ok, length, IfSome}
use Rattle.gimli_base.specs.Abbreviations.{map_at}
use Rattle.gimli_base.specs.Table.{codes_of}
use Rattle.gimli_walk.specs.declared.lines.Stop.{Stop}
use Rattle.gimli_walk.specs.Text.{unit_takes_memory}
use Rattle.gimli_headers.specs.Units.{units_of, units_ahead}
use Rattle.gimli_base.specs.declared.common.SectionId.TheVariants.{DebugInfo}
use Rattle.std.specs.List.{All}
use Rattle.gimli_walk.specs.Stops.{WroteUntil}
use Rattle.gimli_walk.proofs.Dumps.{place_dump, after_status}
use Rattle.gimli_walk.proofs.dump.dump_units.Given as goal

-- whatever completes the units that are left completes the whole; where no unit takes memory, none
-- that is left does; and a table that is held is that of its offset
abbrev pub invariant-units : goal.invariant-units
invariant-units g l =
    let limit = g.R.Offset.ReaderOffset.limit in
    let text = place_dump limit (g.R.Reader.view l.debug_abbrev.section) in
    record {
      completes : (final : Option (List ℕ)) (written : Result ℕ Stop)
          → WroteUntil (g.W.Write.contents l.out) final (text l.units) written
          → WroteUntil (g.W.Write.contents l.initial.out) final (text l.initial.units)
          (after_status l.status written);
      idle :
          All (λ u. unit_takes_memory (g.R.Reader.view l.debug_abbrev.section) u ≡ false)
          (units_of limit DebugInfo (g.R.Reader.view l.debug_info.section)).items
          → All (λ u. unit_takes_memory (g.R.Reader.view l.debug_abbrev.section) u ≡ false)
          (units_ahead limit DebugInfo l.units).items;
      held : IfSome l.held
          (λ h. Ok (codes_of h.table) ≡ map_at h.offset (g.R.Reader.view l.debug_abbrev.section));
    }

abbrev pub decreases-units : goal.decreases-units
decreases-units g l = length l.units.rest.bytes
