use Rattle.std.proofs.Common.{◌≡◌, ◌-◌, ◌∙◌, refl, arith}
use Rattle.gimli_base.specs.Reading.{number}
use Rattle.gimli_base.proofs.PartBytes.{last_bytes, first_bytes, last_length, first_length}
use Rattle.gimli_base.proofs.PartBytes.{number_read}
use Rattle.gimli_base.proofs.reader.Reader.read_uint.Goals as goal
use Rattle.gimli_base.proofs.reader.Reader.read_uint.Goals.{then-big+in_ok-read_slice}
use Rattle.gimli_base.proofs.reader.Reader.read_uint.Goals.{else-big+in_ok-read_slice-2}

pub returns-clause-value : goal.returns-clause-value
returns-clause-value g c = elim c.if-big.branch [
  | then-big+in_ok-read_slice w ↦
      let same : number c.is_big_endian-big.result c.if-big.bytes
      ≡ number c.is_big_endian-big.result w.read_slice.new.into =
      rw (w.if-big.true, w.bytes-is)
      (last_bytes (8 - c.args.n) (8 - (8 - c.args.n)) w.read_slice.new.into (omega arith)
      refl) in
      rw w.self-is
      (number_read c.args.n _ _ _ _ c.if-big.bytes c.is_big_endian-big.result
      c.word_64-value.result
      (last_length (8 - c.args.n) (8 - (8 - c.args.n)) c.args.n c.requires.fits refl refl)
      w.in_ok-read_slice.ensures.value
      c.word_64-value.ensures same (c.is_big_endian-big.ensures ∙ c.endian.ensures))
  | else-big+in_ok-read_slice-2 w ↦
      let same : number c.is_big_endian-big.result c.if-big.bytes
      ≡ number c.is_big_endian-big.result w.read_slice-else-big.new.into =
      rw (w.if-big.false, w.bytes-is) (first_bytes c.args.n w.read_slice-else-big.new.into) in
      rw w.self-is
      (number_read c.args.n _ _ _ _ c.if-big.bytes c.is_big_endian-big.result
      c.word_64-value.result
      (first_length c.args.n c.requires.fits) w.in_ok-read_slice-2.ensures.value
      c.word_64-value.ensures same (c.is_big_endian-big.ensures ∙ c.endian.ensures))
]
