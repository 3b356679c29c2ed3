use Rattle.gimli_lists.proofs.ArangePadding.{padding-aligns, padding-least}
use Rattle.gimli_lists.proofs.aranges.padding_size.Goals as goal

pub returns-clause-aligns : goal.returns-clause-aligns
returns-clause-aligns c =
    rw (c.initial_length_size.ensures, c.word_size.ensures)
    (padding-aligns c.args.format c.args.address_size c.requires)

pub returns-clause-least : goal.returns-clause-least
returns-clause-least c =
    rw (c.initial_length_size.ensures, c.word_size.ensures)
    (padding-least c.args.format c.args.address_size c.requires)
