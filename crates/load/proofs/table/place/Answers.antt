-- What is decoded and put in order is decoded.
use mathlib.Core.Path.{refl}
use Rattle.load.specs.Laws.Decode.{decoded_packed, decoded_packable}
use Rattle.load.proofs.table.place.Goals as goal

pub arrange-requires : goal.arrange-requires
arrange-requires c = decoded_packable c.requires.1 c.decode-to.ensures

pub returns : goal.returns
returns c = (refl, decoded_packed c.decode-to.ensures c.arrange.ensures)
